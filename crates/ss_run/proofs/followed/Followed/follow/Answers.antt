use Rattle.std.proofs.Common.{◌≡◌, ◌+◌, ◌∙◌, Some, sym, not, bytes_eq, rules}
use Rattle.std.specs.Prelude.{◌&&◌, ◌||◌, true, false}
use Rattle.ss_program.specs.Program.{spot_at}
use Rattle.ss_run.specs.Followed.{is_report, answer_kept}
use Rattle.ss_run.specs.Glance.{glance_at, is_same, is_quiet}
use Rattle.ss_run.proofs.Following.{quiet_kept, quiet_unchanged, changed_is}
use Rattle.ss_run.proofs.followed.Followed.follow.Goals as goal

pub returns-then-is_left-clause-kept : goal.returns-then-is_left-clause-kept
returns-then-is_left-clause-kept g c =
    let t = c.args.debugger.now.machine.input in
    let x = c.args.question.now in
    let p = c.args.here.position in
    let f = c.args.self.now in
    let spot : spot_at t.program c.args.here.section c.args.here.place ≡ Some c.spot.result.now =
    rw (c.program.ensures, c.machine.ensures) at c.spot.ensures in
    let seen : c.glance_of-seen.result ≡ glance_at t x (p + 1) = rw c.requires.step at c.glance_of-seen.ensures in
    let left : (is_same f.glance c.glance_of-seen.result && is_quiet x c.spot.result.now.place) ≡ true =
    rw c.replace-before.ensures.value at (sym c.is_left.ensures ∙ c.if-is_left.true) in
    rw c.replace-before.ensures.after
    (quiet_kept t x p c.args.here c.spot.result.now f c.glance_of-seen.result c.requires.here spot c.requires.kept seen
    left)

pub returns-then-is_left-clause-changed : goal.returns-then-is_left-clause-changed
returns-then-is_left-clause-changed g c =
    let t = c.args.debugger.now.machine.input in
    let x = c.args.question.now in
    let p = c.args.here.position in
    let f = c.args.self.now in
    let spot : spot_at t.program c.args.here.section c.args.here.place ≡ Some c.spot.result.now =
    rw (c.program.ensures, c.machine.ensures) at c.spot.ensures in
    let seen : c.glance_of-seen.result ≡ glance_at t x (p + 1) = rw c.requires.step at c.glance_of-seen.ensures in
    let left : (is_same f.glance c.glance_of-seen.result && is_quiet x c.spot.result.now.place) ≡ true =
    rw c.replace-before.ensures.value at (sym c.is_left.ensures ∙ c.if-is_left.true) in
    sym
    (quiet_unchanged t x p c.args.here c.spot.result.now f c.glance_of-seen.result c.requires.here spot c.requires.kept
    seen left)

pub returns-clause-changed : goal.returns-clause-changed
returns-clause-changed g c =
    let t = c.args.debugger.now.machine.input in
    let x = c.args.question.now in
    let p = c.args.here.position in
    let f = c.args.self.now in
    let seen : c.glance_of-seen.result ≡ glance_at t x (p + 1) = rw c.requires.step at c.glance_of-seen.ensures in
    let now : c.in_ok-now.now.items ≡ answer_kept t x (p + 1) = rw c.requires.step at c.in_ok-now.ensures in
    let left : (is_same f.glance c.glance_of-seen.result && is_quiet x c.spot.result.now.place) ≡ false =
    rw c.replace-before.ensures.value at (sym c.is_left.ensures ∙ c.if-is_left.false) in
    let said : c.has_changed.result ≡ (is_report x || not (bytes_eq f.answer.items c.in_ok-now.now.items)) =
    search rules in
    said
    ∙ changed_is t x p c.spot.result.now.place f c.glance_of-seen.result c.in_ok-now.now.items c.requires.kept seen now
    left
