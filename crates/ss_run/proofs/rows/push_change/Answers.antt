use Rattle.std.proofs.Common.{◌≡◌, ℕ, ◌+◌, ◌++◌, ◌∙◌, [], true, false, sym, ap, append-nil, rules}
use Rattle.ss_machine.specs.Moment.{position}
use Rattle.ss_run.specs.Kept.{kept_in, kept_value}
use Rattle.ss_run.specs.Watched.{watched_changes, watched_value}
use Rattle.ss_run.specs.WatchedView.{watched_view}
use Rattle.ss_run.specs.Trace.{change_row}
use Rattle.ss_run.specs.Tracing.{row_of}
use Rattle.ss_run.proofs.Keeping.{kept_value_is}
use Rattle.ss_run.proofs.Traces.{row_is, row_of_same, row_of_other}
use Rattle.ss_run.proofs.rows.push_change.Goals as goal

pub returns-then-not-branch-clause-row : goal.returns-then-not-branch-clause-row
returns-then-not-branch-clause-row g c =
    let t = c.args.debugger.now.machine.input in
    let p = c.args.here.position in
    let x = watched_view c.args.watched.now in
    let same : watched_changes t x p ≡ false = sym c.in_ok-follow.ensures.changed ∙ c.if-not-branch.true in
    let none : change_row t p x ≡ [] = row_of_same t p x same in
    rw none (sym (append-nil _))

pub returns-clause-row : goal.returns-clause-row
returns-clause-row g c =
    let t = c.args.debugger.now.machine.input in
    let p = c.args.here.position in
    let x = watched_view c.args.watched.now in
    let f = kept_in c.follow.new.self in
    let other : watched_changes t x p ≡ true = sym c.in_ok-follow.ensures.changed ∙ c.if-not-branch.false in
    let value : c.push_value.new.bytes.items ≡ watched_value t x (p + 1) =
    c.in_ok-push_value.ensures
    ∙ ap (λ text. text ++ kept_value t (position c.args.debugger.now.machine) x f) c.new-value.ensures.items
    ∙ ap (λ (q : ℕ). kept_value t q x f) c.requires.step
    ∙ kept_value_is t x (p + 1) f c.in_ok-follow.ensures.kept in
    let row : c.in_ok-row.row.items ≡ row_of t.program c.args.here x c.deref.result.now =
    rw (c.program.ensures, c.machine.ensures) at c.in_ok-row.ensures in
    let told : c.in_ok-row.row.items ≡ change_row t p x =
    row ∙ row_is t p c.args.here x c.deref.result.now c.requires.here (c.deref.ensures.value ∙ value)
    ∙ sym (row_of_other t p x other) in
    rw (← told) (search rules)
