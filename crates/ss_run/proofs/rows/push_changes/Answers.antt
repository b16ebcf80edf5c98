use Rattle.std.proofs.Common.{◌+◌, ◌<◌, ◌∙◌, length, sym, ap, arith}
use Rattle.ss_run.specs.Kept.{kept_in, kept_at}
use Rattle.ss_run.specs.Trace.{change_row}
use Rattle.ss_run.specs.WatchedView.{watched_view}
use Rattle.ss_run.proofs.Keeping.{sound_at, all_rows_told}
use Rattle.ss_run.proofs.Turns.{next_there, turned, told_more}
use Rattle.ss_run.proofs.rows.push_changes.Goals as goal

pub push_change-requires-clause-kept : goal.push_change-requires-clause-kept
push_change-requires-clause-kept g c =
    let t = c.args.debugger.now.machine.input in
    let p = c.args.here.position in
    let xs = c.args.watched.now in
    let within : c.loop-k.k < length xs = omega arith in
    ap kept_in (sym c.index-kept-k.is)
    ∙ next_there (λ x. kept_at t (watched_view x) p) (λ x. kept_at t (watched_view x) (p + 1)) kept_in xs c.loop-k.kept c.loop-k.k
    c.index-kept-k.result c.index-watched-k.result within c.index-kept-k.is c.index-watched-k.is
    c.loop-k.invariant.kept

pub push_change-requires-clause-sound : goal.push_change-requires-clause-sound
push_change-requires-clause-sound g c =
    let t = c.args.debugger.now.machine.input in
    let xs = c.args.watched.now in
    let within : c.loop-k.k < length xs = omega arith in
    sound_at t.program xs c.loop-k.k c.index-watched-k.result within c.index-watched-k.is c.requires.kept.sound

pub returns-clause-rows : goal.returns-clause-rows
returns-clause-rows g c =
    let t = c.args.debugger.now.machine.input in
    let p = c.args.here.position in
    let xs = c.args.watched.now in
    all_rows_told (change_row t p) watched_view xs c.loop-k.k c.args.rows.now.items c.loop-k.rows.items (omega arith)
    c.loop-k.invariant.rows

pub loop-k-preserved : goal.loop-k-preserved
loop-k-preserved g c =
    let t = c.args.debugger.now.machine.input in
    let p = c.args.here.position in
    let xs = c.args.watched.now in
    let within : c.loop-k.k < length xs = omega arith in
    record {
      kept = turned (λ x. kept_at t (watched_view x) p) (λ x. kept_at t (watched_view x) (p + 1)) kept_in xs c.loop-k.kept c.loop-k.k
          c.push_change.new.kept c.index-watched-k.result within c.index-watched-k.is
          c.in_ok-push_change.ensures.kept c.loop-k.invariant.kept;
      rows = told_more (λ x. change_row t p (watched_view x)) xs c.loop-k.k c.index-watched-k.result c.args.rows.now.items
          c.loop-k.rows.items c.push_change.new.rows.items within c.index-watched-k.is c.loop-k.invariant.rows
          c.in_ok-push_change.ensures.row;
    }
