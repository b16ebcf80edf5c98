use Rattle.std.proofs.Common.{◌≡◌, ◌<◌, [], ◌∙◌, length, refl, sym, rules, Err}
use Rattle.ss_debug.specs.CommandLines.{command_lines}
use Rattle.ss_session.specs.Private.{TurnEnds, TurnsEnd}
use Rattle.ss_session.proofs.FirstLine.{lines_first, lines_none, written_from_length, none_of_length}
use Rattle.ss_session.proofs.LineStates.{written_none, written_one, written_all, turns_cut}
use Rattle.ss_session.proofs.LineStates.{obeyed_on, obeyed_quit}
use Rattle.ss_session.proofs.turns.obey_lines.Goals as goal

pub loop-rest-init : goal.loop-rest-init
loop-rest-init g c = record { so_far = written_none _ _ _ _; input = refl; counted = refl }

pub loop-rest-preserved : goal.loop-rest-preserved
unfolding TurnEnds
loop-rest-preserved g c =
    let some : 0 < length c.loop-rest.rest.now = search rules in
    let first =
    lines_first c.loop-rest.rest.now _ _ (written_from_length _ some) c.split_line.ensures.before
    c.split_line.ensures.after in
    let t = rw c.loop-rest.invariant.input at c.in_ok-turn.ensures in
    let on =
    obeyed_on c.split_line.result.0.now (command_lines c.split_line.result.1.now) (sym c.in-On.is ∙ t.2) in
    let so = rw (first, on) at c.loop-rest.invariant.so_far in
    record {
      so_far = written_one _ _ _ _ _ _ _ _ _ _ so t.0 t.3;
      input = t.1;
      counted = t.4 ∙ c.loop-rest.invariant.counted;
    }

pub returns-in-Quit : goal.returns-in-Quit
unfolding TurnEnds TurnsEnd
returns-in-Quit g c =
    let some : 0 < length c.loop-rest.rest.now = search rules in
    let first =
    lines_first c.loop-rest.rest.now _ _ (written_from_length _ some) c.split_line.ensures.before
    c.split_line.ensures.after in
    let t = rw c.loop-rest.invariant.input at c.in_ok-turn.ensures in
    let last =
    obeyed_quit c.split_line.result.0.now (command_lines c.split_line.result.1.now) (sym c.in-Quit.is ∙ t.2) in
    let so = rw (first, last) at c.loop-rest.invariant.so_far in
    let all = written_all _ _ _ _ _ _ (written_one _ _ _ _ _ _ _ _ _ _ so t.0 t.3) in
    (all.0, t.1, all.1, t.4 ∙ c.loop-rest.invariant.counted)

pub returns-in_err-turn : goal.returns-in_err-turn
returns-in_err-turn g c =
    let some : 0 < length c.loop-rest.rest.now = search rules in
    let first =
    lines_first c.loop-rest.rest.now _ _ (written_from_length _ some) c.split_line.ensures.before
    c.split_line.ensures.after in
    let so = rw first at c.loop-rest.invariant.so_far in
    let t = rw c.loop-rest.invariant.input at c.in_err-turn.ensures in
    let cut : c.from_residual.result ≡ Err c.in_err-turn.field-0.0 = search rules in
    rw cut (turns_cut _ _ _ _ _ _ _ _ _ _ _ _ _ _ so t c.loop-rest.invariant.counted)

pub returns : goal.returns
unfolding TurnsEnd
returns g c =
    let none : command_lines c.loop-rest.rest.now ≡ [] =
    rw (none_of_length c.loop-rest.rest.now (search rules)) lines_none in
    let so = rw none at c.loop-rest.invariant.so_far in
    let all = written_all _ _ _ _ _ _ so in
    (all.0, c.loop-rest.invariant.input, all.1, c.loop-rest.invariant.counted)
