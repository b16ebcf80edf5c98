use Rattle.std.proofs.Common.{◌≡◌, refl, rules, Ok, Err}
use Rattle.ss_console.specs.declared.answerer.Go.TheVariants.{On, Quit}
use Rattle.ss_serve.proofs.Turns.{done_none, done_more, has_ended, ends_by_count, none_left}
use Rattle.ss_serve.proofs.session.answer_all.Goals as goal

pub loop-init : goal.loop-init
loop-init g c = record { done = done_none _ _ _ _ _ c.requires.none; none = c.requires.none; broken = refl }

pub returns-in_err-answer_next-clause-ended : goal.returns-in_err-answer_next-clause-ended
returns-in_err-answer_next-clause-ended g c =
    let r : c.from_residual.result ≡ Err c.in_err-answer_next.field-0.0 = search rules in
    rw r (has_ended _ _ _ _ _ _ _ _ _ _ _ _ _ _ c.loop.invariant.done c.in_err-answer_next.ensures.step)

pub loop-preserved : goal.loop-preserved
loop-preserved g c =
    let on : c.in_ok-answer_next.field-0 ≡ On = search rules in
    let more = rw on at c.in_ok-answer_next.ensures.step in
    record {
      done = done_more _ _ _ _ _ _ _ _ _ _ _ _ _ _ c.loop.invariant.done more;
      none = none_left _ _ _ _ _ _ more;
      broken = search rules;
    }

pub returns-clause-ended : goal.returns-clause-ended
returns-clause-ended g c = ends_by_count _ _ _ _ _ _ _ _ _ _ _ c.loop.invariant.done (search rules)
