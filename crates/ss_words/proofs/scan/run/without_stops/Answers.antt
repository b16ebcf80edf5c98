use Rattle.std.proofs.Common.{◌≡◌, ◌∙◌, sym, ap, arith, take, ℕ}
use Rattle.ss_words.specs.TextRuns.{without_stops}
use Rattle.ss_words.proofs.TextRunLemmas.{without_stops-none, without_stops-take_stop, without_stops-take_other}
use Rattle.ss_words.proofs.scan.run.without_stops.Goals as goal

pub loop-len-preserved : goal.loop-len-preserved
loop-len-preserved c = (
  omega arith,
  c.loop-len.invariant.1
      ∙ without_stops-take_stop _ _ (omega arith) (omega arith) c.if-run-len-ne-STOP.false,
)

pub returns-then-run-len-ne-STOP-clause-kept : goal.returns-then-run-len-ne-STOP-clause-kept
returns-then-run-len-ne-STOP-clause-kept c =
    sym (c.loop-len.invariant.1 ∙ without_stops-take_other _ _ (omega arith) (omega arith) c.if-run-len-ne-STOP.true)

pub returns-clause-kept : goal.returns-clause-kept
returns-clause-kept c =
    let none : c.loop-len.len ≡ 0 = omega arith in
    sym (c.loop-len.invariant.1 ∙ ap (λ (n : ℕ). without_stops (take n c.args.run.now)) none ∙ without_stops-none)
