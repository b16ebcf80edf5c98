use Rattle.std.proofs.Common.{◌∙◌, sym, rules, arith}
use Rattle.std.proofs.lemmas.Grind.{common_steps}
use Rattle.ss_sentences.proofs.Gaps.{gap_step, letter_step, no_more}
use Rattle.ss_sentences.proofs.pieces.push_filled.Goals as goal

pub loop-word-preserved-then-begins_gap : goal.loop-word-preserved-then-begins_gap
loop-word-preserved-then-begins_gap c =
    gap_step c.loop-word.rest.now _ _ _ _ _ _ (sym c.begins_gap.ensures.exact ∙ c.if-begins_gap.true)
    c.loop-word.invariant c.in_ok-extend_from_slice.ensures.items (grind (arith, common_steps))

pub loop-word-preserved : goal.loop-word-preserved
loop-word-preserved c =
    letter_step c.loop-word.rest.now _ _ _ _ _ _ _ (sym c.begins_gap.ensures.exact ∙ c.if-begins_gap.false)
    (search rules) c.loop-word.invariant (search rules) c.in_ok-push.ensures.items (grind (arith, common_steps))

pub returns : goal.returns
returns c = no_more c.loop-word.rest.now _ _ _ _ (search rules) c.loop-word.invariant
