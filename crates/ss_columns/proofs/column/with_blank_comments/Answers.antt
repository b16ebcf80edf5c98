use Rattle.std.proofs.Common.{◌∙◌, sym, rules, arith}
use Rattle.std.proofs.lemmas.Grind.{common_steps}
use Rattle.ss_columns.proofs.Comments.{quotes_step, byte_step, no_more}
use Rattle.ss_columns.proofs.column.with_blank_comments.Goals as goal

pub loop-rest-preserved-then-begins_comment : goal.loop-rest-preserved-then-begins_comment
loop-rest-preserved-then-begins_comment c =
    quotes_step _ c.loop-rest.rest.now _ _ _ _ (sym c.begins_comment.ensures.exact ∙ c.if-begins_comment.true)
    c.loop-rest.invariant c.in_ok-extend_from_slice.ensures.items (grind (arith, common_steps))

pub loop-rest-preserved : goal.loop-rest-preserved
loop-rest-preserved c =
    byte_step _ c.loop-rest.rest.now _ _ _ _ _ (sym c.begins_comment.ensures.exact ∙ c.if-begins_comment.false)
    (search rules) c.loop-rest.invariant (search rules) c.in_ok-push.ensures.items (grind (arith, common_steps))

pub returns : goal.returns
returns c = no_more _ c.loop-rest.rest.now _ _ (search rules) c.loop-rest.invariant
