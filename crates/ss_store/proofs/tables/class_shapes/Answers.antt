use Rattle.std.proofs.Common.{sym, ◌∙◌, ◌+◌, ◌++◌, [], ◌∷◌, ◌≡◌, arith}
use Rattle.std.proofs.lemmas.List.FromFn.{map-range_with_len_more}
use Rattle.ss_store.specs.Tables.{class_shape}
use Rattle.ss_store.proofs.tables.class_shapes.Goals as goal

pub loop-class-preserved : goal.loop-class-preserved
loop-class-preserved c =
    let n : 0 + c.loop-class.class ≡ c.loop-class.class = omega arith in
    c.in_ok-push.ensures.items ∙ (λ i. c.loop-class.invariant i ++ c.class_shape.ensures i ∷ [])
    ∙ sym (map-range_with_len_more (class_shape c.args.program.now) 0 c.loop-class.class c.loop-class.class n)
