use Rattle.std.proofs.Common.{sym, ◌∙◌, ◌+◌, ◌++◌, [], ◌∷◌, ◌≡◌, arith}
use Rattle.std.proofs.lemmas.List.FromFn.{map-range_with_len_more}
use Rattle.ss_store.specs.Tables.{set_shape}
use Rattle.ss_store.proofs.tables.set_shapes.Goals as goal

pub loop-set-preserved : goal.loop-set-preserved
loop-set-preserved c =
    let n : 0 + c.loop-set.set ≡ c.loop-set.set = omega arith in
    c.in_ok-push.ensures.items ∙ (λ i. c.loop-set.invariant i ++ c.in_ok-shape.ensures i ∷ [])
    ∙ sym (map-range_with_len_more (set_shape c.args.program.now) 0 c.loop-set.set c.loop-set.set n)
