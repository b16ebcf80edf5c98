use Rattle.std.proofs.Common.{◌≡◌, ◌∷◌, [], ◌++◌, List, length, map, refl, sym, ap, ◌∙◌, append_assoc, append-nil, arith}
use Rattle.std.specs.Vec.Iter.{into_iter_items}
use Rattle.ss_changes.specs.declared.change.Change.{Change}
use Rattle.ss_changes.specs.Changes.{turned}
use Rattle.ss_changes.proofs.since.turned.Goals as goal

nothing_left : (l : List Change) → length l ≡ 0 → l ≡ []
nothing_left [] h = refl
nothing_left (x ∷ xs) h = absurd (omega arith)

pub loop-change-preserved : goal.loop-change-preserved
loop-change-preserved c =
    let at = c.loop-change in
    let x = c.in-Some.change in
    let steps : into_iter_items at.change-iterator ≡ x ∷ into_iter_items c.next.new.self = c.in-Some.ensures.steps.0 in (
      ap (λ (l : List Change). l ++ map turned (into_iter_items c.next.new.self)) c.in_ok-push.ensures.items
          ∙ append_assoc at.exchanged.items (turned x ∷ []) (map turned (into_iter_items c.next.new.self))
          ∙ ap (λ (l : List Change). at.exchanged.items ++ map turned l) (sym steps) ∙ at.invariant.0,
      let was = at.invariant.1 in
          let gone = c.in-Some.ensures.steps.1 in
          let short = ap length steps in
          omega arith,
    )

pub returns : goal.returns
returns c =
    let at = c.loop-change in
    let none = c.in-None.ensures.steps in
    let empty : into_iter_items at.change-iterator ≡ [] = nothing_left _ (sym at.invariant.1 ∙ none.0) in
    sym (append-nil at.exchanged.items) ∙ rw empty at at.invariant.0
    ∙ ap (map turned) c.into_iter-change-iterator.ensures.into_iter_gives.0
