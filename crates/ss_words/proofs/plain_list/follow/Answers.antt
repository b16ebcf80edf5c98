use Rattle.std.proofs.Common.{◌≡◌, ◌∙◌, ap, sym, arith, drop, ◌∷◌, ◌+◌, ◌<◌, map, length}
use Rattle.std.proofs.lemmas.List.{drop_more}
use Rattle.ss_words.specs.declared.plain_word.PlainWord.{PlainWord}
use Rattle.ss_words.specs.Plain.{plain_at}
use Rattle.ss_words.specs.PlainRules.{mark_in}
use Rattle.ss_words.proofs.PlainFollowing.{in_place_begins, in_place_drops, in_place_keeps, in_place_ends}
use Rattle.ss_words.proofs.plain_list.follow.Goals as goal
use Rattle.ss_words.proofs.plain_list.follow.Goals.{in-Some, in_default}

pub loop-index-init : goal.loop-index-init
loop-index-init c = in_place_begins _ _

pub index_mut-requires : goal.index_mut-requires
index_mut-requires c = omega (
  arith,
  c.loop-index.invariant.inside,
  c.loop-index-test.true,
  c.loop-index.invariant.long,
  c.len-index-end.ensures,
)

pub overflow_add-kept : goal.overflow_add-kept
overflow_add-kept c = omega (arith, c.loop-index.invariant.inside, c.loop-index-test.true, c.len-index-end.type_inv)

pub loop-index-preserved : goal.loop-index-preserved
loop-index-preserved c =
    let now = c.loop-index.words.items in
    let within : c.loop-index.index < length now =
    omega (arith, c.loop-index-test.true, c.loop-index.invariant.long, c.len-index-end.ensures) in
    let here : drop c.loop-index.index now ≡ c.index.result.now ∷ drop (c.loop-index.index + 1) now =
    drop_more now c.loop-index.index c.index.result.now within
    ∙ ap (λ (u : PlainWord). u ∷ drop (c.loop-index.index + 1) now) (sym c.index.ensures) in
    let behind = rw c.deref.ensures.value at c.mark_at.ensures in
    elim c.match-ruled.branch [
      | in-Some w ↦ rw (w.words-is, w.kept-is) (in_place_keeps _ _ _ _ _ _ _ c.loop-index.invariant _ here _ _ _
          (c.mark-mark.ensures ∙ ap mark_in c.kind.ensures) c.governed_by-governing.ensures behind _ c.ruled.ensures _
          w.in-Some.is within)
      | in_default w ↦ rw (w.words-is, w.kept-is) (in_place_drops _ _ _ _ _ _ _ c.loop-index.invariant _ here _ _ _
          (c.mark-mark.ensures ∙ ap mark_in c.kind.ensures) c.governed_by-governing.ensures behind _ c.ruled.ensures
          w.in_default.is)
    ]

pub returns : goal.returns
returns c = ap (map plain_at) c.truncate.ensures.items ∙ in_place_ends _ _ _ _ _ _ _ c.loop-index.invariant
    (omega (arith, c.loop-index-test.false, c.len-index-end.ensures))
