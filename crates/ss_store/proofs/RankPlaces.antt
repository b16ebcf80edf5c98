-- A member ranked among seats is ranked among numbers.
use Rattle.std.proofs.lemmas.Bool.Decides.{nat_tests}
use Rattle.std.proofs.Common.{◌⊎◌, inl, inr, ◌≡◌, ℕ, ℤ, zero, suc, ◌+◌, ◌≤◌, ◌==◌, List, [], ◌∷◌, map, refl, ap, sym}
use Rattle.std.proofs.Common.{subst, ◌∙◌, arith, slice_get, Option, Some, None, Bool, true, false, cond}
use Rattle.std.specs.Prelude.{unwrap_or}
use Rattle.std.specs.Option.{option_map, option_or}
use Rattle.std.specs.Ordering.{is_gt}
use Rattle.ss_links.specs.Board.{list_at}
use Rattle.ss_links.specs.Seats.{has, times_in, put_at}
use Rattle.ss_links.proofs.SeatLaws.{times_in-present}
use Rattle.ss_program.specs.declared.keys.Key.{Key}
use Rattle.ss_store.specs.declared.rows.Row.{Row}
use Rattle.ss_store.specs.declared.shape.SetShape.{SetShape}
use Rattle.ss_program.specs.Keys.{by_keys, key_values}
use Rattle.ss_store.specs.Lists.{placed_before}
use Rattle.ss_store.specs.Rows.{RowTable, EntityTable, rows_in, row_if, row_in, row_of, values_if, values_in}
use Rattle.ss_store.specs.Rows.{values_of}
use Rattle.ss_store.specs.Store.{Entity}
use Rattle.ss_store.specs.Filing.{keys_now, ranks_behind}
use Rattle.ss_store.specs.Finding.{keys_in, seat_behind_in, rank_before}
use Rattle.ss_store.specs.Invariant.{IsStore}
use Rattle.ss_store.specs.Parts.{StoreParts, head_at, seat_at, number_at}
use Rattle.ss_store.specs.Tables.{IsSet}
use Rattle.ss_store.specs.Parts.{state_of}
use Rattle.ss_store.proofs.Core.{some_eq, map_some, Found, found, member_of}
use Rattle.ss_store.proofs.Agree.{entity_some}

rank_some : (b : ℕ → Bool) (y : ℕ) (l : List ℕ) → rank_before b (Some y) l ≡ Some (unwrap_or (rank_before b None l) y)
rank_some b y [] = refl
rank_some b y (t ∷ l) = elim (b t) as (λ k. cond k (Some y) (rank_before b (Some t) l)
    ≡ Some (unwrap_or (cond k None (rank_before b (Some t) l)) y)) [
      | true ↦ refl
      | false ↦ rank_some b t l ∙ ap (λ o. Some (unwrap_or o y)) (sym (rank_some b t l))
    ]

pub rank_in : (b : ℕ → Bool) (p : Option ℕ) (l : List ℕ) (z : ℕ) → rank_before b p l ≡ Some z
    → (p ≡ Some z) ⊎ (has l z ≡ true)
rank_in b p [] z e = inl e
rank_in b p (t ∷ l) z e =
    (elim (b t) as (λ k. cond k p (rank_before b (Some t) l) ≡ Some z → (p ≡ Some z) ⊎ (has (t ∷ l) z ≡ true)) [
      | true ↦ λ f. inl f
      | false ↦ λ f. inr (elim (rank_in b (Some t) l z f) [
        | inl g ↦ let is : t ≡ z = some_eq g in grind (arith, nat_tests, is)
        | inr g ↦ let w : has l z ≡ true = g in grind (arith, nat_tests, w)
      ])
    ]) e

-- a seat put after that seat is before the first that passes the test
pub ranked_put : (b : ℕ → Bool) (l : List ℕ) (t : ℕ) → ((y : ℕ) → times_in l y ≤ 1)
    → put_at l (rank_before b None l) t ≡ placed_before b t l
ranked_put b [] t once = refl
ranked_put b (y ∷ l) t once =
    elim (b y) as (λ k. put_at (y ∷ l) (cond k None (rank_before b (Some y) l)) t
    ≡ cond k (t ∷ y ∷ l) (y ∷ placed_before b t l)) [
      | true ↦ refl
      | false ↦
          let tail : (z : ℕ) → times_in l z ≤ 1 = λ z. let w = once z in omega (arith, w) in
          let down = ranked_put b l t tail in
          subst (λ o. put_at (y ∷ l) o t ≡ y ∷ placed_before b t l) (sym (rank_some b y l))
          ((elim (rank_before b None l) as (λ o. rank_before b None l ≡ o → put_at l o t ≡ placed_before b t l
          → put_at (y ∷ l) (Some (unwrap_or o y)) t ≡ y ∷ placed_before b t l) [
            | None ↦ λ e d. (let same : (y == y) ≡ true = grind (arith, nat_tests) in rw same (ap (λ z. y ∷ z) d))
            | Some z ↦ λ e d.
                let there : has l z ≡ true = elim (rank_in b None l z e) [ inl g ↦ cc | inr g ↦ g ] in
                let two = once z in
                let other : (y == z) ≡ false = grind (arith, nat_tests, two, there, times_in-present l z) in
                rw other (ap (λ q. y ∷ q) d)
          ]) refl down)
    ]

pub ranked_numbers : (f : ℕ → ℕ) (b : ℕ → Bool) (l : List ℕ) (t : ℕ)
    → map f (placed_before (λ u. b (f u)) t l) ≡ placed_before b (f t) (map f l)
ranked_numbers f b [] t = refl
ranked_numbers f b (y ∷ l) t = elim (b (f y)) as (λ k. map f (cond k (t ∷ y ∷ l) (y ∷ placed_before (λ u. b (f u)) t l))
    ≡ cond k (f t ∷ f y ∷ map f l) (f y ∷ placed_before b (f t) (map f l))) [
      | true ↦ refl
      | false ↦ ap (λ z. f y ∷ z) (ranked_numbers f b l t)
    ]

-- tests that agree on the list
rank_same : (b d : ℕ → Bool) (p : Option ℕ) (l : List ℕ) → ((u : ℕ) → has l u ≡ true → b u ≡ d u)
    → rank_before b p l ≡ rank_before d p l
rank_same b d p [] s = refl
rank_same b d p (t ∷ l) s =
    rw (s t (grind (arith, nat_tests))) (ap (λ q. cond (d t) p q)
    (rank_same b d (Some t) l (λ u e. s u (let w : has l u ≡ true = e in grind (arith, nat_tests, w)))))

-- ---- values

no_values : (c : ℕ) (a : Option Row) (b : Option (Option (List ℤ))) → row_if c a b ≡ None → values_if c a b ≡ None
no_values c None b e = refl
no_values c (Some r) None e = refl
no_values c (Some r) (Some None) e = refl
no_values c (Some r) (Some (Some v)) e =
    (elim (r.class == c) as (λ k. cond k (Some r) None ≡ None → cond k (Some v) None ≡ None) [
      | true ↦ λ f. cc
      | false ↦ λ f. refl
    ]) e

pub values_there : (t : RowTable) (c i : ℕ) (r : Row) (v : List ℤ) → slice_get t.rows i ≡ Some r
    → slice_get t.values i ≡ Some (Some v) → r.class ≡ c → values_in t c i ≡ Some v
values_there t c i r v er ev ec = rw (er, ev)
    (subst (λ z. cond (r.class == z) (Some v) None ≡ Some v) ec (let same : (r.class == r.class) ≡ true =
    grind (arith, nat_tests) in rw same refl))

-- the values of an entity are those of its row
pub values_some : (es : EntityTable) (c k : ℕ) (r : Row) (l : Found es c k r) → values_of es c k ≡ Some l.value
values_some es c k r l = subst (λ z. values_of es c z ≡ Some l.value) (sym l.number) (elim l.which [
  | inl is ↦ rw (values_there (rows_in es (Some c)) c l.index r l.value
      (ap (λ z. slice_get (rows_in es z).rows l.index) (sym is)
      ∙ l.row) (ap (λ z. slice_get (rows_in es z).values l.index) (sym is) ∙ l.there) l.class) refl
  | inr is ↦ rw (no_values c _ _ (l.later is))
      (values_there es.references c l.index r l.value (ap (λ z. slice_get (rows_in es z).rows l.index) (sym is)
      ∙ l.row) (ap (λ z. slice_get (rows_in es z).values l.index) (sym is) ∙ l.there) l.class)
])

none_of_both : (es : EntityTable) (c i : ℕ) (a b : Option Row) → row_in (rows_in es (Some c)) c i ≡ a
    → row_in es.references c i ≡ b → option_or a b ≡ None → values_of es c (suc i) ≡ None
none_of_both es c i None None ea eb e = rw (no_values c _ _ ea, no_values c _ _ eb) refl
none_of_both es c i None (Some r) ea eb e = cc
none_of_both es c i (Some r) b ea eb e = cc

pub values_none : (es : EntityTable) (c k : ℕ) → row_of es c k ≡ None → values_of es c k ≡ None
values_none es c zero e = refl
values_none es c (suc i) e = none_of_both es c i (row_in (rows_in es (Some c)) c i) (row_in es.references c i)
    refl refl e

-- the keys of a member are those of the entity
keys_are : (g : StoreParts) (keys : List Key) (c k : ℕ) (r : Row) → IsStore g → row_of g.rows c k ≡ Some r
    → keys_in g.rows keys c k ≡ keys_now keys (state_of g) c k
keys_are g keys c k r s e =
    let l = found g.rows c k r e in
    ap (λ o. key_values keys (unwrap_or o [])) (values_some g.rows c k r l)
    ∙ sym (ap (λ o. unwrap_or (option_map (λ (z : Entity). key_values keys z.attributes) o) [])
    (entity_some g c k r s l))

-- the seat before the first that ranks after, by the attributes as they are now
pub ranked_is : (g : StoreParts) (rule : SetShape) (o x h t : ℕ) (keys : List Key) → IsStore g
    → IsSet g.tables.sets rule
    → head_at g.rows rule o ≡ Some h → seat_at g.rows rule x ≡ Some t
    → rank_before (seat_behind_in g.rows g.numbers keys rule.member x) None (list_at g.board.lists h)
    ≡ rank_before (λ u. ranks_behind keys (state_of g) rule.member x (number_at g.numbers u)) None
    (list_at g.board.lists h)
ranked_is g rule o x h t keys s is eh et =
    rank_same _ _ None (list_at g.board.lists h) (λ u e.
    let m = member_of g rule o h u s is eh e in
    let p = map_some (row_of g.rows rule.member m.number) (λ (r : Row). r.seat + rule.slot) u m.seat in
    let q = map_some (row_of g.rows rule.member x) (λ (r : Row). r.seat + rule.slot) t et in
    let there : row_of g.rows rule.member (number_at g.numbers u) ≡ Some p.0 = ap (row_of g.rows rule.member) m.is
    ∙ p.1 in
    λ i. is_gt (by_keys keys (keys_are g keys rule.member (number_at g.numbers u) p.0 s there i)
    (keys_are g keys rule.member x q.0 s q.1 i)))
