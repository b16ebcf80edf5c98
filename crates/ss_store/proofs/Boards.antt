-- The effect of each call of a board on one list, in seats and in numbers.
use Rattle.std.proofs.lemmas.Bool.Decides.{nat_tests}
use Rattle.std.proofs.Common.{◌≡◌, ◌≢◌, ℕ, zero, suc, ◌<◌, ◌==◌, ◌||◌, List, [], ◌∷◌, ◌++◌, length, map, refl, ap, sym}
use Rattle.std.proofs.Common.{subst, ◌∙◌, arith, Some, true, false, cond, set, length-set, inl, inr}
use Rattle.std.proofs.lemmas.List.{length-map}
use Rattle.ss_links.specs.Board.{Board, IsSound, list_at, head_of, with_list}
use Rattle.ss_links.specs.Seats.{has, put_behind, put_before, list_without}
use Rattle.ss_links.proofs.BoardLaws.{head_of-list_at, list_at-map}
use Rattle.ss_store.proofs.Core.{some_eq}
use Rattle.ss_store.proofs.OneListChanges.{Relisted, is_or_not}

-- a list set at a head
list_set : (ls : List (List ℕ)) (h : ℕ) (m : List ℕ) → h < length ls → list_at (set ls h m) h ≡ m
list_set [] h m lt = absurd (omega (arith, lt))
list_set (l ∷ ls) zero m lt = refl
list_set (l ∷ ls) (suc h) m lt = list_set ls h m (omega (arith, lt))

list_set_other : (ls : List (List ℕ)) (h j : ℕ) (m : List ℕ) → j ≢ h → list_at (set ls h m) j ≡ list_at ls j
list_set_other [] h j m far = refl
list_set_other (l ∷ ls) zero zero m far = absurd (far refl)
list_set_other (l ∷ ls) zero (suc j) m far = refl
list_set_other (l ∷ ls) (suc h) zero m far = refl
list_set_other (l ∷ ls) (suc h) (suc j) m far = list_set_other ls h j m (λ e. far (ap suc e))

pub relisted_set : (b new : Board) (h : ℕ) (m : List ℕ) → h < length b.lists → new ≡ with_list b h m → IsSound new
    → Relisted b new h m
relisted_set b new h m lt e s = record {
  here = ap (λ (z : Board). list_at z.lists h) e ∙ list_set b.lists h m lt;
  others = λ j far. ap (λ (z : Board). list_at z.lists j) e ∙ list_set_other b.lists h j m far;
  heads = ap (λ (z : Board). length z.lists) e ∙ length-set b.lists h m;
  seats = ap (λ (z : Board). z.seats) e;
  sound = s;
}

absent : (b : Board) (h j at : ℕ) → IsSound b → head_of b.lists at ≡ Some h → j ≢ h → has (list_at b.lists j) at ≡ false
absent b h j at s e far =
    (elim (has (list_at b.lists j) at) as (λ k. has (list_at b.lists j) at ≡ k → k ≡ false) [
      | true ↦ λ w. absurd (far (some_eq (sym (head_of-list_at b.lists j at w (s.once at)) ∙ e)))
      | false ↦ λ w. refl
    ]) refl

-- a change of the one list that holds a seat
pub relisted_map : (b new : Board) (f : List ℕ → List ℕ) (h at : ℕ) → f [] ≡ []
    → ((l : List ℕ) → has l at ≡ false → f l ≡ l) → IsSound b → head_of b.lists at ≡ Some h
    → new ≡ record b { lists = map f b.lists } → IsSound new → Relisted b new h (f (list_at b.lists h))
relisted_map b new f h at z same s e is w = record {
  here = ap (λ (z : Board). list_at z.lists h) is ∙ list_at-map f z b.lists h;
  others = λ j far. ap (λ (z : Board). list_at z.lists j) is ∙ list_at-map f z b.lists j
      ∙ same (list_at b.lists j) (absent b h j at s e far);
  heads = ap (λ (z : Board). length z.lists) is ∙ length-map b.lists f;
  seats = ap (λ (z : Board). z.seats) is;
  sound = w;
}

-- numbers of seats, if each seat of a list has its own number
abbrev pub Apart : (ℕ → ℕ) → List ℕ → ℕ → Type 0
Apart f l at = (u : ℕ) → has l u ≡ true → f u ≡ f at → u ≡ at

pub has_head : (y : ℕ) (ys : List ℕ) → has (y ∷ ys) y ≡ true
has_head y ys = grind (arith, nat_tests)

pub has_tail : (y u : ℕ) (ys : List ℕ) → has ys u ≡ true → has (y ∷ ys) u ≡ true
has_tail y u ys e = grind (arith, nat_tests)

pub tests_same : (f : ℕ → ℕ) (y at : ℕ) → (f y ≡ f at → y ≡ at) → (f y == f at) ≡ (y == at)
tests_same f y at a =
    elim (is_or_not y at) [
      | inl e ↦ subst (λ z. (f z == f at) ≡ (z == at)) (sym e) (grind (arith, nat_tests))
      | inr e ↦ let far : f y ≢ f at = λ w. e (a w) in grind (arith, nat_tests)
    ]

pub apart_tail : (f : ℕ → ℕ) (y : ℕ) (l : List ℕ) (at : ℕ) → Apart f (y ∷ l) at → Apart f l at
apart_tail f y l at a u e = a u (has_tail y u l e)

pub map-put_behind : (f : ℕ → ℕ) (l : List ℕ) (at t : ℕ) → Apart f l at
    → map f (put_behind l at t) ≡ put_behind (map f l) (f at) (f t)
map-put_behind f [] at t a = refl
map-put_behind f (y ∷ l) at t a =
    rw (tests_same f y at (a y (has_head y l)))
    (elim (y == at) as (λ k. map f (cond k (y ∷ t ∷ l) (y ∷ put_behind l at t))
    ≡ cond k (f y ∷ f t ∷ map f l) (f y ∷ put_behind (map f l) (f at) (f t))) [
      | true ↦ refl
      | false ↦ ap (λ z. f y ∷ z) (map-put_behind f l at t (apart_tail f y l at a))
    ])

pub map-put_before : (f : ℕ → ℕ) (l : List ℕ) (at t : ℕ) → Apart f l at
    → map f (put_before l at t) ≡ put_before (map f l) (f at) (f t)
map-put_before f [] at t a = refl
map-put_before f (y ∷ l) at t a =
    rw (tests_same f y at (a y (has_head y l)))
    (elim (y == at) as (λ k. map f (cond k (t ∷ y ∷ l) (y ∷ put_before l at t))
    ≡ cond k (f t ∷ f y ∷ map f l) (f y ∷ put_before (map f l) (f at) (f t))) [
      | true ↦ refl
      | false ↦ ap (λ z. f y ∷ z) (map-put_before f l at t (apart_tail f y l at a))
    ])

pub map-without : (f : ℕ → ℕ) (l : List ℕ) (t : ℕ) → Apart f l t → map f (list_without l t)
    ≡ list_without (map f l) (f t)
map-without f [] t a = refl
map-without f (y ∷ l) t a =
    rw (tests_same f y t (a y (has_head y l)))
    (elim (y == t) as (λ k. map f (cond k (list_without l t) (y ∷ list_without l t))
    ≡ cond k (list_without (map f l) (f t)) (f y ∷ list_without (map f l) (f t))) [
      | true ↦ map-without f l t (apart_tail f y l t a)
      | false ↦ ap (λ z. f y ∷ z) (map-without f l t (apart_tail f y l t a))
    ])

pub map-append : (f : ℕ → ℕ) (l m : List ℕ) → map f (l ++ m) ≡ map f l ++ map f m
map-append f [] m = refl
map-append f (y ∷ l) m = ap (λ z. f y ∷ z) (map-append f l m)

pub has-map : (f : ℕ → ℕ) (l : List ℕ) (at : ℕ) → Apart f l at → has (map f l) (f at) ≡ has l at
has-map f [] at a = refl
has-map f (y ∷ l) at a = rw (tests_same f y at (a y (has_head y l)))
    (ap (λ z. (y == at) || z) (has-map f l at (apart_tail f y l at a)))

-- the same list changed, seen from after
pub relisted_back : (b new : Board) (h : ℕ) (m : List ℕ) → IsSound b → Relisted b new h m
    → Relisted new b h (list_at b.lists h)
relisted_back b new h m s r = record {
  here = refl;
  others = λ j far. sym (r.others j far);
  heads = sym r.heads;
  seats = sym r.seats;
  sound = s;
}
