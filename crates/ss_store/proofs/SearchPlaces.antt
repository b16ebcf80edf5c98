-- The state of the search for a place among the members of a list.
use Rattle.std.proofs.lemmas.Bool.Decides.{nat_tests}
use Rattle.std.proofs.Common.{◌≡◌, ℕ, ◌<◌, ◌≤◌, ◌==◌, ◌||◌, List, [], ◌∷◌, ◌++◌, length, refl, ap, sym, subst, ◌∙◌}
use Rattle.std.proofs.Common.{arith, Option, Some, None, Bool, true, false, cond, nat_lt}
use Rattle.ss_links.specs.Seats.{has, times_in, first_of, next_in}
use Rattle.ss_links.specs.Board.{Board, IsSound, list_at, list_of}
use Rattle.ss_links.proofs.BoardLaws.{times-list_at, head_of-found, head_of-list_at}
use Rattle.ss_links.proofs.SeatLaws.{times_in-append, times_in-present, seat_behind-between}
use Rattle.ss_store.specs.Finding.{rank_before, Among}
use Rattle.ss_store.proofs.Core.{some_eq}

-- the list from a seat on
abbrev pub rest_from : List ℕ → Option ℕ → List ℕ
rest_from l None = []
rest_from [] (Some t) = []
rest_from (y ∷ l) (Some t) = cond (y == t) (y ∷ l) (rest_from l (Some t))

unfoldable pub among_begins : (l : List ℕ) (test : ℕ → Bool) (at : Option ℕ) → at ≡ first_of l → Among l test None at
among_begins l test at e = record { passed = []; left = l; all = refl; begins = sym e; result = refl }

-- no seat is left
pub left_none : (l : List ℕ) → first_of l ≡ None → l ≡ []
left_none [] e = refl
left_none (y ∷ l) e = cc

-- the seat at which the search is
left_some : (l : List ℕ) (t : ℕ) → first_of l ≡ Some t → (m : List ℕ) × (l ≡ t ∷ m)
left_some [] t e = cc
left_some (y ∷ m) t e = (m, ap (λ z. z ∷ m) (some_eq e))

append_one : (a : List ℕ) (t : ℕ) (m : List ℕ) → (a ++ t ∷ []) ++ m ≡ a ++ t ∷ m
append_one [] t m = refl
append_one (y ∷ a) t m = ap (λ z. y ∷ z) (append_one a t m)

has_between : (a m : List ℕ) (t : ℕ) → has (a ++ t ∷ m) t ≡ true
has_between [] m t = grind (arith, nat_tests)
has_between (y ∷ a) m t = let w = has_between a m t in
    rw w (elim (y == t) as (λ k. (k || true) ≡ true) [ true ↦ refl | false ↦ refl ])

-- the list from a seat on, if the seat is in it once
rest_between : (a m : List ℕ) (t : ℕ) → ((y : ℕ) → times_in (a ++ t ∷ m) y ≤ 1)
    → rest_from (a ++ t ∷ m) (Some t) ≡ t ∷ m
rest_between [] m t once = let same : (t == t) ≡ true = grind (arith, nat_tests) in rw same refl
rest_between (y ∷ a) m t once =
    let one = times_in-present (a ++ t ∷ m) t (has_between a m t) in
    let most = once t in
    let far : (y == t) ≡ false = grind (arith, nat_tests, one, most) in
    rw far (rest_between a m t (λ z. let w = once z in omega (arith, w)))

rest_behind : (a m : List ℕ) (t : ℕ) → ((y : ℕ) → times_in (a ++ t ∷ m) y ≤ 1) → rest_from (a ++ t ∷ m) (first_of m) ≡ m
rest_behind a [] t once = refl
rest_behind a (u ∷ m) t once = ap (λ z. rest_from z (Some u)) (sym (append_one a t (u ∷ m)))
    ∙ rest_between (a ++ t ∷ []) m u (λ y. subst (λ z. times_in z y ≤ 1) (sym (append_one a t (u ∷ m))) (once y))

-- no seat is in a list twice
apart_left : (a m : List ℕ) (t : ℕ) → ((y : ℕ) → times_in (a ++ t ∷ m) y ≤ 1) → has a t ≡ false
apart_left a m t once =
    (elim (has a t) as (λ k. has a t ≡ k → k ≡ false) [
      | true ↦ λ w. absurd (
          let one = times_in-present a t w in
          let both = times_in-append a (t ∷ m) t in
          let two = times_in-present (t ∷ m) t (grind (arith, nat_tests)) in
          let most = once t in
          omega (arith, one, both, two, most))
      | false ↦ λ w. refl
    ]) refl

pub among_goes_on : (l : List ℕ) (test : ℕ → Bool) (before : Option ℕ) (t : ℕ) (next : Option ℕ)
    → ((y : ℕ) → times_in l y ≤ 1) → Among l test before (Some t) → test t ≡ false → next ≡ next_in l t
    → Among l test (Some t) next
among_goes_on l test before t next once a e n =
    let m = left_some a.left t a.begins in
    let all : l ≡ a.passed ++ t ∷ m.0 = a.all ∙ ap (λ z. a.passed ++ z) m.1 in
    record {
      passed = a.passed ++ t ∷ [];
      left = m.0;
      all = all ∙ sym (append_one a.passed t m.0);
      begins = sym (n ∙ ap (λ z. next_in z t) all
          ∙ seat_behind-between a.passed m.0 t (apart_left a.passed m.0 t
          (λ y. subst (λ z. times_in z y ≤ 1) all (once y))));
      result = (let w : rank_before test before (t ∷ m.0) ≡ rank_before test (Some t) m.0 = rw e refl in sym w)
          ∙ ap (rank_before test before) (sym m.1) ∙ a.result;
    }

pub among_passed : (l : List ℕ) (test : ℕ → Bool) (before : Option ℕ) (t : ℕ) (next : Option ℕ)
    → (once : (y : ℕ) → times_in l y ≤ 1) (a : Among l test before (Some t)) (e : test t ≡ false)
    → (n : next ≡ next_in l t) → (among_goes_on l test before t next once a e n).passed ≡ a.passed ++ t ∷ []
unfolding among_goes_on
among_passed l test before t next once a e n = refl

-- the seat at which the search is, is in the list
pub among_has : (l : List ℕ) (test : ℕ → Bool) (before : Option ℕ) (t : ℕ) → Among l test before (Some t)
    → has l t ≡ true
among_has l test before t a =
    let m = left_some a.left t a.begins in
    ap (λ z. has z t) (a.all ∙ ap (λ z. a.passed ++ z) m.1) ∙ has_between a.passed m.0 t

-- fewer are left
pub fewer_left : (l : List ℕ) (test : ℕ → Bool) (before : Option ℕ) (t : ℕ) (next : Option ℕ)
    → ((y : ℕ) → times_in l y ≤ 1) → Among l test before (Some t) → next ≡ next_in l t
    → length (rest_from l next) < length (rest_from l (Some t))
fewer_left l test before t next once a n =
    let m = left_some a.left t a.begins in
    let all : l ≡ a.passed ++ t ∷ m.0 = a.all ∙ ap (λ z. a.passed ++ z) m.1 in
    let once' : (y : ℕ) → times_in (a.passed ++ t ∷ m.0) y ≤ 1 = λ y. subst (λ z. times_in z y ≤ 1) all (once y) in
    let is : next ≡ first_of m.0 = n ∙ ap (λ z. next_in z t) all
    ∙ seat_behind-between a.passed m.0 t (apart_left a.passed m.0 t once') in
    let here : rest_from l (Some t) ≡ t ∷ m.0 = ap (λ z. rest_from z (Some t)) all
    ∙ rest_between a.passed m.0 t once' in
    let there : rest_from l next ≡ m.0 = (λ i. rest_from (all i) (is i)) ∙ rest_behind a.passed m.0 t once' in
    let b = ap (length {A = ℕ}) here in
    let c = ap (length {A = ℕ}) there in
    omega (arith, b, c)

-- ---- over a board

pub once_in : (b : Board) (h : ℕ) → IsSound b → (y : ℕ) → times_in (list_at b.lists h) y ≤ 1
once_in b h s y = let a = s.once y in let d = times-list_at b.lists h y in omega (arith, a, d)

-- a seat of a list is one of the board
pub seat_in : (b : Board) (h t : ℕ) → IsSound b → has (list_at b.lists h) t ≡ true → t < b.seats
seat_in b h t s e =
    (elim (nat_lt t b.seats) as (λ k. nat_lt t b.seats ≡ k → t < b.seats) [
      | true ↦ λ w. grind (arith, nat_tests)
      | false ↦ λ w.
          let le : b.seats ≤ t = grind (arith, nat_tests) in
          let none = s.below t le in
          let some = times-list_at b.lists h t in
          let one = times_in-present (list_at b.lists h) t e in
          absurd (omega (arith, none, some, one))
    ]) refl

pub among_in : (b : Board) (h : ℕ) (test : ℕ → Bool) (before at : Option ℕ) (t : ℕ) → IsSound b
    → Among (list_at b.lists h) test before at → at ≡ Some t → t < b.seats
among_in b h test before at t s a e = seat_in b h t s
    (among_has (list_at b.lists h) test before t (subst (Among (list_at b.lists h) test before) e a))

-- the seat that comes next
pub next_is : (b : Board) (h t : ℕ) (next : Option ℕ) → IsSound b → has (list_at b.lists h) t ≡ true
    → next ≡ next_in (list_of b.lists t) t → next ≡ next_in (list_at b.lists h) t
next_is b h t next s e n = n ∙ ap (λ l. next_in l t)
    (head_of-found b.lists t h (head_of-list_at b.lists h t e (s.once t))).2

pub fewer_in : (b : Board) (h : ℕ) (test : ℕ → Bool) (before at : Option ℕ) (t : ℕ) (next : Option ℕ) → IsSound b
    → Among (list_at b.lists h) test before at → at ≡ Some t → next ≡ next_in (list_of b.lists t) t
    → length (rest_from (list_at b.lists h) next) < length (rest_from (list_at b.lists h) at)
fewer_in b h test before at t next s a e n =
    let here = subst (Among (list_at b.lists h) test before) e a in
    subst (λ z. length (rest_from (list_at b.lists h) next) < length (rest_from (list_at b.lists h) z)) (sym e)
    (fewer_left (list_at b.lists h) test before t next (once_in b h s) here
    (next_is b h t next s (among_has (list_at b.lists h) test before t here) n))

pub among_next : (b : Board) (h : ℕ) (test : ℕ → Bool) (before at : Option ℕ) (t : ℕ) (next : Option ℕ) → IsSound b
    → Among (list_at b.lists h) test before at → at ≡ Some t → test t ≡ false → next ≡ next_in (list_of b.lists t) t
    → Among (list_at b.lists h) test (Some t) next
among_next b h test before at t next s a e f n =
    let here = subst (Among (list_at b.lists h) test before) e a in
    among_goes_on (list_at b.lists h) test before t next (once_in b h s) here f
    (next_is b h t next s (among_has (list_at b.lists h) test before t here) n)
