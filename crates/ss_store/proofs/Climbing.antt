-- Lists in the order of a ranking: a member filed by it, one removed, and a search that begins within.
use Rattle.std.proofs.lemmas.Bool.Decides.{nat_tests}
use Rattle.std.proofs.lemmas.Cmp.{int_cmp_total, lists_total, on_total}
use Rattle.std.proofs.lemmas.Int.{ints}
use Rattle.std.proofs.Common.{◌≡◌, ◌⊎◌, inl, inr, ℕ, ℤ, neg_ℤ, ◌≤◌, ◌<◌, ◌==◌, ◌||◌, List, [], ◌∷◌, ◌++◌, length}
use Rattle.std.proofs.Common.{refl, ap}
use Rattle.std.proofs.Common.{sym, subst, ◌∙◌, arith, Option, Some, None, Bool, true, false, cond}
use Rattle.std.specs.Prelude.{unwrap_or}
use Rattle.std.specs.Cmp.{IsTotalOrder}
use Rattle.std.specs.Cmp.Lexicographic.{slice_cmp}
use Rattle.std.specs.Ordering.{is_gt, on, ordering_reverse, int_cmp}
use Rattle.std.specs.declared.cmp.Ordering.{Ordering}
use Rattle.std.specs.declared.cmp.Ordering.TheVariants.{Less, Equal, Greater}
use Rattle.ss_words.specs.declared.terms.Rank.{Rank}
use Rattle.ss_words.specs.declared.terms.Rank.TheVariants.{High, Low}
use Rattle.ss_links.specs.Board.{Board, IsSound, list_at, list_of, head_of}
use Rattle.ss_links.specs.Seats.{has, times_in, first_of, last_of, next_in, list_without}
use Rattle.ss_links.proofs.BoardLaws.{head_of-found}
use Rattle.ss_links.proofs.SeatLaws.{has-without_other, has-without, seat_behind-between, has-append, has-last_of}
use Rattle.ss_program.specs.declared.keys.Key.{Key}
use Rattle.ss_program.specs.Keys.{order_by_rank, by_keys, key_values}
use Rattle.ss_store.specs.Lists.{placed_before}
use Rattle.ss_store.specs.Finding.{rank_before, Among, is_at}
use Rattle.ss_store.specs.Order.{Climbs}
use Rattle.ss_store.proofs.OneListChanges.{is_or_not}
use Rattle.ss_store.proofs.SearchPlaces.{among_begins, among_goes_on, among_passed, among_has, left_none, once_in}
use Rattle.ss_store.proofs.SearchPlaces.{seat_in, next_is}
use Rattle.ss_store.proofs.FilingChanges.{is_at_eq}

-- ---- the order of key values

-- a key's value, that of HIGH with the other sign
abbrev weight : Rank → ℤ → ℤ
weight High x = neg_ℤ x
weight Low x = x

-- the values of keys, so that the less comes first of each
abbrev weights : List Key → List ℤ → List ℤ
weights [] _ = []
weights (_ ∷ _) [] = []
weights (k ∷ ks) (x ∷ xs) = weight k.rank x ∷ weights ks xs

weighed : (r : Rank) (x y : ℤ) → order_by_rank r x y ≡ int_cmp (weight r x) (weight r y)
weighed High x y = grind (arith, ints)
weighed Low x y = refl

by_weights : (ks : List Key) (xs ys : List ℤ) → length xs ≡ length ks → length ys ≡ length ks
    → by_keys ks xs ys ≡ slice_cmp int_cmp (weights ks xs) (weights ks ys)
by_weights [] xs ys h l = refl
by_weights (k ∷ ks) [] ys h l = absurd (omega arith)
by_weights (k ∷ ks) (x ∷ xs) [] h l = absurd (omega arith)
by_weights (k ∷ ks) (x ∷ xs) (y ∷ ys) h l =
    rw (weighed k.rank x y, by_weights ks xs ys (omega arith) (omega arith)) refl

length_keys : (ks : List Key) (v : List ℤ) → length (key_values ks v) ≡ length ks
length_keys [] v = refl
length_keys (k ∷ ks) v = let w = length_keys ks v in omega (arith, w)

-- a test of two seats that has an order: if x is not after y and y is not after z, x is not after z
pub record IsRanking (behind : ℕ → ℕ → Bool) : Type 0 where
  pub transitive : (x y z : ℕ) → behind x y ≡ false → behind y z ≡ false → behind x z ≡ false
  pub asymmetric : (x y : ℕ) → behind x y ≡ true → behind y x ≡ false

not_greater : {K : Type 0} (R : K → K → Ordering) → IsTotalOrder R → (x y z : K) → is_gt (R x y) ≡ false
    → is_gt (R y z) ≡ false → is_gt (R x z) ≡ false
not_greater R o x y z h k =
    (elim (R x y) as (λ a. R x y ≡ a → is_gt a ≡ false → is_gt (R x z) ≡ false) [
      | Less ↦ λ e _. (elim (R y z) as (λ b. R y z ≡ b → is_gt b ≡ false → is_gt (R x z) ≡ false) [
        | Less ↦ λ f _. ap is_gt (o.trans x y z e f)
        | Equal ↦ λ f _. ap is_gt (o.antisymm x z ∙ ap ordering_reverse (sym (o.congr y z x f)) ∙ sym (o.antisymm x y) ∙ e)
        | Greater ↦ λ f w. cc
      ]) refl k
      | Equal ↦ λ e _. ap is_gt (o.congr x y z e) ∙ k
      | Greater ↦ λ e w. cc
    ]) refl h

greater_back : {K : Type 0} (R : K → K → Ordering) → IsTotalOrder R → (x y : K) → is_gt (R x y) ≡ true
    → is_gt (R y x) ≡ false
greater_back R o x y h = ap is_gt (o.antisymm y x)
    ∙ (elim (R x y) as (λ a. is_gt a ≡ true → is_gt (ordering_reverse a) ≡ false) [
      | Less ↦ λ w. cc
      | Equal ↦ λ w. cc
      | Greater ↦ λ w. refl
    ]) h

-- the order of lists of attributes, by their key values
abbrev by_values : List Key → List ℤ → List ℤ → Ordering
by_values ks = on (λ v. weights ks (key_values ks v)) (slice_cmp int_cmp)

IsTotalOrder-by_values : (ks : List Key) → IsTotalOrder (by_values ks)
IsTotalOrder-by_values ks = on_total (λ v. weights ks (key_values ks v)) (lists_total int_cmp_total)

by_values_is : (ks : List Key) (v w : List ℤ) → by_keys ks (key_values ks v) (key_values ks w) ≡ by_values ks v w
by_values_is ks v w = by_weights ks (key_values ks v) (key_values ks w) (length_keys ks v) (length_keys ks w)

pub keys_follow : (ks : List Key) (u v w : List ℤ) → is_gt (by_keys ks (key_values ks u) (key_values ks v)) ≡ false
    → is_gt (by_keys ks (key_values ks v) (key_values ks w)) ≡ false
    → is_gt (by_keys ks (key_values ks u) (key_values ks w)) ≡ false
keys_follow ks u v w h k = ap is_gt (by_values_is ks u w)
    ∙ not_greater (by_values ks) (IsTotalOrder-by_values ks) u v w (ap is_gt (sym (by_values_is ks u v)) ∙ h)
    (ap is_gt (sym (by_values_is ks v w)) ∙ k)

pub keys_rank : (ks : List Key) (f : ℕ → List ℤ)
    → IsRanking (λ x y. is_gt (by_keys ks (key_values ks (f x)) (key_values ks (f y))))
keys_rank ks f = record {
  transitive = λ x y z. keys_follow ks (f x) (f y) (f z);
  asymmetric = λ x y h. ap is_gt (by_values_is ks (f y) (f x))
      ∙ greater_back (by_values ks) (IsTotalOrder-by_values ks) (f x) (f y)
      (ap is_gt (sym (by_values_is ks (f x) (f y))) ∙ h);
}

-- ---- lists

-- tests that agree on the seats of a list
pub climbs_same : (p q : ℕ → ℕ → Bool) (l : List ℕ)
    → ((x y : ℕ) → has l x ≡ true → has l y ≡ true → q x y ≡ p x y) → Climbs p l → Climbs q l
climbs_same p q [] s c = c
climbs_same p q (x ∷ l) s c = (
  λ y h. s x y (grind (arith, nat_tests)) (let w : has l y ≡ true = h in grind (arith, nat_tests, w)) ∙ c.0 y h,
  climbs_same p q l (λ a b ha hb. s a b (let w : has l a ≡ true = ha in grind (arith, nat_tests, w))
      (let w : has l b ≡ true = hb in grind (arith, nat_tests, w))) c.1,
)

has_left : (l : List ℕ) (x y : ℕ) → has (list_without l x) y ≡ true → has l y ≡ true
has_left l x y h = elim (is_or_not x y) [
  | inl is ↦ let no = has-without l x in absurd (let w : has (list_without l x) x ≡ true = subst (λ z. has (list_without l x) z ≡ true) (sym is) h in cc)
  | inr far ↦ sym (has-without_other l x y (grind (arith, nat_tests, far))) ∙ h
]

pub climbs_without : (p : ℕ → ℕ → Bool) (l : List ℕ) (x : ℕ) → Climbs p l → Climbs p (list_without l x)
climbs_without p [] x c = c
climbs_without p (y ∷ l) x c = elim (y == x) as (λ k. Climbs p (cond k (list_without l x) (y ∷ list_without l x))) [
  | true ↦ climbs_without p l x c.1
  | false ↦ (λ z h. c.0 z (has_left l x z h), climbs_without p l x c.1)
]

has_placed : (test : ℕ → Bool) (x y : ℕ) (l : List ℕ) → has (placed_before test x l) y ≡ true
    → (x ≡ y) ⊎ (has l y ≡ true)
has_placed test x y [] h = inl (grind (arith, nat_tests, h))
has_placed test x y (z ∷ l) h =
    (elim (test z) as (λ k. has (cond k (x ∷ z ∷ l) (z ∷ placed_before test x l)) y ≡ true
    → (x ≡ y) ⊎ (has (z ∷ l) y ≡ true)) [
      | true ↦ λ w. elim (is_or_not x y) [
        | inl is ↦ inl is
        | inr far ↦ inr (grind (arith, nat_tests, w, far))
      ]
      | false ↦ λ w. elim (is_or_not z y) [
        | inl is ↦ inr (grind (arith, nat_tests, is))
        | inr far ↦ elim (has_placed test x y l (grind (arith, nat_tests, w, far))) [
          | inl is ↦ inl is
          | inr f ↦ inr (let v : has l y ≡ true = f in grind (arith, nat_tests, v))
        ]
      ]
    ]) h

-- a seat that is placed before the first one that ranks after it
pub climbs_placed : (p : ℕ → ℕ → Bool) (x : ℕ) (l : List ℕ) → IsRanking p → Climbs p l
    → Climbs p (placed_before (λ y. p y x) x l)
climbs_placed p x [] r c = (λ y h. cc, tt)
climbs_placed p x (z ∷ l) r c =
    (elim (p z x) as (λ k. p z x ≡ k → Climbs p (cond k (x ∷ z ∷ l) (z ∷ placed_before (λ y. p y x) x l))) [
      | true ↦ λ e.
          let first = r.asymmetric z x e in (
            λ y h. elim (is_or_not z y) [
              | inl is ↦ subst (λ w. p x w ≡ false) is first
              | inr far ↦ r.transitive x z y first (c.0 y (grind (arith, nat_tests, h, far)))
            ],
            c,
          )
      | false ↦ λ e. (
        λ y h. elim (has_placed (λ w. p w x) x y l h) [
          | inl is ↦ subst (λ w. p z w ≡ false) is e
          | inr f ↦ c.0 y f
        ],
        climbs_placed p x l r c.1,
      )
    ]) refl

-- ---- a search that begins after a seat of the list

-- a list that has a seat, at that seat
record Split (l : List ℕ) (t : ℕ) : Type 0 where
  pub front : List ℕ
  pub back : List ℕ
  pub all : l ≡ front ++ t ∷ back
  pub apart : has front t ≡ false

split_at : (l : List ℕ) (t : ℕ) → has l t ≡ true → Split l t
split_at [] t h = cc
split_at (y ∷ l) t h = elim (is_or_not y t) [
  | inl is ↦ record { front = []; back = l; all = ap (λ z. z ∷ l) is; apart = refl }
  | inr far ↦
      let s = split_at l t (grind (arith, nat_tests, h, far)) in
      record {
        front = y ∷ s.front;
        back = s.back;
        all = ap (λ z. y ∷ z) s.all;
        apart = let w = s.apart in grind (arith, nat_tests, w, far);
      }
]

-- a test that fails at a seat also fails at the seats before it
rank_behind : (p : ℕ → ℕ → Bool) (test : ℕ → Bool) (a m : List ℕ) (t : ℕ) (b : Option ℕ)
    → ((x y : ℕ) → p x y ≡ false → test y ≡ false → test x ≡ false) → Climbs p (a ++ t ∷ m) → test t ≡ false
    → rank_before test b (a ++ t ∷ m) ≡ rank_before test (Some t) m
rank_behind p test [] m t b r c h = rw h refl
rank_behind p test (y ∷ a) m t b r c h =
    let there : has (a ++ t ∷ m) t ≡ true = has-append a (t ∷ m) t ∙ (let e : (t == t) ≡ true = grind (arith, nat_tests) in
    rw e (elim (has a t) as (λ k. (k || true) ≡ true) [ true ↦ refl | false ↦ refl ])) in
    rw (r y t (c.0 t there) h) (rank_behind p test a m t (Some y) r c.1 h)

append_one : (a : List ℕ) (t : ℕ) (m : List ℕ) → a ++ t ∷ m ≡ (a ++ t ∷ []) ++ m
append_one [] t m = refl
append_one (y ∷ a) t m = ap (λ z. y ∷ z) (append_one a t m)

pub among_from : (p : ℕ → ℕ → Bool) (test : ℕ → Bool) (l : List ℕ) (t : ℕ) (next : Option ℕ)
    → ((x y : ℕ) → p x y ≡ false → test y ≡ false → test x ≡ false) → Climbs p l → has l t ≡ true → test t ≡ false
    → next ≡ next_in l t → Among l test (Some t) next
among_from p test l t next r c h f e =
    let s = split_at l t h in
    record {
      passed = s.front ++ t ∷ [];
      left = s.back;
      all = s.all ∙ append_one s.front t s.back;
      begins = sym (e ∙ ap (λ z. next_in z t) s.all ∙ seat_behind-between s.front s.back t s.apart);
      result = sym (ap (rank_before test None) s.all
          ∙ rank_behind p test s.front s.back t None r (subst (Climbs p) s.all c) f);
    }

-- ---- a walk along a list that climbs

pub climbs_more : (p : ℕ → ℕ → Bool) (a : List ℕ) (t : ℕ) → IsRanking p → Climbs p a
    → ((x : ℕ) → last_of a ≡ Some x → p x t ≡ false) → Climbs p (a ++ t ∷ [])
climbs_more p [] t r c h = (λ y e. cc, tt)
climbs_more p (y ∷ []) t r c h =
    (λ z e. subst (λ w. p y w ≡ false) (let w : has (t ∷ []) z ≡ true = e in grind (arith, nat_tests, w)) (h y refl), (λ z e. cc, tt))
climbs_more p (y ∷ z ∷ a) t r c h =
    let m = climbs_more p (z ∷ a) t r c.1 (λ x e. h x (ap (λ o. Some (unwrap_or o y)) e)) in (
      λ w e. elim (is_or_not z w) [
        | inl is ↦ subst (λ q. p y q ≡ false) is (c.0 z (grind (arith, nat_tests)))
        | inr far ↦ r.transitive y z w (c.0 z (grind (arith, nat_tests))) (m.0 w (grind (arith, nat_tests, e, far)))
      ],
      m,
    )

last_one : (a : List ℕ) (t : ℕ) → last_of (a ++ t ∷ []) ≡ Some t
last_one [] t = refl
last_one (y ∷ a) t = ap (λ o. Some (unwrap_or o y)) (last_one a t)

-- ---- over a board

pub looked : (b : Board) (h t : ℕ) (p : ℕ → ℕ → Bool) (test : ℕ → Bool) (next : Option ℕ)
    → is_at (head_of b.lists t) h ≡ true → next ≡ next_in (list_of b.lists t) t
    → ((x y : ℕ) → p x y ≡ false → test y ≡ false → test x ≡ false) → Climbs p (list_at b.lists h) → test t ≡ false
    → Among (list_at b.lists h) test (Some t) next
looked b h t p test next i n r c f =
    let there = head_of-found b.lists t h (is_at_eq (head_of b.lists t) h i) in
    among_from p test (list_at b.lists h) t next r c there.1 f (n ∙ ap (λ l. next_in l t) there.2)

-- a walk that passed no seat that ranks after a later one
pub record Walks (p : ℕ → ℕ → Bool) (l : List ℕ) (before at : Option ℕ) : Type 0 where
  pub among : Among l (λ _. false) before at
  pub climbs : Climbs p among.passed
  pub last : last_of among.passed ≡ before

pub walks_begin : (p : ℕ → ℕ → Bool) (l : List ℕ) (at : Option ℕ) → at ≡ first_of l → Walks p l None at
unfolding among_begins
walks_begin p l at e = record { among = among_begins l (λ _. false) at e; climbs = tt; last = refl }

walks_goes_on : (p : ℕ → ℕ → Bool) (l : List ℕ) (before : Option ℕ) (t : ℕ) (next : Option ℕ)
    → ((y : ℕ) → times_in l y ≤ 1) → IsRanking p → Walks p l before (Some t)
    → ((x : ℕ) → before ≡ Some x → p x t ≡ false) → next ≡ next_in l t → Walks p l (Some t) next
walks_goes_on p l before t next once r w h n =
    let is = among_passed l (λ _. false) before t next once w.among refl n in
    record {
      among = among_goes_on l (λ _. false) before t next once w.among refl n;
      climbs = subst (Climbs p) (sym is) (climbs_more p w.among.passed t r w.climbs (λ x e. h x (sym w.last ∙ e)));
      last = ap last_of is ∙ last_one w.among.passed t;
    }

pub walks_next : (b : Board) (h : ℕ) (p : ℕ → ℕ → Bool) (before at : Option ℕ) (t : ℕ) (next : Option ℕ) → IsSound b
    → IsRanking p → Walks p (list_at b.lists h) before at → at ≡ Some t
    → ((x : ℕ) → before ≡ Some x → p x t ≡ false) → next ≡ next_in (list_of b.lists t) t
    → Walks p (list_at b.lists h) (Some t) next
walks_next b h p before at t next s r w e f n =
    let here = subst (Walks p (list_at b.lists h) before) e w in
    walks_goes_on p (list_at b.lists h) before t next (once_in b h s) r here f
    (next_is b h t next s (among_has (list_at b.lists h) (λ _. false) before t here.among) n)

pub walks_before : (b : Board) (h : ℕ) (p : ℕ → ℕ → Bool) (before at : Option ℕ) → IsSound b
    → Walks p (list_at b.lists h) before at → (x : ℕ) → before ≡ Some x → x < b.seats
walks_before b h p before at s w x e = seat_in b h x s
    (ap (λ l. has l x) w.among.all ∙ has-append w.among.passed w.among.left x
    ∙ (let there = has-last_of w.among.passed x (w.last ∙ e) in rw there refl))

append_none : (l : List ℕ) → l ++ [] ≡ l
append_none [] = refl
append_none (y ∷ l) = ap (λ z. y ∷ z) (append_none l)

pub walks_end : (p : ℕ → ℕ → Bool) (l : List ℕ) (before at : Option ℕ) → Walks p l before at → at ≡ None → Climbs p l
walks_end p l before at w e = subst (Climbs p) (sym (w.among.all
    ∙ ap (λ z. w.among.passed ++ z) (left_none w.among.left (w.among.begins ∙ e)) ∙ append_none w.among.passed)) w.climbs
