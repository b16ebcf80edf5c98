-- Laws of the seats of notices, and of the board of a state.
use Rattle.std.proofs.Common.{◌≡◌, ℕ, ◌<◌, ◌++◌, ◌||◌, Bool, true, false, cond, eqb, List, [], ◌∷◌, length}
use Rattle.std.proofs.Common.{get_or, Option, Some, None, unwrap_or, refl, sym, ap, ◌∙◌, arith, suc}
use Rattle.ss_links.proofs.SeatLaws.{has-last_of}
use Rattle.std.proofs.lemmas.Bool.Decides.{nat_tests}
use Rattle.ss_links.specs.Seats.{has, last_of, put_behind, put_at}
use Rattle.ss_links.specs.Seats.{list_without as without_seat}
use Rattle.ss_events.specs.Agenda.{Pending, without_notice, of_class}
use Rattle.ss_events.specs.Agenda.{pending_at}
use Rattle.ss_events.specs.State.{seat_in, seats_of, Each, NoneNoted}
use Rattle.ss_events.proofs.OrderLaws.{AreNoted, placed, sorted, Each-placed, Each-sorted, Each-of_class}
use Rattle.ss_events.specs.Places.{notices_passed}

-- the seat of a notice that has one
pub seat_in-below : (ns : List ℕ) (n : ℕ) → has ns n ≡ true → seat_in ns n < length ns
seat_in-below [] n h = absurd (cc)
seat_in-below (m ∷ ms) n h = elim (eqb m n)
    as (λ t. (t || has ms n) ≡ true → cond t 0 (suc (seat_in ms n)) < suc (length ms)) [
      | true ↦ λ k. omega arith
      | false ↦ λ k. let rest = seat_in-below ms n k in omega arith
    ] h

pub seat_in-notice : (ns : List ℕ) (n d : ℕ) → has ns n ≡ true → get_or ns (seat_in ns n) d ≡ n
seat_in-notice [] n d h = absurd (cc)
seat_in-notice (m ∷ ms) n d h = elim (eqb m n)
    as (λ t. eqb m n ≡ t → (t || has ms n) ≡ true → get_or (m ∷ ms) (cond t 0 (suc (seat_in ms n))) d ≡ n) [
      | true ↦ λ t k. grind (arith, nat_tests, t)
      | false ↦ λ t k. seat_in-notice ms n d k
    ] refl h

-- no two notices have one seat
pub seat_in-apart : (ns : List ℕ) (m n : ℕ) → has ns m ≡ true → has ns n ≡ true → eqb m n ≡ false →
    eqb (seat_in ns m) (seat_in ns n) ≡ false
seat_in-apart ns m n h k a = elim (eqb (seat_in ns m) (seat_in ns n))
    as (λ t. eqb (seat_in ns m) (seat_in ns n) ≡ t → t ≡ false) [
      | true ↦ λ t. let same : seat_in ns m ≡ seat_in ns n = grind (arith, nat_tests, t) in
          let one : m ≡ n = sym (seat_in-notice ns m 0 h) ∙ (ap (λ i. get_or ns i 0) same ∙ seat_in-notice ns n 0 k) in
          absurd (grind (arith, nat_tests, a, one))
      | false ↦ λ t. refl
    ] refl

-- a seat more
pub seat_in-more : (ns : List ℕ) (n k : ℕ) → has ns n ≡ true → seat_in (ns ++ k ∷ []) n ≡ seat_in ns n
seat_in-more [] n k h = absurd (cc)
seat_in-more (m ∷ ms) n k h = elim (eqb m n)
    as (λ t. (t || has ms n) ≡ true → cond t 0 (suc (seat_in (ms ++ k ∷ []) n)) ≡ cond t 0 (suc (seat_in ms n))) [
      | true ↦ λ a. refl
      | false ↦ λ a. ap suc (seat_in-more ms n k a)
    ] h

pub seat_in-new : (ns : List ℕ) (n : ℕ) → has ns n ≡ false → seat_in (ns ++ n ∷ []) n ≡ length ns
seat_in-new [] n h = let same : eqb n n ≡ true = grind (arith, nat_tests) in rw same refl
seat_in-new (m ∷ ms) n h = elim (eqb m n)
    as (λ t. (t || has ms n) ≡ false → cond t 0 (suc (seat_in (ms ++ n ∷ []) n)) ≡ suc (length ms)) [
      | true ↦ λ a. absurd (cc)
      | false ↦ λ a. ap suc (seat_in-new ms n a)
    ] h

-- each notice has a seat
abbrev pub AreSeated : List ℕ → List Pending → Type 0
AreSeated ns es = Each (λ e. has ns e.notice ≡ true) es

pub seats_of-more : (ns : List ℕ) (k : ℕ) (es : List Pending) → AreSeated ns es →
    seats_of (ns ++ k ∷ []) es ≡ seats_of ns es
seats_of-more ns k [] h = refl
seats_of-more ns k (e ∷ es) h = rw (seat_in-more ns e.notice k h.0, seats_of-more ns k es h.1) refl

-- a seat is among those of notices if its notice is among them
pub has-seats_of_none : (ns : List ℕ) (n : ℕ) (es : List Pending) → has ns n ≡ true → AreSeated ns es →
    NoneNoted n es → has (seats_of ns es) (seat_in ns n) ≡ false
has-seats_of_none ns n [] h a k = refl
has-seats_of_none ns n (e ∷ es) h a k = rw (seat_in-apart ns e.notice n a.0 h k.0) (has-seats_of_none ns n es h a.1
    k.1)

pub has-seats_of_some : (ns : List ℕ) (n : ℕ) (es : List Pending) (e : Pending) → pending_at es n ≡ Some e →
    has (seats_of ns es) (seat_in ns n) ≡ true
has-seats_of_some ns n [] e h = absurd (cc)
has-seats_of_some ns n (f ∷ fs) e h = elim (eqb f.notice n)
    as (λ t. eqb f.notice n ≡ t → cond t (Some f) (pending_at fs n) ≡ Some e →
    has (seats_of ns (f ∷ fs)) (seat_in ns n) ≡ true) [
      | true ↦ λ t k. let same : f.notice ≡ n = grind (arith, nat_tests, t) in
          let one : eqb (seat_in ns n) (seat_in ns n) ≡ true = grind (arith, nat_tests) in rw (same, one) refl
      | false ↦ λ t k. rw (has-seats_of_some ns n fs e k) (elim (eqb (seat_in ns f.notice) (seat_in ns n))
          as (λ u. (u || true) ≡ true) [
            | true ↦ refl
            | false ↦ refl
          ])
    ] refl h

-- the seats without a notice's seat are those without the notice
pub seats_of-without : (ns : List ℕ) (n : ℕ) (es : List Pending) → has ns n ≡ true → AreSeated ns es →
    without_seat (seats_of ns es) (seat_in ns n) ≡ seats_of ns (without_notice n es)
seats_of-without ns n [] h a = refl
seats_of-without ns n (e ∷ es) h a =
    let rest = seats_of-without ns n es h a.1 in
    elim (eqb e.notice n)
    as (λ t. eqb e.notice n ≡ t → without_seat (seats_of ns (e ∷ es)) (seat_in ns n) ≡ seats_of ns (cond t
    (without_notice n es) (e ∷ without_notice n es))) [
      | true ↦ λ t. let same : e.notice ≡ n = grind (arith, nat_tests, t) in
          let one : eqb (seat_in ns n) (seat_in ns n) ≡ true = grind (arith, nat_tests) in rw (same, one) rest
      | false ↦ λ t. rw (seat_in-apart ns e.notice n a.0 h t) (ap (λ (l : List ℕ). seat_in ns e.notice ∷ l) rest)
    ] refl

-- a notice is put after the seats of those passed
put_at-rest : (y : ℕ) (ys rs : List ℕ) (s : ℕ) (o : Option ℕ) → has ys y ≡ false → ((at : ℕ) → o ≡ Some at →
    has ys at ≡ true) → put_at ys o s ≡ rs → put_behind (y ∷ ys) (unwrap_or o y) s ≡ y ∷ rs
put_at-rest y ys rs s None n h k = let same : eqb y y ≡ true = grind (arith, nat_tests) in
    rw same (ap (λ (l : List ℕ). y ∷ l) k)
put_at-rest y ys rs s (Some at) n h k = let there = h at refl in elim (eqb y at)
    as (λ t. eqb y at ≡ t → cond t (y ∷ s ∷ ys) (y ∷ put_behind ys at s) ≡ y ∷ rs) [
      | true ↦ λ t. let same : y ≡ at = grind (arith, nat_tests, t) in absurd (cc)
      | false ↦ λ t. ap (λ (l : List ℕ). y ∷ l) k
    ] refl

pub has-passed : (ns : List ℕ) (lt : Pending → Pending → Bool) (e : Pending) (es : List Pending) (x : ℕ) →
    has (seats_of ns (notices_passed lt e es)) x ≡ true → has (seats_of ns es) x ≡ true
has-passed ns lt e [] x h = absurd (cc)
has-passed ns lt e (f ∷ fs) x h = let rest = has-passed ns lt e fs x in elim (lt e f)
    as (λ t. has (seats_of ns (cond t [] (f ∷ notices_passed lt e fs))) x ≡ true →
    (eqb (seat_in ns f.notice) x || has (seats_of ns fs) x) ≡ true) [
      | true ↦ λ k. absurd (cc)
      | false ↦ elim (eqb (seat_in ns f.notice) x)
          as (λ u. (u || has (seats_of ns (notices_passed lt e fs)) x) ≡ true → (u || has (seats_of ns fs) x) ≡ true) [
            | true ↦ λ k. refl
            | false ↦ rest
          ]
    ] h

pub seats_of-placed : (ns : List ℕ) (lt : Pending → Pending → Bool) (e : Pending) (es : List Pending) →
    AreSeated ns es → AreNoted es → put_at (seats_of ns es) (last_of (seats_of ns (notices_passed lt e es))) (seat_in ns
    e.notice) ≡ seats_of ns (placed lt e es)
seats_of-placed ns lt e [] a h = refl
seats_of-placed ns lt e (f ∷ fs) a h =
    let rest = seats_of-placed ns lt e fs a.1 h.1 in
    let apart = has-seats_of_none ns f.notice fs a.0 a.1 h.0 in
    elim (lt e f)
    as (λ t. put_at (seats_of ns (f ∷ fs)) (last_of (seats_of ns (cond t [] (f ∷ notices_passed lt e fs)))) (seat_in ns
    e.notice) ≡ seats_of ns (cond t (e ∷ f ∷ fs) (f ∷ placed lt e fs))) [
      | true ↦ refl
      | false ↦ put_at-rest (seat_in ns f.notice) (seats_of ns fs) (seats_of ns (placed lt e fs)) (seat_in ns
          e.notice) (last_of (seats_of ns (notices_passed lt e fs))) apart
          (λ at k. has-passed ns lt e fs at (has-last_of
          (seats_of ns (notices_passed lt e fs)) at k)) rest
    ]

-- the numbers stay different when a notice is put at its place
AreNoted-placed : (lt : Pending → Pending → Bool) (e : Pending) (es : List Pending) → NoneNoted e.notice es →
    AreNoted es → AreNoted (placed lt e es)
AreNoted-placed lt e [] n h = (tt, tt)
AreNoted-placed lt e (f ∷ fs) n h = elim (lt e f) as (λ t. AreNoted (cond t (e ∷ f ∷ fs) (f ∷ placed lt e fs))) [
  | true ↦ (n, h)
  | false ↦ let apart : eqb e.notice f.notice ≡ false = grind (arith, nat_tests, n.0) in
      (Each-placed (λ g. eqb g.notice f.notice ≡ false) lt e fs apart h.0, AreNoted-placed lt e fs n.1 h.1)
]

pub AreNoted-sorted : (lt : Pending → Pending → Bool) (es : List Pending) → AreNoted es → AreNoted (sorted lt es)
AreNoted-sorted lt [] h = tt
AreNoted-sorted lt (e ∷ es) h = AreNoted-placed lt e (sorted lt es) (Each-sorted (λ f. eqb f.notice e.notice ≡ false)
    lt es h.0) (AreNoted-sorted lt es h.1)

pub AreNoted-of_class : (c : ℕ) (es : List Pending) → AreNoted es → AreNoted (of_class c es)
AreNoted-of_class c [] h = tt
AreNoted-of_class c (e ∷ es) h = elim (eqb e.class c)
    as (λ t. AreNoted (cond t (e ∷ of_class c es) (of_class c es))) [
      | true ↦ (Each-of_class (λ f. eqb f.notice e.notice ≡ false) c es h.0, AreNoted-of_class c es h.1)
      | false ↦ AreNoted-of_class c es h.1
    ]
