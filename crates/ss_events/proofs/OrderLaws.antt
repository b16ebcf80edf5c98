-- Laws of an order of notices, given as a test `lt`.
use Rattle.std.proofs.Common.{◌≡◌, ℕ, ◌≤◌, Bool, true, false, cond, eqb, ltb, List, [], ◌∷◌, length, Option, Some}
use Rattle.std.proofs.Common.{None, refl, sym, ap, ◌∙◌, arith, suc, zero}
use Rattle.std.proofs.lemmas.Bool.Decides.{nat_tests}
use Rattle.ss_events.specs.Agenda.{Pending, with_notice, without_notice, of_class}
use Rattle.ss_events.specs.Places.{first}
use Rattle.ss_events.specs.State.{Each, NoneNoted, NoneFiled, AreFiled}

-- the first of a notice and perhaps another
abbrev pub first_of_two : (Pending → Pending → Bool) → Pending → Option Pending → Pending
first_of_two lt e None = e
first_of_two lt e (Some f) = cond (lt e f) e f

-- the notice that comes before all others
abbrev pub least_by : (Pending → Pending → Bool) → List Pending → Option Pending
least_by lt [] = None
least_by lt (e ∷ es) = Some (first_of_two lt e (least_by lt es))

-- a notice, if there is one, and then the others
abbrev pub then_others : Option Pending → (Pending → List Pending) → List Pending
then_others None rest = []
then_others (Some e) rest = e ∷ rest e

-- the least taken again and again, n times at most
abbrev pub taken_in_turn : (Pending → Pending → Bool) → ℕ → List Pending → List Pending
taken_in_turn lt zero es = []
taken_in_turn lt (suc n) es = then_others (least_by lt es) (λ e. taken_in_turn lt n (without_notice e.notice es))

-- the order of the notices: the least taken again and again
abbrev pub in_turn : (Pending → Pending → Bool) → List Pending → List Pending
in_turn lt es = taken_in_turn lt (length es) es

-- a strict order of the notices of which P holds; it separates two with different filing numbers
pub record IsOrder (P : Pending → Type 0) (lt : Pending → Pending → Bool) : Type 0 where
  pub asymmetric : (e f : Pending) → P e → P f → lt e f ≡ true → lt f e ≡ false
  pub transitive : (e f g : Pending) → P e → P f → P g → lt e f ≡ true → lt f g ≡ true → lt e g ≡ true
  pub total : (e f : Pending) → P e → P f → eqb e.filing f.filing ≡ false → lt e f ≡ false → lt f e ≡ true

-- a notice put at its place in the order
abbrev pub placed : (Pending → Pending → Bool) → Pending → List Pending → List Pending
placed lt e [] = e ∷ []
placed lt e (f ∷ fs) = cond (lt e f) (e ∷ f ∷ fs) (f ∷ placed lt e fs)

-- notices put at their places in the order, one after another
abbrev pub sorted : (Pending → Pending → Bool) → List Pending → List Pending
sorted lt [] = []
sorted lt (e ∷ es) = placed lt e (sorted lt es)

-- no two have one number
abbrev pub AreNoted : List Pending → Type 0
AreNoted [] = Unit {0}
AreNoted (e ∷ es) = NoneNoted e.notice es × AreNoted es

-- all come after this one
abbrev pub AreBehind : (Pending → Pending → Bool) → Pending → List Pending → Type 0
AreBehind lt e es = Each (λ f. lt e f ≡ true) es

-- each comes before those after it
abbrev pub IsSorted : (Pending → Pending → Bool) → List Pending → Type 0
IsSorted lt [] = Unit {0}
IsSorted lt (e ∷ es) = AreBehind lt e es × IsSorted lt es

-- a property of each notice stays
pub Each-without : (P : Pending → Type 0) (n : ℕ) (es : List Pending) → Each P es → Each P (without_notice n es)
Each-without P n [] h = tt
Each-without P n (e ∷ es) h = elim (eqb e.notice n)
    as (λ t. Each P (cond t (without_notice n es) (e ∷ without_notice n es))) [
      | true ↦ Each-without P n es h.1
      | false ↦ (h.0, Each-without P n es h.1)
    ]

pub Each-of_class : (P : Pending → Type 0) (c : ℕ) (es : List Pending) → Each P es → Each P (of_class c es)
Each-of_class P c [] h = tt
Each-of_class P c (e ∷ es) h = elim (eqb e.class c) as (λ t. Each P (cond t (e ∷ of_class c es) (of_class c es))) [
  | true ↦ (h.0, Each-of_class P c es h.1)
  | false ↦ Each-of_class P c es h.1
]

pub Each-placed : (P : Pending → Type 0) (lt : Pending → Pending → Bool) (e : Pending) (es : List Pending) → P e →
    Each P es → Each P (placed lt e es)
Each-placed P lt e [] h n = (h, tt)
Each-placed P lt e (f ∷ fs) h n = elim (lt e f) as (λ t. Each P (cond t (e ∷ f ∷ fs) (f ∷ placed lt e fs))) [
  | true ↦ (h, n)
  | false ↦ (n.0, Each-placed P lt e fs h n.1)
]

pub Each-sorted : (P : Pending → Type 0) (lt : Pending → Pending → Bool) (es : List Pending) → Each P es →
    Each P (sorted lt es)
Each-sorted P lt [] n = tt
Each-sorted P lt (e ∷ es) n = Each-placed P lt e (sorted lt es) n.0 (Each-sorted P lt es n.1)

pub Each-with : (P : Pending → Type 0) (e : Pending) (es : List Pending) → P e → Each P es → Each P (with_notice e es)
Each-with P e [] h n = (h, tt)
Each-with P e (f ∷ fs) h n = elim (ltb e.notice f.notice)
    as (λ t. Each P (cond t (e ∷ f ∷ fs) (f ∷ with_notice e fs))) [
      | true ↦ (h, n)
      | false ↦ (n.0, Each-with P e fs h n.1)
    ]

pub Each-map : (P Q : Pending → Type 0) → ((e : Pending) → P e → Q e) → (es : List Pending) → Each P es → Each Q es
Each-map P Q f [] h = tt
Each-map P Q f (e ∷ es) h = (f e h.0, Each-map P Q f es h.1)

-- nothing goes if no notice has the number
pub without-absent : (n : ℕ) (es : List Pending) → NoneNoted n es → without_notice n es ≡ es
without-absent n [] h = refl
without-absent n (e ∷ es) h = grind (arith, h.0, without-absent n es h.1)

pub AreNoted-without : (n : ℕ) (es : List Pending) → AreNoted es → AreNoted (without_notice n es)
AreNoted-without n [] h = tt
AreNoted-without n (e ∷ es) h = elim (eqb e.notice n)
    as (λ t. AreNoted (cond t (without_notice n es) (e ∷ without_notice n es))) [
      | true ↦ AreNoted-without n es h.1
      | false ↦ (Each-without (λ f. eqb f.notice e.notice ≡ false) n es h.0, AreNoted-without n es h.1)
    ]

-- a property of each notice is a property of the least
pub Each-least : (P : Pending → Type 0) (lt : Pending → Pending → Bool) (es : List Pending) (e : Pending) →
    Each P es → least_by lt es ≡ Some e → P e
Each-least P lt [] e h k = absurd (cc)
Each-least P lt (f ∷ fs) e h k = elim (least_by lt fs)
    as (λ o. least_by lt fs ≡ o → Some (first_of_two lt f o) ≡ Some e → P e) [
      | None ↦ λ a b. let same : f ≡ e = cc in rw (← same) h.0
      | Some g ↦ λ a b. let later = Each-least P lt fs g h.1 a in elim (lt f g)
          as (λ t. Some (cond t f g) ≡ Some e → P e) [
            | true ↦ λ c. let same : f ≡ e = cc in rw (← same) h.0
            | false ↦ λ c. let same : g ≡ e = cc in rw (← same) later
          ] b
    ] refl k

-- the least is first when all are put at their places in the order
pub sorted-least : (lt : Pending → Pending → Bool) (es : List Pending) → AreNoted es →
    sorted lt es ≡ then_others (least_by lt es) (λ e. sorted lt (without_notice e.notice es))
sorted-least lt [] h = refl
sorted-least lt (e ∷ []) h = grind (arith, nat_tests)
sorted-least lt (e ∷ f ∷ fs) h =
    let es = f ∷ fs in
    let g = first_of_two lt f (least_by lt fs) in
    let rest = sorted-least lt (f ∷ fs) h.1 in
    let apart : eqb e.notice g.notice ≡ false = grind (
      arith,
      nat_tests,
      Each-least (λ m. eqb m.notice e.notice ≡ false) lt es g h.0 refl,
    ) in
    let same : eqb e.notice e.notice ≡ true = grind (arith, nat_tests) in
    let gone = without-absent e.notice es h.0 in
    elim (lt e g)
    as (λ t. lt e g ≡ t → placed lt e (sorted lt es) ≡ cond t e g ∷ sorted lt (without_notice (cond t e g).notice
    (e ∷ es))) [
      | true ↦ λ t. rw (same, gone, rest, t) refl
      | false ↦ λ t. rw (apart, rest, t) refl
    ] refl

-- a notice put at its place makes the list one longer
length-placed : (lt : Pending → Pending → Bool) (e : Pending) (es : List Pending) →
    length (placed lt e es) ≡ suc (length es)
length-placed lt e [] = refl
length-placed lt e (f ∷ fs) = elim (lt e f)
    as (λ t. length (cond t (e ∷ f ∷ fs) (f ∷ placed lt e fs)) ≡ suc (suc (length fs))) [
      | true ↦ refl
      | false ↦ ap suc (length-placed lt e fs)
    ]

pub length-sorted : (lt : Pending → Pending → Bool) (es : List Pending) → length (sorted lt es) ≡ length es
length-sorted lt [] = refl
length-sorted lt (e ∷ es) = length-placed lt e (sorted lt es) ∙ ap suc (length-sorted lt es)

-- to take the least again and again is to put each at its place in the order
taken-sorted : (lt : Pending → Pending → Bool) (n : ℕ) (es : List Pending) → AreNoted es → length es ≤ n →
    taken_in_turn lt n es ≡ sorted lt es
taken-sorted lt zero [] h k = refl
taken-sorted lt zero (e ∷ es) h k = absurd (omega arith)
taken-sorted lt (suc n) es h k =
    let all = sorted-least lt es h in
    let long = length-sorted lt es in
    rw all (elim (least_by lt es)
    as (λ o. sorted lt es ≡ then_others o (λ e. sorted lt (without_notice e.notice es)) →
    then_others o (λ e. taken_in_turn lt n (without_notice e.notice es)) ≡ then_others o (λ e. sorted lt
    (without_notice e.notice es))) [
      | None ↦ λ a. refl
      | Some e ↦ λ a. let less : length (without_notice e.notice es) ≤ n = omega (
        arith,
        ap length a,
        length-sorted lt (without_notice e.notice es),
      ) in ap (λ (l : List Pending). e ∷ l) (taken-sorted lt n
          (without_notice e.notice es) (AreNoted-without e.notice es h) less)
    ] all)

pub in_turn-sorted : (lt : Pending → Pending → Bool) (es : List Pending) → AreNoted es → in_turn lt es ≡ sorted lt es
in_turn-sorted lt es h = taken-sorted lt (length es) es h (omega arith)

pub first-sorted : (lt : Pending → Pending → Bool) (es : List Pending) → AreNoted es →
    first (sorted lt es) ≡ least_by lt es
first-sorted lt es h = rw (sorted-least lt es h) (elim (least_by lt es)
    as (λ o. first (then_others o (λ e. sorted lt (without_notice e.notice es))) ≡ o) [
      | None ↦ refl
      | Some e ↦ refl
    ])

-- notices that come after a notice come after all notices before it
pub behind-trans : (P : Pending → Type 0) (lt : Pending → Pending → Bool) → IsOrder P lt →
    (e f : Pending) (es : List Pending) → P e → P f → Each P es → lt e f ≡ true → AreBehind lt f es → AreBehind lt e es
behind-trans P lt o e f [] p q r h k = tt
behind-trans P lt o e f (g ∷ gs) p q r h k = (
  o.transitive e f g p q r.0 h k.0,
  behind-trans P lt o e f gs p q r.1 h k.1,
)

-- a notice that comes before all others is put first
pub placed-first : (lt : Pending → Pending → Bool) (e : Pending) (es : List Pending) → AreBehind lt e es →
    placed lt e es ≡ e ∷ es
placed-first lt e [] h = refl
placed-first lt e (f ∷ fs) h = rw h.0 refl

-- two notices may be put at their places in either order
placed-cons : (P : Pending → Type 0) (lt : Pending → Pending → Bool) → IsOrder P lt →
    (e f g : Pending) (gs : List Pending) → P e → P f → P g → eqb e.filing f.filing ≡ false →
    placed lt e (placed lt f gs) ≡ placed lt f (placed lt e gs) →
    placed lt e (placed lt f (g ∷ gs)) ≡ placed lt f (placed lt e (g ∷ gs))
placed-cons P lt o e f g gs p q r h ih = grind (
  arith,
  ih,
  o.asymmetric e f p q,
  o.total e f p q h,
  o.transitive e f g p q r,
  o.transitive f e g q p r,
  o.asymmetric f e q p,
)

pub placed-placed : (P : Pending → Type 0) (lt : Pending → Pending → Bool) → IsOrder P lt →
    (e f : Pending) (es : List Pending) → P e → P f → Each P es → eqb e.filing f.filing ≡ false →
    placed lt e (placed lt f es) ≡ placed lt f (placed lt e es)
placed-placed P lt o e f [] p q r h = elim (lt e f)
    as (λ t. lt e f ≡ t → cond t (e ∷ f ∷ []) (f ∷ e ∷ []) ≡ cond (lt f e) (f ∷ e ∷ []) (e ∷ f ∷ [])) [
      | true ↦ λ t. rw (o.asymmetric e f p q t) refl
      | false ↦ λ t. rw (o.total e f p q h t) refl
    ] refl
placed-placed P lt o e f (g ∷ gs) p q r h =
    placed-cons P lt o e f g gs p q r.0 h (placed-placed P lt o e f gs p q r.1 h)

-- one notice more, at any place by its number, is put at its place in the order
pub sorted-with : (P : Pending → Type 0) (lt : Pending → Pending → Bool) → IsOrder P lt →
    (e : Pending) (es : List Pending) → P e → Each P es → NoneFiled e.filing es →
    sorted lt (with_notice e es) ≡ placed lt e (sorted lt es)
sorted-with P lt o e [] p q h = refl
sorted-with P lt o e (f ∷ fs) p q h =
    let apart : eqb f.filing e.filing ≡ false = h.0 in
    let rest = sorted-with P lt o e fs p q.1 h.1 in
    elim (ltb e.notice f.notice)
    as (λ t. sorted lt (cond t (e ∷ f ∷ fs) (f ∷ with_notice e fs)) ≡ placed lt e (placed lt f (sorted lt fs))) [
      | true ↦ refl
      | false ↦ ap (placed lt f) rest ∙
          placed-placed P lt o f e (sorted lt fs) q.0 p (Each-sorted P lt fs q.1) apart
    ]

-- a notice put at its place leaves the list sorted
pub IsSorted-placed : (P : Pending → Type 0) (lt : Pending → Pending → Bool) → IsOrder P lt →
    (e : Pending) (es : List Pending) → P e → Each P es → NoneFiled e.filing es → IsSorted lt es →
    IsSorted lt (placed lt e es)
IsSorted-placed P lt o e [] p q n s = (tt, tt)
IsSorted-placed P lt o e (f ∷ fs) p q n s = elim (lt e f)
    as (λ t. lt e f ≡ t → IsSorted lt (cond t (e ∷ f ∷ fs) (f ∷ placed lt e fs))) [
      | true ↦ λ t. ((t, behind-trans P lt o e f fs p q.0 q.1 t s.0), s)
      | false ↦ λ t.
          let apart : eqb e.filing f.filing ≡ false = grind (arith, nat_tests, n.0) in
          let before : lt f e ≡ true = o.total e f p q.0 apart t in
          (Each-placed (λ g. lt f g ≡ true) lt e fs before s.0, IsSorted-placed P lt o e fs p q.1 n.1 s.1)
    ] refl

pub IsSorted-sorted : (P : Pending → Type 0) (lt : Pending → Pending → Bool) → IsOrder P lt → (es : List Pending) →
    Each P es → AreFiled es → IsSorted lt (sorted lt es)
IsSorted-sorted P lt o [] q h = tt
IsSorted-sorted P lt o (e ∷ es) q h = IsSorted-placed P lt o e (sorted lt es) q.0 (Each-sorted P lt es q.1)
    (Each-sorted (λ f. eqb f.filing e.filing ≡ false) lt es h.0) (IsSorted-sorted P lt o es q.1 h.1)

pub IsSorted-of_class : (lt : Pending → Pending → Bool) (c : ℕ) (es : List Pending) → IsSorted lt es →
    IsSorted lt (of_class c es)
IsSorted-of_class lt c [] h = tt
IsSorted-of_class lt c (f ∷ fs) h = elim (eqb f.class c)
    as (λ t. IsSorted lt (cond t (f ∷ of_class c fs) (of_class c fs))) [
      | true ↦ (Each-of_class (λ g. lt f g ≡ true) c fs h.0, IsSorted-of_class lt c fs h.1)
      | false ↦ IsSorted-of_class lt c fs h.1
    ]

-- one notice less
pub without-placed_same : (lt : Pending → Pending → Bool) (n : ℕ) (e : Pending) (es : List Pending) →
    eqb e.notice n ≡ true → without_notice n (placed lt e es) ≡ without_notice n es
without-placed_same lt n e [] h = rw h refl
without-placed_same lt n e (f ∷ fs) h = elim (lt e f)
    as (λ t. without_notice n (cond t (e ∷ f ∷ fs) (f ∷ placed lt e fs)) ≡ without_notice n (f ∷ fs)) [
      | true ↦ rw h refl
      | false ↦ ap (λ (l : List Pending). cond (eqb f.notice n) l (f ∷ l)) (without-placed_same lt n e fs h)
    ]

pub without-placed_other : (P : Pending → Type 0) (lt : Pending → Pending → Bool) → IsOrder P lt →
    (n : ℕ) (e : Pending) (es : List Pending) → P e → Each P es → IsSorted lt es → eqb e.notice n ≡ false →
    without_notice n (placed lt e es) ≡ placed lt e (without_notice n es)
without-placed_other P lt o n e [] p q s h = rw h refl
without-placed_other P lt o n e (f ∷ fs) p q s h = elim (lt e f)
    as (λ t. lt e f ≡ t → without_notice n (cond t (e ∷ f ∷ fs) (f ∷ placed lt e fs)) ≡ placed lt e (without_notice n
    (f ∷ fs))) [
      | true ↦ λ t. rw h (sym (placed-first lt e (without_notice n (f ∷ fs)) (Each-without (λ g. lt e g ≡ true) n (f ∷
          fs) (t, behind-trans P lt o e f fs p q.0 q.1 t s.0))))
      | false ↦ λ t. let rest = without-placed_other P lt o n e fs p q.1 s.1 h in elim (eqb f.notice n)
          as (λ u. cond u (without_notice n (placed lt e fs)) (f ∷ without_notice n (placed lt e fs)) ≡ placed lt e
          (cond
          u (without_notice n fs) (f ∷ without_notice n fs))) [
            | true ↦ rest
            | false ↦ rw (t, rest) refl
          ]
    ] refl

pub without-sorted : (P : Pending → Type 0) (lt : Pending → Pending → Bool) → IsOrder P lt →
    (n : ℕ) (es : List Pending) → Each P es → AreFiled es →
    sorted lt (without_notice n es) ≡ without_notice n (sorted lt es)
without-sorted P lt o n [] q h = refl
without-sorted P lt o n (e ∷ es) q h =
    let rest = without-sorted P lt o n es q.1 h.1 in
    let s = IsSorted-sorted P lt o es q.1 h.1 in
    let each = Each-sorted P lt es q.1 in
    elim (eqb e.notice n)
    as (λ t. eqb e.notice n ≡ t → sorted lt (cond t (without_notice n es) (e ∷ without_notice n es)) ≡
    without_notice n (placed lt e (sorted lt es))) [
      | true ↦ λ t. rest ∙ sym (without-placed_same lt n e (sorted lt es) t)
      | false ↦ λ t. ap (placed lt e) rest ∙ sym (without-placed_other P lt o n e (sorted lt es) q.0 each s t)
    ] refl

-- the notices of one class, when a notice is put at its place
pub of_class-placed_other : (lt : Pending → Pending → Bool) (c : ℕ) (e : Pending) (es : List Pending) →
    eqb e.class c ≡ false → of_class c (placed lt e es) ≡ of_class c es
of_class-placed_other lt c e [] h = rw h refl
of_class-placed_other lt c e (f ∷ fs) h = elim (lt e f)
    as (λ t. of_class c (cond t (e ∷ f ∷ fs) (f ∷ placed lt e fs)) ≡ of_class c (f ∷ fs)) [
      | true ↦ rw h refl
      | false ↦ ap (λ (l : List Pending). cond (eqb f.class c) (f ∷ l) l) (of_class-placed_other lt c e fs h)
    ]

pub of_class-placed : (P : Pending → Type 0) (lt : Pending → Pending → Bool) → IsOrder P lt →
    (c : ℕ) (e : Pending) (es : List Pending) → P e → Each P es → IsSorted lt es → eqb e.class c ≡ true →
    of_class c (placed lt e es) ≡ placed lt e (of_class c es)
of_class-placed P lt o c e [] p q s h = rw h refl
of_class-placed P lt o c e (f ∷ fs) p q s h = elim (lt e f)
    as (λ t. lt e f ≡ t → of_class c (cond t (e ∷ f ∷ fs) (f ∷ placed lt e fs)) ≡ placed lt e (of_class c (f ∷ fs))) [
      | true ↦ λ t. rw h (sym (placed-first lt e (of_class c (f ∷ fs)) (Each-of_class (λ g. lt e g ≡ true) c (f ∷ fs) (
        t,
        behind-trans P lt o e f fs p q.0 q.1 t s.0,
      ))))
      | false ↦ λ t. let rest = of_class-placed P lt o c e fs p q.1 s.1 h in elim (eqb f.class c)
          as (λ u. cond u (f ∷ of_class c (placed lt e fs)) (of_class c (placed lt e fs)) ≡ placed lt e (cond u (f ∷
          of_class c fs) (of_class c fs))) [
            | true ↦ rw (t, rest) refl
            | false ↦ rest
          ]
    ] refl

pub of_class-without : (c n : ℕ) (es : List Pending) →
    of_class c (without_notice n es) ≡ without_notice n (of_class c es)
of_class-without c n [] = refl
of_class-without c n (e ∷ es) = let rest = of_class-without c n es in elim (eqb e.notice n)
    as (λ t. eqb e.notice n ≡ t → of_class c (cond t (without_notice n es) (e ∷ without_notice n es)) ≡
    without_notice n (cond (eqb e.class c) (e ∷ of_class c es) (of_class c es))) [
      | true ↦ λ t. elim (eqb e.class c)
          as (λ u. of_class c (without_notice n es) ≡ without_notice n (cond u (e ∷ of_class c es) (of_class c es))) [
            | true ↦ rw t rest
            | false ↦ rest
          ]
      | false ↦ λ t. elim (eqb e.class c)
          as (λ u. cond u (e ∷ of_class c (without_notice n es)) (of_class c (without_notice n es)) ≡ without_notice n
          (cond u (e ∷ of_class c es) (of_class c es))) [
            | true ↦ rw t (ap (λ (l : List Pending). e ∷ l) rest)
            | false ↦ rest
          ]
    ] refl

pub AreFiled-without : (n : ℕ) (es : List Pending) → AreFiled es → AreFiled (without_notice n es)
AreFiled-without n [] h = tt
AreFiled-without n (e ∷ es) h = elim (eqb e.notice n)
    as (λ t. AreFiled (cond t (without_notice n es) (e ∷ without_notice n es))) [
      | true ↦ AreFiled-without n es h.1
      | false ↦ (Each-without (λ f. eqb f.filing e.filing ≡ false) n es h.0, AreFiled-without n es h.1)
    ]
