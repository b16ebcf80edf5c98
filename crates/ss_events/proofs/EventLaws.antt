-- Laws of the event classes and of lists made for each of them.
use Rattle.std.proofs.Common.{◌≡◌, ℕ, zero, suc, ◌+◌, ◌<◌, ◌≤◌, Bool, true, false, cond, eqb, List, [], ◌∷◌, length}
use Rattle.std.proofs.Common.{map, get_or, refl, sym, ap, ◌∙◌, arith}
use Rattle.std.proofs.Math.ListN.{set}
use Rattle.std.proofs.lemmas.Bool.Decides.{nat_tests}
use Rattle.std.proofs.lemmas.List.{length-map, get_or-map}
use Rattle.ss_links.specs.Board.{list_at}
use Rattle.ss_events.specs.declared.rule.ClassRule.{ClassRule}
use Rattle.ss_events.specs.Views.{rule_of}
use Rattle.ss_events.specs.Rules.{Rule, rule_at, is_event_class, events_from, event_classes, event_number}

-- an event class is a class
pub event-below : (rs : List Rule) (c : ℕ) → is_event_class rs c ≡ true → c < length rs
event-below [] c h = absurd (cc)
event-below (r ∷ rs) zero h = omega arith
event-below (r ∷ rs) (suc c) h = let rest = event-below rs c h in omega (arith, rest)

-- an event class is at its number
pub record StandsAt (a : ℕ) (rs : List Rule) (c : ℕ) : Type 0 where
  pub below : event_number rs c < length (events_from a rs)
  pub here : get_or (events_from a rs) (event_number rs c) 0 ≡ a + c

event-from : (a : ℕ) (rs : List Rule) (c : ℕ) → is_event_class rs c ≡ true → StandsAt a rs c
event-from a [] c h = absurd (cc)
event-from a (r ∷ rs) zero h = rw h (record { below = omega arith; here = omega arith })
event-from a (r ∷ rs) (suc c) h =
    let rest = event-from (a + 1) rs c h in
    let same : a + suc c ≡ a + 1 + c = omega arith in
    let own = elim (r.for_events) as (λ t. (cond t (suc (event_number rs c)) (event_number rs c) < length (cond t (a ∷
    events_from (a + 1) rs) (events_from (a + 1) rs))) × (get_or (cond t (a ∷ events_from (a + 1) rs) (events_from (a
    + 1) rs)) (cond t (suc (event_number rs c)) (event_number rs c)) 0 ≡ a + suc c)) [
      | true ↦ (omega (arith, rest.below), rest.here ∙ sym same)
      | false ↦ (rest.below, rest.here ∙ sym same)
    ] in
    record { below = own.0; here = own.1 }

pub event-at : (rs : List Rule) (c : ℕ) → is_event_class rs c ≡ true →
    (event_number rs c < length (event_classes rs)) × (get_or (event_classes rs) (event_number rs c) 0 ≡ c)
event-at rs c h = let r = event-from 0 rs c h in (r.below, r.here ∙ omega arith)

-- the number of the class after another
pub number-more : (rs : List Rule) (c : ℕ) → c < length rs →
    event_number rs (c + 1) ≡ event_number rs c + cond (rule_at rs c).for_events 1 0
number-more [] c h = absurd (omega arith)
number-more (r ∷ []) zero h = omega arith
number-more (r ∷ q ∷ qs) zero h = omega arith
number-more (r ∷ rs) (suc c) h =
    let rest = number-more rs c (omega (arith, h)) in
    let more : suc c + 1 ≡ suc (c + 1) = omega arith in
    rw more (elim (r.for_events) as (λ t. cond t (suc (event_number rs (c + 1))) (event_number rs (c + 1)) ≡ cond t (suc
    (event_number rs c)) (event_number rs c) + cond (rule_at rs c).for_events 1 0) [
      | true ↦ omega (arith, rest)
      | false ↦ rest
    ])

pub number-none : (rs : List Rule) → event_number rs 0 ≡ 0
number-none [] = refl
number-none (r ∷ rs) = refl

pub number-few : (rs : List Rule) (c : ℕ) → event_number rs c ≤ c
number-few [] c = omega arith
number-few (r ∷ rs) zero = omega arith
number-few (r ∷ rs) (suc c) = let rest = number-few rs c in elim (r.for_events)
    as (λ t. cond t (suc (event_number rs c)) (event_number rs c) ≤ suc c) [
      | true ↦ omega (arith, rest)
      | false ↦ omega (arith, rest)
    ]

pub number-all : (a : ℕ) (rs : List Rule) → event_number rs (length rs) ≡ length (events_from a rs)
number-all a [] = refl
number-all a (r ∷ rs) = let rest = number-all (a + 1) rs in elim (r.for_events)
    as (λ t. cond t (suc (event_number rs (length rs))) (event_number rs (length rs)) ≡ length (cond t (a ∷ events_from
    (a + 1) rs) (events_from (a +
    1) rs))) [
      | true ↦ ap suc rest
      | false ↦ rest
    ]

-- the lists of a board, made for each event class
abbrev pub lists_by : (ℕ → List ℕ) → List Rule → List (List ℕ)
lists_by f rs = map f (event_classes rs)

pub list_at-head : (f : ℕ → List ℕ) (rs : List Rule) (h : ℕ) → h < length (event_classes rs) →
    list_at (lists_by f rs) h ≡ f (get_or (event_classes rs) h 0)
list_at-head f rs h l = get_or-map f (event_classes rs) h 0 [] l

pub list_at-by : (f : ℕ → List ℕ) (rs : List Rule) (c : ℕ) → is_event_class rs c ≡ true →
    list_at (lists_by f rs) (event_number rs c) ≡ f c
list_at-by f rs c h = let e = event-at rs c h in list_at-head f rs (event_number rs c) e.0 ∙ ap f e.1

pub length-lists_by : (f : ℕ → List ℕ) (rs : List Rule) → length (lists_by f rs) ≡ length (event_classes rs)
length-lists_by f rs = length-map (event_classes rs) f

-- lists that are the same, class by class
map-each : (f g : ℕ → List ℕ) (cs : List ℕ) → ((c : ℕ) → f c ≡ g c) → map f cs ≡ map g cs
map-each f g [] h = refl
map-each f g (c ∷ cs) h = rw (h c, map-each f g cs h) refl

pub lists_by-same : (f g : ℕ → List ℕ) (rs : List Rule) → ((c : ℕ) → f c ≡ g c) → lists_by f rs ≡ lists_by g rs
lists_by-same f g rs h = map-each f g (event_classes rs) h

-- every list changed
map-map_each : (f g : ℕ → List ℕ) (h : List ℕ → List ℕ) (cs : List ℕ) → ((c : ℕ) → h (f c) ≡ g c) →
    map h (map f cs) ≡ map g cs
map-map_each f g h [] e = refl
map-map_each f g h (c ∷ cs) e = rw (e c, map-map_each f g h cs e) refl

pub lists_by-map : (f g : ℕ → List ℕ) (h : List ℕ → List ℕ) (rs : List Rule) → ((c : ℕ) → h (f c) ≡ g c) →
    map h (lists_by f rs) ≡ lists_by g rs
lists_by-map f g h rs e = map-map_each f g h (event_classes rs) e

-- another list of one class
map-above : (f g : ℕ → List ℕ) (a : ℕ) (rs : List Rule) → ((d : ℕ) → a ≤ d → f d ≡ g d) →
    map f (events_from a rs) ≡ map g (events_from a rs)
map-above f g a [] e = refl
map-above f g a (r ∷ rs) e =
    let rest = map-above f g (a + 1) rs (λ d l. e d (omega (arith, l))) in
    let own = e a (omega arith) in
    elim (r.for_events) as (λ t. map f (cond t (a ∷ events_from (a + 1) rs) (events_from (a + 1) rs)) ≡ map g (cond t
    (a ∷ events_from (a + 1) rs) (events_from (a + 1) rs))) [
      | true ↦ rw (own, rest) refl
      | false ↦ rest
    ]

set-from : (f g : ℕ → List ℕ) (a : ℕ) (rs : List Rule) (c b : ℕ) → is_event_class rs c ≡ true → a + c ≡ b →
    ((d : ℕ) → eqb b d ≡ false → f d ≡ g d) → set (map f (events_from a rs)) (event_number rs c) (g b) ≡ map g
    (events_from a rs)
set-from f g a [] c b h s e = absurd (cc)
set-from f g a (r ∷ rs) zero b h s e =
    let same : b ≡ a = omega (arith, s) in
    let rest = map-above f g (a + 1) rs (λ d l. e d (grind (arith, nat_tests, l, s))) in
    rw (h, same, rest) refl
set-from f g a (r ∷ rs) (suc c) b h s e =
    let rest = set-from f g (a + 1) rs c b h (omega (arith, s)) e in
    let own = e a (grind (arith, nat_tests, s)) in
    elim (r.for_events) as (λ t. set (map f (cond t (a ∷ events_from (a + 1) rs) (events_from (a + 1) rs))) (cond t
    (suc (event_number rs c)) (event_number rs c)) (g b) ≡ map g (cond t (a ∷ events_from (a + 1) rs) (events_from (a +
    1) rs))) [
      | true ↦ rw own (ap (λ (ls : List (List ℕ)). g a ∷ ls) rest)
      | false ↦ rest
    ]

pub lists_by-set : (f g : ℕ → List ℕ) (rs : List Rule) (c : ℕ) → is_event_class rs c ≡ true → ((d : ℕ) →
    eqb c d ≡ false → f d ≡ g d) → set (lists_by f rs) (event_number rs c) (g c) ≡ lists_by g rs
lists_by-set f g rs c h e = set-from f g 0 rs c c h (omega arith) e

-- the rules as they are kept
rule-kept : (rs : List ClassRule) (i : ℕ) (q : ClassRule) → i < length rs → q ≡ get_or rs i q →
    rule_at (map rule_of rs) i ≡ rule_of q
rule-kept [] i q l h = absurd (omega arith)
rule-kept (r ∷ rs) zero q l h = ap rule_of (sym h)
rule-kept (r ∷ rs) (suc i) q l h = rule-kept rs i q (omega (arith, l)) h

pub event-kept : (rs : List ClassRule) (i : ℕ) (q : ClassRule) → i < length rs → q ≡ get_or rs i q →
    is_event_class (map rule_of rs) i ≡ q.for_events
event-kept rs i q l h = ap (λ (r : Rule). r.for_events) (rule-kept rs i q l h)

pub number-kept : (rs : List ClassRule) (i : ℕ) (q : ClassRule) → i < length rs → q ≡ get_or rs i q →
    event_number (map rule_of rs) (i + 1) ≡ event_number (map rule_of rs) i + cond q.for_events 1 0
number-kept rs i q l h =
    number-more (map rule_of rs) i (omega (arith, l, length-map rs rule_of)) ∙
    ap (λ (r : Rule). event_number (map rule_of rs) i + cond r.for_events 1 0) (rule-kept rs i q l h)

pub number-event : (rs : List ClassRule) (i : ℕ) (q : ClassRule) → i < length rs → q ≡ get_or rs i q →
    q.for_events ≡ true → event_number (map rule_of rs) i + 1 ≡ event_number (map rule_of rs) (i + 1)
number-event rs i q l h e =
    sym (number-kept rs i q l h ∙ ap (λ (t : Bool). event_number (map rule_of rs) i + cond t 1 0) e)

pub number-other : (rs : List ClassRule) (i : ℕ) (q : ClassRule) → i < length rs → q ≡ get_or rs i q →
    q.for_events ≡ false → event_number (map rule_of rs) i ≡ event_number (map rule_of rs) (i + 1)
number-other rs i q l h e =
    let same : event_number (map rule_of rs) i + 0 ≡ event_number (map rule_of rs) i = omega arith in
    sym (number-kept rs i q l h ∙ (ap (λ (t : Bool). event_number (map rule_of rs) i + cond t 1 0) e ∙ same))
