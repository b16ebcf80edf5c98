-- How a listing of the pending notices goes on.
use Rattle.std.proofs.Common.{◌≡◌, ℕ, ◌+◌, ◌≤◌, ◌<◌, ◌++◌, Bool, true, false, cond, eqb, List, [], ◌∷◌, length, drop}
use Rattle.std.proofs.Common.{take, replicate, get_or, slice_get, Option, Some, None, refl, sym, ap, ◌∙◌, arith, suc}
use Rattle.std.proofs.Common.{zero}
use Rattle.std.proofs.Math.ListN.{set, length-set}
use Rattle.std.proofs.lemmas.List.{get_or-set_same, get_or-set_other}
use Rattle.std.proofs.lemmas.Bool.Decides.{nat_tests}
use Rattle.ss_links.specs.Board.{Board, list_of}
use Rattle.ss_links.specs.Seats.{times_in, first_of, next_in}
use Rattle.ss_links.proofs.SeatLaws.{times_in-present}
use Rattle.ss_words.specs.declared.limits.TheConstants.{MOST_CLASSES, MOST_REFERENCES}
use Rattle.ss_events.specs.declared.pending_notice.PendingNotice.{PendingNotice}
use Rattle.ss_events.specs.declared.pending_notice.Row.{Row}
use Rattle.ss_events.specs.declared.listing.Listing.{Listing}
use Rattle.ss_events.specs.Agenda.{Pending, pending_at, is_before, least, of_class}
use Rattle.ss_events.specs.State.{AgendaState, Each, IsPending, seat_in, seats_of, order}
use Rattle.std.specs.Option.{IsSome, option_map}
use Rattle.ss_events.specs.Places.{first, earlier, notice_on, pending_on, IsTaken, IsTakenIfSome}
use Rattle.ss_events.specs.Listings.{seat_of_class, left_of, IsListing}
use Rattle.ss_events.specs.Views.{notice_of}
use Rattle.ss_events.specs.Rows.{and_others, notices_from, IsAgenda}
use Rattle.ss_events.proofs.OrderLaws.{IsSorted, Each-map, Each-of_class, length-sorted}
use Rattle.ss_events.proofs.BeforeLaws.{IsKeyed, IsOrder-is_before}
use Rattle.ss_events.proofs.WalkLaws.{of_classes_below, first-earlier, of_classes_below-all, of_classes_below-none}
use Rattle.ss_events.specs.Rules.{Rule, is_event_class}
use Rattle.ss_events.proofs.EventLaws.{event-below}
use Rattle.ss_events.proofs.BoardOf.{class_seats, Each-order, order-sorted, least-sorted}
use Rattle.ss_events.proofs.BoardOf.{AreKeyed-order, IsSorted-order}
use Rattle.ss_events.proofs.Stands.{stands, taken-stands, told, sound_board, has-get_or, Each-class}

-- the notices of an order that are left after the first n
Each-drop : (P : Pending → Type 0) (n : ℕ) (es : List Pending) → Each P es → Each P (drop n es)
Each-drop P zero es h = h
Each-drop P (suc n) [] h = tt
Each-drop P (suc n) (e ∷ es) h = Each-drop P n es h.1

IsSorted-drop : (lt : Pending → Pending → Bool) (n : ℕ) (es : List Pending) → IsSorted lt es → IsSorted lt (drop n es)
IsSorted-drop lt zero es s = s
IsSorted-drop lt (suc n) [] s = tt
IsSorted-drop lt (suc n) (e ∷ es) s = IsSorted-drop lt n es s.1

first-drop : (es : List Pending) (i : ℕ) → first (drop i es) ≡ slice_get es i
first-drop [] zero = refl
first-drop [] (suc i) = refl
first-drop (e ∷ es) zero = refl
first-drop (e ∷ es) (suc i) = first-drop es i

of_class-append : (c : ℕ) (a b : List Pending) → of_class c (a ++ b) ≡ of_class c a ++ of_class c b
of_class-append c [] b = refl
of_class-append c (e ∷ es) b = let rest = of_class-append c es b in elim (eqb e.class c)
    as (λ t. cond t (e ∷ of_class c (es ++ b)) (of_class c (es ++ b)) ≡ cond t (e ∷ of_class c es) (of_class c es) ++
    of_class c b) [
      | true ↦ ap (λ (l : List Pending). e ∷ l) rest
      | false ↦ rest
    ]

front-rear : (es : List Pending) (i : ℕ) → es ≡ take i es ++ drop i es
front-rear [] zero = refl
front-rear [] (suc i) = refl
front-rear (e ∷ es) zero = refl
front-rear (e ∷ es) (suc i) = ap (λ (l : List Pending). e ∷ l) (front-rear es i)

drop-at : (es : List Pending) (i : ℕ) (e : Pending) → slice_get es i ≡ Some e → drop i es ≡ e ∷ drop (i + 1) es
drop-at [] zero e h = absurd (cc)
drop-at [] (suc i) e h = absurd (cc)
drop-at (f ∷ fs) zero e h = let same : f ≡ e = cc in rw same refl
drop-at (f ∷ fs) (suc i) e h = let more : suc i + 1 ≡ suc (i + 1) = omega arith in rw more (drop-at fs i e h)

below-at : (es : List Pending) (i : ℕ) (e : Pending) → slice_get es i ≡ Some e → i < length es
below-at [] zero e h = absurd (cc)
below-at [] (suc i) e h = absurd (cc)
below-at (f ∷ fs) zero e h = omega arith
below-at (f ∷ fs) (suc i) e h = let rest = below-at fs i e h in omega arith

-- the classes below a number have given this one of some notices
pub record IsFirst (s : AgendaState) (es : List Pending) (c : ℕ) (at : Option ℕ) : Type 0 where
  pub first : pending_on s at ≡ first (of_classes_below c es)
  pub taken : IsTakenIfSome s at

pub first-none : (s : AgendaState) (es : List Pending) → IsFirst s es 0 None
first-none s es = record { first = sym (ap first (of_classes_below-none es)); taken = tt }

-- each pending notice is of an event class
event-each : (rows : List Row) (s : AgendaState) (b : Board) → IsAgenda rows s b →
    Each (λ e. is_event_class s.rules e.class ≡ true) s.agenda.pending
event-each rows s b k = Each-map (IsPending s.rules s.notices s.agenda.next_filing) (λ e. is_event_class s.rules
    e.class ≡ true) (λ e p. p.well.class) s.agenda.pending k.pending

-- the properties of the first seat of a class
pub record IsFirstOf (s : AgendaState) (es : List Pending) (c : ℕ) (at : Option ℕ) : Type 0 where
  pub first : pending_on s at ≡ first (of_class c es)
  pub taken : IsTakenIfSome s at

first-left : (rows : List Row) (s : AgendaState) (b : Board) (l : Listing) (c : ℕ) (at : Option ℕ) →
    IsAgenda rows s b → at ≡ first_of (seats_of s.notices (of_class c (left_of s l))) →
    IsFirstOf s (left_of s l) c at
first-left rows s b l c at k h = rw h (go (of_class c (left_of s l)) refl)
  where
    done : List Pending
    done = of_class c (take l.listed (order s))

    whole : of_class c (order s) ≡ done ++ of_class c (left_of s l)
    whole = ap (of_class c) (front-rear (order s) l.listed) ∙
        of_class-append c (take l.listed (order s)) (drop l.listed (order s))

    own : (f : Pending) (fs : List Pending) → of_class c (left_of s l) ≡ f ∷ fs → is_event_class s.rules c ≡ true
    own f fs e =
        let events = Each-of_class (λ g. is_event_class s.rules g.class ≡ true) c (left_of s l) (Each-drop (λ g.
        is_event_class s.rules g.class ≡ true) l.listed (order s) (Each-order (λ g. is_event_class s.rules g.class ≡
        true) s (told rows s b k) (event-each rows s b k))) in
        let same = rw e at (Each-class c (left_of s l)) in
        let here = rw e at events in
        rw same.0 at here.0

    go : (es : List Pending) → of_class c (left_of s l) ≡ es →
        IsFirstOf s (left_of s l) c (first_of (seats_of s.notices (of_class c (left_of s l))))
    go [] e = rw e (record { first = ap first (sym e); taken = tt })
    go (f ∷ fs) e = let t = stands s c done f fs (told rows s b k) (sound_board rows s b k) (own f fs e) (whole ∙
        ap (λ (es : List Pending). done ++ es) e) in rw e (record {
          first = ap (pending_at s.agenda.pending) t.notice
              ∙ (t.pending ∙ ap first (sym e));
          taken = taken-stands s c done f fs t;
        })

pub first-of_class : (rows : List Row) (s : AgendaState) (b : Board) (l : Listing) (c : ℕ) (at : Option ℕ) →
    IsAgenda rows s b → IsListing s l → c < length s.rules → at ≡ seat_of_class l c → IsFirstOf s (left_of s l) c at
first-of_class rows s b l c at k i m h = first-left rows s b l c at k (h ∙ i.seats c m)

-- a class more
pub first-more : (rows : List Row) (s : AgendaState) (b : Board) (l : Listing) (c : ℕ) (at own new : Option ℕ) →
    IsAgenda rows s b → IsFirst s (left_of s l) c at → IsFirstOf s (left_of s l) c own →
    pending_on s new ≡ earlier (is_before s.rules) (pending_on s at) (pending_on s own) → IsTakenIfSome s new →
    IsFirst s (left_of s l) (c + 1) new
first-more rows s b l c at own new k f o e t =
    let es = left_of s l in
    let t' = told rows s b k in
    let sorted = IsSorted-drop (is_before s.rules) l.listed (order s) (IsSorted-order s t') in
    let keyed = Each-drop (IsKeyed s.rules) l.listed (order s) (AreKeyed-order s t') in
    record {
      first = e ∙ (ap (λ (p : Option Pending). earlier (is_before s.rules) p (pending_on s own)) f.first ∙
          (ap (earlier (is_before s.rules) (first (of_classes_below c es))) o.first ∙
          sym (first-earlier (IsKeyed s.rules) (is_before s.rules) (IsOrder-is_before s.rules t'.ranked) c es keyed
          sorted)));
      taken = t;
    }

-- all classes
pub first-all : (rows : List Row) (s : AgendaState) (b : Board) (l : Listing) (c : ℕ) (at : Option ℕ) →
    IsAgenda rows s b → c ≡ length s.rules → IsFirst s (left_of s l) c at →
    pending_on s at ≡ slice_get (order s) l.listed
first-all rows s b l c at k h f =
    let t = told rows s b k in
    let below = Each-drop (λ e. e.class < length s.rules) l.listed (order s) (Each-order (λ e. e.class < length
    s.rules) s t (Each-map (IsPending s.rules s.notices s.agenda.next_filing) (λ e. e.class < length s.rules) (λ
    e p. event-below s.rules e.class p.well.class) s.agenda.pending k.pending)) in
    let all : of_classes_below c (left_of s l) ≡ left_of s l = rw h (of_classes_below-all (length s.rules) (left_of s
    l) below) in
    f.first ∙ (ap first all ∙ first-drop (order s) l.listed)

-- the first of all is the least
pub least-at : (rows : List Row) (s : AgendaState) (b : Board) → IsAgenda rows s b →
    slice_get (order s) 0 ≡ least s.rules s.agenda.pending
least-at rows s b k = sym (first-drop (order s) 0) ∙ sym (least-sorted s (told rows s b k))

-- the seat of the notice of a seat
pub seat_in-index : (ns : List ℕ) (i d : ℕ) → ((n : ℕ) → times_in ns n ≤ 1) → i < length ns →
    seat_in ns (get_or ns i d) ≡ i
seat_in-index [] i d o h = absurd (omega arith)
seat_in-index (m ∷ ms) zero d o h = let same : eqb m m ≡ true = grind (arith, nat_tests) in rw same refl
seat_in-index (m ∷ ms) (suc i) d o h =
    let rest = seat_in-index ms i d (λ n. less n (o n)) (omega arith) in
    let there = times_in-present ms (get_or ms i d) (has-get_or ms i d (omega arith)) in
    elim (eqb m (get_or ms i d))
    as (λ t. eqb m (get_or ms i d) ≡ t → cond t 0 (suc (seat_in ms (get_or ms i d))) ≡ suc i) [
      | true ↦ λ t. absurd (twice t (o (get_or ms i d)) there)
      | false ↦ λ t. ap suc rest
    ] refl
  where
    less : (n : ℕ) → cond (eqb m n) 1 0 + times_in ms n ≤ 1 → times_in ms n ≤ 1
    less n h = omega (arith, h)

    twice : eqb m (get_or ms i d) ≡ true → cond (eqb m (get_or ms i d)) 1 0 + times_in ms (get_or ms i d) ≤ 1 →
        0 < times_in ms (get_or ms i d) → ⊥
    twice t h k = let more : 1 + times_in ms (get_or ms i d) ≤ 1 = rw t at h in omega (arith, more, k)

-- how many notices there may be
length-notices_from : (n : ℕ) (rs : List Row) → length (notices_from n rs) ≤ length rs
length-notices_from n [] = omega arith
length-notices_from n (r ∷ rs) = let rest = length-notices_from (n + 1) rs in elim (r.pending)
    as (λ o. length (and_others n o (notices_from (n + 1) rs)) ≤ suc (length rs)) [
      | None ↦ omega (arith, rest)
      | Some x ↦ omega (arith, rest)
    ]

pub few-listed : (rows : List Row) (s : AgendaState) (b : Board) (i : ℕ) (e : Pending) → IsAgenda rows s b →
    slice_get (order s) i ≡ Some e → i < MOST_REFERENCES
few-listed rows s b i e k h =
    let long : length (order s) ≡ length s.agenda.pending = ap (λ (es : List Pending). length es) (order-sorted s
    (told rows s b k)) ∙ length-sorted (is_before s.rules) s.agenda.pending in
    let rows_long : length s.agenda.pending ≤ length rows = rw k.read (length-notices_from 1 rows) in
    omega (arith, below-at (order s) i e h, long, rows_long, k.few)

-- a listing goes on after the notice that it lists
pub listing-on : (rows : List Row) (s : AgendaState) (b : Board) (l : Listing) (x : ℕ) (y : PendingNotice)
    (at : Option ℕ)
    (seats : List (Option ℕ)) (n : ℕ) → IsAgenda rows s b → IsListing s l → x < length s.notices →
    pending_at s.agenda.pending (notice_on s x) ≡ Some (notice_of (notice_on s x) y) →
    slice_get (order s) l.listed ≡ Some (notice_of (notice_on s x) y) → at ≡ next_in (list_of b.lists x) x →
    is_event_class s.rules y.class ≡ true → seats ≡ set l.seats y.class at → n ≡ l.listed + 1 →
    IsListing s (record { seats = seats; listed = n })
listing-on rows s b l x y at seats n k i m p q h c z u =
    let e = notice_of (notice_on s x) y in
    let now : left_of s l ≡ e ∷ drop (l.listed + 1) (order s) = drop-at (order s) l.listed e q in
    let whole : of_class y.class (order s) ≡ of_class y.class (take l.listed (order s)) ++ of_class y.class (left_of
    s l) = ap (of_class y.class) (front-rear (order s) l.listed) ∙
    of_class-append y.class (take l.listed (order s)) (drop l.listed (order s)) in
    let own : eqb y.class y.class ≡ true = grind (arith, nat_tests) in
    let here : of_class y.class (left_of s l) ≡ e ∷ of_class y.class (drop (l.listed + 1) (order s)) = ap (of_class
    y.class) now ∙ rw own refl in
    let t = stands s y.class (of_class y.class (take l.listed (order s))) e (of_class y.class (drop (l.listed + 1)
    (order s))) (told rows s b k) (sound_board rows s b k) c (whole ∙
    ap (λ (es : List Pending). of_class y.class (take l.listed (order s)) ++ es) here) in
    let seat : seat_in s.notices (notice_on s x) ≡ x = seat_in-index s.notices x 0 k.once m in
    let next : at ≡ first_of (seats_of s.notices (of_class y.class (drop (l.listed + 1) (order s)))) = h ∙
    (ap (λ (d : Board). next_in (list_of d.lists x) x) k.board ∙ rw seat at t.next) in
    rw (z, u) (record {
      all = length-set l.seats y.class at ∙ i.all;
      seats = λ d r. elim (eqb d y.class)
          as (λ v. eqb d y.class ≡ v → get_or (set l.seats y.class at) d None ≡ first_of (seats_of s.notices
          (of_class d (drop (l.listed + 1) (order s))))) [
            | true ↦ λ v. let same : d ≡ y.class = grind (arith, nat_tests, v) in
                rw same (get_or-set_same l.seats y.class at None (omega (
                  arith,
                  i.all,
                  event-below s.rules y.class c,
                  k.classes,
                )) ∙ next)
            | false ↦ λ v. let apart : ¬ (d ≡ y.class) = λ f. absurd (grind (arith, nat_tests, v, f)) in
                let other : eqb y.class d ≡ false = grind (arith, nat_tests, v) in
                get_or-set_other l.seats y.class d at None apart ∙ (i.seats d r ∙
                ap (λ (es : List Pending). first_of (seats_of s.notices es)) (ap (of_class d) now ∙ rw other refl))
          ] refl;
    })

-- a listing begins at the first of each class
pub listing-begins : (s : AgendaState) (seats : List (Option ℕ)) → length seats ≡ MOST_CLASSES → ((c : ℕ) →
    c < length s.rules → get_or seats c None ≡ first_of (class_seats s c)) →
    IsListing s (record { seats = seats; listed = 0 })
listing-begins s seats a h = record { all = a; seats = h }

-- the first seats of the classes below a number, and one more
pub seats-more : (seats : List (Option ℕ)) (n : ℕ) (at : Option ℕ) (f : ℕ → List ℕ) → n < length seats →
    ((c : ℕ) → c < n → get_or seats c None ≡ first_of (f c)) → at ≡ first_of (f n) → (c : ℕ) → c < n + 1 →
    get_or (set seats n at) c None ≡ first_of (f c)
seats-more seats n at f h k e c l = elim (eqb c n)
    as (λ t. eqb c n ≡ t → get_or (set seats n at) c None ≡ first_of (f c)) [
      | true ↦ λ t. let same : c ≡ n = grind (arith, nat_tests, t) in rw same (get_or-set_same seats n at None h ∙ e)
      | false ↦ λ t. let apart : ¬ (c ≡ n) = λ g. absurd (grind (arith, nat_tests, t, g)) in
          let below : c < n = grind (arith, nat_tests, t, l) in get_or-set_other seats n c at None apart ∙ k c below
    ] refl

-- the classes after this one keep none
pub seats-behind : (seats : List (Option ℕ)) (n : ℕ) (at : Option ℕ) → ((c : ℕ) → n ≤ c →
    get_or seats c None ≡ None) → (c : ℕ) → n + 1 ≤ c → get_or (set seats n at) c None ≡ None
seats-behind seats n at k c l =
    let apart : ¬ (c ≡ n) = λ g. absurd (omega (arith, g, l)) in
    get_or-set_other seats n c at None apart ∙ k c (omega (arith, l))

-- no notice is of a class that is no event class
none-of_class : (rules : List Rule) (c : ℕ) (es : List Pending) → Each (λ e. is_event_class rules e.class ≡ true) es →
    is_event_class rules c ≡ false → of_class c es ≡ []
none-of_class rules c [] h k = refl
none-of_class rules c (e ∷ es) h k = elim (eqb e.class c)
    as (λ t. eqb e.class c ≡ t → cond t (e ∷ of_class c es) (of_class c es) ≡ []) [
      | true ↦ λ t. let same : e.class ≡ c = grind (arith, nat_tests, t) in
          let event = rw same at h.0 in absurd (cc)
      | false ↦ λ t. none-of_class rules c es h.1 k
    ] refl

pub seats-same : (rows : List Row) (s : AgendaState) (b : Board) (seats : List (Option ℕ)) (n : ℕ) →
    IsAgenda rows s b → is_event_class s.rules n ≡ false → ((c : ℕ) → c < n →
    get_or seats c None ≡ first_of (class_seats s c)) → ((c : ℕ) → n ≤ c → get_or seats c None ≡ None) → (c : ℕ) →
    c < n + 1 → get_or seats c None ≡ first_of (class_seats s c)
seats-same rows s b seats n k e h a c l = elim (eqb c n)
    as (λ t. eqb c n ≡ t → get_or seats c None ≡ first_of (class_seats s c)) [
      | true ↦ λ t. let same : c ≡ n = grind (arith, nat_tests, t) in
          let none = none-of_class s.rules n (order s) (Each-order (λ f. is_event_class s.rules f.class ≡ true) s (told
          rows s b k) (event-each rows s b k)) e in
          rw same (a n (omega arith) ∙ sym (ap (λ (es : List Pending). first_of (seats_of s.notices es)) none))
      | false ↦ λ t. let below : c < n = grind (arith, nat_tests, t, l) in h c below
    ] refl

pub none-at : (n c : ℕ) → get_or {A = Option ℕ} (replicate n None) c None ≡ None
none-at zero c = refl
none-at (suc n) zero = refl
none-at (suc n) (suc c) = none-at n c

-- a listing that has listed nothing: the notices that it has left are the whole order
abbrev pub nothing_listed : Listing
nothing_listed = record { seats = []; listed = 0 }

pub first-among : (rows : List Row) (s : AgendaState) (b : Board) (c : ℕ) (at : Option ℕ) → IsAgenda rows s b →
    at ≡ first_of (class_seats s c) → IsFirstOf s (order s) c at
first-among rows s b c at k h = first-left rows s b nothing_listed c at k h

-- a class more, and one that is no event class
pub least-more : (rows : List Row) (s : AgendaState) (b : Board) (c : ℕ) (at own new : Option ℕ) → IsAgenda rows s b →
    IsFirst s (order s) c at → IsFirstOf s (order s) c own →
    pending_on s new ≡ earlier (is_before s.rules) (pending_on s at) (pending_on s own) → IsTakenIfSome s new →
    IsFirst s (order s) (c + 1) new
least-more rows s b c at own new k f o e t = first-more rows s b nothing_listed c at own new k f o e t

earlier-none : (lt : Pending → Pending → Bool) (o : Option Pending) → o ≡ earlier lt o None
earlier-none lt None = refl
earlier-none lt (Some e) = refl

pub least-same : (rows : List Row) (s : AgendaState) (b : Board) (c : ℕ) (at : Option ℕ) → IsAgenda rows s b →
    is_event_class s.rules c ≡ false → IsFirst s (order s) c at → IsFirst s (order s) (c + 1) at
least-same rows s b c at k e f =
    let none : of_class c (order s) ≡ [] = none-of_class s.rules c (order s) (Each-order (λ g. is_event_class s.rules
    g.class ≡ true) s (told rows s b k) (event-each rows s b k)) e in
    let own : IsFirstOf s (order s) c None = record { first = sym (ap first none); taken = tt } in
    least-more rows s b c at None at k f own (earlier-none (is_before s.rules) (pending_on s at)) f.taken

pub least-all : (rows : List Row) (s : AgendaState) (b : Board) (c : ℕ) (at : Option ℕ) → IsAgenda rows s b →
    c ≡ length s.rules → IsFirst s (order s) c at → pending_on s at ≡ least s.rules s.agenda.pending
least-all rows s b c at k h f = first-all rows s b nothing_listed c at k h f ∙ least-at rows s b k

-- a pending notice that is found has the reference that it was looked for by
found-has : (es : List Pending) (n : ℕ) (e : Pending) → pending_at es n ≡ Some e → e.notice ≡ n
found-has [] n e h = absurd (cc)
found-has (f ∷ fs) n e h = elim (eqb f.notice n)
    as (λ t. eqb f.notice n ≡ t → cond t (Some f) (pending_at fs n) ≡ Some e → e.notice ≡ n) [
      | true ↦ λ t g. let one : f ≡ e = cc in rw (← one) (grind (arith, nat_tests, t))
      | false ↦ λ t g. found-has fs n e g
    ] refl h

some-notice : (es : List Pending) (n : ℕ) (o : Option Pending) → IsSome (pending_at es n) → pending_at es n ≡ o →
    Some n ≡ option_map (λ e. e.notice) o
some-notice es n None there is = let none : false ≡ true = rw is at there in absurd (cc)
some-notice es n (Some e) there is = ap Some (sym (found-has es n e is))

-- the notice of a seat that has the least
pub least-notice : (s : AgendaState) (x : ℕ) (o : Option Pending) → IsTaken s x → pending_on s (Some x) ≡ o →
    Some (notice_on s x) ≡ option_map (λ e. e.notice) o
least-notice s x o t is = some-notice s.agenda.pending (notice_on s x) o t.pending is
