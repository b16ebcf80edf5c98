-- The result of the search in the index of a class's notices.
use Rattle.std.proofs.Common.{◌≡◌, ℕ, ◌<◌, ◌≤◌, ◌++◌, ◌||◌, Bool, true, false, cond, eqb, List, [], ◌∷◌, length}
use Rattle.std.proofs.Common.{get_or}
use Rattle.std.proofs.Common.{Option, Some, refl, sym, ap, ◌∙◌, arith, subst, ◌-◌}
use Rattle.std.proofs.Common.{None, IfSome}
use Rattle.std.proofs.Math.ListN.{set, length-set}
use Rattle.std.proofs.lemmas.List.{get_or_default, get_or-set_same, get_or-set_other}
use Rattle.std.proofs.lemmas.Bool.Decides.{nat_tests}
use Rattle.std.specs.List.{list_all}
use Rattle.ss_links.specs.declared.board.Place.{Place}
use Rattle.ss_links.specs.Board.{Board, IsSound, list_at, head_of, after_relink, after_unlink}
use Rattle.ss_links.specs.Seats.{has, times_in, last_of, list_without, put_at}
use Rattle.ss_links.proofs.SeatLaws.{without-between}
use Rattle.ss_links.proofs.BoardLaws.{once-list_at, lists-unlinked}
use Rattle.ss_index.specs.Filing.{seats_passed, rest, seats_filed, IsDivided, EachSeat}
use Rattle.ss_index.proofs.FilingLaws.{seats_filed-put_at}
use Rattle.ss_index.proofs.OrderLaws.{seats_filed-first}
use Rattle.ss_events.specs.declared.pending_notice.PendingNotice.{PendingNotice}
use Rattle.ss_events.specs.declared.pending_notice.Row.{Row}
use Rattle.ss_events.specs.Agenda.{Pending, pending_at, is_before, of_class}
use Rattle.ss_events.specs.Rules.{Rule, is_event_class, event_classes, event_number}
use Rattle.ss_events.specs.State.{AgendaState, Each, IsPending, seat_in, seats_of, order, board_of}
use Rattle.ss_events.specs.Places.{notices_passed, rank_place, notice_on}
use Rattle.ss_events.specs.Views.{notice_of}
use Rattle.ss_events.specs.Rows.{notices_from, IsAgenda}
use Rattle.ss_events.specs.Changes.{CanPend}
use Rattle.ss_events.specs.Indexes.{IsOfClass, IsComparable, comes_before, is_before_some, IsIndex, IsFiled, IsWithout}
use Rattle.ss_events.specs.Indexes.{AreIndexes}
use Rattle.ss_events.proofs.OrderLaws.{IsOrder, AreBehind, IsSorted, Each-map, Each-of_class, IsSorted-of_class}
use Rattle.ss_events.proofs.OrderLaws.{behind-trans}
use Rattle.ss_events.proofs.RowLaws.{pending_at-each}
use Rattle.ss_events.proofs.BeforeLaws.{IsKeyed, IsOrder-is_before}
use Rattle.ss_events.proofs.StateLaws.{seat_in-below, seat_in-notice}
use Rattle.ss_events.proofs.EventLaws.{list_at-by, event-at}
use Rattle.ss_events.proofs.BoardOf.{class_seats, Each-order, AreKeyed-order, IsSorted-order, pending_in-class}
use Rattle.ss_events.proofs.Stands.{told, sound_board, Each-pending_at, seats_of-append, once-between, each-between}
use Rattle.ss_events.proofs.Stands.{length-lists}
use Rattle.ss_events.proofs.PutAndTakeOut.{pending-seat, taken-head}
use Rattle.ss_events.proofs.Predecessors.{between}

Each-both : (P Q : Pending → Type 0) (es : List Pending) → Each P es → Each Q es → Each (λ e. P e × Q e) es
Each-both P Q [] h k = tt
Each-both P Q (e ∷ es) h k = ((h.0, k.0), Each-both P Q es h.1 k.1)

-- a test of seats that says of each notice's seat whether a notice comes before that notice
abbrev Agrees : (ℕ → Bool) → (Pending → Pending → Bool) → Pending → List ℕ → List Pending → Type 0
Agrees p lt e ns es = Each (λ f. p (seat_in ns f.notice) ≡ lt e f) es

pub seats_passed-seats : (ns : List ℕ) (p : ℕ → Bool) (lt : Pending → Pending → Bool) (e : Pending)
    (es : List Pending) → Agrees p lt e ns es → seats_passed p (seats_of ns es) ≡ seats_of ns (notices_passed lt e es)
seats_passed-seats ns p lt e [] a = refl
seats_passed-seats ns p lt e (f ∷ fs) a = rw a.0 (elim (lt e f)
    as (λ t. cond t [] (seat_in ns f.notice ∷ seats_passed p (seats_of ns fs)) ≡ seats_of ns (cond t [] (f ∷ notices_passed lt
    e fs))) [
      | true ↦ refl
      | false ↦ ap (λ (l : List ℕ). seat_in ns f.notice ∷ l) (seats_passed-seats ns p lt e fs a.1)
    ])

all-behind : (ns : List ℕ) (p : ℕ → Bool) (lt : Pending → Pending → Bool) (e : Pending) (es : List Pending) →
    Agrees p lt e ns es → AreBehind lt e es → list_all p (seats_of ns es) ≡ true
all-behind ns p lt e [] a b = refl
all-behind ns p lt e (f ∷ fs) a b = rw (a.0, b.0) (all-behind ns p lt e fs a.1 b.1)

-- sorted notices are divided at each place
pub divided-seats : (P : Pending → Type 0) (ns : List ℕ) (p : ℕ → Bool) (lt : Pending → Pending → Bool) → IsOrder P lt →
    (e : Pending) (es : List Pending) → P e → Each P es → IsSorted lt es → Agrees p lt e ns es →
    list_all p (rest p (seats_of ns es)) ≡ true
divided-seats P ns p lt o e [] k q s a = refl
divided-seats P ns p lt o e (f ∷ fs) k q s a = rw a.0 (elim (lt e f)
    as (λ t. lt e f ≡ t → list_all p (cond t (seat_in ns f.notice ∷ seats_of ns fs) (rest p (seats_of ns fs))) ≡ true) [
      | true ↦ λ t. all-behind ns p lt e (f ∷ fs) a (t, behind-trans P lt o e f fs k q.0 q.1 t s.0)
      | false ↦ λ t. divided-seats P ns p lt o e fs k q.1 s.1 a.1
    ] refl)

-- a seat is filed between those that come before it and those that it comes before
seats_filed-seats : (ns : List ℕ) (p : ℕ → Bool) (x : ℕ) (lt : Pending → Pending → Bool) (e : Pending)
    (a b : List Pending) →
    Agrees p lt e ns a → Agrees p lt e ns b → Each (λ f. lt e f ≡ false) a → AreBehind lt e b →
    seats_of ns a ++ x ∷ seats_of ns b ≡ seats_filed p x (seats_of ns a ++ seats_of ns b)
seats_filed-seats ns p x lt e [] b a c n h = sym (seats_filed-first p x (seats_of ns b) (all-behind ns p lt e b c h))
seats_filed-seats ns p x lt e (f ∷ fs) b a c n h =
    rw (a.0, n.0) (ap (λ (l : List ℕ). seat_in ns f.notice ∷ l) (seats_filed-seats ns p x lt e fs b a.1 c n.1 h))

-- a property of the seat of each notice is a property of each of their seats
each-seat : (P : ℕ → Type 0) (ns : List ℕ) (es : List Pending) → Each (λ f. P (seat_in ns f.notice)) es →
    EachSeat P (seats_of ns es)
each-seat P ns [] a y h = absurd (cc)
each-seat P ns (f ∷ fs) a y h = elim (eqb (seat_in ns f.notice) y)
    as (λ t. eqb (seat_in ns f.notice) y ≡ t → (t || has (seats_of ns fs) y) ≡ true → P y) [
      | true ↦ λ t k. let same : seat_in ns f.notice ≡ y = grind (arith, nat_tests, t) in rw (← same) a.0
      | false ↦ λ t k. each-seat P ns fs a.1 y k
    ] refl h

-- the facts known about each pending notice's seat
abbrev Known : AgendaState → Pending → Pending → Type 0
Known s e f = IsComparable s.rules s.agenda.pending s.notices e (seat_in s.notices f.notice)
    × (comes_before s.rules s.agenda.pending s.notices e (seat_in s.notices f.notice) ≡ is_before s.rules e f)

known-pending : (rows : List Row) (s : AgendaState) (b : Board) (e : Pending) → IsAgenda rows s b →
    IsOfClass s.rules e → Each (Known s e) s.agenda.pending
known-pending rows s b e k own =
    let t = told rows s b k in
    Each-map (λ f. IsPending s.rules s.notices s.agenda.next_filing f × (pending_at s.agenda.pending f.notice ≡ Some f))
    (Known s e) one s.agenda.pending (Each-both (IsPending s.rules s.notices s.agenda.next_filing) (λ f. pending_at
    s.agenda.pending f.notice ≡ Some f) s.agenda.pending k.pending (Each-pending_at s.agenda.pending t.noted))
  where
    one : (f : Pending) → IsPending s.rules s.notices s.agenda.next_filing f × (pending_at s.agenda.pending f.notice ≡
        Some f) → Known s e f
    one f h =
        let on : notice_on s (seat_in s.notices f.notice) ≡ f.notice = seat_in-notice s.notices f.notice 0 h.0.seat in
        let above = (k.seated f.notice h.0.seat).0 in
        let there : pending_at s.agenda.pending (notice_on s (seat_in s.notices f.notice)) ≡ Some f = ap (pending_at
        s.agenda.pending) on ∙ h.1 in (
          record {
            ranked = k.ranked;
            own = own;
            made = seat_in-below s.notices f.notice h.0.seat;
            above = rw on above;
            other = f;
            there = there;
            fits = (h.0.well.class, h.0.well.keys);
          },
          ap (is_before_some s.rules e) there,
        )

-- so of those of a class
pub known-class : (rows : List Row) (s : AgendaState) (b : Board) (e : Pending) (c : ℕ) → IsAgenda rows s b →
    IsOfClass s.rules e → Each (Known s e) (of_class c (order s))
known-class rows s b e c k own =
    Each-of_class (Known s e) c (order s) (Each-order (Known s e) s (told rows s b k) (known-pending rows s b e k own))

abbrev pub behind_in : AgendaState → Pending → ℕ → Bool
behind_in s e = comes_before s.rules s.agenda.pending s.notices e

agrees-class : (rows : List Row) (s : AgendaState) (b : Board) (e : Pending) (c : ℕ) → IsAgenda rows s b →
    IsOfClass s.rules e → Agrees (behind_in s e) (is_before s.rules) e s.notices (of_class c (order s))
agrees-class rows s b e c k own = Each-map (Known s e) (λ f. behind_in s e (seat_in s.notices f.notice) ≡ is_before
    s.rules e f) (λ f h. h.1) (of_class c (order s)) (known-class rows s b e c k own)

-- the list of a class's head
pub head-list : (rows : List Row) (s : AgendaState) (b : Board) (c : ℕ) → IsAgenda rows s b →
    is_event_class s.rules c ≡ true → list_at b.lists (event_number s.rules c) ≡ class_seats s c
head-list rows s b c k own = ap (λ (d : Board). list_at d.lists (event_number s.rules c)) k.board ∙
    list_at-by (class_seats s) s.rules c own

-- the requirements of `put`, and the place at which it puts
pub record IsRanked (rules : List Rule) (es : List Pending) (ns : List ℕ) (e : Pending) (l : List ℕ) (o : Option ℕ) :
    Type 0 where
  -- the seats can be compared
  pub known : EachSeat (IsComparable rules es ns e) l
  -- they are divided
  pub divided : IsDivided (comes_before rules es ns e) l
  -- the seat before the place
  pub before : last_of (seats_passed (comes_before rules es ns e) l) ≡ o

ranked-class : (rows : List Row) (s : AgendaState) (b : Board) (e : Pending) (l : List ℕ) → IsAgenda rows s b →
    IsOfClass s.rules e → l ≡ class_seats s e.class → IsRanked s.rules s.agenda.pending s.notices e l (rank_place s
    e).before
ranked-class rows s b e l k own h =
    let t = told rows s b k in
    let es = of_class e.class (order s) in
    let agrees = agrees-class rows s b e e.class k own in
    let sorted = IsSorted-of_class (is_before s.rules) e.class (order s) (IsSorted-order s t) in
    let keyed = Each-of_class (IsKeyed s.rules) e.class (order s) (AreKeyed-order s t) in
    rw h (record {
      known = each-seat (IsComparable s.rules s.agenda.pending s.notices e) s.notices es (Each-map (Known s e) (λ f.
          IsComparable s.rules s.agenda.pending s.notices e (seat_in s.notices f.notice)) (λ f h. h.0) es (known-class
          rows s b e e.class k own));
      divided = divided-seats (IsKeyed s.rules) s.notices (behind_in s e) (is_before s.rules) (IsOrder-is_before s.rules
          t.ranked) e es own keyed sorted agrees;
      before = ap last_of (seats_passed-seats s.notices (behind_in s e) (is_before s.rules) e es agrees);
    })

-- the head of a class within the lists
pub head-within : (rows : List Row) (s t : AgendaState) (b : Board) (h : ℕ) → s ≡ t → IsAgenda rows s b →
    h < length (event_classes t.rules) → h < length b.lists
head-within rows s t b h v k w = rw (length-lists rows s b k, v) w

-- the head of a notice's class
pub class-head : (t : AgendaState) (n h : ℕ) (x : PendingNotice) → CanPend t (notice_of n x) →
    h ≡ event_number t.rules x.class → h < length (event_classes t.rules)
class-head t n h x p d = rw d (event-at t.rules x.class p.kept.well.class).0

-- so of a notice that is put in
pub put_in-ranked : (rows rows1 : List Row) (s t : AgendaState) (b : Board) (n h : ℕ) (x : PendingNotice)
    (rules : List Rule) (ns : List ℕ) → s ≡ t → IsAgenda rows s b → CanPend t (notice_of n x) → rows1 ≡ rows →
    h ≡ event_number t.rules x.class → rules ≡ s.rules → ns ≡ s.notices → IsRanked rules (notices_from 1 rows1) ns
    (notice_of 0 x) (list_at b.lists h) (rank_place s (notice_of 0 x)).before
put_in-ranked rows rows1 s t b n h x rules ns v k p w d u z =
    let can = subst (λ (r : AgendaState). CanPend r (notice_of n x)) (sym v) p in
    let read : notices_from 1 rows1 ≡ s.agenda.pending = ap (notices_from 1) w ∙ sym k.read in
    let number : h ≡ event_number s.rules x.class = d ∙ ap (λ (r : AgendaState). event_number r.rules x.class) (sym v) in
    let own : IsOfClass s.rules (notice_of 0 x) = (can.kept.well.class, can.kept.well.keys) in
    let list : list_at b.lists h ≡ class_seats s x.class = ap (list_at b.lists) number ∙ head-list rows s b x.class k
    can.kept.well.class in
    rw (u, read, z) (ranked-class rows s b (notice_of 0 x) (list_at b.lists h) k own list)

abbrev place_at : ℕ → Option ℕ → Place
place_at head before = record { head = head; before = before }

pub place-is : (s t : AgendaState) (e : Pending) (h : ℕ) (o : Option ℕ) → s ≡ t → h ≡ event_number t.rules e.class →
    o ≡ (rank_place s e).before → place_at h o ≡ rank_place s e
place-is s t e h o v d q = rw (d, q, v) refl

-- an index of a head, among those of the others
index-set : (ixs : List (Option (List ℕ))) (ls ms : List (List ℕ)) (h : ℕ) (new : Option (List ℕ)) → AreIndexes ixs ls →
    h < length ls → length ms ≡ length ls → IsIndex new (list_at ms h) →
    ((i : ℕ) → ¬ (i ≡ h) → list_at ms i ≡ list_at ls i) → AreIndexes (set ixs h new) ms
index-set ixs ls ms h new k within long own others = record {
  count = length-set ixs h new ∙ (k.count ∙ sym long);
  kept = λ i. elim (eqb i h) as (λ t. eqb i h ≡ t → IsIndex (get_or (set ixs h new) i None) (list_at ms i)) [
    | true ↦ λ t.
        let same : i ≡ h = grind (arith, nat_tests, t) in
        let there : h < length ixs = omega (arith, within, k.count) in
        rw (same, get_or-set_same ixs h new None there) own
    | false ↦ λ t.
        let apart : ¬ (i ≡ h) = λ e. absurd (grind (arith, nat_tests, t, e)) in
        rw (get_or-set_other ixs h i new None apart, others i apart) (k.kept i)
  ] refl;
}

-- the index of a head given up, or made
pub index-changed : (ixs : List (Option (List ℕ))) (ls : List (List ℕ)) (h : ℕ) (new : Option (List ℕ)) →
    AreIndexes ixs ls → h < length ls → IsIndex new (list_at ls h) → AreIndexes (set ixs h new) ls
index-changed ixs ls h new k within own = index-set ixs ls ls h new k within refl own (λ i a. refl)

-- the same lists
pub index-same : (ixs : List (Option (List ℕ))) (ls ms : List (List ℕ)) → AreIndexes ixs ls → ms ≡ ls → AreIndexes ixs ms
index-same ixs ls ms k e = rw e k

-- an index in which a seat is put is the list of the board on which it is linked
pub index-put : (ixs : List (Option (List ℕ))) (b c : Board) (p : ℕ → Bool) (h x : ℕ) (node : Option ℕ)
    (new : Option (List ℕ)) (o : Option ℕ) → AreIndexes ixs b.lists → IsSound b → h < length b.lists →
    o ≡ last_of (seats_passed p (list_at b.lists h)) → c ≡ after_relink b x (place_at h o) →
    IsFiled p node (list_at b.lists h) new → IfSome node (λ y. y ≡ x) → AreIndexes (set ixs h new) c.lists
index-put ixs b c p h x node new o k sound within q r f u =
    let l = list_at b.lists h in
    let lists : c.lists ≡ set b.lists h (put_at l o x) = ap (λ (d : Board). d.lists) r in
    let long : length c.lists ≡ length b.lists = ap length lists ∙ length-set b.lists h (put_at l o x) in
    let own : list_at c.lists h ≡ put_at l o x = ap (λ (ls : List (List ℕ)). list_at ls h) lists ∙ get_or-set_same b.lists
    h (put_at l o x) [] within in
    index-set ixs b.lists c.lists h new k within long (λ m e.
    let y = (f m e).0 in
    let same : y ≡ x = node-is node y (f m e).1 u in
    (f m e).2 ∙ (ap (λ (z : ℕ). seats_filed p z l) same ∙ (seats_filed-put_at p x l (λ z. once-list_at b sound h z) ∙
    (ap (λ (w : Option ℕ). put_at l w x) (sym q) ∙ sym own)))) (λ i a. ap (λ (ls : List (List ℕ)). list_at ls i) lists ∙
    get_or-set_other b.lists h i (put_at l o x) [] a)
  where
    node-is : (node : Option ℕ) (y : ℕ) → node ≡ Some y → IfSome node (λ z. z ≡ x) → y ≡ x
    node-is None y e v = absurd (cc)
    node-is (Some z) y e v = let same : z ≡ y = cc in sym same ∙ v

-- parts of sorted notices around one of them
each-front : (P : Pending → Type 0) (a : List Pending) (e : Pending) (b : List Pending) → Each P (a ++ e ∷ b) → Each P a
each-front P [] e b h = tt
each-front P (f ∷ fs) e b h = (h.0, each-front P fs e b h.1)

each-rear : (P : Pending → Type 0) (a : List Pending) (e : Pending) (b : List Pending) → Each P (a ++ e ∷ b) → Each P b
each-rear P [] e b h = h.1
each-rear P (f ∷ fs) e b h = each-rear P fs e b h.1

each-append : (P : Pending → Type 0) (a b : List Pending) → Each P a → Each P b → Each P (a ++ b)
each-append P [] b h k = k
each-append P (f ∷ fs) b h k = (h.0, each-append P fs b h.1 k)

sorted-front : (P : Pending → Type 0) (lt : Pending → Pending → Bool) → IsOrder P lt → (e : Pending) (a b : List Pending)
    → Each P (a ++ e ∷ b) → IsSorted lt (a ++ e ∷ b) → Each (λ f. lt e f ≡ false) a
sorted-front P lt o e [] b p s = tt
sorted-front P lt o e (f ∷ fs) b p s = (
  o.asymmetric f e p.0 (each-between P fs b e p.1) (each-between (λ g. lt f g ≡ true) fs b e s.0),
  sorted-front P lt o e fs b p.1 s.1,
)

sorted-rear : (lt : Pending → Pending → Bool) (e : Pending) (a b : List Pending) → IsSorted lt (a ++ e ∷ b) → AreBehind
    lt e b
sorted-rear lt e [] b s = s.0
sorted-rear lt e (f ∷ fs) b s = sorted-rear lt e fs b s.1

-- such parts are divided
divided-parts : (ns : List ℕ) (p : ℕ → Bool) (lt : Pending → Pending → Bool) (e : Pending) (a b : List Pending) →
    Agrees p lt e ns a → Agrees p lt e ns b → Each (λ f. lt e f ≡ false) a → AreBehind lt e b →
    list_all p (rest p (seats_of ns a ++ seats_of ns b)) ≡ true
divided-parts ns p lt e [] [] a c n h = refl
divided-parts ns p lt e [] (g ∷ gs) a c n h = rw (c.0, h.0) (all-behind ns p lt e (g ∷ gs) c h)
divided-parts ns p lt e (f ∷ fs) b a c n h = rw (a.0, n.0) (divided-parts ns p lt e fs b a.1 c n.1 h)

-- the requirements of `take` on a seat
pub record IsRemovable (rules : List Rule) (es : List Pending) (ns : List ℕ) (e : Pending) (x : ℕ) (l : List ℕ) : Type 0
  where
    -- the others can be compared
    pub known : EachSeat (IsComparable rules es ns e) (list_without l x)
    -- they are divided
    pub divided : IsDivided (comes_before rules es ns e) (list_without l x)
    -- the seat is at the place at which it would be put among them
    pub placed : l ≡ seats_filed (comes_before rules es ns e) x (list_without l x)

removable : (rows : List Row) (s : AgendaState) (b : Board) (n : ℕ) (y : PendingNotice) (x : ℕ) (l : List ℕ) →
    IsAgenda rows s b → pending_at s.agenda.pending n ≡ Some (notice_of n y) → x ≡ seat_in s.notices n →
    l ≡ class_seats s y.class → IsRemovable s.rules s.agenda.pending s.notices (notice_of 0 y) x l
removable rows s b n y x l k h i j =
    let e = notice_of n y in
    let z = notice_of 0 y in
    let p = behind_in s z in
    let lt = is_before s.rules in
    let t = told rows s b k in
    let es = of_class y.class (order s) in
    let has_class = (pending-seat rows s b n e k h).1 in
    let is = (pending_at-each (IsPending s.rules s.notices s.agenda.next_filing) s.agenda.pending n e k.pending h).0 in
    let own : IsOfClass s.rules z = (is.well.class, is.well.keys) in
    let r = between es n e (pending_in-class s n e t h) in
    let known = rw r.whole at (known-class rows s b z y.class k own) in
    let agrees = rw r.whole at (agrees-class rows s b z y.class k own) in
    let sorted = rw r.whole at (IsSorted-of_class lt y.class (order s) (IsSorted-order s t)) in
    let keyed = rw r.whole at (Each-of_class (IsKeyed s.rules) y.class (order s) (AreKeyed-order s t)) in
    let front = seats_of s.notices r.front in
    let rear = seats_of s.notices r.rear in
    let whole : l ≡ front ++ x ∷ rear = j ∙ (ap (seats_of s.notices) r.whole ∙ (seats_of-append s.notices r.front (e ∷
    r.rear) ∙ ap (λ (m : ℕ). front ++ m ∷ rear) (sym i))) in
    let here : list_at (board_of s).lists (event_number s.rules y.class) ≡ l = list_at-by (class_seats s) s.rules y.class
    has_class ∙ sym j in
    let once : times_in (front ++ x ∷ rear) x ≤ 1 = rw (here, whole) at (once-list_at (board_of s) (sound_board rows s b
    k) (event_number s.rules y.class) x) in
    let apart = once-between front rear x once in
    let others : list_without l x ≡ front ++ rear = ap (λ (m : List ℕ). list_without m x) whole ∙ without-between front
    rear x apart.0 apart.1 in
    let agrees_front = each-front (λ f. p (seat_in s.notices f.notice) ≡ lt z f) r.front e r.rear agrees in
    let agrees_rear = each-rear (λ f. p (seat_in s.notices f.notice) ≡ lt z f) r.front e r.rear agrees in
    let not_behind = sorted-front (IsKeyed s.rules) lt (IsOrder-is_before s.rules t.ranked) e r.front r.rear keyed sorted
    in
    let are_behind = sorted-rear lt e r.front r.rear sorted in
    let Q : Pending → Type 0 = λ f. IsComparable s.rules s.agenda.pending s.notices z (seat_in s.notices f.notice) in
    let parts = each-append Q r.front r.rear (Each-map (Known s z) Q (λ f m. m.0) r.front (each-front (Known s z) r.front
    e r.rear known)) (Each-map (Known s z) Q (λ f m. m.0) r.rear (each-rear (Known s z) r.front e r.rear known)) in
    record {
      known = rw (others, ← seats_of-append s.notices r.front r.rear) (each-seat (IsComparable s.rules s.agenda.pending
          s.notices z) s.notices (r.front ++ r.rear) parts);
      divided = rw others (divided-parts s.notices p lt z r.front r.rear agrees_front agrees_rear not_behind are_behind);
      placed = whole ∙ (seats_filed-seats s.notices p x lt z r.front r.rear agrees_front agrees_rear not_behind are_behind ∙ ap
          (seats_filed p x) (sym others));
    }

-- the head of a pending notice's seat
record IsHeaded (s : AgendaState) (b : Board) (n seat h : ℕ) (x : PendingNotice) : Type 0 where
  seat_is : seat ≡ seat_in s.notices n
  number : h ≡ event_number s.rules x.class
  within : h < length b.lists
  class : is_event_class s.rules x.class ≡ true

some-same : (x y : ℕ) (o : Option ℕ) → o ≡ Some x → o ≡ Some y → x ≡ y
some-same x y o h k = cc

headed : (rows : List Row) (s : AgendaState) (b : Board) (n seat h : ℕ) (q : Row) (x : PendingNotice) → IsAgenda rows s b
    → pending_at s.agenda.pending n ≡ Some (notice_of n x) → q ≡ get_or rows (n - 1) q →
    q.seat ≡ Some seat → head_of b.lists seat ≡ Some h → IsHeaded s b n seat h x
headed rows s b n seat h q x k there i j d =
    let t = taken-head rows s b n seat q x k there i j in
    let class = (pending-seat rows s b n (notice_of n x) k there).1 in
    let number = some-same h (event_number s.rules x.class) (head_of b.lists seat) d t.1 in
    record {
      seat_is = t.0;
      number = number;
      within = rw (length-lists rows s b k, number) (event-at s.rules x.class class).0;
      class = class;
    }

pub headed-within : (rows : List Row) (s : AgendaState) (b : Board) (n seat h : ℕ) (q : Row) (x : PendingNotice) →
    IsAgenda rows s b → pending_at s.agenda.pending n ≡ Some (notice_of n x) →
    q ≡ get_or rows (n - 1) q → q.seat ≡ Some seat → head_of b.lists seat ≡ Some h → h < length b.lists
headed-within rows s b n seat h q x k there i j d = (headed rows s b n seat h q x k there i j d).within

-- so of a notice that is taken out
pub take_out-ranked : (rows : List Row) (s : AgendaState) (b : Board) (n seat h : ℕ) (q : Row) (x : PendingNotice)
    (rules : List Rule) (es : List Pending) (ns : List ℕ) → IsAgenda rows s b →
    pending_at s.agenda.pending n ≡ Some (notice_of n x) → q ≡ get_or rows (n - 1) q → q.seat ≡ Some seat →
    head_of b.lists seat ≡ Some h → rules ≡ s.rules → es ≡ s.agenda.pending →
    ns ≡ s.notices → IsRemovable rules es ns (notice_of 0 x) seat (list_at b.lists h)
take_out-ranked rows s b n seat h q x rules es ns k there i j d u v z =
    let t = headed rows s b n seat h q x k there i j d in
    let list : list_at b.lists h ≡ class_seats s x.class = ap (list_at b.lists) t.number ∙ head-list rows s b x.class k
    t.class in
    rw (u, v, z) (removable rows s b n x seat (list_at b.lists h) k there t.seat_is list)

-- an index from which a seat is taken is the list of the board from which it is unlinked
pub index-taken : (ixs : List (Option (List ℕ))) (b c : Board) (h x : ℕ) (old new : Option (List ℕ)) →
    AreIndexes ixs b.lists → IsSound b → h < length b.lists → old ≡ get_or ixs h old → head_of b.lists x ≡ Some h →
    c ≡ after_unlink b x → IsWithout x old new → AreIndexes (set ixs h new) c.lists
index-taken ixs b c h x old new k sound within i q r f =
    let l = list_at b.lists h in
    let there : h < length ixs = omega (arith, within, k.count) in
    let is : get_or ixs h None ≡ old = get_or_default ixs h None old there ∙ sym i in
    let lists : c.lists ≡ set b.lists h (list_without l x) = ap (λ (d : Board). d.lists) r ∙ lists-unlinked b x h sound q in
    let long : length c.lists ≡ length b.lists = ap length lists ∙ length-set b.lists h (list_without l x) in
    let own : list_at c.lists h ≡ list_without l x = ap (λ (ls : List (List ℕ)). list_at ls h) lists ∙ get_or-set_same
    b.lists h (list_without l x) [] within in
    index-set ixs b.lists c.lists h new k within long (left old f (λ m e. k.kept h m (is ∙ e)) own)
    (λ j a. ap (λ (ls : List (List ℕ)). list_at ls j) lists ∙ get_or-set_other b.lists h j (list_without l x) [] a)
  where
    left : (old : Option (List ℕ)) → IsWithout x old new → IsIndex old (list_at b.lists h) →
        list_at c.lists h ≡ list_without (list_at b.lists h) x → IsIndex new (list_at c.lists h)
    left None f g own m e = absurd (cc)
    left (Some l) f g own m e =
        let some : Some (list_without l x) ≡ Some m = sym f ∙ e in
        let same : list_without l x ≡ m = cc in
        sym same ∙ (ap (λ (z : List ℕ). list_without z x) (g l refl) ∙ sym own)

-- the index of the head of a seat that is taken out
pub index-kept : (ixs : List (Option (List ℕ))) (ls : List (List ℕ)) (h : ℕ) (old : Option (List ℕ)) →
    AreIndexes ixs ls → h < length ls → old ≡ get_or ixs h old → IsIndex old (list_at ls h)
index-kept ixs ls h old k within i =
    let there : h < length ixs = omega (arith, within, k.count) in
    let is : get_or ixs h None ≡ old = get_or_default ixs h None old there ∙ sym i in
    λ m e. k.kept h m (is ∙ e)
