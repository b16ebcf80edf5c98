-- A member filed.
use Rattle.std.proofs.lemmas.Bool.Decides.{nat_tests}
use Rattle.std.proofs.Common.{◌≡◌, ℕ, ◌≤◌, ◌==◌, ◌||◌, List, [], ◌∷◌, ◌++◌, map, refl, ap, sym, subst, ◌∙◌, arith}
use Rattle.std.proofs.Common.{Option, Some, None, Bool, true, false, cond, eqb→eq, T, ◌⊎◌, inl, inr}
use Rattle.std.specs.Prelude.{Result, Ok, Err, is_some}
use Rattle.std.specs.Option.{ForSome}
use Rattle.ss_words.specs.declared.fault.RunFault.{RunFault}
use Rattle.ss_words.specs.declared.fault.RunFault.TheVariants.{NoEntity, AlreadyInSet, NotInList}
use Rattle.ss_links.specs.Board.{Board, list_at, list_of, head_of}
use Rattle.ss_links.specs.Seats.{has, times_in, put_at, put_before, put_behind, list_without, last_of, prev_in}
use Rattle.ss_links.proofs.BoardLaws.{head_of-found, head_of-list_at, times-list_at, times-free}
use Rattle.ss_links.proofs.SeatLaws.{without-put_at, has-put_at, has-put_at_other, has-from_times_in, put_at-last_of}
use Rattle.ss_links.proofs.SeatLaws.{put_at-seat_before, has-last_of, has-seat_before}
use Rattle.ss_program.specs.declared.kinds.Discipline.{Discipline}
use Rattle.ss_program.specs.declared.kinds.Discipline.TheVariants.{Fifo, Lifo, Ranked}
use Rattle.ss_store.specs.declared.shape.SetShape.{SetShape}
use Rattle.ss_store.specs.declared.shape.How.{How}
use Rattle.ss_store.specs.declared.shape.How.TheVariants.{ByRule, First, Last, Before, After}
use Rattle.ss_store.specs.declared.places.Spot.{Spot}
use Rattle.ss_store.specs.declared.places.Spot.TheVariants as spot
use Rattle.ss_store.specs.Lists.{placed_before}
use Rattle.ss_store.specs.Store.{Store, number_of, exists, is_owner, members_of, is_filed, with_list}
use Rattle.ss_store.specs.Filing.{after_filing, filed_in, filed_by, names_entity, names_member, ranks_behind}
use Rattle.ss_store.specs.Finding.{is_at, seat_in_list}
use Rattle.ss_store.specs.Invariant.{IsStore}
use Rattle.ss_store.specs.Parts.{StoreParts, head_at, seat_at, number_at, state_of}
use Rattle.ss_store.specs.Tables.{IsSet}
use Rattle.ss_store.specs.Finding.{spot_before, spot_after, spot_by, rule_place, place_by, rank_before}
use Rattle.ss_store.proofs.Core.{some_eq, seat_number}
use Rattle.ss_store.proofs.OneListChanges.{Relisted, is_or_not, relisted_store, relisted_state}
use Rattle.ss_store.proofs.Boards.{Apart, has-map, map-without, map-append, map-put_before, map-put_behind}
use Rattle.ss_store.proofs.Boards.{relisted_back}
use Rattle.ss_store.proofs.Agree.{member_is, members_look, apart, stands_is}
use Rattle.ss_store.proofs.RankPlaces.{rank_in, ranked_put, ranked_numbers, ranked_is}

-- a seat put into a list, and the seats that were in it before
put_other : (l : List ℕ) (p : Option ℕ) (t u : ℕ) → has (put_at l p t) u ≡ true → (u ≡ t) ⊎ (has l u ≡ true)
put_other l p t u e = elim (is_or_not u t) [
  | inl is ↦ inl is
  | inr far ↦ inr (sym (has-put_at_other l p t u (grind (arith, nat_tests))) ∙ e)
]

-- a seat that is in no list is not in this one
pub free_list : (b : Board) (h t : ℕ) → head_of b.lists t ≡ None → has (list_at b.lists h) t ≡ false
free_list b h t e = has-from_times_in (list_at b.lists h) t (let z = times-free b.lists t e in
    let y = times-list_at b.lists h t in omega (arith, z, y))

-- a seat put after another in the list of a head, or first
pub record Puts (g : StoreParts) (new : Board) (rule : SetShape) (o x h t : ℕ) (m : List ℕ)
    (p : Option ℕ) : Type 0 where
  pub store : IsStore g
  pub is_set : IsSet g.tables.sets rule
  pub head : head_at g.rows rule o ≡ Some h
  pub seat : seat_at g.rows rule x ≡ Some t
  pub free : head_of g.board.lists t ≡ None
  pub relisted : Relisted g.board new h m
  pub put : m ≡ put_at (list_at g.board.lists h) p t
  pub before : ForSome p (λ at. has (list_at g.board.lists h) at ≡ true)

pub put_store : (g : StoreParts) (new : Board) (rule : SetShape) (o x h t : ℕ) (m : List ℕ) (p : Option ℕ)
    → Puts g new rule o x h t m p → IsStore (record g { board = new })
put_store g new rule o x h t m p d = relisted_store g new h m d.store d.relisted (λ u e.
    elim (put_other (list_at g.board.lists h) p t u (ap (λ l. has l u) (sym d.put) ∙ e)) [
      | inl is ↦ record {
        set = rule;
        owner = o;
        member = x;
        is_set = d.is_set;
        head = d.head;
        seat = d.seat
            ∙ ap Some (sym is);
      }
      | inr f ↦ d.store.are_members h u f
    ])

apart_put : (g : StoreParts) (new : Board) (rule : SetShape) (o x h t : ℕ) (m : List ℕ) (p : Option ℕ)
    → Puts g new rule o x h t m p → Apart (number_at g.numbers) m t
apart_put g new rule o x h t m p d u e f =
    elim (put_other (list_at g.board.lists h) p t u (ap (λ l. has l u) (sym d.put) ∙ e)) [
      | inl is ↦ is
      | inr w ↦ apart g rule o h t x d.store d.is_set d.head d.seat u w f
    ]

pub put_state : (g : StoreParts) (new : Board) (rule : SetShape) (o x h t : ℕ) (m : List ℕ) (p : Option ℕ)
    → Puts g new rule o x h t m p → state_of (record g { board = new })
    ≡ with_list rule (state_of g) o (map (number_at g.numbers) m)
put_state g new rule o x h t m p d = relisted_state g new rule o h m _ d.store d.is_set d.head d.relisted refl

put_members : (g : StoreParts) (new : Board) (rule : SetShape) (o x h t : ℕ) (m : List ℕ) (p : Option ℕ)
    → Puts g new rule o x h t m p → members_of rule (state_of (record g { board = new })) o
    ≡ map (number_at g.numbers) m
put_members g new rule o x h t m p d = members_look (record g { board = new }) rule o h
    (put_store g new rule o x h t m p d) d.is_set d.head ∙ ap (map (number_at g.numbers)) d.relisted.here

-- taken out again
pub put_back : (g : StoreParts) (new : Board) (rule : SetShape) (o x h t : ℕ) (m : List ℕ) (p : Option ℕ)
    → Puts g new rule o x h t m p
    → with_list rule (state_of (record g { board = new })) o
    (list_without (members_of rule (state_of (record g { board = new })) o) x) ≡ state_of g
put_back g new rule o x h t m p d =
    let back : list_without m t ≡ list_at g.board.lists h = ap (λ l. list_without l t) d.put
    ∙ without-put_at (list_at g.board.lists h) p t (free_list g.board h t d.free) in
    let numbers : map (number_at g.numbers) (list_at g.board.lists h)
    ≡ list_without (members_of rule (state_of (record g { board = new })) o) x =
    ap (map (number_at g.numbers)) (sym back)
    ∙ map-without (number_at g.numbers) m t (apart_put g new rule o x h t m p d)
    ∙ (λ i. list_without (sym (put_members g new rule o x h t m p d) i)
    (seat_number g rule x t d.store d.is_set d.seat i)) in
    sym (relisted_state (record g { board = new }) g.board rule o h (list_at g.board.lists h) _
    (put_store g new rule o x h t m p d) d.is_set d.head (relisted_back g.board new h m d.store.sound d.relisted)
    numbers)

pub put_stands : (g : StoreParts) (new : Board) (rule : SetShape) (o x h t : ℕ) (m : List ℕ) (p : Option ℕ)
    → Puts g new rule o x h t m p → has (members_of rule (state_of (record g { board = new })) o) x ≡ true
put_stands g new rule o x h t m p d =
    (λ i. has (put_members g new rule o x h t m p d i) (sym (seat_number g rule x t d.store d.is_set d.seat) i))
    ∙ has-map (number_at g.numbers) m t (apart_put g new rule o x h t m p d)
    ∙ ap (λ l. has l t) d.put ∙ has-put_at (list_at g.board.lists h) p t d.before

-- ---- the results of FILE

pub filed_ok : (rule : SetShape) (st : Store) (o x : ℕ) (how : How) (l : List ℕ) → is_owner rule st o ≡ true
    → exists st rule.member x ≡ true → names_entity rule st how ≡ true → is_filed rule st x ≡ false
    → names_member how (members_of rule st o) ≡ true
    → filed_in rule st how x (members_of rule st o) ≡ l → after_filing rule st o x how ≡ Ok (with_list rule st o l)
filed_ok rule st o x how l a b c d e f = rw (a, b, c, d, e) (ap (λ z. Ok (with_list rule st o z)) f)

pub no_owner : (rule : SetShape) (st : Store) (o x : ℕ) (how : How) → is_owner rule st o ≡ false
    → after_filing rule st o x how ≡ Err NoEntity
no_owner rule st o x how a = rw a refl

pub no_member : (rule : SetShape) (st : Store) (o x : ℕ) (how : How) → is_owner rule st o ≡ true
    → exists st rule.member x ≡ false → after_filing rule st o x how ≡ Err NoEntity
no_member rule st o x how a b = rw (a, b) refl

pub none_named : (rule : SetShape) (st : Store) (o x : ℕ) (how : How) → is_owner rule st o ≡ true
    → exists st rule.member x ≡ true → names_entity rule st how ≡ false → after_filing rule st o x how ≡ Err NoEntity
none_named rule st o x how a b c = rw (a, b, c) refl

pub already : (rule : SetShape) (st : Store) (o x : ℕ) (how : How) → is_owner rule st o ≡ true
    → exists st rule.member x ≡ true → names_entity rule st how ≡ true → is_filed rule st x ≡ true
    → after_filing rule st o x how ≡ Err AlreadyInSet
already rule st o x how a b c d = rw (a, b, c, d) refl

pub not_there : (rule : SetShape) (st : Store) (o x : ℕ) (how : How) → is_owner rule st o ≡ true
    → exists st rule.member x ≡ true → names_entity rule st how ≡ true → is_filed rule st x ≡ false
    → names_member how (members_of rule st o) ≡ false → after_filing rule st o x how ≡ Err NotInList
not_there rule st o x how a b c d e = rw (a, b, c, d, e) refl

-- ---- results

pub ok_err : {A : Type 0} (a : A) (e : RunFault) → ◌≡◌ {A = Result A RunFault} (Ok a) (Err e) → ⊥
ok_err a e f = cc

pub ok_eq : {A : Type 0} {a b : A} → ◌≡◌ {A = Result A RunFault} (Ok a) (Ok b) → a ≡ b
ok_eq e = cc

pub err_eq : {A : Type 0} {a b : RunFault} → ◌≡◌ {A = Result A RunFault} (Err a) (Err b) → a ≡ b
err_eq e = cc

pub false_of : (b : Bool) → (b ≡ true → ⊥) → b ≡ false
false_of true f = absurd (f refl)
false_of false f = refl

pub is_at_eq : (o : Option ℕ) (h : ℕ) → is_at o h ≡ true → o ≡ Some h
is_at_eq None h e = cc
is_at_eq (Some k) h e = ap Some (eqb→eq k h (subst T (sym e) tt))

-- a seat that isn't found at a head isn't in its list
not_at : (g : StoreParts) (h t : ℕ) → IsStore g → is_at (head_of g.board.lists t) h ≡ false
    → has (list_at g.board.lists h) t ≡ false
not_at g h t s e = false_of (has (list_at g.board.lists h) t) (λ b.
    let bad : is_at (Some h) h ≡ false = ap (λ z. is_at z h)
    (sym (head_of-list_at g.board.lists h t b (s.sound.once t))) ∙ e in
    let good : (h == h) ≡ true = grind (arith, nat_tests) in cc)

-- a test that decides between a value and a fault
if_ok : {A : Type 0} (b : Bool) (a c : A) (f : RunFault) → ◌≡◌ {A = Result A RunFault} (cond b (Ok a) (Err f)) (Ok c)
    → (b ≡ true) × (a ≡ c)
if_ok true a c f e = (refl, ok_eq e)
if_ok false a c f e = absurd (ok_err c f (sym e))

if_err : {A : Type 0} (b : Bool) (a : A) (f d : RunFault) → ◌≡◌ {A = Result A RunFault} (cond b (Ok a) (Err f)) (Err d)
    → (b ≡ false) × (d ≡ f)
if_err true a f d e = absurd (ok_err a d e)
if_err false a f d e = (refl, sym (err_eq e))

pub standing_ok : (ls : List (List ℕ)) (h : ℕ) (o : Option ℕ) (at : ℕ) → seat_in_list ls h o ≡ Ok at
    → (o ≡ Some at) × (head_of ls at ≡ Some h)
standing_ok ls h None at e = absurd (ok_err at NoEntity (sym e))
standing_ok ls h (Some t) at e = let d = if_ok (is_at (head_of ls t) h) t at NotInList e in
    (ap Some d.1, ap (head_of ls) (sym d.1) ∙ is_at_eq (head_of ls t) h d.0)

-- a number in the list has a seat in the list
pub has_map_seat : (f : ℕ → ℕ) (l : List ℕ) (y : ℕ) → has (map f l) y ≡ true → (u : ℕ) × (has l u ≡ true) × (f u ≡ y)
has_map_seat f [] y e = cc
has_map_seat f (z ∷ l) y e =
    (elim (f z == y) as (λ k. f z == y ≡ k → (k || has (map f l) y) ≡ true
    → (u : ℕ) × (has (z ∷ l) u ≡ true) × (f u ≡ y)) [
      | true ↦ λ w g. (z, grind (arith, nat_tests), eqb→eq (f z) y (subst T (sym w) tt))
      | false ↦ λ w g. let d = has_map_seat f l y g in let t : has l d.0 ≡ true = d.1 in
          (d.0, grind (arith, nat_tests, t), d.2)
    ]) refl e

-- a member that is in the list, by its seat
pub stands_there : (g : StoreParts) (rule : SetShape) (o h at y : ℕ) → IsStore g → IsSet g.tables.sets rule
    → head_at g.rows rule o ≡ Some h → seat_at g.rows rule y ≡ Some at → head_of g.board.lists at ≡ Some h
    → has (members_of rule (state_of g) o) y ≡ true
stands_there g rule o h at y s is eh ey e = ap (λ l. has l y) (members_look g rule o h s is eh)
    ∙ stands_is g rule o h at y s is eh ey ∙ (head_of-found g.board.lists at h e).1

pub stands_not : (g : StoreParts) (rule : SetShape) (o h at y : ℕ) → IsStore g → IsSet g.tables.sets rule
    → head_at g.rows rule o ≡ Some h → seat_at g.rows rule y ≡ Some at → is_at (head_of g.board.lists at) h ≡ false
    → has (members_of rule (state_of g) o) y ≡ false
stands_not g rule o h at y s is eh ey e = ap (λ l. has l y) (members_look g rule o h s is eh)
    ∙ stands_is g rule o h at y s is eh ey ∙ not_at g h at s e

-- the facts that a fault of `standing` gives
pub standing_err : (g : StoreParts) (rule : SetShape) (o h y : ℕ) (q : Option ℕ) (e : RunFault) → IsStore g
    → IsSet g.tables.sets rule → head_at g.rows rule o ≡ Some h → seat_at g.rows rule y ≡ q
    → seat_in_list g.board.lists h q ≡ Err e
    → ((e ≡ NoEntity) × (exists (state_of g) rule.member y ≡ false))
    ⊎ ((e ≡ NotInList) × (exists (state_of g) rule.member y ≡ true)
    × (has (members_of rule (state_of g) o) y ≡ false))
standing_err g rule o h y None e s is eh eq f = inl (sym (err_eq f), member_is g rule y s ∙ ap is_some eq)
standing_err g rule o h y (Some t) e s is eh eq f =
    let d = if_err (is_at (head_of g.board.lists t) h) t NotInList e f in
    inr (d.1, member_is g rule y s ∙ ap is_some eq, stands_not g rule o h t y s is eh eq d.0)

-- ---- the place at which a member is filed

-- a place for a member: the list that it makes
pub record Placed (g : StoreParts) (rule : SetShape) (o x h t : ℕ) (p : Option ℕ) (how : How) : Type 0 where
  pub named : names_entity rule (state_of g) how ≡ true
  pub there : names_member how (members_of rule (state_of g) o) ≡ true
  pub list_is : filed_in rule (state_of g) how x (members_of rule (state_of g) o)
      ≡ map (number_at g.numbers) (put_at (list_at g.board.lists h) p t)
  pub before : ForSome p (λ at. has (list_at g.board.lists h) at ≡ true)

pub once_in : (g : StoreParts) (h : ℕ) → IsStore g → (y : ℕ) → times_in (list_at g.board.lists h) y ≤ 1
once_in g h s y = let a = s.sound.once y in let b = times-list_at g.board.lists h y in omega (arith, a, b)

last_before : (l : List ℕ) → ForSome (last_of l) (λ at. has l at ≡ true)
last_before l = (elim (last_of l) as (λ q. last_of l ≡ q → ForSome q (λ at. has l at ≡ true)) [
  | None ↦ λ e z w. cc
  | Some at ↦ λ e z w. subst (λ u. has l u ≡ true) (some_eq w) (has-last_of l at e)
]) refl

-- a call on a set of a store, with the owner's head and the member's seat
pub record Spots (g : StoreParts) (rule : SetShape) (o x h t : ℕ) : Type 0 where
  pub store : IsStore g
  pub is_set : IsSet g.tables.sets rule
  pub head : head_at g.rows rule o ≡ Some h
  pub seat : seat_at g.rows rule x ≡ Some t

placed_first : (g : StoreParts) (rule : SetShape) (o x h t : ℕ) → Spots g rule o x h t
    → x ∷ members_of rule (state_of g) o ≡ map (number_at g.numbers) (put_at (list_at g.board.lists h) None t)
placed_first g rule o x h t d = λ i. sym (seat_number g rule x t d.store d.is_set d.seat) i ∷ members_look g rule o h
    d.store d.is_set d.head i

placed_last : (g : StoreParts) (rule : SetShape) (o x h t : ℕ) → Spots g rule o x h t
    → members_of rule (state_of g) o ++ x ∷ []
    ≡ map (number_at g.numbers) (put_at (list_at g.board.lists h) (last_of (list_at g.board.lists h)) t)
placed_last g rule o x h t d =
    (λ i. members_look g rule o h d.store d.is_set d.head i ++ sym (seat_number g rule x t d.store d.is_set d.seat)
    i ∷ []) ∙ sym (map-append (number_at g.numbers) (list_at g.board.lists h) (t ∷ []))
    ∙ ap (map (number_at g.numbers)) (sym (put_at-last_of (list_at g.board.lists h) t (once_in g h d.store)))

-- by the set's discipline
placed_rule : (g : StoreParts) (rule : SetShape) (o x h t : ℕ) (k : Discipline) → Spots g rule o x h t
    → filed_by k (state_of g) rule.member x (members_of rule (state_of g) o)
    ≡ map (number_at g.numbers) (put_at (list_at g.board.lists h)
    (rule_place g.rows g.numbers rule.member x (list_at g.board.lists h) k) t)
placed_rule g rule o x h t Fifo d = placed_last g rule o x h t d
placed_rule g rule o x h t Lifo d = placed_first g rule o x h t d
placed_rule g rule o x h t (Ranked keys) d =
    let test = ranks_behind keys (state_of g) rule.member x in
    let l = list_at g.board.lists h in
    (λ i. placed_before test (sym (seat_number g rule x t d.store d.is_set d.seat) i)
    (members_look g rule o h d.store d.is_set d.head i))
    ∙ sym (ranked_numbers (number_at g.numbers) test l t)
    ∙ ap (map (number_at g.numbers)) (sym (ranked_put (λ u. test (number_at g.numbers u)) l t (once_in g h d.store)))
    ∙ ap (λ p. map (number_at g.numbers) (put_at l p t))
    (sym (ranked_is g rule o x h t keys d.store d.is_set d.head d.seat))

-- the seat before the first that ranks after is one of the list
ranked_before : (b : ℕ → Bool) (l : List ℕ) → ForSome (rank_before b None l) (λ at. has l at ≡ true)
ranked_before b l z e = elim (rank_in b None l z e) [ inl f ↦ cc | inr f ↦ f ]

rule_before : (g : StoreParts) (c x : ℕ) (l : List ℕ) (k : Discipline)
    → ForSome (rule_place g.rows g.numbers c x l k) (λ at. has l at ≡ true)
rule_before g c x l Fifo = last_before l
rule_before g c x l Lifo = λ z w. cc
rule_before g c x l (Ranked keys) = ranked_before _ l

pub spot_eq : {a b : Spot} → ◌≡◌ {A = Result Spot RunFault} (Ok a) (Ok b) → a ≡ b
spot_eq e = cc

-- the seats that BEFORE and AFTER name
before_spot : (q : Option ℕ) (sp : Spot) → spot_before q ≡ Ok sp → (t : ℕ) × (q ≡ Some t) × (spot.Before t ≡ sp)
before_spot None sp e = cc
before_spot (Some t) sp e = (t, refl, spot_eq e)

after_spot : (q : Option ℕ) (sp : Spot) → spot_after q ≡ Ok sp → (t : ℕ) × (q ≡ Some t) × (spot.After t ≡ sp)
after_spot None sp e = cc
after_spot (Some t) sp e = (t, refl, spot_eq e)

before_fault : (q : Option ℕ) (e : RunFault) → spot_before q ≡ Err e → (q ≡ None) × (e ≡ NoEntity)
before_fault None e f = (refl, cc)
before_fault (Some t) e f = cc

after_fault : (q : Option ℕ) (e : RunFault) → spot_after q ≡ Err e → (q ≡ None) × (e ≡ NoEntity)
after_fault None e f = (refl, cc)
after_fault (Some t) e f = cc

-- who is named exists
pub spotted : (g : StoreParts) (rule : SetShape) (how : How) (sp : Spot) → IsStore g → spot_by g.rows rule how ≡ Ok sp
    → names_entity rule (state_of g) how ≡ true
spotted g rule ByRule sp s e = refl
spotted g rule First sp s e = refl
spotted g rule Last sp s e = refl
spotted g rule (Before y) sp s e = member_is g rule (number_of y) s
    ∙ ap is_some (before_spot (seat_at g.rows rule (number_of y)) sp e).1
spotted g rule (After y) sp s e = member_is g rule (number_of y) s
    ∙ ap is_some (after_spot (seat_at g.rows rule (number_of y)) sp e).1

pub unspotted : (g : StoreParts) (rule : SetShape) (how : How) (e : RunFault) → IsStore g → spot_by g.rows rule how
    ≡ Err e
    → (e ≡ NoEntity) × (names_entity rule (state_of g) how ≡ false)
unspotted g rule ByRule e s f = cc
unspotted g rule First e s f = cc
unspotted g rule Last e s f = cc
unspotted g rule (Before y) e s f = let d = before_fault (seat_at g.rows rule (number_of y)) e f in
    (d.1, member_is g rule (number_of y) s ∙ ap is_some d.0)
unspotted g rule (After y) e s f = let d = after_fault (seat_at g.rows rule (number_of y)) e f in
    (d.1, member_is g rule (number_of y) s ∙ ap is_some d.0)

placed_before_y : (g : StoreParts) (rule : SetShape) (o x h t u y : ℕ) (p : Option ℕ) → Spots g rule o x h t
    → seat_at g.rows rule y ≡ Some u → cond (is_at (head_of g.board.lists u) h)
    (Ok (prev_in (list_of g.board.lists u) u)) (Err NotInList) ≡ Ok p
    → (has (members_of rule (state_of g) o) y ≡ true)
    × (put_before (members_of rule (state_of g) o) y x
    ≡ map (number_at g.numbers) (put_at (list_at g.board.lists h) p t))
    × ForSome p (λ at. has (list_at g.board.lists h) at ≡ true)
placed_before_y g rule o x h t u y p d ey e =
    let k = if_ok (is_at (head_of g.board.lists u) h) (prev_in (list_of g.board.lists u) u) p NotInList e in
    let eh = is_at_eq (head_of g.board.lists u) h k.0 in
    let l = head_of-found g.board.lists u h eh in
    let q : prev_in (list_at g.board.lists h) u ≡ p = ap (λ z. prev_in z u) (sym l.2) ∙ k.1 in (
      stands_there g rule o h u y d.store d.is_set d.head ey eh,
      (λ i. put_before (members_look g rule o h d.store d.is_set d.head i)
          (sym (seat_number g rule y u d.store d.is_set ey) i) (sym (seat_number g rule x t d.store d.is_set d.seat) i))
          ∙ sym (map-put_before (number_at g.numbers) (list_at g.board.lists h) u t
          (apart g rule o h u y d.store d.is_set d.head ey))
          ∙ ap (map (number_at g.numbers)) (sym (put_at-seat_before (list_at g.board.lists h) u t (once_in g h d.store)
          l.1))
          ∙ ap (λ z. map (number_at g.numbers) (put_at (list_at g.board.lists h) z t)) q,
      λ z v. has-seat_before (list_at g.board.lists h) u z (q ∙ v),
    )

placed_after_y : (g : StoreParts) (rule : SetShape) (o x h t u y : ℕ) (p : Option ℕ) → Spots g rule o x h t
    → seat_at g.rows rule y ≡ Some u → cond (is_at (head_of g.board.lists u) h) (Ok (Some u)) (Err NotInList) ≡ Ok p
    → (has (members_of rule (state_of g) o) y ≡ true)
    × (put_behind (members_of rule (state_of g) o) y x
    ≡ map (number_at g.numbers) (put_at (list_at g.board.lists h) p t))
    × ForSome p (λ at. has (list_at g.board.lists h) at ≡ true)
placed_after_y g rule o x h t u y p d ey e =
    let k = if_ok (is_at (head_of g.board.lists u) h) (Some u) p NotInList e in
    let eh = is_at_eq (head_of g.board.lists u) h k.0 in
    let l = head_of-found g.board.lists u h eh in (
      stands_there g rule o h u y d.store d.is_set d.head ey eh,
      (λ i. put_behind (members_look g rule o h d.store d.is_set d.head i)
          (sym (seat_number g rule y u d.store d.is_set ey) i) (sym (seat_number g rule x t d.store d.is_set d.seat) i))
          ∙ sym (map-put_behind (number_at g.numbers) (list_at g.board.lists h) u t
          (apart g rule o h u y d.store d.is_set d.head ey))
          ∙ ap (λ z. map (number_at g.numbers) (put_at (list_at g.board.lists h) z t)) k.1,
      λ z v. subst (λ w. has (list_at g.board.lists h) w ≡ true) (some_eq (k.1 ∙ v)) l.1,
    )

place_eq : {a b : Option ℕ} → ◌≡◌ {A = Result (Option ℕ) RunFault} (Ok a) (Ok b) → a ≡ b
place_eq e = cc

pub placed : (g : StoreParts) (rule : SetShape) (o x h t : ℕ) (p : Option ℕ) (how : How) (sp : Spot)
    → Spots g rule o x h t
    → spot_by g.rows rule how ≡ Ok sp → place_by g.rows g.numbers g.board.lists rule h x sp ≡ Ok p
    → Placed g rule o x h t p how
placed g rule o x h t p First sp d es e =
    let is : None ≡ p = place_eq (ap (place_by g.rows g.numbers g.board.lists rule h x) (spot_eq es) ∙ e) in
    subst (λ q. Placed g rule o x h t q First) is
    (record { named = refl; there = refl; list_is = placed_first g rule o x h t d; before = λ z v. cc })
placed g rule o x h t p Last sp d es e =
    let is : last_of (list_at g.board.lists h) ≡ p =
    place_eq (ap (place_by g.rows g.numbers g.board.lists rule h x) (spot_eq es) ∙ e) in
    subst (λ q. Placed g rule o x h t q Last) is
    (record {
      named = refl;
      there = refl;
      list_is = placed_last g rule o x h t d;
      before = last_before (list_at g.board.lists h);
    })
placed g rule o x h t p ByRule sp d es e =
    let is : rule_place g.rows g.numbers rule.member x (list_at g.board.lists h) rule.discipline ≡ p =
    place_eq (ap (place_by g.rows g.numbers g.board.lists rule h x) (spot_eq es) ∙ e) in
    subst (λ q. Placed g rule o x h t q ByRule) is
    (record {
      named = refl;
      there = refl;
      list_is = placed_rule g rule o x h t rule.discipline d;
      before = rule_before g rule.member x (list_at g.board.lists h) rule.discipline;
    })
placed g rule o x h t p (Before y) sp d es e =
    let b = before_spot (seat_at g.rows rule (number_of y)) sp es in
    let k = placed_before_y g rule o x h t b.0 (number_of y) p d b.1
    (ap (place_by g.rows g.numbers g.board.lists rule h x) b.2 ∙ e) in
    record { named = spotted g rule (Before y) sp d.store es; there = k.0; list_is = k.1; before = k.2 }
placed g rule o x h t p (After y) sp d es e =
    let b = after_spot (seat_at g.rows rule (number_of y)) sp es in
    let k = placed_after_y g rule o x h t b.0 (number_of y) p d b.1
    (ap (place_by g.rows g.numbers g.board.lists rule h x) b.2 ∙ e) in
    record { named = spotted g rule (After y) sp d.store es; there = k.0; list_is = k.1; before = k.2 }

-- the member named is in another list, or in none
pub unplaced : (g : StoreParts) (rule : SetShape) (o x h t : ℕ) (e : RunFault) (how : How) (sp : Spot)
    → Spots g rule o x h t
    → spot_by g.rows rule how ≡ Ok sp → place_by g.rows g.numbers g.board.lists rule h x sp ≡ Err e
    → (e ≡ NotInList) × (names_member how (members_of rule (state_of g) o) ≡ false)
unplaced g rule o x h t e First sp d es f = let bad = ap (place_by g.rows g.numbers g.board.lists rule h x) (spot_eq es)
    ∙ f in cc
unplaced g rule o x h t e Last sp d es f = let bad = ap (place_by g.rows g.numbers g.board.lists rule h x) (spot_eq es)
    ∙ f in cc
unplaced g rule o x h t e ByRule sp d es f = let bad =
    ap (place_by g.rows g.numbers g.board.lists rule h x) (spot_eq es) ∙ f in cc
unplaced g rule o x h t e (Before y) sp d es f =
    let b = before_spot (seat_at g.rows rule (number_of y)) sp es in
    let k = if_err (is_at (head_of g.board.lists b.0) h) (prev_in (list_of g.board.lists b.0) b.0) NotInList e
    (ap (place_by g.rows g.numbers g.board.lists rule h x) b.2 ∙ f) in
    (k.1, stands_not g rule o h b.0 (number_of y) d.store d.is_set d.head b.1 k.0)
unplaced g rule o x h t e (After y) sp d es f =
    let b = after_spot (seat_at g.rows rule (number_of y)) sp es in
    let k = if_err (is_at (head_of g.board.lists b.0) h) (Some b.0) NotInList e
    (ap (place_by g.rows g.numbers g.board.lists rule h x) b.2 ∙ f) in
    (k.1, stands_not g rule o h b.0 (number_of y) d.store d.is_set d.head b.1 k.0)
