-- A walk through the list of a set.
use Rattle.std.proofs.Common.{◌≡◌, ℕ, zero, suc, ◌<◌, ◌≤◌, ◌==◌, Bool, true, false, cond, List, [], ◌∷◌, ◌++◌, length}
use Rattle.std.proofs.Common.{refl, sym, ap, ◌∙◌, arith, Option, Some, None, slice_get, unwrap_or, map, ◌||◌, ℤ}
use Rattle.std.specs.Prelude.{filter_map, is_some, decimal, codes, pos}
use Rattle.std.specs.List.{cons_option}
use Rattle.std.specs.Result.{result_unwrap_or}
use Rattle.std.specs.Option.{option_map, option_or, option_and_then}
use Rattle.std.proofs.lemmas.Bool.Decides.{nat_tests}
use Rattle.std.proofs.lemmas.List.{append-nil, append_assoc}
use Rattle.ss_links.specs.Board.{times}
use Rattle.ss_links.specs.Seats.{has, times_in, first_of, next_in}
use Rattle.ss_links.proofs.SeatLaws.{times_in-present}
use Rattle.ss_program.specs.declared.kinds.Owner.{Owner}
use Rattle.ss_program.specs.declared.kinds.Owner.TheVariants.{System, OwnedBy}
use Rattle.ss_store.specs.declared.shape.SetShape.{SetShape}
use Rattle.ss_store.specs.Store.{Entity, Store, of_class, made_of, entity, entities, exists, list_number, list_by}
use Rattle.ss_store.specs.Store.{lists_by, is_owner, members_of, stands_in, number_of}
use Rattle.ss_store.specs.Filing.{walk_next}
use Rattle.ss_store.specs.Tables.{Tables, no_set, set_of}
use Rattle.ss_store.specs.WellStore.{AreMembers, IsWellStore}
use Rattle.ss_store.proofs.Core.{some_eq}
use Rattle.ss_store.proofs.Agree.{map_get}
use Rattle.ss_store.proofs.ReadingAnswers.{has-seat_behind}
use Rattle.ss_debug.specs.Entities.{further_members, members_behind}

-- ---- the list of an owner is one of the set's lists

get_left : {A : Type 0} (xs ys : List A) (i : ℕ) (x : A) → slice_get xs i ≡ Some x → slice_get (xs ++ ys) i ≡ Some x
get_left [] ys i x e = absurd (cc)
get_left (z ∷ xs) ys zero x e = e
get_left (z ∷ xs) ys (suc i) x e = get_left xs ys i x e

get_right : {A : Type 0} (xs ys : List A) (j : ℕ) (x : A) → slice_get ys j ≡ Some x →
    (i : ℕ) × (slice_get (xs ++ ys) i ≡ Some x)
get_right [] ys j x e = (j, e)
get_right (z ∷ xs) ys j x e = let d = get_right xs ys j x e in (suc d.0, d.1)

filter_from : {A B : Type 0} (f : A → Option B) (xs : List A) (i : ℕ) (x : A) (y : B) → slice_get xs i ≡ Some x →
    f x ≡ Some y → (j : ℕ) × (slice_get (filter_map f xs) j ≡ Some y)
filter_from f [] i x y e w = absurd (cc)
filter_from f (z ∷ xs) zero x y e w = (0, rw (ap f (some_eq e) ∙ w) refl)
filter_from {A} {B} f (z ∷ xs) (suc i) x y e w =
    let d = filter_from f xs i x y e w in
    elim (f z) as (λ o. (j : ℕ) × (slice_get (cons_option o (filter_map f xs)) j ≡ Some y)) [
      | None ↦ d
      | Some q ↦ (suc d.0, d.1)
    ]

entity_at : (st : Store) (c i : ℕ) (e : Entity) (a : Option Entity) → slice_get (made_of st c) i ≡ a →
    option_or a (option_and_then (of_class c) (slice_get st.references i)) ≡ Some e →
    (j : ℕ) × (slice_get (entities st c) j ≡ Some e)
entity_at st c i e (Some x) ea f = (i, get_left (made_of st c) (filter_map (of_class c) st.references) i e (ea ∙ f))
entity_at st c i e None ea f =
    (elim (slice_get st.references i) as (λ o. slice_get st.references i ≡ o → option_and_then (of_class c) o ≡ Some e
    → (j : ℕ) × (slice_get (entities st c) j ≡ Some e)) [
      | None ↦ λ w h. absurd (cc)
      | Some x ↦ λ w h. let d = filter_from (of_class c) st.references i x e w h in
          get_right (made_of st c) (filter_map (of_class c) st.references) d.0 e d.1
    ]) refl f

entity_index : (st : Store) (c k : ℕ) (e : Entity) → entity st c k ≡ Some e →
    (j : ℕ) × (slice_get (entities st c) j ≡ Some e)
entity_index st c zero e f = absurd (cc)
entity_index st c (suc i) e f = entity_at st c i e (slice_get (made_of st c) i) refl f

owned_list : (st : Store) (c n k : ℕ) (o : Option Entity) → entity st c k ≡ o →
    is_some (option_map (λ (e : Entity). list_number e.owned n) o) ≡ true →
    (i : ℕ) × (slice_get (map (λ (e : Entity). list_number e.owned n) (entities st c)) i
    ≡ Some (unwrap_or (option_map (λ (e : Entity). list_number e.owned n) o) []))
owned_list st c n k None f h = absurd (cc)
owned_list st c n k (Some e) f h =
    let d = entity_index st c k e f in (d.0, map_get (λ (e : Entity). list_number e.owned n) (entities st c) d.0 e d.1)

owner_list : (w : Owner) (n k : ℕ) (st : Store) → is_some (list_by w n st k) ≡ true →
    (i : ℕ) × (slice_get (lists_by w n st) i ≡ Some (unwrap_or (list_by w n st k) []))
owner_list System n k st h = (0, refl)
owner_list (OwnedBy c) n k st h = owned_list st c n k (entity st c k) refl h

stands_from : (ls : List (List ℕ)) (x i : ℕ) (l : List ℕ) → slice_get ls i ≡ Some l → has l x ≡ true →
    stands_in ls x ≡ true
stands_from [] x i l e f = absurd (cc)
stands_from (m ∷ ls) x zero l e f = rw (ap (λ z. has z x) (some_eq e) ∙ f) refl
stands_from (m ∷ ls) x (suc i) l e f =
    rw (stands_from ls x i l e f) (elim (has m x) as (λ k. (k || true) ≡ true) [ true ↦ refl | false ↦ refl ])

times_from : (ls : List (List ℕ)) (x i : ℕ) (l : List ℕ) → slice_get ls i ≡ Some l → times_in l x ≤ times ls x
times_from [] x i l e = absurd (cc)
times_from (m ∷ ls) x zero l e = let same : m ≡ l = some_eq e in rw (sym same) (omega arith)
times_from (m ∷ ls) x (suc i) l e = let h = times_from ls x i l e in omega arith

has_owner : (o : Option (List ℕ)) (k : ℕ) → has (unwrap_or o []) k ≡ true → is_some o ≡ true
has_owner None k h = absurd (cc)
has_owner (Some l) k h = refl

-- whoever is in the list of an owner exists
pub member_exists : (s : SetShape) (st : Store) (o k : ℕ) → AreMembers st s → has (members_of s st o) k ≡ true →
    exists st s.member k ≡ true
member_exists s st o k w h =
    let d = owner_list s.owner s.list o st (has_owner (list_by s.owner s.list st o) k h) in
    w.exist k (stands_from (lists_by s.owner s.list st) k d.0 (members_of s st o) d.1 h)

times_by : (s : SetShape) (st : Store) (o : ℕ) (b : Bool) → is_owner s st o ≡ b → AreMembers st s →
    (k : ℕ) → times_in (members_of s st o) k ≤ 1
times_by s st o true h w k =
    let d = owner_list s.owner s.list o st h in
    let few = times_from (lists_by s.owner s.list st) k d.0 (members_of s st o) d.1 in
    let once = w.once k in omega (arith, few, once)
times_by s st o false h w k = rw (none (list_by s.owner s.list st o) h) (omega arith)
  where
    none : (p : Option (List ℕ)) → is_some p ≡ false → unwrap_or p [] ≡ []
    none None e = refl
    none (Some l) e = absurd (cc)

-- and there once
pub member_once : (s : SetShape) (st : Store) (o : ℕ) → AreMembers st s → (k : ℕ) → times_in (members_of s st o) k ≤ 1
member_once s st o w k = times_by s st o (is_owner s st o) refl w k

-- ---- the next member

-- the member after k to which a walk comes
pub next_found : (s : SetShape) (st : Store) (o k : ℕ) (x : ℤ) → AreMembers st s → has (members_of s st o) k ≡ true →
    x ≡ pos k → result_unwrap_or (walk_next s st o (number_of x)) None ≡ next_in (members_of s st o) k
next_found s st o k x w h e = rw (e, has_owner (list_by s.owner s.list st o) k h, member_exists s st o k w h, h) refl

-- the member that a walk comes to is in the list
pub next_there : (s : SetShape) (st : Store) (o k n : ℕ) → next_in (members_of s st o) k ≡ Some n →
    has (members_of s st o) n ≡ true
next_there s st o k n e = has-seat_behind (members_of s st o) k n e

-- ---- the members after one

behind_first : (ks : List ℕ) (n : ℕ) → first_of ks ≡ Some n → ks ≡ n ∷ members_behind ks n
behind_first [] n e = absurd (cc)
behind_first (y ∷ ks) n e =
    let same : y ≡ n = some_eq e in
    let test : (y == n) ≡ true = grind (arith, nat_tests, same) in rw (test, same) refl

passed : (y n : ℕ) (ks : List ℕ) → ((x : ℕ) → times_in (y ∷ ks) x ≤ 1) → has ks n ≡ true →
    members_behind (y ∷ ks) n ≡ members_behind ks n
passed y n ks once h =
    let few = once n in
    let one = times_in-present ks n h in
    let other : (y == n) ≡ false = grind (arith, nat_tests, few, one) in rw other refl

-- one member further
pub behind_next : (ks : List ℕ) (k n : ℕ) → ((x : ℕ) → times_in ks x ≤ 1) → next_in ks k ≡ Some n →
    members_behind ks k ≡ n ∷ members_behind ks n
behind_next [] k n once e = absurd (cc)
behind_next (y ∷ ks) k n once e =
    (elim (y == k) as (λ t. cond t (first_of ks) (next_in ks k) ≡ Some n →
    cond t ks (members_behind ks k) ≡ n ∷ members_behind (y ∷ ks) n) [
      | true ↦ λ f. let whole = behind_first ks n f in
          let there : has ks n ≡ true = has_first ks n f in
          rw (passed y n ks once there) whole
      | false ↦ λ f. let rest = behind_next ks k n (tail_once y ks once) f in
          rw (passed y n ks once (has-seat_behind ks k n f)) rest
    ]) e
  where
    has_first : (l : List ℕ) (x : ℕ) → first_of l ≡ Some x → has l x ≡ true
    has_first [] x f = absurd (cc)
    has_first (z ∷ l) x f = let same : z ≡ x = some_eq f in grind (arith, nat_tests, same)

    tail_once : (y : ℕ) (l : List ℕ) → ((x : ℕ) → times_in (y ∷ l) x ≤ 1) → (x : ℕ) → times_in l x ≤ 1
    tail_once y l o x = let h = o x in omega (arith, h)

-- there is none after the last
pub behind_last : (ks : List ℕ) (k : ℕ) → next_in ks k ≡ None → members_behind ks k ≡ []
behind_last [] k e = refl
behind_last (y ∷ ks) k e =
    (elim (y == k) as (λ t. cond t (first_of ks) (next_in ks k) ≡ None → cond t ks (members_behind ks k) ≡ []) [
      | true ↦ λ f. none ks f
      | false ↦ λ f. behind_last ks k f
    ]) e
  where
    none : (l : List ℕ) → first_of l ≡ None → l ≡ []
    none [] f = refl
    none (z ∷ l) f = absurd (cc)

-- ---- the text

-- one member more
pub member_more : (ks : List ℕ) (k n : ℕ) (text new all : List ℕ) → ((x : ℕ) → times_in ks x ≤ 1) →
    next_in ks k ≡ Some n → text ++ further_members (members_behind ks k) ≡ all →
    new ≡ (text ++ codes " ") ++ decimal n → new ++ further_members (members_behind ks n) ≡ all
member_more ks k n text new all once e h w =
    rw w (append_assoc (text ++ codes " ") (decimal n) _ ∙ append_assoc text (codes " ") _
    ∙ ap (λ (l : List ℕ). text ++ further_members l) (sym (behind_next ks k n once e)) ∙ h)

-- all members
pub members_all : (ks : List ℕ) (k : ℕ) (text all : List ℕ) → next_in ks k ≡ None →
    text ++ further_members (members_behind ks k) ≡ all → text ≡ all
members_all ks k text all e h =
    sym (append-nil text) ∙ ap (λ (l : List ℕ). text ++ further_members l) (sym (behind_last ks k e)) ∙ h

-- the members of a set of a well-formed store
pub well_members : (t : Tables) (st : Store) (n : ℕ) → n < length t.sets → IsWellStore t st → AreMembers st (set_of t n)
well_members t st n h w = w.members (set_of t n) (n, row t.sets n h)
  where
    row : (ss : List SetShape) (i : ℕ) → i < length ss → slice_get ss i ≡ Some (unwrap_or (slice_get ss i) no_set)
    row [] i h = absurd (omega arith)
    row (s ∷ ss) zero h = refl
    row (s ∷ ss) (suc i) h = row ss i (omega arith)
