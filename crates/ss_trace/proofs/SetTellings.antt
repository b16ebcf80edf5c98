-- The numbers of a set for an entity are the same if its lists are, and if they agree.
use Rattle.std.proofs.Common.{◌≡◌, ℕ, ℤ, ◌+◌, ◌<◌, pos, List, [], ◌∷◌, Bool, true, false}
use Rattle.std.proofs.Common.{Option, Some, None, Ok, refl, sym, ap, ◌∙◌, arith, length}
use Rattle.std.proofs.Common.{unwrap_or, cond}
use Rattle.std.specs.Prelude.{slice_index_or, option_map, is_some, find, not, ◌&&◌, ◌||◌, if◌then◌else◌}
use Rattle.std.specs.List.{list_any}
use Rattle.std.specs.Result.{result_unwrap_or}
use Rattle.std.proofs.lemmas.Bool.Decides.{Decides-int_eq}
use Rattle.ss_words.specs.declared.fault.RunFault.TheVariants.{NoEntity}
use Rattle.ss_store.specs.Filing.{membership}
use Rattle.ss_links.specs.Seats.{has, prev_in, next_in}
use Rattle.ss_program.specs.declared.kinds.Owner.{Owner}
use Rattle.ss_program.specs.declared.kinds.Owner.TheVariants.{OwnedBy}
use Rattle.ss_program.specs.Program.{ProgramTable, set_of}
use Rattle.ss_store.specs.declared.shape.SetShape.{SetShape}
use Rattle.ss_store.specs.Store.{Store, exists, unless, list_by, lists_by, is_filed}
use Rattle.ss_store.specs.Store.{number_of, list_holding}
use Rattle.ss_debug.specs.Entities.{shape_of, member_read}
use Rattle.ss_trace.specs.declared.attribute.Kept.{Kept}
use Rattle.ss_trace.specs.declared.attribute.Kept.TheVariants.{First, Last, Number, Predecessor, Successor, Membership}
use Rattle.ss_trace.specs.declared.touches.Touch.{Touch}
use Rattle.ss_trace.specs.declared.touches.Touch.TheVariants.{Nothing, Attribute, Attributes, Set, Entities, Anything}
use Rattle.ss_trace.specs.Question.{has_kept, kept_value}
use Rattle.ss_trace.specs.EntityNumbers.{kept_number, set_numbers}
use Rattle.ss_trace.specs.EntityNumbers.{entity_numbers}
use Rattle.ss_trace.specs.Told.{tells, set_place, tells_set}
use Rattle.ss_trace.proofs.Glances.{shape_is, exists_is}
use Rattle.ss_trace.proofs.Leaving.{touches_there, touches_list, Leaves}
use Rattle.ss_trace.proofs.NumberPlaces.{both, clash, set_at, is_number}
use Rattle.ss_trace.proofs.OneSet.{owner_is}

-- ---- kept attributes

-- they depend on the lists of the set, and on which entities are there
kept_left : (shape : SetShape) (st new : Store) (k : ℕ) (kept : Kept) →
    list_by shape.owner shape.list new k ≡ list_by shape.owner shape.list st k →
    lists_by shape.owner shape.list new ≡ lists_by shape.owner shape.list st →
    exists new shape.member k ≡ exists st shape.member k → kept_value shape new k kept ≡ kept_value shape st k kept
kept_left shape st new k First o a t = rw o refl
kept_left shape st new k Last o a t = rw o refl
kept_left shape st new k Number o a t = rw o refl
kept_left shape st new k Predecessor o a t = rw (t, a) refl
kept_left shape st new k Successor o a t = rw (t, a) refl
kept_left shape st new k Membership o a t = rw (t, a) refl

number_left : (p : ProgramTable) (st new : Store) (c k s : ℕ) (kept : Kept) →
    list_by (shape_of p s).owner (shape_of p s).list new k ≡ list_by (shape_of p s).owner (shape_of p s).list st k →
    lists_by (shape_of p s).owner (shape_of p s).list new ≡ lists_by (shape_of p s).owner (shape_of p s).list st →
    exists new (shape_of p s).member k ≡ exists st (shape_of p s).member k →
    kept_number p new c k s kept ≡ kept_number p st c k s kept
number_left p st new c k s kept o a t =
    ap (λ (n : ℕ). if has_kept (set_of p s) c kept then pos n else pos 0)
    (kept_left (shape_of p s) st new k kept o a t)

six : (a b c d e f g h i j k l : ℤ) → a ≡ g → b ≡ h → c ≡ i → d ≡ j → e ≡ k → f ≡ l →
    a ∷ b ∷ c ∷ d ∷ e ∷ f ∷ [] ≡ g ∷ h ∷ i ∷ j ∷ k ∷ l ∷ []
six a b c d e f g h i j k l s t u v w x = rw (s, t, u, v, w, x) refl

none_made : (p : ProgramTable) (u : Touch) (w : Owner) (n : ℕ) → touches_list p u w n ≡ false →
    touches_there u ≡ false
none_made p Nothing w n e = refl
none_made p (Attribute d b) w n e = refl
none_made p Attributes w n e = refl
none_made p (Set s) w n e = refl
none_made p Entities w n e = absurd (cc)
none_made p Anything w n e = refl

pub set_left : (p : ProgramTable) (u : Touch) (st new : Store) (c k s : ℕ) → Leaves p u st new →
    touches_list p u (shape_of p s).owner (shape_of p s).list ≡ false →
    set_numbers p new c k s ≡ set_numbers p st c k s
set_left p u st new c k s h f =
    let o = h.one (shape_of p s).owner (shape_of p s).list k f in
    let a = h.all (shape_of p s).owner (shape_of p s).list f in
    let t = h.there (shape_of p s).member k (none_made p u (shape_of p s).owner (shape_of p s).list f) in
    six _ _ _ _ _ _ _ _ _ _ _ _ (number_left p st new c k s First o a t) (number_left p st new c k s Last o a t)
    (number_left p st new c k s Number o a t) (number_left p st new c k s Predecessor o a t)
    (number_left p st new c k s Successor o a t) (number_left p st new c k s Membership o a t)

-- ---- the list of an owner, which is known by its length

abbrev counted : Option (List ℕ) → ℕ
counted o = result_unwrap_or (unless NoEntity (is_some o) (Ok (length (unwrap_or o [])))) 0

counts_same : (a b : Option (List ℕ)) → is_some a ≡ is_some b → counted a ≡ counted b →
    option_map length a ≡ option_map length b
counts_same None None h e = refl
counts_same (Some xs) (Some ys) h e = ap Some e
counts_same None (Some ys) h e = absurd (cc)
counts_same (Some xs) None h e = absurd (cc)

some_length : (o : Option (List ℕ)) → is_some (option_map length o) ≡ is_some o
some_length None = refl
some_length (Some xs) = refl

-- the list is the same, if its owner has the same number of members
list_told : (p : ProgramTable) (u : Touch) (st new : Store) (c k s : ℕ) → Leaves p u st new →
    exists new c k ≡ exists st c k → (shape_of p s).owner ≡ OwnedBy c →
    kept_value (shape_of p s) new k Number ≡ kept_value (shape_of p s) st k Number →
    list_by (shape_of p s).owner (shape_of p s).list new k ≡ list_by (shape_of p s).owner (shape_of p s).list st k
list_told p u st new c k s h t w e =
    let a = list_by (shape_of p s).owner (shape_of p s).list new k in
    let b = list_by (shape_of p s).owner (shape_of p s).list st k in
    let one = exists_is (shape_of p s).owner c (shape_of p s).list k new w in
    let other = exists_is (shape_of p s).owner c (shape_of p s).list k st w in
    let there : is_some a ≡ is_some b =
    sym (some_length a) ∙ sym one ∙ t ∙ other ∙ some_length b in
    h.counted (shape_of p s).owner (shape_of p s).list k (counts_same a b there e)

-- an owner's kept attributes, by whether the class owns the set
owned_told : (p : ProgramTable) (u : Touch) (st new : Store) (c k s : ℕ) (b : Bool) → Leaves p u st new →
    exists new c k ≡ exists st c k → (b ≡ true → (shape_of p s).owner ≡ OwnedBy c) →
    (if b then pos (kept_value (shape_of p s) new k Number) else pos 0)
    ≡ (if b then pos (kept_value (shape_of p s) st k Number) else pos 0) → (kept : Kept) →
    ((o : list_by (shape_of p s).owner (shape_of p s).list new k
    ≡ list_by (shape_of p s).owner (shape_of p s).list st k) →
    kept_value (shape_of p s) new k kept ≡ kept_value (shape_of p s) st k kept) →
    (if b then pos (kept_value (shape_of p s) new k kept) else pos 0)
    ≡ (if b then pos (kept_value (shape_of p s) st k kept) else pos 0)
owned_told p u st new c k s true h t w e kept f =
    ap pos (f (list_told p u st new c k s h t (w refl) (ap number_of e)))
owned_told p u st new c k s false h t w e kept f = refl

-- ---- the neighbours of a member, of which one in no list has none

none_or : (b a : Bool) (l : List ℕ) (o : Option (List ℕ)) → (b || a) ≡ false → (a ≡ false → o ≡ None) →
    cond b (Some l) o ≡ None
none_or true a l o e h = absurd (cc)
none_or false a l o e h = h e

none_found : (test : List ℕ → Bool) (ls : List (List ℕ)) → list_any test ls ≡ false → find test ls ≡ None
none_found test [] e = refl
none_found test (l ∷ ls) e = none_or (test l) (list_any test ls) l (find test ls) e (none_found test ls)

alone_by : (b f : Bool) (ks : List ℕ) (k : ℕ) →
    ◌≡◌ {A = ℕ} (if result_unwrap_or (unless NoEntity b (Ok f)) false then 1 else 0) 0 → (f ≡ false → ks ≡ []) →
    (member_read (unless NoEntity b (Ok (prev_in ks k))) ≡ 0)
    × (member_read (unless NoEntity b (Ok (next_in ks k))) ≡ 0)
alone_by false f ks k e h = (refl, refl)
alone_by true true ks k e h = absurd (omega (arith, e))
alone_by true false ks k e h = rw (h refl) (refl, refl)

alone : (shape : SetShape) (st : Store) (k : ℕ) → kept_value shape st k Membership ≡ 0 →
    (kept_value shape st k Predecessor ≡ 0) × (kept_value shape st k Successor ≡ 0)
alone shape st k e =
    alone_by (exists st shape.member k) (is_filed shape st k) (list_holding shape st k) k e (λ h.
    ap (λ (o : Option (List ℕ)). unwrap_or o [])
    (none_found (λ ks. has ks k) (lists_by shape.owner shape.list st) h))

-- a kept attribute if the class has it
abbrev kept_if : Bool → ℕ → ℤ
kept_if b n = if b then pos n else pos 0

alone_if : (shape : SetShape) (st : Store) (k : ℕ) (b : Bool) → kept_if b (kept_value shape st k Membership) ≡ pos 0 →
    (kept_if b (kept_value shape st k Predecessor) ≡ pos 0) × (kept_if b (kept_value shape st k Successor) ≡ pos 0)
alone_if shape st k true e = let none = alone shape st k (ap number_of e) in (ap pos none.0, ap pos none.1)
alone_if shape st k false e = (refl, refl)

one_or_none : (b x y : Bool) → (kept_if b (if x then 1 else 0) ≡ pos 0 → ⊥) →
    (kept_if b (if y then 1 else 0) ≡ pos 0 → ⊥) → kept_if b (if x then 1 else 0) ≡ kept_if b (if y then 1 else 0)
one_or_none false x y h k = absurd (h refl)
one_or_none true true true h k = refl
one_or_none true true false h k = absurd (k refl)
one_or_none true false y h k = absurd (h refl)

-- a number agrees if it is equal
tells_number : (xs : List ℤ) (i : ℕ) (x y : ℤ) → slice_index_or xs i (pos 0) ≡ x → x ≡ y → tells xs i y ≡ true
tells_number xs i x y e h = (Decides-int_eq (slice_index_or xs i (pos 0)) y).1 (e ∙ h)

member_by : (p : ProgramTable) (st new : Store) (c k s : ℕ) (b d : Bool) → s < length p.sets →
    tells (entity_numbers p new c k) (set_place p c s + 5) (pos 0) ≡ b →
    (tells (entity_numbers p new c k) (set_place p c s + 3) (pos 0)
    && tells (entity_numbers p new c k) (set_place p c s + 4) (pos 0)) ≡ d →
    (if b then tells (entity_numbers p new c k) (set_place p c s + 5) (kept_number p st c k s Membership)
    else tells (entity_numbers p new c k) (set_place p c s + 3) (kept_number p st c k s Predecessor)
    && (tells (entity_numbers p new c k) (set_place p c s + 4) (kept_number p st c k s Successor)
    && (not d || tells (entity_numbers p new c k) (set_place p c s + 5) (kept_number p st c k s Membership)))) ≡ true →
    (kept_number p new c k s Predecessor ≡ kept_number p st c k s Predecessor)
    × ((kept_number p new c k s Successor ≡ kept_number p st c k s Successor)
    × (kept_number p new c k s Membership ≡ kept_number p st c k s Membership))
member_by p st new c k s true d l f g e =
    let xs : List ℤ = entity_numbers p new c k in
    let i = set_place p c s in
    let was = set_at p new c k s 5 l (omega arith) in
    let none : kept_number p new c k s Membership ≡ pos 0 = is_number xs (i + 5) _ _ was f in
    let same : kept_number p new c k s Membership ≡ kept_number p st c k s Membership =
    is_number xs (i + 5) _ _ was e in
    let one = alone_if (shape_of p s) new k (has_kept (set_of p s) c Membership) none in
    let other = alone_if (shape_of p s) st k (has_kept (set_of p s) c Membership) (sym same ∙ none) in
    (one.0 ∙ sym other.0, (one.1 ∙ sym other.1, same))
member_by p st new c k s false true l f g e =
    let xs : List ℤ = entity_numbers p new c k in
    let i = set_place p c s in
    let x = both (tells xs (i + 3) (kept_number p st c k s Predecessor)) _ e in
    let y =
    both (tells xs (i + 4) (kept_number p st c k s Successor)) (tells xs (i + 5) (kept_number p st c k s Membership))
    x.1 in (
      is_number xs (i + 3) _ _ (set_at p new c k s 3 l (omega arith)) x.0,
      (
        is_number xs (i + 4) _ _ (set_at p new c k s 4 l (omega arith)) y.0,
        is_number xs (i + 5) _ _ (set_at p new c k s 5 l (omega arith)) y.1,
      ),
    )
member_by p st new c k s false false l f g e =
    let xs : List ℤ = entity_numbers p new c k in
    let i = set_place p c s in
    let x = both (tells xs (i + 3) (kept_number p st c k s Predecessor)) _ e in
    let y = both (tells xs (i + 4) (kept_number p st c k s Successor)) true x.1 in
    let before : kept_number p new c k s Predecessor ≡ kept_number p st c k s Predecessor =
    is_number xs (i + 3) _ _ (set_at p new c k s 3 l (omega arith)) x.0 in
    let behind : kept_number p new c k s Successor ≡ kept_number p st c k s Successor =
    is_number xs (i + 4) _ _ (set_at p new c k s 4 l (omega arith)) y.0 in
    let held : kept_number p new c k s Membership ≡ pos 0 → ⊥ =
    λ z. clash (sym (tells_number xs (i + 5) _ _ (set_at p new c k s 5 l (omega arith)) z) ∙ f) in
    let holds : kept_number p st c k s Membership ≡ pos 0 → ⊥ =
    λ z.
    let none = alone_if (shape_of p s) st k (has_kept (set_of p s) c Membership) z in
    let one : tells xs (i + 3) (pos 0) ≡ true =
    tells_number xs (i + 3) _ _ (set_at p new c k s 3 l (omega arith)) (before ∙ none.0) in
    let other : tells xs (i + 4) (pos 0) ≡ true =
    tells_number xs (i + 4) _ _ (set_at p new c k s 4 l (omega arith)) (behind ∙ none.1) in
    let all : (tells xs (i + 3) (pos 0) && tells xs (i + 4) (pos 0)) ≡ true = rw (one, other) refl in
    clash (sym all ∙ g) in (
      before,
      (
        behind,
        one_or_none (has_kept (set_of p s) c Membership)
            (result_unwrap_or (membership (shape_of p s) new k) false)
            (result_unwrap_or (membership (shape_of p s) st k) false) held holds,
      ),
    )

-- ---- a set

pub set_told : (p : ProgramTable) (u : Touch) (st new : Store) (c k s : ℕ) → Leaves p u st new →
    exists new c k ≡ exists st c k → s < length p.sets →
    tells_set p st c k (entity_numbers p new c k) s (set_place p c s) ≡ true →
    set_numbers p new c k s ≡ set_numbers p st c k s
set_told p u st new c k s h t l e =
    let xs : List ℤ = entity_numbers p new c k in
    let i = set_place p c s in
    let b = both (tells xs (i + 2) (kept_number p st c k s Number)) _ e in
    let n : kept_number p new c k s Number ≡ kept_number p st c k s Number =
    is_number xs (i + 2) _ _ (set_at p new c k s 2 l (omega arith)) b.0 in
    let member =
    member_by p st new c k s (tells xs (i + 5) (pos 0)) (tells xs (i + 3) (pos 0) && tells xs (i + 4) (pos 0)) l refl
    refl b.1 in
    let owner : has_kept (set_of p s) c Number ≡ true → (shape_of p s).owner ≡ OwnedBy c =
    λ f. ap (λ (x : SetShape). x.owner) (shape_is p s l) ∙ sym (owner_is (OwnedBy c) (set_of p s).owner f) in
    six _ _ _ _ _ _ _ _ _ _ _ _
    (owned_told p u st new c k s (has_kept (set_of p s) c Number) h t owner n First (λ o. rw o refl))
    (owned_told p u st new c k s (has_kept (set_of p s) c Number) h t owner n Last (λ o. rw o refl)) n
    member.0 member.1.0 member.1.1
