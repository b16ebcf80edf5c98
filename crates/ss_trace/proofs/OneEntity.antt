-- One entity is changed: a reading of entities is as it was if the change leaves it, and all
-- readings of another class are.
use Rattle.std.proofs.Common.{◌≡◌, ◌≢◌, ℕ, zero, suc, List, [], ◌∷◌, ◌++◌, Bool, true, false, Option, Some, None}
use Rattle.std.proofs.Common.{refl, sym, ap, ◌∙◌, map, eqb→eq, T, subst}
use Rattle.std.specs.Prelude.{slice_get, slice_index_or, option_map, option_and_then, filter_map, is_some, ◌==◌}
use Rattle.std.specs.Prelude.{if◌then◌else◌}
use Rattle.std.specs.List.{cons_option}
use Rattle.std.specs.Option.{option_or}
use Rattle.std.proofs.lemmas.List.{map-append}
use Rattle.ss_store.specs.Lists.{change_at}
use Rattle.ss_store.specs.Store.{Entity, Store, of_class, made_of, entity, entities, changed_reference, with_changed}
use Rattle.ss_store.proofs.More.{index_other}

-- if the same is read of two entities that perhaps exist, both exist or none does
pub there_same : {X : Type 0} (f : Entity → X) (a b : Option Entity) → option_map f a ≡ option_map f b →
    is_some a ≡ is_some b
there_same f None None h = refl
there_same f (Some x) (Some y) h = refl
there_same f None (Some y) h = cc
there_same f (Some x) None h = cc

module _ {X : Type 0} (f : Entity → X) (g : Entity → Entity) (left : (e : Entity) → f (g e) ≡ f e)
    (classed : (e : Entity) → (g e).class ≡ e.class) where
  -- ---- one entity

  made_left : (es : List Entity) (i j : ℕ) →
      option_map f (slice_get (change_at g es i) j) ≡ option_map f (slice_get es j)
  made_left [] i j = refl
  made_left (e ∷ es) zero zero = ap Some (left e)
  made_left (e ∷ es) zero (suc j) = refl
  made_left (e ∷ es) (suc i) zero = refl
  made_left (e ∷ es) (suc i) (suc j) = made_left es i j

  class_left : (rows : List (List Entity)) (c i d j : ℕ) →
      option_map f (slice_get (slice_index_or (change_at (λ row. change_at g row i) rows c) d []) j)
      ≡ option_map f (slice_get (slice_index_or rows d []) j)
  class_left [] c i d j = refl
  class_left (es ∷ rest) zero i zero j = made_left es i j
  class_left (es ∷ rest) zero i (suc d) j = refl
  class_left (es ∷ rest) (suc c) i zero j = refl
  class_left (es ∷ rest) (suc c) i (suc d) j = class_left rest c i d j

  either_left : (e : Entity) (b : Bool) →
      option_map f (if b then Some (g e) else None) ≡ option_map f (if b then Some e else None)
  either_left e true = ap Some (left e)
  either_left e false = refl

  kept_left : (c d : ℕ) (o : Option Entity) →
      option_map f (of_class d (changed_reference g c o)) ≡ option_map f (of_class d o)
  kept_left c d None = refl
  kept_left c d (Some e) = chosen (e.class == c)
    where
      chosen : (b : Bool) → option_map f (of_class d (if b then Some (g e) else Some e))
          ≡ option_map f (of_class d (Some e))
      chosen true =
          ap (λ (k : ℕ). option_map f (if k == d then Some (g e) else None)) (classed e) ∙ either_left e (e.class == d)
      chosen false = refl

  reference_left : (c d : ℕ) (os : List (Option Entity)) (i j : ℕ) →
      option_map f (option_and_then (of_class d) (slice_get (change_at (changed_reference g c) os i) j))
      ≡ option_map f (option_and_then (of_class d) (slice_get os j))
  reference_left c d [] i j = refl
  reference_left c d (o ∷ os) zero zero = kept_left c d o
  reference_left c d (o ∷ os) zero (suc j) = refl
  reference_left c d (o ∷ os) (suc i) zero = refl
  reference_left c d (o ∷ os) (suc i) (suc j) = reference_left c d os i j

  or_left : (a b x y : Option Entity) → option_map f a ≡ option_map f x → option_map f b ≡ option_map f y →
      option_map f (option_or a b) ≡ option_map f (option_or x y)
  or_left None b None y h k = k
  or_left (Some e) b (Some u) y h k = h
  or_left None b (Some u) y h k = cc
  or_left (Some e) b None y h k = cc

  pub one_left : (st : Store) (c k d j : ℕ) →
      option_map f (entity (with_changed g st c k) d j) ≡ option_map f (entity st d j)
  one_left st c zero d j = refl
  one_left st c (suc k) d zero = refl
  one_left st c (suc k) d (suc j) =
      or_left _ _ (slice_get (made_of st d) j) (option_and_then (of_class d) (slice_get st.references j))
      (class_left st.made c k d j) (reference_left c d st.references k j)

  -- ---- all entities of a class

  all_made : (es : List Entity) (i : ℕ) → map f (change_at g es i) ≡ map f es
  all_made [] i = refl
  all_made (e ∷ es) zero = ap (λ (x : X). x ∷ map f es) (left e)
  all_made (e ∷ es) (suc i) = ap (λ (xs : List X). f e ∷ xs) (all_made es i)

  all_rows : (rows : List (List Entity)) (c i d : ℕ) →
      map f (slice_index_or (change_at (λ row. change_at g row i) rows c) d []) ≡ map f (slice_index_or rows d [])
  all_rows [] c i d = refl
  all_rows (es ∷ rest) zero i zero = all_made es i
  all_rows (es ∷ rest) zero i (suc d) = refl
  all_rows (es ∷ rest) (suc c) i zero = refl
  all_rows (es ∷ rest) (suc c) i (suc d) = all_rows rest c i d

  put_left : (o : Option Entity) (es : List Entity) → map f (cons_option o es) ≡ cons_option (option_map f o) (map f es)
  put_left None es = refl
  put_left (Some e) es = refl

  all_references : (c d : ℕ) (os : List (Option Entity)) (i : ℕ) →
      map f (filter_map (of_class d) (change_at (changed_reference g c) os i)) ≡ map f (filter_map (of_class d) os)
  all_references c d [] i = refl
  all_references c d (o ∷ os) zero =
      put_left (of_class d (changed_reference g c o)) (filter_map (of_class d) os)
      ∙ ap (λ (x : Option X). cons_option x (map f (filter_map (of_class d) os))) (kept_left c d o)
      ∙ sym (put_left (of_class d o) (filter_map (of_class d) os))
  all_references c d (o ∷ os) (suc i) =
      put_left (of_class d o) (filter_map (of_class d) (change_at (changed_reference g c) os i))
      ∙ ap (λ (xs : List X). cons_option (option_map f (of_class d o)) xs) (all_references c d os i)
      ∙ sym (put_left (of_class d o) (filter_map (of_class d) os))

  pub all_left : (st : Store) (c k d : ℕ) → map f (entities (with_changed g st c k) d) ≡ map f (entities st d)
  all_left st c zero d = refl
  all_left st c (suc k) d =
      let new = with_changed g st c (suc k) in
      map-append f (made_of new d) (filter_map (of_class d) new.references)
      ∙ ap (λ (xs : List X). xs ++ map f (filter_map (of_class d) new.references)) (all_rows st.made c k d)
      ∙ ap (λ (xs : List X). map f (made_of st d) ++ xs) (all_references c d st.references k)
      ∙ sym (map-append f (made_of st d) (filter_map (of_class d) st.references))

-- ---- another class

module _ (g : Entity → Entity) (classed : (e : Entity) → (g e).class ≡ e.class) where
  clash : (c d : ℕ) (e : Entity) → d ≢ c → (e.class == c) ≡ true → (e.class == d) ≡ true → ⊥
  clash c d e far h k =
      far (sym (eqb→eq e.class d (subst T (sym k) tt)) ∙ eqb→eq e.class c (subst T (sym h) tt))

  -- an entity of one class is of no other
  none_of : (c d : ℕ) (e : Entity) → d ≢ c → (e.class == c) ≡ true → (b : Bool) → (e.class == d) ≡ b →
      (if b then Some (g e) else None) ≡ (if b then Some e else None)
  none_of c d e far h true k = absurd (clash c d e far h k)
  none_of c d e far h false k = refl

  reference_there : (c d : ℕ) (o : Option Entity) → d ≢ c → of_class d (changed_reference g c o) ≡ of_class d o
  reference_there c d None far = refl
  reference_there c d (Some e) far = chosen (e.class == c) refl
    where
      chosen : (b : Bool) → (e.class == c) ≡ b → of_class d (if b then Some (g e) else Some e) ≡ of_class d (Some e)
      chosen true h =
          ap (λ (k : ℕ). if k == d then Some (g e) else None) (classed e)
          ∙ none_of c d e far h (e.class == d) refl
      chosen false h = refl

  each_there : (c d : ℕ) (os : List (Option Entity)) (i j : ℕ) → d ≢ c →
      option_and_then (of_class d) (slice_get (change_at (changed_reference g c) os i) j)
      ≡ option_and_then (of_class d) (slice_get os j)
  each_there c d [] i j far = refl
  each_there c d (o ∷ os) zero zero far = reference_there c d o far
  each_there c d (o ∷ os) zero (suc j) far = refl
  each_there c d (o ∷ os) (suc i) zero far = refl
  each_there c d (o ∷ os) (suc i) (suc j) far = each_there c d os i j far

  references_there : (c d : ℕ) (os : List (Option Entity)) (i : ℕ) → d ≢ c →
      filter_map (of_class d) (change_at (changed_reference g c) os i) ≡ filter_map (of_class d) os
  references_there c d [] i far = refl
  references_there c d (o ∷ os) zero far =
      ap (λ (x : Option Entity). cons_option x (filter_map (of_class d) os)) (reference_there c d o far)
  references_there c d (o ∷ os) (suc i) far =
      ap (λ (es : List Entity). cons_option (of_class d o) es) (references_there c d os i far)

  pub one_there : (st : Store) (c k d j : ℕ) → d ≢ c → entity (with_changed g st c k) d j ≡ entity st d j
  one_there st c zero d j far = refl
  one_there st c (suc k) d zero far = refl
  one_there st c (suc k) d (suc j) far =
      ap (λ (es : List Entity). option_or (slice_get es j)
      (option_and_then (of_class d) (slice_get (change_at (changed_reference g c) st.references k) j)))
      (index_other (λ (row : List Entity). change_at g row k) st.made c d [] far)
      ∙ ap (λ (o : Option Entity). option_or (slice_get (made_of st d) j) o) (each_there c d st.references k j far)

  pub all_there : (st : Store) (c k d : ℕ) → d ≢ c → entities (with_changed g st c k) d ≡ entities st d
  all_there st c zero d far = refl
  all_there st c (suc k) d far =
      ap (λ (es : List Entity). es ++ filter_map (of_class d) (change_at (changed_reference g c) st.references k))
      (index_other (λ (row : List Entity). change_at g row k) st.made c d [] far)
      ∙ ap (λ (es : List Entity). made_of st d ++ es) (references_there c d st.references k far)
