-- Counting one more name: the counts of code and definition agree, and a limit is passed if the one
-- more passes it.
use Rattle.std.proofs.Common.{◌≡◌, ℕ, ◌+◌, ◌≤◌, Bool, true, false, cond, not, leb, le-leb, leb-true, bytes_eq, List, []}
use Rattle.std.proofs.Common.{◌∷◌, ◌++◌, length, length-append, refl, sym, ap, subst, ◌∙◌, arith}
use Rattle.std.specs.List.{flat_map, count_by, fold, list_any}
use Rattle.std.specs.Prelude.{if◌then◌else◌}
use Rattle.std.proofs.lemmas.Grind.{flat_map-append}
use Rattle.std.proofs.lemmas.List.{append-nil}
use Rattle.std.proofs.lemmas.List.Sums.{sum_by-append, sum_by-cons, fold-append}
use Rattle.std.proofs.lemmas.Slice.Eq.{bytes_eq-Decides}
use Rattle.ss_words.specs.Lists.{Name}
use Rattle.ss_words.specs.declared.limits.TheConstants.{MOST_CLASSES, MOST_ATTRIBUTES, MOST_VARIABLES, MOST_SETS}
use Rattle.ss_preamble.specs.Roles.{Role, AClass, AnAttribute, AVariable, ASet, AKey, Nothing}
use Rattle.ss_preamble.specs.Limits.{with_name, distinct}
use Rattle.ss_preamble.specs.WordLimits.{class_of, set_of, is_attribute_of, is_variable, is_late_key, AreWithin}
use Rattle.ss_preamble.specs.Tally.{Counts, attribute_owner, tally_of, with_role, is_in_room}

module _ {A : Type 0} (f : Role → List A) (rs : List Role) (r : Role) where
  pub flat_more : flat_map f (rs ++ r ∷ []) ≡ flat_map f rs ++ f r
  flat_more = flat_map-append f rs (r ∷ []) ∙ ap (λ (u : List A). flat_map f rs ++ u) (append-nil (f r))

  pub flat_same : f r ≡ [] → flat_map f (rs ++ r ∷ []) ≡ flat_map f rs
  flat_same e = flat_more ∙ ap (λ (u : List A). flat_map f rs ++ u) e ∙ append-nil (flat_map f rs)

module _ (p : Role → Bool) (rs : List Role) (r : Role) where
  count_more : count_by p (rs ++ r ∷ []) ≡ count_by p rs + cond (p r) 1 0
  count_more = let h = sum_by-append (λ x. cond (p x) 1 0) rs (r ∷ []) in omega (arith, h)

  pub count_same : p r ≡ false → count_by p (rs ++ r ∷ []) ≡ count_by p rs
  count_same e =
      let h = count_more in let g : ◌≡◌ {A = ℕ} (cond (p r) 1 0) 0 = ap (λ (b : Bool). let k : ℕ = cond b 1 0 in k) e in
      omega (arith, h, g)

  pub count_one : p r ≡ true → count_by p (rs ++ r ∷ []) ≡ count_by p rs + 1
  count_one e =
      let h = count_more in let g : ◌≡◌ {A = ℕ} (cond (p r) 1 0) 1 = ap (λ (b : Bool). let k : ℕ = cond b 1 0 in k) e in
      omega (arith, h, g)

distinct_more : (ns : List Name) (n : Name) → distinct (ns ++ n ∷ []) ≡ with_name (distinct ns) n
distinct_more ns n = fold-append with_name [] ns (n ∷ [])

-- ---- one more name

module _ (rs : List Role) where
  classes_with : (r : Role) → distinct (flat_map class_of (rs ++ r ∷ [])) ≡ (with_role (tally_of rs) r).classes
  classes_with (AClass n) = ap distinct (flat_more class_of rs (AClass n)) ∙ distinct_more (flat_map class_of rs) n
  classes_with (AnAttribute n) = ap distinct (flat_same class_of rs (AnAttribute n) refl)
  classes_with AVariable = ap distinct (flat_same class_of rs AVariable refl)
  classes_with (ASet n) = ap distinct (flat_same class_of rs (ASet n) refl)
  classes_with (AKey k) = ap distinct (flat_same class_of rs (AKey k) refl)
  classes_with Nothing = ap distinct (flat_same class_of rs Nothing refl)

  attributes_with : (r : Role) → flat_map attribute_owner (rs ++ r ∷ []) ≡ (with_role (tally_of rs) r).attributes
  attributes_with (AClass n) = flat_same attribute_owner rs (AClass n) refl
  attributes_with (AnAttribute n) = flat_more attribute_owner rs (AnAttribute n)
  attributes_with AVariable = flat_same attribute_owner rs AVariable refl
  attributes_with (ASet n) = flat_same attribute_owner rs (ASet n) refl
  attributes_with (AKey k) = flat_same attribute_owner rs (AKey k) refl
  attributes_with Nothing = flat_same attribute_owner rs Nothing refl

  variables_with : (r : Role) → count_by is_variable (rs ++ r ∷ []) ≡ (with_role (tally_of rs) r).variables
  variables_with (AClass n) = count_same is_variable rs (AClass n) refl
  variables_with (AnAttribute n) = count_same is_variable rs (AnAttribute n) refl
  variables_with AVariable = count_one is_variable rs AVariable refl
  variables_with (ASet n) = count_same is_variable rs (ASet n) refl
  variables_with (AKey k) = count_same is_variable rs (AKey k) refl
  variables_with Nothing = count_same is_variable rs Nothing refl

  sets_with : (r : Role) → distinct (flat_map set_of (rs ++ r ∷ [])) ≡ (with_role (tally_of rs) r).sets
  sets_with (AClass n) = ap distinct (flat_same set_of rs (AClass n) refl)
  sets_with (AnAttribute n) = ap distinct (flat_same set_of rs (AnAttribute n) refl)
  sets_with AVariable = ap distinct (flat_same set_of rs AVariable refl)
  sets_with (ASet n) = ap distinct (flat_more set_of rs (ASet n)) ∙ distinct_more (flat_map set_of rs) n
  sets_with (AKey k) = ap distinct (flat_same set_of rs (AKey k) refl)
  sets_with Nothing = ap distinct (flat_same set_of rs Nothing refl)

  pub tally_with : (r : Role) → tally_of (rs ++ r ∷ []) ≡ with_role (tally_of rs) r
  tally_with r =
      λ i. let a : Counts =
      record {
        classes = classes_with r i;
        attributes = attributes_with r i;
        variables = variables_with r i;
        sets =
            sets_with r i;
      } in a

-- ---- limits

owners_count : (c : Name) (rs : List Role)
    → count_by (is_attribute_of c) rs ≡ count_by (bytes_eq c) (flat_map attribute_owner rs)
owners_count c [] = refl
owners_count c (AnAttribute n ∷ rs) =
    let h = sum_by-cons (λ x. cond (is_attribute_of c x) 1 0) (AnAttribute n) rs in
    let g = sum_by-cons (λ x. cond (bytes_eq c x) 1 0) n (flat_map attribute_owner rs) in let e = owners_count c rs in
    omega (arith, h, g, e)
owners_count c (AClass n ∷ rs) =
    let h = sum_by-cons (λ x. cond (is_attribute_of c x) 1 0) (AClass n) rs in let e = owners_count c rs in
    omega (arith, h, e)
owners_count c (AVariable ∷ rs) =
    let h = sum_by-cons (λ x. cond (is_attribute_of c x) 1 0) AVariable rs in let e = owners_count c rs in
    omega (arith, h, e)
owners_count c (ASet n ∷ rs) =
    let h = sum_by-cons (λ x. cond (is_attribute_of c x) 1 0) (ASet n) rs in let e = owners_count c rs in
    omega (arith, h, e)
owners_count c (AKey k ∷ rs) =
    let h = sum_by-cons (λ x. cond (is_attribute_of c x) 1 0) (AKey k) rs in let e = owners_count c rs in
    omega (arith, h, e)
owners_count c (Nothing ∷ rs) =
    let h = sum_by-cons (λ x. cond (is_attribute_of c x) 1 0) Nothing rs in let e = owners_count c rs in
    omega (arith, h, e)

same_length : (xs ys : List Name) (n : ℕ) → xs ≡ ys → length ys ≤ n → length xs ≤ n
same_length xs ys n e le = subst (λ (zs : List Name). length zs ≤ n) (sym e) le

module _ (rs : List Role) (w : AreWithin rs) where
  -- with this role after them they are within its limit
  abbrev InRoom : Role → Type 0
  InRoom r = is_in_room (tally_of (rs ++ r ∷ [])) r ≡ true

  classes_more : (r : Role) → InRoom r → length (distinct (flat_map class_of (rs ++ r ∷ []))) ≤ MOST_CLASSES
  classes_more (AClass n) e = leb-true _ MOST_CLASSES e
  classes_more (AnAttribute n) e = same_length _ _ MOST_CLASSES (classes_with rs (AnAttribute n)) w.classes
  classes_more AVariable e = same_length _ _ MOST_CLASSES (classes_with rs AVariable) w.classes
  classes_more (ASet n) e = same_length _ _ MOST_CLASSES (classes_with rs (ASet n)) w.classes
  classes_more (AKey k) e = same_length _ _ MOST_CLASSES (classes_with rs (AKey k)) w.classes
  classes_more Nothing e = same_length _ _ MOST_CLASSES (classes_with rs Nothing) w.classes

  sets_more : (r : Role) → InRoom r → length (distinct (flat_map set_of (rs ++ r ∷ []))) ≤ MOST_SETS
  sets_more (AClass n) e = same_length _ _ MOST_SETS (sets_with rs (AClass n)) w.sets
  sets_more (AnAttribute n) e = same_length _ _ MOST_SETS (sets_with rs (AnAttribute n)) w.sets
  sets_more AVariable e = same_length _ _ MOST_SETS (sets_with rs AVariable) w.sets
  sets_more (ASet n) e = leb-true _ MOST_SETS e
  sets_more (AKey k) e = same_length _ _ MOST_SETS (sets_with rs (AKey k)) w.sets
  sets_more Nothing e = same_length _ _ MOST_SETS (sets_with rs Nothing) w.sets

  variables_more : (r : Role) → InRoom r → count_by is_variable (rs ++ r ∷ []) ≤ MOST_VARIABLES
  variables_more (AClass n) e = let h = variables_with rs (AClass n) in let k = w.variables in omega (arith, h, k)
  variables_more (AnAttribute n) e =
      let h = variables_with rs (AnAttribute n) in let k = w.variables in omega (arith, h, k)
  variables_more AVariable e = leb-true _ MOST_VARIABLES e
  variables_more (ASet n) e = let h = variables_with rs (ASet n) in let k = w.variables in omega (arith, h, k)
  variables_more (AKey k) e = let h = variables_with rs (AKey k) in let l = w.variables in omega (arith, h, l)
  variables_more Nothing e = let h = variables_with rs Nothing in let k = w.variables in omega (arith, h, k)

  -- the attributes of another class, and those of this one
  attribute_more : (n : Name) → InRoom (AnAttribute n) → (c : Name) (b : Bool) → bytes_eq c n ≡ b
      → count_by (is_attribute_of c) (rs ++ AnAttribute n ∷ []) ≤ MOST_ATTRIBUTES
  attribute_more n e c true is =
      let same : c ≡ n = (bytes_eq-Decides c n).0 is in
      let le : count_by (bytes_eq n) (flat_map attribute_owner (rs ++ AnAttribute n ∷ [])) ≤ MOST_ATTRIBUTES =
      leb-true _ MOST_ATTRIBUTES e in
      subst (λ (d : Name). count_by (is_attribute_of d) (rs ++ AnAttribute n ∷ []) ≤ MOST_ATTRIBUTES) (sym same)
      (let h = owners_count n (rs ++ AnAttribute n ∷ []) in omega (arith, h, le))
  attribute_more n e c false is =
      let h = count_same (is_attribute_of c) rs (AnAttribute n) is in let k = w.attributes c in omega (arith, h, k)

  attributes_more : (r : Role) → InRoom r → (c : Name)
      → count_by (is_attribute_of c) (rs ++ r ∷ []) ≤ MOST_ATTRIBUTES
  attributes_more (AClass n) e c =
      let h = count_same (is_attribute_of c) rs (AClass n) refl in let k = w.attributes c in omega (arith, h, k)
  attributes_more (AnAttribute n) e c = attribute_more n e c (bytes_eq c n) refl
  attributes_more AVariable e c =
      let h = count_same (is_attribute_of c) rs AVariable refl in let k = w.attributes c in omega (arith, h, k)
  attributes_more (ASet n) e c =
      let h = count_same (is_attribute_of c) rs (ASet n) refl in let k = w.attributes c in omega (arith, h, k)
  attributes_more (AKey j) e c =
      let h = count_same (is_attribute_of c) rs (AKey j) refl in let k = w.attributes c in omega (arith, h, k)
  attributes_more Nothing e c =
      let h = count_same (is_attribute_of c) rs Nothing refl in let k = w.attributes c in omega (arith, h, k)

  keys_more : (r : Role) → InRoom r → count_by is_late_key (rs ++ r ∷ []) ≡ 0
  keys_more (AClass n) e = count_same is_late_key rs (AClass n) refl ∙ w.keys
  keys_more (AnAttribute n) e = count_same is_late_key rs (AnAttribute n) refl ∙ w.keys
  keys_more AVariable e = count_same is_late_key rs AVariable refl ∙ w.keys
  keys_more (ASet n) e = count_same is_late_key rs (ASet n) refl ∙ w.keys
  keys_more (AKey k) e = count_same is_late_key rs (AKey k) (ap not e) ∙ w.keys
  keys_more Nothing e = count_same is_late_key rs Nothing refl ∙ w.keys

  pub within_more : (r : Role) → InRoom r → AreWithin (rs ++ r ∷ [])
  within_more r e = record {
    classes = classes_more r e;
    attributes = attributes_more r e;
    variables =
        variables_more r e;
    sets = sets_more r e;
    keys = keys_more r e;
  }

pub no_le : (k n : ℕ) → leb k n ≡ false → k ≤ n → ⊥
no_le k n e le = let h = le-leb k n le in cc

pub not_within : (rs : List Role) (r : Role) → is_in_room (tally_of (rs ++ r ∷ [])) r ≡ false → AreWithin (rs ++ r ∷ [])
    → ⊥
not_within rs (AClass n) e w = no_le _ MOST_CLASSES e w.classes
not_within rs (AnAttribute n) e w =
    no_le _ MOST_ATTRIBUTES e
    (let h = owners_count n (rs ++ AnAttribute n ∷ []) in let k = w.attributes n in omega (arith, h, k))
not_within rs AVariable e w = no_le _ MOST_VARIABLES e w.variables
not_within rs (ASet n) e w = no_le _ MOST_SETS e w.sets
not_within rs (AKey k) e w =
    let h = count_one is_late_key rs (AKey k) (ap not e) in let g = w.keys in omega (arith, h, g)
not_within rs Nothing e w = absurd cc

-- nothing is counted at first
pub none_within : AreWithin []
none_within = record {
  classes = omega arith;
  attributes = λ c. omega arith;
  variables = omega arith;
  sets =
      omega arith;
  keys = refl;
}

-- ---- fewer names

distinct_less : (acc ns : List Name) → length acc ≤ length (fold with_name acc ns)
distinct_less acc [] = omega arith
distinct_less acc (n ∷ ns) =
    let h = distinct_less (with_name acc n) ns in let g = one_less (list_any (bytes_eq n) acc) in omega (arith, h, g)
  where
    longer : length acc ≤ length (acc ++ n ∷ [])
    longer = omega (arith, length-append acc (n ∷ []))

    one_less : (b : Bool) → length acc ≤ length (if b then acc else acc ++ n ∷ [])
    one_less true = (let h : length acc ≤ length acc = omega arith in h)
    one_less false = longer

distinct_part : (f : Role → List Name) (rs ys : List Role)
    → length (distinct (flat_map f rs)) ≤ length (distinct (flat_map f (rs ++ ys)))
distinct_part f rs ys =
    let h = distinct_less (distinct (flat_map f rs)) (flat_map f ys) in
    let e : length (distinct (flat_map f (rs ++ ys))) ≡ length (distinct (flat_map f rs ++ flat_map f ys)) =
    ap (λ (ns : List Name). length (distinct ns)) (flat_map-append f rs ys) in
    let g : length (distinct (flat_map f rs ++ flat_map f ys)) ≡ length
    (fold with_name (distinct (flat_map f rs)) (flat_map f ys)) =
    ap (λ (ns : List Name). length ns) (fold-append with_name [] (flat_map f rs) (flat_map f ys)) in
    omega (arith, h, e, g)

count_part : (p : Role → Bool) (rs ys : List Role) → count_by p rs ≤ count_by p (rs ++ ys)
count_part p rs ys = let h = sum_by-append (λ x. cond (p x) 1 0) rs ys in omega (arith, h)

pub within_less : (rs ys : List Role) → AreWithin (rs ++ ys) → AreWithin rs
within_less rs ys w = record {
  classes = (let h = distinct_part class_of rs ys in let k = w.classes in omega (arith, h, k));
  attributes = λ c. (let h = count_part (is_attribute_of c) rs ys in let k = w.attributes c in omega (arith, h, k));
  variables = (let h = count_part is_variable rs ys in let k = w.variables in omega (arith, h, k));
  sets = (let h = distinct_part set_of rs ys in let k = w.sets in omega (arith, h, k));
  keys = (let h = count_part is_late_key rs ys in let k = w.keys in omega (arith, h, k));
}
