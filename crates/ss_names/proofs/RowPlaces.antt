-- The place of a name's declaration, and declarations with one more.
use Rattle.std.proofs.Common.{◌≡◌, ◌+◌, suc, ◌||◌, ℕ, Bool, true, false, not, cond, List, [], ◌∷◌, ◌++◌, length, map}
use Rattle.std.proofs.Common.{Option, Some, None, refl, sym, ap, ◌∙◌, arith}
use Rattle.std.specs.Prelude.{bytes_eq, position, is_some, slice_get}
use Rattle.std.specs.List.{list_any, position_or_len}
use Rattle.std.proofs.lemmas.Option.{slice_get_past}
use Rattle.ss_program.proofs.Mains.{found_first, found_none}
use Rattle.ss_program.specs.NameIndex.{with_name}
use Rattle.ss_names.specs.declared.meaning.Row.{Row}
use Rattle.ss_names.specs.Meanings.{Declaration, declaration_at, declared_as, names_of}

get_behind : {X : Type 0} (x : X) (xs : List X) (k : ℕ) → slice_get (x ∷ xs) (1 + k) ≡ slice_get xs k
get_behind x xs k =
    let z : 1 + k ≡ suc k = omega arith in
    ap (λ (i : ℕ). slice_get (x ∷ xs) i) z

-- the entry at the place of a name is its declaration
place_get : (n : List ℕ) (ds : List Declaration) →
    slice_get ds (position_or_len (bytes_eq n) (names_of ds)) ≡ declared_as ds n
place_get n [] = refl
place_get n (d ∷ ds) = at (bytes_eq n d.name) (place_get n ds)
  where
    at : (b : Bool) → slice_get ds (position_or_len (bytes_eq n) (names_of ds)) ≡ declared_as ds n →
        slice_get (d ∷ ds) (cond (not b) (1 + position_or_len (bytes_eq n) (names_of ds)) 0)
        ≡ cond b (Some d) (declared_as ds n)
    at true h = refl
    at false h = get_behind d ds (position_or_len (bytes_eq n) (names_of ds)) ∙ h

-- there are as many names as declarations
pub names_length : (ds : List Declaration) → length (names_of ds) ≡ length ds
names_length [] = refl
names_length (d ∷ ds) = ap suc (names_length ds)

-- the declaration at the place of a name
pub place_found : (ds : List Declaration) (n : List ℕ) (i : ℕ) (d : Declaration) →
    Some i ≡ position (bytes_eq n) (names_of ds) → slice_get ds i ≡ Some d → Some d ≡ declared_as ds n
place_found ds n i d p e =
    sym e ∙ ap (slice_get ds) (found_first (bytes_eq n) (names_of ds) i p) ∙ place_get n ds

-- a name without a place has no declaration
pub place_missed : (ds : List Declaration) (n : List ℕ) → None ≡ position (bytes_eq n) (names_of ds) →
    None ≡ declared_as ds n
place_missed ds n p =
    sym (slice_get_past ds (length (names_of ds)) (omega (arith, names_length ds)))
    ∙ ap (slice_get ds) (found_none (bytes_eq n) (names_of ds) p) ∙ place_get n ds

any_name : (ds : List Declaration) (n : List ℕ) → list_any (bytes_eq n) (names_of ds) ≡ is_some (declared_as ds n)
any_name [] n = refl
any_name (d ∷ ds) n = at (bytes_eq n d.name) (any_name ds n)
  where
    at : (b : Bool) → list_any (bytes_eq n) (names_of ds) ≡ is_some (declared_as ds n) →
        (b || list_any (bytes_eq n) (names_of ds)) ≡ is_some (cond b (Some d) (declared_as ds n))
    at true h = refl
    at false h = h

-- the name of a new declaration goes to the end of the names
with_new_name : (ds : List Declaration) (n : List ℕ) → is_some (declared_as ds n) ≡ false →
    with_name (names_of ds) n ≡ names_of ds ++ n ∷ []
with_new_name ds n h = rw (any_name ds n ∙ h) refl

names_push : (rows : List Row) (row : Row) →
    names_of (map declaration_at (rows ++ row ∷ [])) ≡ names_of (map declaration_at rows) ++ row.name.now ∷ []
names_push [] row = refl
names_push (r ∷ rs) row = ap (λ (ns : List (List ℕ)). r.name.now ∷ ns) (names_push rs row)

-- names with that of a new declaration are those of the declarations with it
pub names_more : (rows : List Row) (row : Row) (names after : List (List ℕ)) →
    names ≡ names_of (map declaration_at rows) → is_some (declared_as (map declaration_at rows) row.name.now) ≡ false →
    after ≡ with_name names row.name.now → after ≡ names_of (map declaration_at (rows ++ row ∷ []))
names_more rows row names after e h a =
    a ∙ ap (λ (ns : List (List ℕ)). with_name ns row.name.now) e
    ∙ with_new_name (map declaration_at rows) row.name.now h ∙ sym (names_push rows row)
