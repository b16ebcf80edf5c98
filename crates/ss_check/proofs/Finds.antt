-- The first of the elements of lists that passes a test.
use Rattle.std.proofs.Common.{◌≡◌, ℕ, ◌+◌, ◌<◌, Bool, cond, List, [], ◌∷◌, ◌++◌, length, get_or, drop}
use Rattle.std.proofs.Common.{refl, sym, ap, ◌∙◌, Option, Some, None}
use Rattle.std.specs.Prelude.{map, is_some, option_map}
use Rattle.std.specs.List.{find, flat_map, list_any}
use Rattle.std.specs.Option.{option_or}
use Rattle.ss_check.proofs.FactTables.{else_or, some_view}
use Rattle.ss_check.proofs.Tests.{find_any}
use Rattle.ss_check.proofs.Turns.{left_at}

-- one of a list, each taken as it is
pub find_same : {X : Type 0} (p : X → Bool) (xs : List X) → find p (map (λ x. x) xs) ≡ find p xs
find_same p [] = refl
find_same p (x ∷ xs) = ap (λ o. cond (p x) (Some x) o) (find_same p xs)

-- one of two lists
pub find_append : {X : Type 0} (p : X → Bool) (xs ys : List X) →
    find p (xs ++ ys) ≡ option_or (find p xs) (find p ys)
find_append p [] ys = refl
find_append p (x ∷ xs) ys = ap (λ o. cond (p x) (Some x) o) (find_append p xs ys) ∙ else_or (p x) x (find p xs) (find p ys)

-- one of a list with nothing after it
pub find_end : {X : Type 0} (p : X → Bool) (xs : List X) → find p (xs ++ []) ≡ find p xs
find_end p [] = refl
find_end p (x ∷ xs) = ap (λ o. cond (p x) (Some x) o) (find_end p xs)

-- one of the parts of the elements from the next one on: of its parts, else of those after it
pub parts_turn : {X Y Z : Type 0} (p : Z → Bool) (f : Y → List Z) (g : X → Y) (xs : List X) (i : ℕ) (x : X) →
    i < length xs → x ≡ get_or xs i x →
    find p (flat_map f (map g (drop i xs)))
    ≡ option_or (find p (f (g x))) (find p (flat_map f (map g (drop (i + 1) xs))))
parts_turn {X = X} p f g xs i x l e =
    ap (λ (ys : List X). find p (flat_map f (map g ys))) (left_at xs i x l e)
    ∙ find_append p (f (g x)) (flat_map f (map g (drop (i + 1) xs)))

-- the next one has such a part
pub parts_found : {X Y Z : Type 0} (p : Z → Bool) (f : Y → List Z) (g : X → Y) (xs : List X) (i : ℕ) (x : X) (z : Z)
    (whole : Option Z) →
    i < length xs → x ≡ get_or xs i x → find p (flat_map f (map g (drop i xs))) ≡ whole →
    find p (f (g x)) ≡ Some z → Some z ≡ whole
parts_found {Z = Z} p f g xs i x z whole l e h k =
    ap (λ (o : Option Z). option_or o (find p (flat_map f (map g (drop (i + 1) xs))))) (sym k)
    ∙ sym (parts_turn p f g xs i x l e) ∙ h

-- it has none
pub parts_passed : {X Y Z : Type 0} (p : Z → Bool) (f : Y → List Z) (g : X → Y) (xs : List X) (i : ℕ) (x : X)
    (whole : Option Z) →
    i < length xs → x ≡ get_or xs i x → find p (flat_map f (map g (drop i xs))) ≡ whole →
    find p (f (g x)) ≡ None → find p (flat_map f (map g (drop (i + 1) xs))) ≡ whole
parts_passed {Z = Z} p f g xs i x whole l e h k =
    ap (λ (o : Option Z). option_or o (find p (flat_map f (map g (drop (i + 1) xs))))) (sym k)
    ∙ sym (parts_turn p f g xs i x l e) ∙ h

-- what is found shows that one passes
pub found_any : {X Y : Type 0} (v : Y → X) (o : Option Y) (p : X → Bool) (xs : List X) →
    option_map v o ≡ find p xs → is_some o ≡ list_any p xs
found_any v o p xs h = sym (some_view v o) ∙ ap is_some h ∙ find_any p xs
