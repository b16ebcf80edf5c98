-- Tests of the elements of lists.
use Rattle.std.proofs.Common.{◌≡◌, ◌||◌, ◌&&◌, Bool, true, false, cond, List, [], ◌∷◌, ◌++◌, refl, sym, ap, ◌∙◌}
use Rattle.std.specs.Prelude.{is_some, map, option_map, None, Option, Some}
use Rattle.std.specs.List.{filter, find, flat_map, list_any}
use Rattle.std.proofs.lemmas.List.Folds.{list_any-append}
use Rattle.ss_words.specs.Lists.{Name}
use Rattle.ss_check.specs.Facts.{first_of}
use Rattle.ss_check.specs.ItemRules.{joins_system}
use Rattle.ss_check.proofs.FactTables.{some_view}

-- one of the pictures of a list
pub any_map : {X Y : Type 0} (p : Y → Bool) (f : X → Y) (xs : List X) →
    list_any p (map f xs) ≡ list_any (λ x. p (f x)) xs
any_map p f [] = refl
any_map p f (x ∷ xs) = ap (λ (b : Bool). p (f x) || b) (any_map p f xs)

-- one of two lists
pub any_append : {X : Type 0} (p : X → Bool) (xs ys : List X) → list_any p (xs ++ ys) ≡ (list_any p xs || list_any p ys)
any_append p xs ys = list_any-append p xs ys

-- one of a list with nothing after it
pub any_end : {X : Type 0} (p : X → Bool) (xs : List X) → list_any p (xs ++ []) ≡ list_any p xs
any_end p [] = refl
any_end p (x ∷ xs) = ap (λ (b : Bool). p x || b) (any_end p xs)

-- one is found if one passes
pub find_any : {X : Type 0} (p : X → Bool) (xs : List X) → is_some (find p xs) ≡ list_any p xs
find_any p [] = refl
find_any p (x ∷ xs) = either (p x) (find_any p xs)
  where
    either : (b : Bool) → is_some (find p xs) ≡ list_any p xs →
        is_some (cond b (Some x) (find p xs)) ≡ (b || list_any p xs)
    either true h = refl
    either false h = h

-- one of the parts that the pictures of a list have
pub any_parts : {X Y Z : Type 0} (p : Z → Bool) (f : Y → List Z) (g : X → Y) (xs : List X) →
    list_any p (flat_map f (map g xs)) ≡ list_any (λ x. list_any p (f (g x))) xs
any_parts p f g [] = refl
any_parts p f g (x ∷ xs) =
    list_any-append p (f (g x)) (flat_map f (map g xs))
    ∙ ap (λ (b : Bool). list_any p (f (g x)) || b) (any_parts p f g xs)

kept : {X : Type 0} (p : X → Bool) (x : X) (ys : List X) (b rest : Bool) → list_any p ys ≡ rest →
    list_any p (cond b (x ∷ ys) ys) ≡ ((b && p x) || rest)
kept p x ys true rest h = ap (λ (c : Bool). p x || c) h
kept p x ys false rest h = h

-- one of those that pass another test
pub any_filter : {X : Type 0} (p q : X → Bool) (xs : List X) → list_any p (filter q xs) ≡ list_any (λ x. q x && p x) xs
any_filter p q [] = refl
any_filter p q (x ∷ xs) = kept p x (filter q xs) (q x) (list_any (λ y. q y && p y) xs) (any_filter p q xs)

joins_first : (ns : List Name) → is_some (first_of ns) ≡ joins_system None ns
joins_first [] = refl
joins_first (n ∷ ns) = refl

-- the system joins a set if there is a first one
pub joins_found : {X : Type 0} (v : X → Name) (o : Option X) (ns : List Name) → option_map v o ≡ first_of ns →
    is_some o ≡ joins_system None ns
joins_found v o ns h = sym (some_view v o) ∙ ap is_some h ∙ joins_first ns
