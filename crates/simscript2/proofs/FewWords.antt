use Rattle.std.proofs.Common.{◌≡◌, ℕ, ◌≤◌, Bool, false, List, [], ◌∷◌, map, length, nat_lt, refl, rules}
use Rattle.std.proofs.lemmas.List.{length-map}
use Rattle.std.specs.List.{list_any}
use Rattle.simscript2.specs.Words.{are_wrong_words, is_option}

-- a test of the values of a function on some items is a test of these items
any_of_map : {A B : Type 0} (p : B → Bool) (f : A → B) (xs : List A) →
    list_any p (map f xs) ≡ list_any (λ x. p (f x)) xs
any_of_map p f [] = refl
any_of_map p f (x ∷ xs) = rw (any_of_map p f xs) refl

not_many : (n : ℕ) → n ≤ 3 → nat_lt 3 n ≡ false
not_many n h = search rules

-- at most three words after the program's name are wrong exactly if an option is among them
pub wrong_among_few : {A : Type 0} (f : A → List ℕ) (words paths : List A) (name : A) → words ≡ name ∷ paths →
    length paths ≤ 3 →
    are_wrong_words (map f words) ≡ list_any (λ w. is_option (f w)) paths
wrong_among_few f words paths name e h =
    rw (e, length-map paths f, not_many (length paths) h, any_of_map is_option f paths) refl
