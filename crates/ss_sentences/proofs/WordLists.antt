-- All words of a list, and the first of them.
use Rattle.std.proofs.Common.{◌≡◌, ℕ, List, length, map, take, subst, sym, arith, ◌+◌, ◌-◌, ◌≤◌, ◌∙◌, ◌++◌, ◌∷◌, [], ap}
use Rattle.std.proofs.Math.Seq.{take-append_seam, take-length}
use Rattle.std.proofs.lemmas.List.{length-map, map_push, take-map, take_all}
use Rattle.std.proofs.lemmas.Option.{slice_get-map}
use Rattle.ss_columns.proofs.Takes.{first_views}

-- all are the first ones, as many as there are
pub all_views : {X Y : Type 0} (f : X → Y) (xs : List X) → take (length xs) (map f xs) ≡ map f xs
all_views f xs = subst (λ (n : ℕ). take n (map f xs) ≡ map f xs) (length-map xs f) (take-length (map f xs))

-- all
pub ruleset whole = (all_views)

-- the first ones
pub ruleset firsts = (first_views)

-- there is no word after the last
pub past_views : {X Y : Type 0} (f : X → Y) (n : ℕ) (xs : List X) → length xs ≤ n
    → take n (map f xs) ≡ take (n + 1) (map f xs)
past_views f n xs h =
    let le : length (map f xs) ≤ n = subst (λ (k : ℕ). k ≤ n) (sym (length-map xs f)) h in
    take_all n (map f xs) le ∙ sym (take_all (n + 1) (map f xs) (omega (arith, le)))

-- the next ones
pub ruleset nexts = (past_views)

-- the words before the last one
pub front_views : {X Y : Type 0} (f : X → Y) (xs : List X) (x : X) → map f (take (length xs) (xs ++ x ∷ [])) ≡ map f xs
front_views f xs x = ap (map f) (take-append_seam xs (x ∷ []))

-- a word after others
pub pushed_views : {X Y : Type 0} (f : X → Y) (xs : List X) (x : X) → map f (xs ++ x ∷ []) ≡ map f xs ++ f x ∷ []
pushed_views f xs x = map_push f xs x

-- a word pushed and popped
pub ruleset pushed = (front_views, pushed_views, length-map)

-- a word of the first ones
pub ruleset gets = (slice_get-map)

-- all words but the last
pub fronts : {X Y : Type 0} (f : X → Y) (xs : List X)
    → map f (take (length xs - 1) xs) ≡ take (length (map f xs) - 1) (map f xs)
fronts f xs = rw (length-map xs f, take-map f (length xs - 1) xs)

-- all words but the last, as the definitions read them
pub ruleset but_last = (fronts)
