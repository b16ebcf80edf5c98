-- The first words of a list of the code.
use Rattle.std.proofs.Common.{◌≡◌, ℕ, List, length, map, take, min, ap, refl, [], ◌∷◌}
use Rattle.std.proofs.lemmas.List.{take-map, take_min}
use Rattle.ss_words.specs.declared.word.Word.{Word}
use Rattle.ss_words.specs.Words.{word_at}

-- as pure data
pub first_views : {X Y : Type 0} (f : X → Y) (n : ℕ) (xs : List X) → map f (take (min n (length xs)) xs) ≡ take n (map f xs)
first_views f n xs = rw (take_min n xs, take-map f n xs)

-- a slice of them
pub ruleset takes = (first_views)

-- the lines of words of the code
pub lines_in : (ws : List Word) → map (λ w. w.line) (map word_at ws) ≡ map (λ w. w.line) ws
lines_in [] = refl
lines_in (w ∷ ws) = ap (λ ls. w.line ∷ ls) (lines_in ws)

-- their lines
pub ruleset lines = (lines_in)
