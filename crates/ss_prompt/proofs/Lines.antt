-- Lines are made word by word.
use Rattle.std.proofs.Common.{◌≡◌, ℕ, List, [], ◌∷◌, refl, fold, Some, None}
use Rattle.ss_program.specs.Program.{ProgramTable}
use Rattle.ss_prompt.specs.Words.{with_word}
use Rattle.ss_prompt.specs.Cuts.{with_whole, made_whole}

-- a line that is too long stays so
pub too_long : (words : List (List ℕ)) → fold with_word None words ≡ None
unfolding with_word
too_long [] = refl
too_long (word ∷ words) = too_long words

-- also by one word
pub one_too_long : (word : List ℕ) → with_word None word ≡ None
unfolding with_word
one_too_long word = refl

-- also if its words are made whole
pub whole_too_long : (program : ProgramTable) (words : List (List ℕ)) → fold (with_whole program) None words ≡ None
unfolding with_whole
whole_too_long program [] = refl
whole_too_long program (word ∷ words) = whole_too_long program words

-- one word made whole
pub one_whole : (program : ProgramTable) (before word : List ℕ) →
    with_whole program (Some before) word ≡ with_word (Some before) (made_whole program before word)
unfolding with_whole
one_whole program before word = refl

-- words made whole, one by one
pub ruleset whole_words = (whole_too_long, one_whole)
