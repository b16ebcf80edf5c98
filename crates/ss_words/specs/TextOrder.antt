-- In which order the rules that are broken at one place are found.
use Rattle.std.specs.Prelude.{◌≡◌, ℕ, Bool, true, ◌&&◌, nat_lt, List, [], ◌∷◌}
use Rattle.ss_words.specs.declared.fault.TextRule.{TextRule}
use Rattle.ss_words.specs.declared.fault.TextRule.TheVariants.{StrayByte, BadNumber, LongRun, NoPicture}
use Rattle.ss_words.specs.declared.fault.TextRule.TheVariants.{LongPictureLine, UnexpectedWord, UnexpectedEnd}
use Rattle.ss_words.specs.declared.fault.TextRule.TheVariants.{PastLimit}
use Rattle.ss_words.specs.Words.{Kind}
use Rattle.ss_words.specs.TextWords.{Finding, word, breach, found_at, picture_head}

-- the number after the L of a rule on the words; the rules on the grammar have none
abbrev pub rule_number : TextRule → ℕ
rule_number StrayByte = 1
rule_number BadNumber = 2
rule_number LongRun = 3
rule_number NoPicture = 4
rule_number LongPictureLine = 5
rule_number UnexpectedWord = 0
rule_number UnexpectedEnd = 0
rule_number PastLimit = 0

-- the numbers of the rules that are found broken, in the order in which they are found
abbrev pub rule_numbers : List Finding → List ℕ
rule_numbers [] = []
rule_numbers (word w ∷ fs) = rule_numbers fs
rule_numbers (breach r n ∷ fs) = rule_number r ∷ rule_numbers fs

-- each number is above the one before it
abbrev pub is_rising : ℕ → List ℕ → Bool
is_rising last [] = true
is_rising last (x ∷ xs) = nat_lt last x && is_rising x xs

-- at each place of a line, and at the first byte of a line of a picture, the broken rules are found in the order of
-- their numbers, each once
abbrev pub LowestFirst : Type 0
LowestFirst =
    ((n below : ℕ) (before : List Kind) (last : ℕ) (line plain : List ℕ)
    → is_rising 0 (rule_numbers (found_at n below before last line plain)) ≡ true)
    × ((n b : ℕ) (bs : List ℕ) → is_rising 0 (rule_numbers (picture_head n b bs)) ≡ true)
