-- Which rules are broken at which places of a text, and the place at which a text is refused. The
-- places of a text are the bytes of its lines, counted from 0 over all lines.
use Rattle.std.specs.Prelude.{◌≡◌, ◌≤◌, ◌<◌, ℕ, zero, suc, ◌+◌, false, List, [], ◌∷◌, ◌++◌, map, length, sum_by}
use Rattle.std.specs.Prelude.{Contains, Ok, Err}
use Rattle.ss_words.specs.declared.characters.TheConstants.{BLANK}
use Rattle.ss_words.specs.declared.fault.TextRule.{TextRule}
use Rattle.ss_words.specs.declared.fault.TextFault.{TextFault}
use Rattle.ss_words.specs.declared.fault.TextFault.TheVariants.{Refused}
use Rattle.ss_words.specs.Words.{Kind, WordAt}
use Rattle.ss_words.specs.TextLines.{with_blank_comments, text_lines}
use Rattle.ss_words.specs.TextWords.{breaches_in, nearest_first, found_at, found_in_line, picture_byte, picture_head}
use Rattle.ss_words.specs.TextWords.{picture_size, picture_found, words_of}
use Rattle.ss_words.specs.TextOrder.{rule_number}

-- a line of number n outside pictures, with `below` lines below it
module _ (n below : ℕ) where
  -- the breaches at each of its places from one on; `last` is the byte before it, `plain` has the comments made blank
  unfoldable pub breaches_from_place : List Kind → ℕ → List ℕ → List ℕ → List (List TextFault)
  breaches_from_place before last [] plain = []
  breaches_from_place before last (b ∷ bs) [] = []
  breaches_from_place before last (b ∷ bs) (p ∷ ps) =
      let here = found_at n below before last (b ∷ bs) (p ∷ ps) in
      breaches_in here ∷ breaches_from_place (nearest_first here before) p bs ps

-- the breaches at each place of line n of a picture
unfoldable pub breaches_in_picture : ℕ → List ℕ → List (List TextFault)
breaches_in_picture n [] = []
breaches_in_picture n (b ∷ bs) = breaches_in (picture_head n b bs) ∷ map (λ c. breaches_in (picture_byte n c)) bs

-- the breaches at each place of the lines from line n on; the first k belong to the picture before
unfoldable pub breaches_from_line : List Kind → ℕ → ℕ → List (List ℕ) → List (List TextFault)
breaches_from_line before n zero [] = []
breaches_from_line before n (suc k) [] = []
breaches_from_line before n (suc k) (l ∷ ls) = breaches_in_picture n l ++ breaches_from_line before (n + 1) k ls
breaches_from_line before n zero (l ∷ ls) =
    let now = nearest_first (found_in_line n (length ls) before l) before in
    let drawn = picture_found (picture_size now) (n + 1) ls in
    breaches_from_place n (length ls) before BLANK l (with_blank_comments false l)
    ++ breaches_from_line (nearest_first drawn now) (n + 1) (picture_size now) ls

-- the breaches at each place of a text
unfoldable pub breaches_by_place : List ℕ → List (List TextFault)
breaches_by_place text = breaches_from_line [] 1 0 (text_lines text)

-- the breaches at place i, and nothing after the last place
abbrev pub at_place : List (List TextFault) → ℕ → List TextFault
at_place [] i = []
at_place (fs ∷ rest) zero = fs
at_place (fs ∷ rest) (suc i) = at_place rest i

-- a text has as many places as its lines have bytes
abbrev pub PlacesAreBytes : Type 0
PlacesAreBytes = (text : List ℕ) → length (breaches_by_place text) ≡ sum_by length (text_lines text)

-- rule rule is broken at place i of a text, on line n
abbrev pub IsBroken : List ℕ → ℕ → TextRule → ℕ → Type 0
IsBroken text i rule n = Contains (at_place (breaches_by_place text) i) (Refused rule n)

-- a text is refused at place i by rule rule on line n: rule is broken there, no rule at an earlier place, no lower
-- one there
pub record IsRefusedAt (text : List ℕ) (i : ℕ) (rule : TextRule) (n : ℕ) : Type 0 where
  -- the rule is broken there
  pub broken : IsBroken text i rule n
  -- none is broken at an earlier place
  pub none_earlier : (j : ℕ) (q : TextRule) (m : ℕ) → j < i → IsBroken text j q m → ⊥
  -- none with a lower number is broken there
  pub none_lower : (q : TextRule) (m : ℕ) → IsBroken text i q m → rule_number rule ≤ rule_number q

-- if the answer is a refusal, it has its place
abbrev pub RefusalHasAPlace : Type 0
RefusalHasAPlace =
    (text : List ℕ) (r : TextRule) (n : ℕ) → words_of text ≡ Err (Refused r n) → (i : ℕ) × IsRefusedAt text i r n

-- if a text is refused by a rule, that rule and its line are the answer
abbrev pub RefusalIsAnswered : Type 0
RefusalIsAnswered =
    (text : List ℕ) (i : ℕ) (r : TextRule) (n : ℕ) → IsRefusedAt text i r n → words_of text ≡ Err (Refused r n)

-- in a text that has words no rule is broken
abbrev pub WordsBreakNoRule : Type 0
WordsBreakNoRule =
    (text : List ℕ) (ws : List WordAt) → words_of text ≡ Ok ws →
    (i : ℕ) (r : TextRule) (n : ℕ) → IsBroken text i r n → ⊥
