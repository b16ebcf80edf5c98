-- How many values a list has.
use Rattle.std.specs.Prelude.{ℕ, ◌+◌, ◌==◌, ◌&&◌, Bool, true, false, nat_lt, List, [], ◌∷◌, Option, Some}
use Rattle.std.specs.Prelude.{if◌then◌else◌}
use Rattle.ss_words.specs.declared.mark.Mark.{Mark}
use Rattle.ss_words.specs.declared.mark.Mark.TheVariants.{Reserved, Sign}
use Rattle.ss_words.specs.declared.word.Sign.TheVariants as s
use Rattle.ss_words.specs.Plain.{PlainAt}
use Rattle.ss_words.specs.PlainRules.{mark_in}
use Rattle.ss_names.specs.declared.values.TheConstants.{MOST_COUNTED}
use Rattle.ss_names.specs.Here.{depth_behind}

-- one more, up to the most that is counted
abbrev pub one_more : ℕ → ℕ
one_more n = if nat_lt n MOST_COUNTED then n + 1 else n

-- how many parentheses are open after a sign
abbrev pub depth_at : ℕ → Option Mark → ℕ
depth_at d (Some (Sign x)) = depth_behind d x
depth_at d _ = d

-- a comma
abbrev pub is_comma : Option Mark → Bool
is_comma (Some (Sign s.Comma)) = true
is_comma _ = false

-- a reserved word
abbrev pub is_reserved : Option Mark → Bool
is_reserved (Some (Reserved w)) = true
is_reserved _ = false

-- one more after a comma at this depth
abbrev pub count_behind : ℕ → ℕ → ℕ → Option Mark → ℕ
count_behind top d n mark = if is_comma mark && d == top then one_more n else n

-- how many values are in a list, up to the next reserved word
unfoldable pub list_count : ℕ → ℕ → List PlainAt → ℕ
list_count d n [] = n
list_count d n (w ∷ ws) = let j = mark_in w.word in
    if is_reserved j then n else list_count (depth_at d j) (count_behind 0 d n j) ws
