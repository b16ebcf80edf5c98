-- Words counted.
use Rattle.std.specs.Prelude.{ℕ, ◌+◌, Bool, true, false, if◌then◌else◌, List, [], ◌∷◌}
use Rattle.ss_words.specs.declared.mark.Mark.TheVariants as m
use Rattle.ss_words.specs.declared.word.Sign.TheVariants as s
use Rattle.ss_words.specs.declared.reserved.Reserved.TheVariants as r
use Rattle.ss_words.specs.Plain.{Plain, mark}

-- how many of the words meet a test
abbrev pub count : (Plain → Bool) → List Plain → ℕ
count test [] = 0
count test (w ∷ ws) = (if test w then 1 else 0) + count test ws

-- an opening parenthesis
abbrev pub opens : Plain → Bool
opens (mark (m.Sign s.Open)) = true
opens _ = false

-- a closing parenthesis
abbrev pub closes : Plain → Bool
closes (mark (m.Sign s.Close)) = true
closes _ = false

-- a reserved word that is in heads only
abbrev pub heads : Plain → Bool
heads (mark (m.Reserved r.Main)) = true
heads (mark (m.Reserved r.Routine)) = true
heads (mark (m.Reserved r.Event)) = true
heads (mark (m.Reserved r.Saving)) = true
heads _ = false
