-- The answer if memory was refused.
use Rattle.std.specs.Prelude.{ℕ, List, [], ◌∷◌, ◌++◌, codes, decimal}
use Rattle.std.specs.Fmt.{signed_decimal}
use Rattle.ss_state.specs.Run.{Input, run}
use Rattle.ss_debug.specs.Answer.{state_line, section_at}
use Rattle.ss_debug.specs.Move.{line_at}

-- in state p: that memory was refused, and the state line
unfoldable pub refusal_at : Input → ℕ → List ℕ
refusal_at input p = codes "OUT OF MEMORY\n" ++ state_line input p

-- the parts of that answer, if the parts of the state line are these: the position, the clock, the
-- word of the status and the number after it, the section, the line
abbrev pub refusal_parts : List ℕ → List ℕ → List ℕ → List ℕ → List ℕ → List ℕ → List (List ℕ)
refusal_parts position clock word number section line =
    codes "OUT OF MEMORY\n" ∷ codes "STATE " ∷ position ∷ codes " CLOCK " ∷ clock ∷ codes " " ∷ word ∷ number
    ∷ codes " IN " ∷ section ∷ codes " LINE " ∷ line ∷ codes "\n" ∷ []

-- its parts in state p, if the word of the status and the number after it are these
abbrev pub refusal_with : Input → ℕ → List ℕ → List ℕ → List (List ℕ)
refusal_with input p word number =
    refusal_parts (decimal p) (signed_decimal (run input p).clock) word number (section_at input p)
    (decimal (line_at input p))
