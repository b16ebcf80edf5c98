-- The text of the history, on a change that is found and on one that is not.
use Rattle.std.proofs.Common.{◌≡◌, ◌++◌, ℕ, Bool, List, Option, Some, None, refl, true, false}
use Rattle.std.specs.Prelude.{is_some}
use Rattle.ss_state.specs.Run.{Input}
use Rattle.ss_trace.specs.History.{why_head, why_line}
use Rattle.ss_prompt.specs.Past.{change_words, no_change_text, last_change_text}

-- a change has a line
pub has_line : (t : Input) (o : Option ℕ) (line : Option ℕ) → line ≡ why_line t o → is_some line ≡ is_some o
has_line t None line e = rw e refl
has_line t (Some q) line e = rw e refl

-- a line reports a change
pub ruleset found = (has_line)

-- the state of a change
pub change_found : (t : Input) (words : List ℕ) (l : Bool) (earliest : ℕ) (o : Option ℕ) → true ≡ is_some o →
    words ++ change_words l ++ why_head t earliest o ≡ last_change_text t words l earliest o
change_found t words l earliest None e = absurd (cc)
change_found t words l earliest (Some q) e = refl

-- that there is none
pub no_change_found : (t : Input) (words : List ℕ) (l : Bool) (earliest : ℕ) (o : Option ℕ) → false ≡ is_some o →
    words ++ no_change_text l earliest ≡ last_change_text t words l earliest o
no_change_found t words l earliest None e = refl
no_change_found t words l earliest (Some q) e = absurd (cc)

-- of lists and of entities
pub ruleset told = (change_found, no_change_found)
