-- The answer to SHOW of a text that is neither an expression nor a condition.
use Rattle.std.proofs.Common.{◌≡◌, ℕ, Bool, List, ◌++◌, Option, None, Result, Ok, Err, OnOk, ap, ◌∙◌}
use Rattle.std.specs.Prelude.{unwrap_or}
use Rattle.ss_prompt.specs.Advice.{unread_text}
use Rattle.ss_prompt.specs.PromptState.{PromptState}
use Rattle.ss_prompt.specs.Valued.{show_word, value_by, value_said}

-- it is that of a line that is no command
pub not_shown : {T E : Type 0} (result : Result T E) (new old : List ℕ) (state : PromptState) (text : List ℕ) (n : Bool) →
    OnOk result (new ≡ old ++ unread_text show_word n) → None ≡ value_by state text state.symbols →
    OnOk result (new ≡ old ++ value_said state text n)
not_shown (Ok value) new old state text n h e =
    h ∙ ap (λ (o : Option (List ℕ)). old ++ unwrap_or o (unread_text show_word n)) e
not_shown (Err error) new old state text n h e = h
