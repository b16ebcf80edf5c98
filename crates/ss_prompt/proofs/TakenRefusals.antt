-- The state of a debugger if memory was refused after the answer to SHOW TAKEN or SHOW EVENTS.
use Rattle.std.proofs.Common.{◌≡◌, ap}
use Rattle.ss_debug.specs.declared.commands.Command.TheVariants.{Show}
use Rattle.ss_debug.specs.declared.commands.Question.TheVariants.{Taken, Events}
use Rattle.ss_debug.specs.AfterRefusal.{IsStateAfterRefusal}
use Rattle.ss_debug.specs.Turn.{debugger_state_after}
use Rattle.ss_prompt.specs.Plain.{plain_next, IsPlainRefused}
use Rattle.ss_prompt.specs.PromptState.{PromptState}

-- after SHOW TAKEN it stays in its state
pub after_taken : (s after : PromptState) → after ≡ plain_next s (Show Taken) → IsPlainRefused s (Show Taken) after
unfolding IsPlainRefused IsStateAfterRefusal debugger_state_after
after_taken s after e = (
  (
    ap (λ (v : PromptState). v.model) e,
    ap (λ (v : PromptState). v.lines) e,
    ap (λ (v : PromptState). v.input) e,
    ap (λ (v : PromptState). v.displays) e,
    ap (λ (v : PromptState). v.listed) e,
    ap (λ (v : PromptState). v.data_text) e,
    ap (λ (v : PromptState). v.symbols) e,
    ap (λ (v : PromptState). v.left) e,
  ),
  ap (λ (v : PromptState). v.debugger) e,
)

-- and after SHOW EVENTS
pub after_events : (s after : PromptState) → after ≡ plain_next s (Show Events) → IsPlainRefused s (Show Events) after
unfolding IsPlainRefused IsStateAfterRefusal debugger_state_after
after_events s after e = (
  (
    ap (λ (v : PromptState). v.model) e,
    ap (λ (v : PromptState). v.lines) e,
    ap (λ (v : PromptState). v.input) e,
    ap (λ (v : PromptState). v.displays) e,
    ap (λ (v : PromptState). v.listed) e,
    ap (λ (v : PromptState). v.data_text) e,
    ap (λ (v : PromptState). v.symbols) e,
    ap (λ (v : PromptState). v.left) e,
  ),
  ap (λ (v : PromptState). v.debugger) e,
)
