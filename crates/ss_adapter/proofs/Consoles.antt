-- The console after a command of the prompt.
use Rattle.std.proofs.Common.{◌≡◌, List, ap}
use Rattle.ss_debug.specs.View.{DebuggerView, debugger_state_of}
use Rattle.ss_prompt.specs.declared.shown.Shown.{Shown}
use Rattle.ss_prompt.specs.declared.commands.PromptCommand.{PromptCommand}
use Rattle.ss_prompt.specs.Prompting.{prompt_state_after}
use Rattle.ss_prompt.specs.PromptState.{PromptState, lent_state, as_lent}
use Rattle.ss_adapter.specs.Console.{desk_showing}
use Rattle.ss_adapter.specs.Desk.{DeskView}
use Rattle.ss_adapter.specs.Turn.{adapter_state_of, console_after}

-- the debugger that a command of the prompt left
pub led : (old new : DebuggerView) (k : DeskView) (displays : List Shown) (command : PromptCommand) →
    lent_state new k.model k.symbols displays
    ≡ as_lent (prompt_state_after (lent_state old k.model k.symbols k.displays) command) →
    debugger_state_of new ≡ (console_after (adapter_state_of old k) command).debugger
led old new k displays command e = ap (λ (v : PromptState). v.debugger) e

-- the desk with the questions that it left
pub shown : (old new : DebuggerView) (k : DeskView) (displays : List Shown) (command : PromptCommand) →
    lent_state new k.model k.symbols displays
    ≡ as_lent (prompt_state_after (lent_state old k.model k.symbols k.displays) command) →
    desk_showing k displays ≡ desk_showing k (console_after (adapter_state_of old k) command).displays
shown old new k displays command e = ap (λ (v : PromptState). desk_showing k v.displays) e

-- the debugger and the desk that a command of the prompt left
pub ruleset left_behind = (led, shown)
