-- The messages that answer launch, one after the other; and the run that is launched.
use Rattle.std.proofs.Common.{◌≡◌, ℕ, List, [], ◌∷◌, codes, refl, sym}
use Rattle.ss_check.specs.Symbols.{Symbols}
use Rattle.ss_state.specs.Run.{input_with}
use Rattle.ss_debug.specs.View.{DebuggerView, debugger_state_of}
use Rattle.ss_debug.specs.Turn.{initial_debugger_state}
use Rattle.ss_session.specs.Model.{IsOfModel}
use Rattle.ss_messages.specs.declared.counting.Counting.{Counting}
use Rattle.ss_messages.specs.declared.request.Stops.{Stops}
use Rattle.ss_messages.specs.declared.request.Request.{Request}
use Rattle.ss_messages.specs.Messages.{PostView, posted_with, posted_all, reply, event}
use Rattle.ss_messages.proofs.Posts.{posted_both}
use Rattle.ss_adapter.specs.Before.{warning_events, answer_to_launch, IsLaunched}
use Rattle.ss_adapter.specs.Desk.{new_desk}
use Rattle.ss_adapter.specs.Turn.{AdapterState, adapter_state_of}

-- the event after the reply and the warnings of the model: that the adapter is ready
pub accepted : (r : Request) (p replied warned : PostView) (warnings : List ℕ) →
    replied ≡ posted_with r p (reply (codes "{}")) → warned ≡ posted_all r replied (warning_events warnings) →
    posted_with r warned (event (codes "initialized") (codes "{}")) ≡ posted_all r p (answer_to_launch warnings)
unfolding posted_all
accepted r p replied warned warnings e f =
    rw (f, e) (sym (posted_both r (posted_with r p (reply (codes "{}"))) (warning_events warnings)
    (event (codes "initialized") (codes "{}") ∷ [])))

-- a debugger at the start of the run, and a desk on which nothing is set
pub launched : (model text path : List ℕ) (counting : Counting) (stops : Stops) (symbols : Symbols)
    (debugger : DebuggerView) (run : AdapterState) →
    run ≡ adapter_state_of debugger (new_desk path model symbols counting stops) →
    IsOfModel model debugger.machine.input.program symbols →
    debugger.machine.input ≡ input_with debugger.machine.input.program text →
    debugger_state_of debugger ≡ initial_debugger_state → IsLaunched model text path counting stops run
launched model text path counting stops symbols debugger run e o i s =
    rw e (record { program = o; input = i; start = s; desk = refl })
