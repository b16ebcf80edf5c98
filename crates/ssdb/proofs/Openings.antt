-- Whole dialogues of their parts.
use Rattle.std.proofs.Common.{◌≡◌, ℕ, Bool, List, [], refl, inl, inr, Option, None, Some}
use Rattle.std.specs.Prelude.{IfSome}
use Rattle.ss_console.specs.Event.{Event, Adds, write_events}
use Rattle.ss_console.specs.declared.cut.Cut.TheVariants.{Read, Write, Count}
use Rattle.ss_state.specs.Run.{Input, input_with, run}
use Rattle.ss_debug.specs.Turn.{DebuggerState, initial_debugger_state}
use Rattle.ss_debug.specs.View.{DebuggerView, debugger_state_of}
use Rattle.ss_check.specs.Symbols.{Symbols}
use Rattle.ss_session.specs.Model.{IsOfModel}
use Rattle.ss_prompt.specs.PromptState.{PromptState, prompt_state_of}
use Rattle.ss_prompt.specs.Resume.{resume_lines}
use Rattle.ssdb.specs.declared.end.PromptEnd.{PromptEnd}
use Rattle.ssdb.specs.declared.end.PromptFault.{PromptFault}
use Rattle.ssdb.specs.declared.end.PromptFault.TheVariants.{Refused, Cut, Memory}
use Rattle.ssdb.specs.Refused.{IsRefusalWritten}
use Rattle.ssdb.specs.Seen.{Seen, seen_of}
use Rattle.ss_prompt.specs.Source.{source_lines}
use Rattle.ssdb.specs.Opening.{greeting_at, end_of_status, IsStart, EndsWell, HoldFails, HoldsFrom, StopsFrom}
use Rattle.ssdb.specs.Opening.{GreetingFails, IsHeld, IsStopped}

abbrev state_of : List ℕ → List ℕ → List (List ℕ) → Input → DebuggerState → Symbols → PromptState
state_of model data_text lines t d symbols = record {
  model = model;
  lines = lines;
  input = t;
  debugger = d;
  displays = [];
  listed = None;
  left = None;
  data_text = Some data_text;
  symbols = Some symbols;
}

same_state : (model data_text : List ℕ) (l m : List (List ℕ)) (t u : Input) (d e : DebuggerState) (y : Symbols) →
    l ≡ m → t ≡ u → d ≡ e → state_of model data_text l t d y ≡ state_of model data_text m u e y
same_state model data_text l m t u d e y p q r = rw (p, q, r) refl

-- a prompt over a debugger at the start of a run is at the start
pub starts : (model data_text : List ℕ) (d : DebuggerView) (lines : List (List ℕ)) (symbols : Symbols)
    (from : PromptState) → from ≡ prompt_state_of d model lines [] (Some data_text) (Some symbols) →
    IsOfModel model d.machine.input.program symbols →
    d.machine.input ≡ input_with d.machine.input.program data_text →
    debugger_state_of d ≡ initial_debugger_state → lines ≡ source_lines model → IsStart model data_text from
starts model data_text d lines symbols from e o i s l = rw e (
  d.machine.input.program,
  symbols,
  o,
  same_state model data_text lines (source_lines model) d.machine.input _ (debugger_state_of d) _ symbols l i s,
)

-- the parts of a dialogue
pub holds : (from to : PromptState) (c : Seen) (told : Option (List Event)) (end : PromptEnd)
    (resume : Option (List ℕ)) → Adds c.old told (write_events (greeting_at c.terminal from)) → EndsWell from to told c →
    end ≡ end_of_status (run to.input to.debugger.position).status → IfSome resume (λ text. text ≡ resume_lines to) →
    HoldsFrom from c end resume
holds from to c told end resume g a e r =
    record { told = told; greets = g; to = to; answers = a; end_is = e; resumes = r }

pub breaks : (from to : PromptState) (c : Seen) (told : Option (List Event)) (fault : PromptFault) →
    Adds c.old told (write_events (greeting_at c.terminal from)) → HoldFails from to told c fault →
    StopsFrom from c fault
breaks from to c told fault g a = inl (record { told = told; greets = g; to = to; answers = a })

-- the cause that cuts a dialogue short does not depend on the events before the greeting
fails_behind : (from to : PromptState) (t : Bool) (b a : Option (List (List ℕ))) (o m n : Option (List Event))
    (fault : PromptFault) → HoldFails from to m (seen_of t b a m n) fault →
    HoldFails from to m (seen_of t b a o n) fault
fails_behind from to t b a o m n (Cut Read) h = h
fails_behind from to t b a o m n (Cut Write) h = h
fails_behind from to t b a o m n (Cut Count) h = h
fails_behind from to t b a o m n Refused h = h
fails_behind from to t b a o m n Memory h = h

-- a dialogue that was cut short after its greeting; no line was read within the greeting
pub breaks_behind : (from to : PromptState) (t u : Bool) (b d a : Option (List (List ℕ)))
    (o m n : Option (List Event)) (fault : PromptFault) → u ≡ t → d ≡ b → Adds o m (write_events (greeting_at t from)) →
    HoldFails from to m (seen_of u d a m n) fault → StopsFrom from (seen_of t b a o n) fault
breaks_behind from to t u b d a o m n fault p q g h =
    breaks from to (seen_of t b a o n) m fault g
    (fails_behind from to t b a o m n fault (rw (p, q) at h))

-- a greeting that was cut short, before which no line was read
pub greeting_stops : (from : PromptState) (c : Seen) (fault : PromptFault) →
    GreetingFails (greeting_at c.terminal from) c.old c.new fault → c.after ≡ c.before → StopsFrom from c fault
greeting_stops from c fault g l = inr (g, l)

-- a dialogue over a model
pub held : (model data_text : List ℕ) (from : PromptState) (c : Seen) (end : PromptEnd) (resume : Option (List ℕ)) →
    IsStart model data_text from → HoldsFrom from c end resume → IsHeld model data_text c end resume
held model data_text from c end resume s h = (from, s, h)

pub stopped : (model data_text : List ℕ) (from : PromptState) (c : Seen) (fault : PromptFault) →
    IsStart model data_text from → StopsFrom from c fault → IsStopped model data_text c fault
stopped model data_text from c fault s h = inl (from, s, h)

pub refused : (model data_text : List ℕ) (c : Seen) (fault : PromptFault) → IsRefusalWritten model c fault →
    IsStopped model data_text c fault
refused model data_text c fault r = inr r

pub out_of_memory : (model data_text : List ℕ) (c : Seen) → Adds c.old c.new [] → c.after ≡ c.before →
    IsStopped model data_text c Memory
out_of_memory model data_text c a l = inr (a, l)

-- why there was no dialogue
pub ruleset none = (refused, out_of_memory)
