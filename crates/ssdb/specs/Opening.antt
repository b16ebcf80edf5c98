-- A whole dialogue over a model and its data: how it begins, and how it ends.
use Rattle.std.specs.Prelude.{ℕ, ◌≡◌, ◌⊎◌, Bool, List, [], Option, None, Some, IfSome, if◌then◌else◌}
use Rattle.ss_program.specs.Program.{ProgramTable}
use Rattle.ss_state.specs.State.{is_faulted}
use Rattle.ss_state.specs.Run.{input_with, run}
use Rattle.ss_state.specs.declared.status.Status.{Status}
use Rattle.ss_debug.specs.Turn.{initial_debugger_state}
use Rattle.ss_console.specs.Event.{Event, Adds, write_events}
use Rattle.ss_console.specs.Puts.{AddsPart}
use Rattle.ss_console.specs.Dialogue.{EndsByInput, EndsByLine, EndsByRead, EndsInPrompt, EndsInAnswer, EndsByCount}
use Rattle.ss_console.specs.declared.cut.Cut.TheVariants.{Read, Write, Count}
use Rattle.ss_check.specs.Symbols.{Symbols}
use Rattle.ss_session.specs.Model.{IsOfModel}
use Rattle.ss_prompt.specs.PromptState.{PromptState, greeting}
use Rattle.ss_prompt.specs.Prompting.{prompt_meaning}
use Rattle.ss_prompt.specs.Resume.{resume_lines}
use Rattle.ssdb.specs.declared.end.PromptEnd.{PromptEnd}
use Rattle.ssdb.specs.declared.end.PromptEnd.TheVariants.{Done, Faulted}
use Rattle.ssdb.specs.declared.end.PromptFault.{PromptFault}
use Rattle.ssdb.specs.declared.end.PromptFault.TheVariants.{Cut, Memory}
use Rattle.ssdb.specs.Refused.{IsRefusalWritten}
use Rattle.ssdb.specs.Seen.{Seen}
use Rattle.ss_prompt.specs.Source.{source_lines}

-- the text before the first line: at a terminal a greeting
abbrev pub greeting_at : Bool → PromptState → List ℕ
greeting_at terminal state = if terminal then greeting state else []

-- whether a run is faulted
abbrev pub end_of_status : Status → PromptEnd
end_of_status status = if is_faulted status then Faulted else Done

-- the state of the prompt at the start of the run of a program over its data, with its symbol table
abbrev pub start_over : List ℕ → List ℕ → ProgramTable → Symbols → PromptState
start_over model data_text program symbols = record {
  model = model;
  lines = source_lines model;
  input = input_with program data_text;
  debugger = initial_debugger_state;
  displays = [];
  listed = None;
  left = None;
  data_text = Some data_text;
  symbols = Some symbols;
}

-- it is that of the program that a model is, and of the symbol table of its text
abbrev pub IsStart : List ℕ → List ℕ → PromptState → Type 0
IsStart model data_text from =
    (program : ProgramTable) × (symbols : Symbols) × IsOfModel model program symbols
    × (from ≡ start_over model data_text program symbols)

-- how a dialogue ends after the greeting: by the end of input, or by a line
abbrev pub EndsWell : PromptState → PromptState → Option (List Event) → Seen → Type 0
EndsWell from to told seen =
    EndsByInput prompt_meaning seen.terminal from to seen.before seen.after told seen.new
    ⊎ EndsByLine prompt_meaning seen.terminal from to seen.before seen.after told seen.new

-- the cause that cut it short after the greeting: a reading, a writing, or the count of lines
abbrev pub HoldFails : PromptState → PromptState → Option (List Event) → Seen → PromptFault → Type 0
HoldFails from to told seen (Cut Read) = EndsByRead prompt_meaning seen.terminal from to seen.before told seen.new
HoldFails from to told seen (Cut Write) =
    EndsInPrompt prompt_meaning seen.terminal from to seen.before seen.after told seen.new
    ⊎ EndsInAnswer prompt_meaning seen.terminal from to seen.before seen.after told seen.new
HoldFails from to told seen (Cut Count) =
    EndsByCount prompt_meaning seen.terminal from to seen.before seen.after told seen.new
HoldFails from to told seen fault = ⊥

-- the cause that cut it short within the greeting: a prefix is written, or nothing without memory
abbrev pub GreetingFails : List ℕ → Option (List Event) → Option (List Event) → PromptFault → Type 0
GreetingFails text old new (Cut Write) = AddsPart text old new
GreetingFails text old new Memory = Adds old new []
GreetingFails text old new fault = ⊥

-- a whole dialogue from a state on: the greeting and the answers are written; the end says whether
-- the run is faulted in the state to which they lead, and the lines, if any are given, lead there again
pub record HoldsFrom (from : PromptState) (seen : Seen) (end : PromptEnd) (resume : Option (List ℕ)) : Type 0 where
  -- the events until after the greeting
  pub told : Option (List Event)
  -- a terminal is greeted
  pub greets : Adds seen.old told (write_events (greeting_at seen.terminal from))
  -- the state to which the answers led
  pub to : PromptState
  -- the answers, up to the end of input or a line that ends
  pub answers : EndsWell from to told seen
  -- whether the run is faulted there
  pub end_is : end ≡ end_of_status (run to.input to.debugger.position).status
  -- the lines that lead a new dialogue there
  pub resumes : IfSome resume (λ text. text ≡ resume_lines to)

-- a dialogue that was cut short after its greeting
pub record BreaksFrom (from : PromptState) (seen : Seen) (fault : PromptFault) : Type 0 where
  -- the events until after the greeting
  pub told : Option (List Event)
  -- a terminal is greeted
  pub greets : Adds seen.old told (write_events (greeting_at seen.terminal from))
  -- the state to which the answers led
  pub to : PromptState
  -- the answers, and the call that failed
  pub answers : HoldFails from to told seen fault

-- one that was cut short, there or within its greeting, before which no line was read
abbrev pub StopsFrom : PromptState → Seen → PromptFault → Type 0
StopsFrom from seen fault =
    BreaksFrom from seen fault
    ⊎ (GreetingFails (greeting_at seen.terminal from) seen.old seen.new fault × (seen.after ≡ seen.before))

-- a whole dialogue over an accepted model and its data
abbrev pub IsHeld : List ℕ → List ℕ → Seen → PromptEnd → Option (List ℕ) → Type 0
IsHeld model data_text seen end resume =
    (from : PromptState) × IsStart model data_text from × HoldsFrom from seen end resume

-- why there was none: it was cut short, or the model is refused, or memory was before anything was written
abbrev pub IsStopped : List ℕ → List ℕ → Seen → PromptFault → Type 0
IsStopped model data_text seen fault =
    ((from : PromptState) × IsStart model data_text from × StopsFrom from seen fault)
    ⊎ IsRefusalWritten model seen fault
