-- The state of the prompt, and the text at a stop.
use Rattle.std.specs.Prelude.{ℕ, ◌≡◌, List, [], ◌∷◌, ◌++◌, codes, Option, Some, None}
use Rattle.ss_state.specs.Run.{Input, run}
use Rattle.ss_prompt.specs.declared.shown.Shown.{Shown}
use Rattle.ss_prompt.specs.declared.shown.Shown.TheVariants.{Asked, Text}
use Rattle.ss_expressions.specs.Meanings.{Meant, meant, refused, meaning_asked}
use Rattle.ss_expressions.specs.Displayed.{displayed}
use Rattle.ss_trace.specs.Question.{answer_at}
use Rattle.ss_debug.specs.Answer.{state_line}
use Rattle.ss_debug.specs.Move.{line_at}
use Rattle.ss_debug.specs.Turn.{DebuggerState}
use Rattle.ss_debug.specs.View.{DebuggerView, debugger_state_of}
use Rattle.ss_check.specs.Symbols.{Symbols}
use Rattle.ss_prompt.specs.Source.{source_lines, marked_line}
use Rattle.ss_prompt.specs.Names.{warnings_told}
use Rattle.ss_faults.specs.Sentence.{fault_text}

-- a debugger in the run of an input, its model and its lines, the questions of each stop, the line
-- after which LIST goes on, the position that was left, and the text of the data
pub record PromptState : Type 0 where
  -- the bytes of the model
  pub model : List ℕ
  -- the lines of the model
  pub lines : List (List ℕ)
  -- the program and its data
  pub input : Input
  -- the position of the debugger, the steps that it keeps, and its break lines
  pub debugger : DebuggerState
  -- the questions that are answered at each stop
  pub displays : List Shown
  -- the last line that LIST printed, if no movement came after it
  pub listed : Option ℕ
  -- the position that the last movement left, if all that it changed is shown
  pub left : Option ℕ
  -- the text of the data, if it is known
  pub data_text : Option (List ℕ)
  -- the symbol table of the model, if it is kept
  pub symbols : Option Symbols

-- the state of the prompt for a debugger with this model, these lines, these questions, this text of
-- the data and this symbol table; LIST printed nothing, and no position was left
abbrev pub prompt_state_of : DebuggerView → List ℕ → List (List ℕ) → List Shown → Option (List ℕ) → Option Symbols →
    PromptState
prompt_state_of debugger model lines displays data_text symbols = record {
  model = model;
  lines = lines;
  input = debugger.machine.input;
  debugger = debugger_state_of debugger;
  displays = displays;
  listed = None;
  left = None;
  data_text = data_text;
  symbols = symbols;
}

-- the parts of the prompt that are not the debugger's
pub record PromptDeskView : Type 0 where
  -- the bytes of the model
  pub model : List ℕ
  -- the lines of the model
  pub lines : List (List ℕ)
  -- the questions that are answered at each stop
  pub displays : List Shown
  -- the last line that LIST printed, if no movement came after it
  pub listed : Option ℕ
  -- the position that the last movement left, if all that it changed is shown
  pub left : Option ℕ
  -- the text of the data, if it is known
  pub data_text : Option (List ℕ)
  -- the symbol table of the model, if it is kept
  pub symbols : Option Symbols

-- the same desk, with other questions
abbrev pub with_questions : PromptDeskView → List Shown → PromptDeskView
with_questions desk displays =
    record {
      model = desk.model;
      lines = desk.lines;
      displays = displays;
      listed = desk.listed;
      left = desk.left;
      data_text = desk.data_text;
      symbols = desk.symbols;
    }

-- the same desk, with another line after which LIST goes on
abbrev pub noting : PromptDeskView → Option ℕ → PromptDeskView
noting desk listed =
    record {
      model = desk.model;
      lines = desk.lines;
      displays = desk.displays;
      listed = listed;
      left = desk.left;
      data_text = desk.data_text;
      symbols = desk.symbols;
    }

-- the same desk, with another position that was left
abbrev pub leaving : PromptDeskView → Option ℕ → PromptDeskView
leaving desk left =
    record {
      model = desk.model;
      lines = desk.lines;
      displays = desk.displays;
      listed = desk.listed;
      left = left;
      data_text = desk.data_text;
      symbols = desk.symbols;
    }

-- the state of the prompt for a debugger and a desk
abbrev pub state_at : DebuggerView → PromptDeskView → PromptState
state_at debugger desk = record {
  model = desk.model;
  lines = desk.lines;
  input = debugger.machine.input;
  debugger = debugger_state_of debugger;
  displays = desk.displays;
  listed = desk.listed;
  left = desk.left;
  data_text = desk.data_text;
  symbols = desk.symbols;
}

-- the state of the prompt for a lent debugger, in the run of a model, with these questions; the
-- text of the data is not known
abbrev pub lent_state : DebuggerView → List ℕ → Symbols → List Shown → PromptState
lent_state debugger model symbols displays =
    prompt_state_of debugger model (source_lines model) displays None (Some symbols)

-- a state of the prompt, with the debugger in another state
abbrev pub with_debugger : PromptState → DebuggerState → PromptState
with_debugger state debugger =
    record {
      model = state.model;
      lines = state.lines;
      input = state.input;
      debugger = debugger;
      displays = state.displays;
      listed = state.listed;
      left = state.left;
      data_text = state.data_text;
      symbols = state.symbols;
    }

-- a state of the prompt, with other questions
abbrev pub with_displays : PromptState → List Shown → PromptState
with_displays state displays =
    record {
      model = state.model;
      lines = state.lines;
      input = state.input;
      debugger = state.debugger;
      displays = displays;
      listed = state.listed;
      left = state.left;
      data_text = state.data_text;
      symbols = state.symbols;
    }

-- a state of the prompt, with another line after which LIST goes on
abbrev pub with_listed : PromptState → Option ℕ → PromptState
with_listed state listed =
    record {
      model = state.model;
      lines = state.lines;
      input = state.input;
      debugger = state.debugger;
      displays = state.displays;
      listed = listed;
      left = state.left;
      data_text = state.data_text;
      symbols = state.symbols;
    }

-- a state of the prompt, with another position that was left
abbrev pub with_left : PromptState → Option ℕ → PromptState
with_left state left =
    record {
      model = state.model;
      lines = state.lines;
      input = state.input;
      debugger = state.debugger;
      displays = state.displays;
      listed = state.listed;
      left = left;
      data_text = state.data_text;
      symbols = state.symbols;
    }

-- a state of the prompt in which LIST does not go on, and no position was left
abbrev pub as_lent : PromptState → PromptState
as_lent state = with_left (with_listed state None) None

-- all but the state of the debugger is the same
abbrev pub IsSameBeside : PromptState → PromptState → Type 0
IsSameBeside state after =
    (after.model ≡ state.model) × (after.lines ≡ state.lines) × (after.input ≡ state.input)
    × (after.displays ≡ state.displays) × (after.listed ≡ state.listed) × (after.data_text ≡ state.data_text)
    × (after.symbols ≡ state.symbols) × (after.left ≡ state.left)

-- the line of the place of a state, as it is written in the model
abbrev pub source_line : PromptState → List ℕ
source_line state = marked_line state.lines (codes "> ") (line_at state.input state.debugger.position)

-- what a text means, with its value in state p
abbrev pub meant_shown : Input → ℕ → List ℕ → Option Meant → List ℕ
meant_shown input p text (Some (meant meaning)) = displayed input.program (run input p) text meaning
meant_shown input p text _ = []

-- a text that was asked in section number q, with its value by a symbol table, if one is kept
abbrev pub text_shown : Option Symbols → Input → ℕ → List ℕ → ℕ → List ℕ
text_shown None input p text q = []
text_shown (Some symbols) input p text q = meant_shown input p text (meaning_asked symbols input.program q text)

-- what is printed at a stop in state p
abbrev pub shown_at : Option Symbols → Input → ℕ → Shown → List ℕ
shown_at symbols input p (Asked x) = answer_at input x p
shown_at symbols input p (Text text q) = text_shown symbols input p text q

-- all that is printed there
abbrev pub answers_to : Option Symbols → Input → ℕ → List Shown → List ℕ
answers_to symbols input p [] = []
answers_to symbols input p (x ∷ xs) = shown_at symbols input p x ++ answers_to symbols input p xs

-- the meaning of a state's fault, and the thing that it is about, if the state is faulted
abbrev pub fault_told : Option (List ℕ) → Input → ℕ → List ℕ
fault_told data_text input p = fault_text input.program (run input p) data_text (run input p).status

-- the text on the debugger's state: the meaning of the fault, if there is one; the line of the
-- model; the answers to the questions of each stop
abbrev pub place_text : PromptState → List ℕ
place_text state =
    fault_told state.data_text state.input state.debugger.position ++ source_line state
    ++ answers_to state.symbols state.input state.debugger.position state.displays

-- the text at a terminal before the first line: that HELP lists the commands, the warnings on the
-- model, and the state of the debugger
abbrev pub greeting : PromptState → List ℕ
greeting state =
    codes "HELP SHOWS THE COMMANDS.\n" ++ warnings_told state.input.program state.model
    ++ state_line state.input state.debugger.position ++ place_text state
