-- How each private function of the session ends. No public contract cites this module.
use Rattle.std.specs.Prelude.{ℕ, ◌+◌, ◌≡◌, List, [], ◌++◌, Option, Result, Ok, Err}
use Rattle.std.specs.Io.KnownBytes.{Appends}
use Rattle.ss_state.specs.Run.{Input}
use Rattle.ss_debug.specs.Command.{command_of}
use Rattle.ss_debug.specs.Turn.{DebuggerState, initial_debugger_state, debugger_state_after, answer}
use Rattle.ss_debug.specs.Turn.{answers, debugger_state_after_lines, go_of}
use Rattle.ss_debug.specs.View.{DebuggerView, debugger_state_of}
use Rattle.ss_debug.specs.declared.go.Go.{Go}
use Rattle.ss_session.specs.declared.ending.Cut.{Cut}
use Rattle.ss_session.specs.declared.ending.Cut.TheVariants as cut
use Rattle.ss_session.specs.declared.ending.End.{End}
use Rattle.ss_session.specs.declared.ending.SessionFault.{SessionFault}
use Rattle.ss_session.specs.declared.ending.SessionFault.TheVariants.{Text, Check, Write, Memory}
use Rattle.ss_session.specs.Model.{IsTextRefused, IsCheckRefused}
use Rattle.ss_session.specs.Written.{WritesFirst, WritesPart}
use Rattle.ss_session.specs.Texts.{Texts}
use Rattle.ss_session.specs.Transcript.{program_transcript, ends_faulted, end_of}
use Rattle.ss_session.specs.Session.{EndsBy, WritesFirstAnswers, WritesTranscript, WritesPartOfTranscript}

-- ---- the turns

-- some of the lines are done, and their whole answers are written
pub record IsWrittenSoFar (t : Input) (start : DebuggerState) (lines rest : List (List ℕ))
    (now : DebuggerState) (old new : Option (List ℕ)) : Type 0 where
  -- the lines that are done
  pub done_lines : List (List ℕ)
  -- the others are still to come
  pub split : lines ≡ done_lines ++ rest
  -- the debugger is in the state after them
  pub place : now ≡ debugger_state_after_lines t start done_lines
  -- their answers are put after the bytes that were written
  pub said : Appends old new (answers t start done_lines)

-- one turn over a program, by how it ends
unfoldable pub TurnEnds : Result Go Cut → Input → DebuggerView → DebuggerView → List ℕ →
    Option (List ℕ) → Option (List ℕ) → ℕ → ℕ → Type 0
TurnEnds (Ok go) input view next line old new failures failures' =
    (debugger_state_of next ≡ debugger_state_after input (debugger_state_of view) (command_of line))
    × (next.machine.input ≡ input) × (go ≡ go_of (command_of line))
    × Appends old new (answer input (debugger_state_of view) (command_of line)) × (failures' ≡ failures)
TurnEnds (Err cut.Memory) input view next line old new failures failures' =
    Appends old new [] × (failures' ≡ failures)
TurnEnds (Err cut.Write) input view next line old new failures failures' =
    WritesPart (answer input (debugger_state_of view) (command_of line)) old new × (failures' ≡ failures + 1)

-- the turns of some lines, by how they end
unfoldable pub TurnsEnd : Result (Unit {0}) Cut → Input → DebuggerView → DebuggerView → List (List ℕ) →
    Option (List ℕ) → Option (List ℕ) → ℕ → ℕ → Type 0
TurnsEnd (Ok done) input view next lines old new failures failures' =
    (debugger_state_of next ≡ debugger_state_after_lines input (debugger_state_of view) lines)
    × (next.machine.input ≡ input)
    × Appends old new (answers input (debugger_state_of view) lines) × (failures' ≡ failures)
TurnsEnd (Err cut.Memory) input view next lines old new failures failures' =
    WritesFirst input (debugger_state_of view) lines old new × (failures' ≡ failures)
TurnsEnd (Err cut.Write) input view next lines old new failures failures' =
    WritesPart (answers input (debugger_state_of view) lines) old new × (failures' ≡ failures + 1)

-- ---- the whole

-- the fault of a session whose turns were cut short
abbrev pub fault_of : Cut → SessionFault
fault_of cut.Memory = Memory
fault_of cut.Write = Write

-- the writing of a refusal's line, by how it ends
unfoldable pub LineEnds : Result (Unit {0}) Cut → List ℕ → Option (List ℕ) → Option (List ℕ) → ℕ → ℕ → Type 0
LineEnds (Ok done) text old new failures failures' = Appends old new text × (failures' ≡ failures)
LineEnds (Err cut.Memory) text old new failures failures' = Appends old new [] × (failures' ≡ failures)
LineEnds (Err cut.Write) text old new failures failures' = WritesPart text old new × (failures' ≡ failures + 1)

-- a session over a program, by how it ends
unfoldable pub ProgramEnds : Result End Cut → Input → List (List ℕ) →
    Option (List ℕ) → Option (List ℕ) → ℕ → ℕ → Type 0
ProgramEnds (Ok end) input lines old new failures failures' =
    (end ≡ end_of (ends_faulted input lines)) × Appends old new (program_transcript input lines)
    × (failures' ≡ failures)
ProgramEnds (Err cut.Memory) input lines old new failures failures' =
    WritesFirst input initial_debugger_state lines old new × (failures' ≡ failures)
ProgramEnds (Err cut.Write) input lines old new failures failures' =
    WritesPart (program_transcript input lines) old new × (failures' ≡ failures + 1)

-- a session, by how it ends
unfoldable pub SessionEnds : Result End SessionFault → Texts → Option (List ℕ) → Option (List ℕ) → ℕ → ℕ → Type 0
SessionEnds (Ok end) texts old new failures failures' =
    EndsBy texts end × WritesTranscript texts old new × (failures' ≡ failures)
SessionEnds (Err Text) texts old new failures failures' =
    IsTextRefused texts.model × WritesTranscript texts old new × (failures' ≡ failures)
SessionEnds (Err Check) texts old new failures failures' =
    IsCheckRefused texts.model × WritesTranscript texts old new × (failures' ≡ failures)
SessionEnds (Err Memory) texts old new failures failures' =
    WritesFirstAnswers texts old new × (failures' ≡ failures)
SessionEnds (Err Write) texts old new failures failures' =
    WritesPartOfTranscript texts old new × (failures' ≡ failures + 1)
