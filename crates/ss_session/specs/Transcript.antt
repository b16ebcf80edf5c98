-- The text that a session writes.
use Rattle.std.specs.Prelude.{ℕ, Bool, List, ◌∷◌, [], ◌++◌, codes, decimal, if◌then◌else◌}
use Rattle.ss_words.specs.Faults.{text_rule_code}
use Rattle.ss_check.specs.CheckRules.{check_rule_code}
use Rattle.ss_state.specs.State.{is_faulted}
use Rattle.ss_state.specs.Run.{Input, run}
use Rattle.ss_debug.specs.Turn.{initial_debugger_state, answers, debugger_state_after_lines}
use Rattle.ss_debug.specs.Answer.{report_text}
use Rattle.ss_session.specs.declared.ending.End.{End}
use Rattle.ss_session.specs.declared.ending.End.TheVariants.{Done, RunFault}
use Rattle.ss_session.specs.Texts.{Texts, input_of, obeyed_commands}
use Rattle.ss_session.specs.Model.{Outcome, refused_text, refused_check, accepted}

-- the one line of a refused model
abbrev pub refusal_line : List ℕ → ℕ → List ℕ
refusal_line code line = codes "MODEL REFUSED " ++ code ++ codes " LINE " ++ decimal line ++ 10 ∷ []

-- the position at which some lines leave the debugger
abbrev pub last_position : Input → List (List ℕ) → ℕ
last_position input lines = (debugger_state_after_lines input initial_debugger_state lines).position

-- the answers to the lines, and the report of the state then held
unfoldable pub program_transcript : Input → List (List ℕ) → List ℕ
program_transcript input lines =
    answers input initial_debugger_state lines ++ report_text input (last_position input lines)

-- the transcript of a session, by the outcome of its model
abbrev pub transcript : Outcome → Texts → List ℕ
transcript (refused_text rule line) texts = refusal_line (text_rule_code rule) line
transcript (refused_check rule line) texts = refusal_line (check_rule_code rule) line
transcript (accepted program) texts = program_transcript (input_of texts program) (obeyed_commands texts)

-- whether the last state is faulted
abbrev pub ends_faulted : Input → List (List ℕ) → Bool
ends_faulted input lines = is_faulted (run input (last_position input lines)).status

-- how a session over an accepted model ends
abbrev pub end_of : Bool → End
end_of faulted = if faulted then RunFault else Done
