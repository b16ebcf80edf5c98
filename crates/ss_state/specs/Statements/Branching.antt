-- One step of IF, ELSE and ALWAYS.
use Rattle.std.specs.Prelude.{Bool, not, if◌then◌else◌, Result, Ok}
use Rattle.ss_words.specs.declared.fault.RunFault.{RunFault}
use Rattle.ss_program.specs.declared.branch.Question.{Question}
use Rattle.ss_program.specs.declared.branch.Question.TheVariants.{Whether, WasFound, WasNone}
use Rattle.ss_program.specs.declared.branch.Branch.{Branch}
use Rattle.ss_program.specs.declared.branch.Branch.TheVariants.{If, Else, Always}
use Rattle.ss_program.specs.declared.ways.Ways.{Ways}
use Rattle.ss_store.specs.Tables.{Tables}
use Rattle.ss_state.specs.State.{State}
use Rattle.ss_state.specs.Readings.{readings}
use Rattle.ss_values.specs.Conditions.{holds}
use Rattle.ss_state.specs.Statements.{state_after_result, state_at_place}

-- the answer to the question of an IF
abbrev pub question_answer : Tables → State → Question → Result Bool RunFault
question_answer tables state (Whether c) = holds (readings tables state) c
question_answer tables state WasFound = Ok state.frame.found
question_answer tables state WasNone = Ok (not state.frame.found)

-- a true IF goes to the next place, a false one after its ELSE or to its ALWAYS; ELSE to its ALWAYS
abbrev pub step_branch : Tables → State → Ways → Branch → State
step_branch tables state ways (If q) =
    state_after_result state (question_answer tables state q)
    (λ b. state_at_place (if b then ways.next else ways.exit) state)
step_branch tables state ways Else = state_at_place ways.next state
step_branch tables state ways Always = state_at_place ways.next state
