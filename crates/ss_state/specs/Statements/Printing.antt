-- One step of PRINT and SKIP, which append to the report.
use Rattle.std.specs.Prelude.{ℕ, ℤ, pos, ◌+◌, int_lt, unsigned_abs, ◌||◌, nat_le, if◌then◌else◌, List, ◌++◌, length}
use Rattle.std.specs.Prelude.{replicate, Result, Ok, Err}
use Rattle.ss_words.specs.declared.characters.TheConstants.{LINE_FEED}
use Rattle.ss_words.specs.declared.fault.RunFault.{RunFault}
use Rattle.ss_words.specs.declared.fault.RunFault.TheVariants.{CountOutOfRange, ReportFull}
use Rattle.ss_report.specs.Pictures.{picture_text}
use Rattle.ss_report.specs.declared.limits.TheConstants.{LONGEST_REPORT}
use Rattle.ss_program.specs.declared.place.Output.{Output}
use Rattle.ss_program.specs.declared.place.Output.TheVariants.{Print, Skip}
use Rattle.ss_program.specs.ProgramExpr.{Expr}
use Rattle.ss_store.specs.Tables.{Tables}
use Rattle.ss_state.specs.declared.limits.TheConstants.{MOST_SKIPPED_LINES}
use Rattle.ss_state.specs.State.{State}
use Rattle.ss_values.specs.Faults.{◌>>=◌, ◌>>◌, refuse_if}
use Rattle.ss_values.specs.Values.{Readings, value_of, values_of}
use Rattle.ss_state.specs.Readings.{readings}
use Rattle.ss_state.specs.Statements.{state_after_result, state_at_place}

-- the report with a text after it, or F19 if it would be too long
abbrev pub longer_report : List ℕ → List ℕ → Result (List ℕ) RunFault
longer_report report text =
    if nat_le (length report + length text) LONGEST_REPORT then Ok (report ++ text) else Err ReportFull

-- the state after a PRINT, which evaluates its values and appends its picture with them
abbrev pub state_after_print : Tables → State → ℕ → List Expr → List (List ℕ) → State
state_after_print tables state next values picture =
    state_after_result state
    (values_of (readings tables state) values >>= λ xs. longer_report state.report (picture_text picture xs))
    (λ report. state_at_place next (record state { report = report }))

-- how many lines a value asks for, or F13
abbrev pub line_count : ℤ → Result ℕ RunFault
line_count n =
    refuse_if (int_lt n (pos 0) || int_lt MOST_SKIPPED_LINES n) CountOutOfRange >> Ok (unsigned_abs n)

-- how many lines the value of an expression asks for
abbrev pub lines_asked : Readings → Expr → Result ℕ RunFault
lines_asked readings expression = value_of readings expression >>= line_count

-- the state after a SKIP, which appends as many line feeds
abbrev pub state_after_skip : State → ℕ → Result ℕ RunFault → State
state_after_skip state next count =
    state_after_result state (count >>= λ n. longer_report state.report (replicate n LINE_FEED))
    (λ report. state_at_place next (record state { report = report }))

-- one step of a statement that appends to the report
abbrev pub step_output : Tables → State → ℕ → Output → State
step_output tables state next (Print count values picture) = state_after_print tables state next values picture
step_output tables state next (Skip e) = state_after_skip state next (lines_asked (readings tables state) e)
