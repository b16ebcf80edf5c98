-- so do PRINT and SKIP
use Rattle.std.proofs.Common.{◌≡◌, ℕ, ◌+◌, ◌≤◌, List, ◌++◌, length, length-append, Bool, true, false, nat_le, Ok, Err}
use Rattle.std.proofs.Common.{arith, refl}
use Rattle.std.specs.Prelude.{if◌then◌else◌}
use borrow.Author.Tests.{leb-true}
use Rattle.ss_words.specs.declared.fault.RunFault.TheVariants.{ReportFull}
use Rattle.ss_report.specs.declared.limits.TheConstants.{LONGEST_REPORT}
use Rattle.ss_program.specs.Program.{ProgramTable}
use Rattle.ss_state.specs.State.{State}
use Rattle.ss_state.specs.Statements.Printing.{longer_report}
use Rattle.ss_state.specs.Well.{IsInBounds}
use Rattle.ss_state.proofs.Ranges.{Got}

-- a report that something was longer_report to is within the limit
abbrev pub IsShort : List ℕ → Type 0
IsShort bytes = length bytes ≤ LONGEST_REPORT

appended_by : (report text : List ℕ) (b : Bool) → nat_le (length report + length text) LONGEST_REPORT ≡ b →
    Got IsShort (if b then Ok (report ++ text) else Err ReportFull)
appended_by report text true h = omega (arith, leb-true _ _ h, length-append report text)
appended_by report text false h = tt

pub appended_short : (report text : List ℕ) → Got IsShort (longer_report report text)
appended_short report text = appended_by report text (nat_le (length report + length text) LONGEST_REPORT) refl

pub report_well : (p : ProgramTable) (s : State) (report : List ℕ) → IsShort report → IsInBounds p s →
    IsInBounds p (record s { report = report })
report_well p s report h w =
    record {
      variables = w.variables;
      values = w.values;
      frame = w.frame;
      below = w.below;
      stack = w.stack;
      few = w.few;
      clock = w.clock;
      store = w.store;
      items = w.items;
      taken = w.taken;
      report = h;
      due = w.due;
      entry = w.entry;
    }
