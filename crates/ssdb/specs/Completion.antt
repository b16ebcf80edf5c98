-- The texts that are written when the words for completion are asked for.
use Rattle.std.specs.Prelude.{ℕ, ◌≡◌, ◌⊎◌, List}
use Rattle.ss_program.specs.Program.{ProgramTable}
use Rattle.ss_console.specs.Event.{Adds, write_events}
use Rattle.ss_console.specs.Puts.{AddsPart}
use Rattle.ss_console.specs.declared.cut.Cut.TheVariants as cut
use Rattle.ss_session.specs.Model.{IsOutcome, accepted}
use Rattle.ss_prompt.specs.Completions.{completions}
use Rattle.ssdb.specs.declared.end.PromptEnd.{PromptEnd}
use Rattle.ssdb.specs.declared.end.PromptEnd.TheVariants.{Done}
use Rattle.ssdb.specs.declared.end.PromptFault.{PromptFault}
use Rattle.ssdb.specs.declared.end.PromptFault.TheVariants.{Cut}
use Rattle.ssdb.specs.Refused.{IsRefusalWritten}
use Rattle.ssdb.specs.Seen.{Seen}

-- all words were written, and no line was read
abbrev pub TellsWords : List ℕ → Seen → PromptEnd → Type 0
TellsWords model seen end =
    (program : ProgramTable) × IsOutcome model (accepted program)
    × Adds seen.old seen.new (write_events (completions program)) × (seen.after ≡ seen.before) × (end ≡ Done)

-- a prefix of them was written; or the model is refused, or memory was
abbrev pub IsWordsCut : List ℕ → Seen → PromptFault → Type 0
IsWordsCut model seen fault =
    ((program : ProgramTable) × IsOutcome model (accepted program) × AddsPart (completions program) seen.old seen.new
    × (seen.after ≡ seen.before) × (fault ≡ Cut cut.Write))
    ⊎ IsRefusalWritten model seen fault
