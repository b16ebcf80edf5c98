-- The theorem on every session: the written text, the end, and the count of failures.
use Rattle.std.specs.Prelude.{ℕ, ◌+◌, ◌<◌, ◌≡◌, ◌⊎◌, ◌↔◌, List, [], Option, Result, Ok, Err}
use Rattle.std.specs.Io.KnownBytes.{Appends}
use Rattle.ss_program.specs.Program.{ProgramTable}
use Rattle.ss_debug.specs.Turn.{initial_debugger_state}
use Rattle.ss_session.specs.declared.ending.End.{End}
use Rattle.ss_session.specs.declared.ending.SessionFault.{SessionFault}
use Rattle.ss_session.specs.declared.ending.SessionFault.TheVariants.{Text, Check, Write, Memory}
use Rattle.ss_session.specs.Texts.{Texts, OutletState, input_of, obeyed_commands}
use Rattle.ss_session.specs.Written.{WritesFirst, WritesPart}
use Rattle.ss_session.specs.Model.{Outcome, accepted, IsOutcome, IsTextRefused, IsCheckRefused}
use Rattle.ss_session.specs.Transcript.{transcript, ends_faulted, end_of}

-- the transcript of the model's outcome was written whole
abbrev pub WritesTranscript : Texts → Option (List ℕ) → Option (List ℕ) → Type 0
WritesTranscript texts old new =
    (outcome : Outcome) × IsOutcome texts.model outcome × Appends old new (transcript outcome texts)

-- a prefix of it was written
abbrev pub WritesPartOfTranscript : Texts → Option (List ℕ) → Option (List ℕ) → Type 0
WritesPartOfTranscript texts old new =
    (outcome : Outcome) × IsOutcome texts.model outcome × WritesPart (transcript outcome texts) old new

-- the whole answers of the first lines of the commands, some number of them; nothing if the model
-- is refused or was not read to its end
abbrev pub WritesFirstAnswers : Texts → Option (List ℕ) → Option (List ℕ) → Type 0
WritesFirstAnswers texts old new =
    Appends old new []
    ⊎ ((program : ProgramTable) × IsOutcome texts.model (accepted program)
    × WritesFirst (input_of texts program) initial_debugger_state (obeyed_commands texts) old new)

-- the text that was written, by how the session ended: the answers of the first lines if memory was
-- refused, a prefix of the transcript if a write failed, and else the transcript
abbrev pub Writes : Result End SessionFault → Texts → Option (List ℕ) → Option (List ℕ) → Type 0
Writes (Err Memory) texts old new = WritesFirstAnswers texts old new
Writes (Err Write) texts old new = WritesPartOfTranscript texts old new
Writes (Err Text) texts old new = WritesTranscript texts old new
Writes (Err Check) texts old new = WritesTranscript texts old new
Writes (Ok end) texts old new = WritesTranscript texts old new

-- whether a session ends without a refusal of memory or a failed write
abbrev pub IsWhole : Result End SessionFault → Type 0
IsWhole (Ok end) = Unit {0}
IsWhole (Err Text) = Unit {0}
IsWhole (Err Check) = Unit {0}
IsWhole (Err Memory) = ⊥
IsWhole (Err Write) = ⊥

-- how many failures of its outlet a session counts: one if it ends with Write
abbrev pub count_failed : Result End SessionFault → ℕ
count_failed (Err Write) = 1
count_failed _ = 0

-- the model is a program, and the end says whether its last state is faulted
abbrev pub EndsBy : Texts → End → Type 0
EndsBy texts end =
    (program : ProgramTable) × IsOutcome texts.model (accepted program)
    × (end ≡ end_of (ends_faulted (input_of texts program) (obeyed_commands texts)))

-- how a session over these texts ends, from the state of its outlet before to its state then
pub record SessionSays (result : Result End SessionFault) (texts : Texts) (old new : OutletState) : Type 0 where
  -- the text that is written is the transcript, unless memory is refused or a write fails
  pub written : Writes result texts old.taken new.taken
  -- it ends with Write exactly if the outlet counted a failure
  pub failure : (result ≡ Err Write) ↔ (old.failures < new.failures)
  -- it counts one then, and else none
  pub counts : new.failures ≡ old.failures + count_failed result
  -- else it ends with Text exactly if a rule L or P refuses the model
  pub text : IsWhole result → (result ≡ Err Text) ↔ IsTextRefused texts.model
  -- with Check exactly if a rule C does
  pub check : IsWhole result → (result ≡ Err Check) ↔ IsCheckRefused texts.model
  -- and with Done or RunFault exactly if the model is a program whose last state says so
  pub accepted : IsWhole result → (end : End) → (result ≡ Ok end) ↔ EndsBy texts end
