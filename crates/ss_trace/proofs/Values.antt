-- The value of the pending notices.
use Rattle.std.proofs.Common.{◌≡◌, ◌≢◌, List, [], ◌∷◌, length, refl, arith}
use Rattle.std.specs.Prelude.{codes}
use Rattle.ss_program.specs.Program.{ProgramTable}
use Rattle.ss_events.specs.Agenda.{Pending}
use Rattle.ss_debug.specs.Answer.{notice_lines}
use Rattle.ss_trace.specs.Value.{joined_lines, or_none, pending_value}

-- none is pending
pub none_pending : (p : ProgramTable) (es : List Pending) → length es ≡ 0 → or_none (pending_value p es) ≡ codes "NONE"
none_pending p [] h = refl
none_pending p (e ∷ es) h = absurd (omega (arith, h))

-- some are
pub some_pending : (p : ProgramTable) (es : List Pending) → length es ≢ 0 →
    or_none (pending_value p es) ≡ joined_lines (notice_lines p es)
some_pending p [] h = absurd (h refl)
some_pending p (e ∷ es) h = refl
