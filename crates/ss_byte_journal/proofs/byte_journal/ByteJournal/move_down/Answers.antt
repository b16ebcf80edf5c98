use Rattle.std.proofs.Common.{ap, ◌∙◌, arith}
use Rattle.ss_journal.specs.Log.{Log}
use Rattle.ss_byte_journal.proofs.Stretches.{moved_down}
use Rattle.ss_byte_journal.proofs.byte_journal.ByteJournal.move_down.Goals as goal

pub returns-then-forgotten-len-clause-steps : goal.returns-then-forgotten-len-clause-steps
returns-then-forgotten-len-clause-steps c =
    rw (c.drop-drain.ensures.items ∙ c.drain.ensures.kept)
    (rw (moved_down c.self.inside.bytes.items c.self.inside.forgotten c.self.inside.closed (omega (arith, c.self.invariant.0)))
    (ap (λ (v : Log _). v.steps) c.self.view_is))
