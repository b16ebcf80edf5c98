use Rattle.std.proofs.Common.{arith}
use Rattle.ss_machine.proofs.NumberBytes.{ten_bytes}
use Rattle.ss_machine.proofs.history.numbers.Numbers.note.Goals as goal

pub write-requires-clause-enough : goal.write-requires-clause-enough
write-requires-clause-enough c =
    ten_bytes c.args.number c.self.inside.bytes.notes (omega arith)
    (omega (arith, rw (← c.self.view_is) at c.requires))

pub returns-clause-notes : goal.returns-clause-notes
returns-clause-notes c =
    rw (← c.self.view_is) (omega (arith, c.write.ensures.notes 10 (omega arith) (omega arith)))
