use Rattle.std.proofs.Common.{sym}
use Rattle.std.proofs.lemmas.List.{take-map}
use Rattle.ss_machine.specs.History.Numbers.{numbers_of}
use Rattle.ss_machine.proofs.history.numbers.Numbers.keep_last.Goals as goal

pub returns-clause-steps : goal.returns-clause-steps
returns-clause-steps c =
    rw (c.keep_last.ensures.steps, ← c.self.view_is) (sym (take-map numbers_of c.args.n c.self.inside.bytes.steps))
