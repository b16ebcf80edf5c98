use Rattle.std.proofs.Common.{ℕ, ◌∙◌, ap}
use Rattle.ss_journal.specs.Log.{Log}
use Rattle.ss_machine.proofs.NumberBytes.{no_bytes, small_steps}
use Rattle.ss_machine.proofs.history.numbers.Numbers.reopen_last.Goals as goal

pub reopen_last-requires : goal.reopen_last-requires
reopen_last-requires c = no_bytes _ (ap (λ (v : Log ℕ). v.current) c.self.view_is ∙ c.requires)

pub invariant_of-self : goal.invariant_of-self
invariant_of-self c =
    small_steps c.reopen_last.result c.self.inside.bytes.steps c.reopen_last.new.self.steps
    c.reopen_last.new.self.current c.reopen_last.ensures.steps c.self.invariant.1
