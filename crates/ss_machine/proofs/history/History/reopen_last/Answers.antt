use Rattle.std.proofs.Common.{◌≡◌, [], ◌∙◌, ap, refl}
use Rattle.ss_journal.specs.Log.{Log}
use Rattle.ss_state.specs.Change.{Change}
use Rattle.ss_machine.proofs.Histories.{no_numbers, none_kept}
use Rattle.ss_machine.proofs.history.History.reopen_last.Goals as goal

pub reopen_last-requires : goal.reopen_last-requires
reopen_last-requires c =
    no_numbers _ c.self.inside.tape.kept.current (ap (λ (v : Log Change). v.current) c.self.view_is ∙ c.requires)

pub reopen_last-requires-then-reopen_last : goal.reopen_last-requires-then-reopen_last
reopen_last-requires-then-reopen_last c =
    none_kept c.self.inside.tape.numbers.current _ (ap (λ (v : Log Change). v.current) c.self.view_is ∙ c.requires)
    c.self.invariant.0

pub invariant_of-self-else-reopen_last : goal.invariant_of-self-else-reopen_last
invariant_of-self-else-reopen_last c =
    let wholes : c.self.inside.tape.kept.current ≡ [] =
    none_kept c.self.inside.tape.numbers.current _ (ap (λ (v : Log Change). v.current) c.self.view_is ∙ c.requires)
    c.self.invariant.0 in
    let none = c.if-reopen_last.ensures.steps in
    (rw (wholes, none.2) refl, rw none.1 (rw none.0 at c.self.invariant.1))
