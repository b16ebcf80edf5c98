use Rattle.std.proofs.Common.{◌≡◌, ◌∙◌, [], ap, refl, arith}
use Rattle.ss_journal.specs.Log.{Log}
use Rattle.ss_state.specs.Change.{Change}
use Rattle.ss_machine.proofs.Histories.{no_numbers, none_kept, steps_of-newest}
use Rattle.ss_machine.proofs.Histories.{newest_written}
use Rattle.ss_machine.proofs.history.History.keep_last.Goals as goal

pub keep_last-requires : goal.keep_last-requires
keep_last-requires c =
    no_numbers _ c.self.inside.tape.kept.current (ap (λ (v : Log Change). v.current) c.self.view_is ∙ c.requires)

pub invariant_of-self : goal.invariant_of-self
invariant_of-self c =
    let written =
    newest_written c.args.n c.self.inside.tape.numbers.steps c.self.inside.tape.kept.steps c.self.invariant.1 in
    let none : c.self.inside.tape.kept.current ≡ [] =
    none_kept c.self.inside.tape.numbers.current _ (ap (λ (v : Log Change). v.current) c.self.view_is ∙ c.requires)
    c.self.invariant.0 in (
      rw (c.keep_last.ensures.current, c.keep_last-2.ensures.current, none) refl,
      rw (c.keep_last.ensures.steps, c.keep_last-2.ensures.steps) written,
    )

pub returns-clause-steps : goal.returns-clause-steps
returns-clause-steps c =
    rw (c.keep_last.ensures.steps, c.keep_last-2.ensures.steps, ← c.self.view_is)
    (steps_of-newest c.args.n c.self.inside.tape.numbers.steps c.self.inside.tape.kept.steps)

pub returns-clause-notes : goal.returns-clause-notes
returns-clause-notes c =
    rw (← c.self.view_is) (omega (arith, c.keep_last.ensures.notes, c.keep_last-2.ensures.notes))

pub returns-clause-closes : goal.returns-clause-closes
returns-clause-closes c =
    rw (← c.self.view_is) (omega (arith, c.keep_last.ensures.closes, c.keep_last-2.ensures.closes))
