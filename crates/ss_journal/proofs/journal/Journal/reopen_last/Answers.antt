use Rattle.std.proofs.Common.{rules, sym, ap, ◌∙◌}
use Rattle.ss_journal.specs.Log.{Log}
use Rattle.ss_journal.proofs.Cuts.{rest_of_sizes, pieces_back}
use Rattle.ss_journal.proofs.journal.Journal.reopen_last.Goals as goal

-- src/journal.rt:109:17
pub invariant_of-self-in-Some : goal.invariant_of-self-in-Some
invariant_of-self-in-Some g c =
    let none = ap (λ (v : Log _). v.current) c.self.view_is ∙ c.requires in (
      rest_of_sizes _ _ _ _ _ c.self.inside.changes.items c.self.invariant.0 (search rules) none
          c.in-Some.ensures.sizes,
      rw c.pop.ensures.most c.self.invariant.1,
    )

-- src/journal.rt:97:5
pub returns-in-Some-clause-steps : goal.returns-in-Some-clause-steps
returns-in-Some-clause-steps g c =
    let none = ap (λ (v : Log _). v.current) c.self.view_is ∙ c.requires in
    sym (ap (λ (v : Log _). v.steps) c.self.view_is)
    ∙ pieces_back _ _ _ _ _ c.self.inside.changes.items c.self.invariant.0 (search rules) none c.in-Some.ensures.sizes
