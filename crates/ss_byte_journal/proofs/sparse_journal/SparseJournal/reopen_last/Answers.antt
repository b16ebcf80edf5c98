use Rattle.std.proofs.Common.{◌≡◌, [], reverse, ap, ◌∙◌, arith}
use Rattle.ss_byte_journal.specs.Numbered.{changes_of_step}
use Rattle.ss_byte_journal.proofs.Numbers.{opened_order, opened_steps}
use Rattle.ss_byte_journal.proofs.sparse_journal.SparseJournal.reopen_last.Goals as goal

pub invariant_of-self : goal.invariant_of-self
invariant_of-self g c =
    let k = c.self.inside.open_step in
    let cs = reverse c.self.inside.changes.items in
    let none : changes_of_step k cs ≡ [] = ap (λ v. v.current) c.self.view_is ∙ c.requires in (
      omega (arith, c.self.invariant.0, c.if-self.false),
      opened_order k cs (omega (arith, c.self.invariant.0, c.if-self.false)) c.self.invariant.1 none,
    )

pub returns-clause-steps : goal.returns-clause-steps
returns-clause-steps g c =
    let k = c.self.inside.open_step in
    let cs = reverse c.self.inside.changes.items in
    let none : changes_of_step k cs ≡ [] = ap (λ v. v.current) c.self.view_is ∙ c.requires in
    rw (← c.self.view_is)
    (opened_steps c.self.inside.forgotten k cs (omega (arith, c.self.invariant.0, c.if-self.false)) none)
