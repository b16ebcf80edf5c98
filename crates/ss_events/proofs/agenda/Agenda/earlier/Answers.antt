use Rattle.std.proofs.Common.{ap, ◌∙◌, map}
use Rattle.ss_events.specs.State.{AgendaState}
use Rattle.ss_events.specs.Views.{rule_of}
use Rattle.ss_events.proofs.Stands.{kept, entry-pending}
use Rattle.ss_events.proofs.agenda.Agenda.earlier.Goals as goal

pub is_before-requires-clause-a : goal.is_before-requires-clause-a
is_before-requires-clause-a g c =
    let k = kept _ _ _ _ c.self.view_is c.self.invariant.0 in
    let rules = ap (map rule_of) c.deref.ensures.value ∙ ap (λ (s : AgendaState). s.rules) c.self.view_is in
    rw rules (entry-pending _ _ _ _ c.entry_on.result.now k c.entry_on.ensures)

pub is_before-requires-clause-b : goal.is_before-requires-clause-b
is_before-requires-clause-b g c =
    let k = kept _ _ _ _ c.self.view_is c.self.invariant.0 in
    let rules = ap (map rule_of) c.deref.ensures.value ∙ ap (λ (s : AgendaState). s.rules) c.self.view_is in
    rw rules (entry-pending _ _ _ _ c.entry_on-2.result.now k c.entry_on-2.ensures)
