use Rattle.std.proofs.Common.{ap, ◌∙◌, arith, map, length, List}
use Rattle.std.proofs.lemmas.List.{length-map}
use Rattle.ss_events.specs.Rules.{Rule, event_number}
use Rattle.ss_events.specs.State.{AgendaState}
use Rattle.ss_events.specs.Views.{rule_of}
use Rattle.ss_events.proofs.EventLaws.{event-below, event-at}
use Rattle.ss_events.proofs.Stands.{kept}
use Rattle.ss_events.proofs.agenda.Agenda.head.Goals as goal

pub event_number-requires-clause-class : goal.event_number-requires-clause-class
event_number-requires-clause-class g c =
    let rules = ap (map rule_of) c.deref.ensures.value ∙ ap (λ (s : AgendaState). s.rules) c.self.view_is in
    let long = ap (λ (l : List Rule). length l) rules in
    omega (
      arith,
      event-below c.args.self.now.rules c.args.class c.requires,
      long,
      length-map c.deref.result.now
          rule_of,
    )

pub event_number-requires-clause-few : goal.event_number-requires-clause-few
event_number-requires-clause-few g c =
    let k = kept _ _ _ _ c.self.view_is c.self.invariant.0 in
    let rules = ap (map rule_of) c.deref.ensures.value ∙ ap (λ (s : AgendaState). s.rules) c.self.view_is in
    let long = ap (λ (l : List Rule). length l) rules in
    omega (arith, k.classes, long, length-map c.deref.result.now rule_of)

pub returns-clause-value : goal.returns-clause-value
returns-clause-value g c =
    let rules = ap (map rule_of) c.deref.ensures.value ∙ ap (λ (s : AgendaState). s.rules) c.self.view_is in
    c.event_number.ensures ∙ ap (λ (l : List Rule). event_number l c.args.class) rules

pub returns-clause-there : goal.returns-clause-there
returns-clause-there g c =
    let rules = ap (map rule_of) c.deref.ensures.value ∙ ap (λ (s : AgendaState). s.rules) c.self.view_is in
    let value = c.event_number.ensures ∙ ap (λ (l : List Rule). event_number l c.args.class) rules in
    let there = (event-at c.args.self.now.rules c.args.class c.requires).0 in
    omega (arith, value, there)
