use Rattle.std.proofs.Common.{ℕ, ◌+◌, ◌<◌, ◌∙◌, ap, arith, sym, map, length}
use Rattle.ss_events.specs.declared.rule.ClassRule.{ClassRule}
use Rattle.ss_events.specs.Views.{rule_of}
use Rattle.ss_events.proofs.EventLaws.{number-few, number-none, number-event, number-other}
use Rattle.ss_events.proofs.rule.event_number.Goals.{then-rules-other, else-rules-other}
use Rattle.ss_events.proofs.rule.event_number.Goals as goal

pub loop-other-init : goal.loop-other-init
loop-other-init c = sym (number-none (map rule_of c.args.rules.now))

pub overflow_add-number : goal.overflow_add-number
overflow_add-number c =
    let few = number-few (map rule_of c.args.rules.now) c.loop-other.other in
    omega (arith, few, c.loop-other.invariant, c.loop-other-test.true, c.requires.class, c.requires.few)

pub loop-other-preserved : goal.loop-other-preserved
loop-other-preserved c =
    let within : c.loop-other.other < length c.args.rules.now = omega (arith, c.loop-other-test.true, c.requires.class)
    in
    let rules = c.args.rules.now in
    let rule = c.index-rules-other.result in
    let here = ap (λ (q : ClassRule). q.for_events) c.index-rules-other.is in
    elim c.if-rules-other.branch [
      | then-rules-other w ↦ w.number-is ∙ (ap (λ (n : ℕ). n + 1) c.loop-other.invariant ∙
          number-event rules c.loop-other.other rule within c.index-rules-other.is (here ∙ w.if-rules-other.true))
      | else-rules-other w ↦ w.number-is ∙ (c.loop-other.invariant ∙
          number-other rules c.loop-other.other rule within c.index-rules-other.is (here ∙ w.if-rules-other.false))
    ]
