use Rattle.std.proofs.Common.{◌≡◌, ap, ◌∙◌, arith, length, map, ◌<◌, sym}
use Rattle.std.proofs.lemmas.List.{length-map}
use Rattle.ss_links.specs.Board.{with_head}
use Rattle.ss_events.specs.Rules.{event_number}
use Rattle.ss_events.specs.Views.{rule_of}
use Rattle.ss_events.proofs.EventLaws.{number-none, number-few, number-event, number-other, number-all}
use Rattle.ss_events.proofs.agenda.Agenda.with_rules.Goals.{then-index+in_ok-try_add_head+in_ok-push, else-index}
use Rattle.ss_events.proofs.WithRules.{empty_heads, heads-more, indexes-none, indexes-more, heads-fit, begins-on}
use Rattle.ss_events.proofs.Due.{due-none}
use Rattle.ss_events.proofs.agenda.Agenda.with_rules.Goals as goal

pub loop-class-init : goal.loop-class-init
loop-class-init g c =
    let none = number-none (map rule_of c.args.rules.items) in
    let empty = c.requires.empty in
    (empty ∙ ap empty_heads (sym none), indexes-none _ _ c.new-indexes.ensures.items empty)

pub try_add_head-requires : goal.try_add_head-requires
try_add_head-requires g c =
    let few = c.requires.few in
    omega (
      arith,
      heads-fit _ _ c.loop-class.invariant.0,
      number-few (map rule_of c.args.rules.items) c.loop-class.class,
      c.len-class-end.ensures,
      c.args.rules.ok,
      few,
      c.loop-class-test.true,
    )

pub loop-class-preserved : goal.loop-class-preserved
loop-class-preserved g c =
    let within : c.loop-class.class < length c.args.rules.items = omega (
      arith,
      c.len-class-end.ensures,
      c.args.rules.ok,
      c.loop-class-test.true,
    ) in
    let rules = c.args.rules.items in
    elim c.if-index.branch [
      | then-index+in_ok-try_add_head+in_ok-push w ↦
          let next = number-event rules c.loop-class.class c.index.result.now within c.index.ensures w.if-index.true in (
            rw w.board-is (w.in_ok-try_add_head.ensures.ok ∙ (ap with_head c.loop-class.invariant.0 ∙
                (heads-more (event_number (map rule_of rules) c.loop-class.class) ∙ ap empty_heads next))),
            rw (w.indexes-is, w.board-is) (indexes-more _ _ _ _ w.in_ok-push.ensures.items c.loop-class.invariant.1
                w.in_ok-try_add_head.ensures.ok),
          )
      | else-index w ↦
          let next = number-other rules c.loop-class.class c.index.result.now within c.index.ensures w.if-index.false in (
            rw w.board-is (c.loop-class.invariant.0 ∙ ap empty_heads next),
            rw (w.indexes-is, w.board-is) c.loop-class.invariant.1,
          )
    ]

pub invariant_of-result : goal.invariant_of-result
invariant_of-result g c =
    let all : c.loop-class.class ≡ length (map rule_of c.args.rules.items) = omega (
      arith,
      c.len-class-end.ensures,
      c.args.rules.ok,
      c.loop-class-test.false,
      c.loop-class.auto.class-end,
      length-map c.args.rules.items rule_of,
    ) in
    let heads = ap (event_number (map rule_of c.args.rules.items)) all ∙ number-all 0 (map rule_of c.args.rules.items)
    in (
      begins-on _ _ _ _ _ c.new.ensures.items c.new-2.ensures.items heads c.requires.ranked (omega (
        arith,
        c.requires.few,
        length-map c.args.rules.items rule_of,
      )) c.loop-class.invariant.0,
      c.loop-class.invariant.1,
      due-none _ _ _ c.new-3.ensures.items c.new-2.ensures.items,
    )
