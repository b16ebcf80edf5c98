use Rattle.std.proofs.Common.{◌≡◌, ℕ, ◌+◌, ◌<◌, ◌∙◌, ap, arith, length, sym}
use Rattle.std.proofs.lemmas.List.{length-map}
use Rattle.ss_events.specs.State.{AgendaState, board_of}
use Rattle.ss_events.specs.Views.{rule_of}
use Rattle.ss_events.proofs.EventLaws.{number-none, number-few, number-event, number-other, event-kept, event-at}
use Rattle.ss_events.proofs.EventLaws.{list_at-by}
use Rattle.ss_links.specs.Board.{Board, list_at}
use Rattle.ss_links.specs.Seats.{first_of}
use Rattle.ss_events.proofs.agenda.Agenda.least_seat.Goals.{then-index, else-index}
use Rattle.ss_events.proofs.BoardOf.{class_seats}
use Rattle.ss_events.proofs.Stands.{kept, length-lists}
use Rattle.ss_events.proofs.Listings.{first-none, first-among, least-more, least-same, least-all}
use Rattle.ss_events.proofs.agenda.Agenda.least_seat.Goals as goal

pub loop-class-init : goal.loop-class-init
loop-class-init g c = (sym (number-none c.args.self.now.rules), first-none _ _)

pub first-requires : goal.first-requires
first-requires g c =
    let k = kept _ _ _ _ c.self.view_is c.self.invariant.0 in
    let rules = ap (λ (s : AgendaState). s.rules) c.self.view_is in
    let within : c.loop-class.class < length c.self.inside.rules.items = omega (
      arith,
      c.self.inside.rules.ok,
      c.len-class-end.ensures,
      c.loop-class-test.true,
    ) in
    let event = rw rules at (event-kept c.self.inside.rules.items c.loop-class.class c.index.result.now within
    c.index.ensures ∙ c.if-index.true) in
    let there = (event-at c.args.self.now.rules c.loop-class.class event).0 in
    omega (arith, length-lists _ _ _ k, there, c.loop-class.invariant.0)

pub earlier-least-requires-clause-other : goal.earlier-least-requires-clause-other
earlier-least-requires-clause-other g c =
    let k = kept _ _ _ _ c.self.view_is c.self.invariant.0 in
    let rules = ap (λ (s : AgendaState). s.rules) c.self.view_is in
    let within : c.loop-class.class < length c.self.inside.rules.items = omega (
      arith,
      c.self.inside.rules.ok,
      c.len-class-end.ensures,
      c.loop-class-test.true,
    ) in
    let event = rw rules at (event-kept c.self.inside.rules.items c.loop-class.class c.index.result.now within
    c.index.ensures ∙ c.if-index.true) in
    let here = c.first.ensures.value ∙ ap (λ (d : Board). first_of (list_at d.lists c.loop-class.list)) k.board ∙
    (ap (λ (h : ℕ). first_of (list_at (board_of c.args.self.now).lists h)) c.loop-class.invariant.0 ∙
    ap first_of (list_at-by (class_seats c.args.self.now) c.args.self.now.rules c.loop-class.class event)) in
    (first-among _ _ _ _ _ k here).taken

pub overflow_add-list : goal.overflow_add-list
overflow_add-list g c =
    let k = kept _ _ _ _ c.self.view_is c.self.invariant.0 in
    let long = ap (λ (s : AgendaState). length s.rules) c.self.view_is in
    let few = number-few c.args.self.now.rules c.loop-class.class in
    omega (
      arith,
      k.classes,
      long,
      length-map c.self.inside.rules.items rule_of,
      c.self.inside.rules.ok,
      c.len-class-end.ensures,
      c.loop-class-test.true,
      c.loop-class.invariant.0,
      few,
    )

pub loop-class-preserved : goal.loop-class-preserved
loop-class-preserved g c =
    let k = kept _ _ _ _ c.self.view_is c.self.invariant.0 in
    let rules = ap (λ (s : AgendaState). s.rules) c.self.view_is in
    let within : c.loop-class.class < length c.self.inside.rules.items = omega (
      arith,
      c.self.inside.rules.ok,
      c.len-class-end.ensures,
      c.loop-class-test.true,
    ) in
    let own = rw rules at (event-kept c.self.inside.rules.items c.loop-class.class c.index.result.now within
    c.index.ensures) in
    elim c.if-index.branch [
      | then-index w ↦
          let first = w.first.ensures.value in
          let list = c.loop-class.invariant.0 in
          let here = first ∙ ap (λ (d : Board). first_of (list_at d.lists c.loop-class.list)) k.board ∙
          (ap (λ (h : ℕ). first_of (list_at (board_of c.args.self.now).lists h)) list ∙
          ap first_of (list_at-by (class_seats c.args.self.now) c.args.self.now.rules c.loop-class.class (own ∙
          w.if-index.true))) in
          rw (w.least-is, w.list-is) (
            ap (λ (n : ℕ). n + 1) list ∙ rw rules at (number-event c.self.inside.rules.items c.loop-class.class
                c.index.result.now within c.index.ensures w.if-index.true),
            least-more _ _ _ _ c.loop-class.least _ _ k c.loop-class.invariant.1 (first-among _ _ _ _ _ k here)
                w.earlier-least.ensures.earlier w.earlier-least.ensures.taken,
          )
      | else-index w ↦ rw (w.least-is, w.list-is) (
        c.loop-class.invariant.0 ∙ rw rules at (number-other c.self.inside.rules.items c.loop-class.class
            c.index.result.now within c.index.ensures w.if-index.false),
        least-same _ _ _ _ _ k (own ∙ w.if-index.false) c.loop-class.invariant.1,
      )
    ]

pub returns-clause-notice : goal.returns-clause-notice
returns-clause-notice g c =
    let k = kept _ _ _ _ c.self.view_is c.self.invariant.0 in
    let long = ap (λ (s : AgendaState). length s.rules) c.self.view_is in
    let all : c.loop-class.class ≡ length c.args.self.now.rules = omega (
      arith,
      long,
      length-map
          c.self.inside.rules.items rule_of,
      c.self.inside.rules.ok,
      c.len-class-end.ensures,
      c.loop-class-test.false,
      c.loop-class.auto.class-end,
    ) in
    least-all _ _ _ _ _ k all c.loop-class.invariant.1
