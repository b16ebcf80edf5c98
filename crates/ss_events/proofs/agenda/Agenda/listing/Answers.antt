use Rattle.std.proofs.Common.{◌≡◌, ℕ, ◌+◌, ◌<◌, ◌∙◌, ap, arith, length, refl, sym}
use Rattle.std.proofs.Math.ListN.{length-set}
use Rattle.std.proofs.lemmas.List.{length-map}
use Rattle.ss_words.specs.declared.limits.TheConstants.{MOST_CLASSES}
use Rattle.ss_events.specs.State.{AgendaState}
use Rattle.ss_events.specs.Views.{rule_of}
use Rattle.ss_events.proofs.EventLaws.{number-none, number-few, number-event, number-other, event-kept, event-at}
use Rattle.ss_events.proofs.EventLaws.{list_at-by}
use Rattle.ss_links.specs.Board.{Board, list_at}
use Rattle.ss_links.specs.Seats.{first_of}
use Rattle.ss_events.specs.State.{board_of}
use Rattle.ss_events.proofs.agenda.Agenda.listing.Goals.{then-index, else-index}
use Rattle.ss_events.proofs.BoardOf.{class_seats}
use Rattle.ss_events.proofs.Stands.{kept, length-lists}
use Rattle.ss_events.proofs.Listings.{seats-more, seats-behind, seats-same, none-at, listing-begins, least-at}
use Rattle.ss_events.proofs.agenda.Agenda.listing.Goals as goal

pub loop-class-init : goal.loop-class-init
loop-class-init g c =
    (refl, sym (number-none c.args.self.now.rules), λ d l. absurd (omega arith), λ d l. none-at MOST_CLASSES d)

pub first-requires : goal.first-requires
first-requires g c =
    let k = kept _ _ _ _ c.self.view_is c.self.invariant.0 in
    let rules = ap (λ (s : AgendaState). s.rules) c.self.view_is in
    let within : c.loop-class.class < length c.self.inside.rules.items = omega (
      arith,
      c.self.inside.rules.ok,
      c.len-class-end.ensures,
      c.loop-class-test.true,
    ) in
    let event = rw rules at (event-kept c.self.inside.rules.items c.loop-class.class c.index.result.now within
    c.index.ensures ∙ c.if-index.true) in
    let there = (event-at c.args.self.now.rules c.loop-class.class event).0 in
    omega (arith, length-lists _ _ _ k, there, c.loop-class.invariant.1)

pub overflow_add-head : goal.overflow_add-head
overflow_add-head g c =
    let k = kept _ _ _ _ c.self.view_is c.self.invariant.0 in
    let long = ap (λ (s : AgendaState). length s.rules) c.self.view_is in
    let few = number-few c.args.self.now.rules c.loop-class.class in
    omega (
      arith,
      k.classes,
      long,
      length-map c.self.inside.rules.items rule_of,
      c.self.inside.rules.ok,
      c.len-class-end.ensures,
      c.loop-class-test.true,
      c.loop-class.invariant.1,
      few,
    )

pub loop-class-preserved : goal.loop-class-preserved
loop-class-preserved g c =
    let k = kept _ _ _ _ c.self.view_is c.self.invariant.0 in
    let rules = ap (λ (s : AgendaState). s.rules) c.self.view_is in
    let within : c.loop-class.class < length c.self.inside.rules.items = omega (
      arith,
      c.self.inside.rules.ok,
      c.len-class-end.ensures,
      c.loop-class-test.true,
    ) in
    let long = ap (λ (s : AgendaState). length s.rules) c.self.view_is in
    let few : c.loop-class.class < length c.loop-class.seats = omega (
      arith,
      k.classes,
      long,
      length-map
          c.self.inside.rules.items rule_of,
      within,
      c.loop-class.invariant.0,
    ) in
    let own = rw rules at (event-kept c.self.inside.rules.items c.loop-class.class c.index.result.now within
    c.index.ensures) in
    elim c.if-index.branch [
      | then-index w ↦
          let first = w.first.ensures.value in
          let head = c.loop-class.invariant.1 in
          let here = first ∙ ap (λ (d : Board). first_of (list_at d.lists c.loop-class.head)) k.board ∙
          (ap (λ (h : ℕ). first_of (list_at (board_of c.args.self.now).lists h)) head ∙
          ap first_of (list_at-by (class_seats c.args.self.now) c.args.self.now.rules c.loop-class.class (own ∙
          w.if-index.true))) in
          rw (w.seats-is, w.head-is) (
            length-set _ _ _ ∙ c.loop-class.invariant.0,
            ap (λ (n : ℕ). n + 1) head ∙ rw rules at (number-event c.self.inside.rules.items c.loop-class.class
                c.index.result.now within c.index.ensures w.if-index.true),
            seats-more _ _ _ (class_seats c.args.self.now) few c.loop-class.invariant.2 here,
            seats-behind _ _ _ c.loop-class.invariant.3,
          )
      | else-index w ↦ rw (w.seats-is, w.head-is) (
        c.loop-class.invariant.0,
        c.loop-class.invariant.1 ∙ rw rules at (number-other c.self.inside.rules.items c.loop-class.class
            c.index.result.now within c.index.ensures w.if-index.false),
        seats-same _ _ _ _ _ k (own ∙ w.if-index.false) c.loop-class.invariant.2 c.loop-class.invariant.3,
        λ d l. c.loop-class.invariant.3 d (omega (arith, l)),
      )
    ]

pub returns-clause-listing : goal.returns-clause-listing
returns-clause-listing g c =
    let k = kept _ _ _ _ c.self.view_is c.self.invariant.0 in
    let long = ap (λ (s : AgendaState). length s.rules) c.self.view_is in
    let all : c.loop-class.class ≡ length c.args.self.now.rules = omega (
      arith,
      long,
      length-map
          c.self.inside.rules.items rule_of,
      c.self.inside.rules.ok,
      c.len-class-end.ensures,
      c.loop-class-test.false,
      c.loop-class.auto.class-end,
    ) in
    listing-begins c.args.self.now c.loop-class.seats c.loop-class.invariant.0 (λ d l. c.loop-class.invariant.2 d
    (omega (arith, all, l)))

pub returns-clause-first : goal.returns-clause-first
returns-clause-first g c =
    let k = kept _ _ _ _ c.self.view_is c.self.invariant.0 in
    least-at _ _ _ k
