use Rattle.std.proofs.Common.{◌≡◌, ◌<◌, ap, arith, length, refl}
use Rattle.std.proofs.lemmas.List.{length-map}
use Rattle.ss_events.specs.State.{AgendaState}
use Rattle.ss_events.specs.Views.{rule_of}
use Rattle.ss_events.proofs.Stands.{kept}
use Rattle.ss_events.proofs.Listings.{first-none, first-of_class, first-more, first-all}
use Rattle.ss_events.proofs.agenda.Agenda.listed_seat.Goals as goal

pub loop-class-init : goal.loop-class-init
loop-class-init g c = first-none _ _

pub bounds-listing-class : goal.bounds-listing-class
bounds-listing-class g c =
    let k = kept _ _ _ _ c.self.view_is c.self.invariant.0 in
    let long = ap (λ (s : AgendaState). length s.rules) c.self.view_is in
    omega (
      arith,
      k.classes,
      long,
      length-map c.self.inside.rules.items rule_of,
      c.self.inside.rules.ok,
      c.len-class-end.ensures,
      c.loop-class-test.true,
    )

pub earlier-least-requires-clause-other : goal.earlier-least-requires-clause-other
earlier-least-requires-clause-other g c =
    let k = kept _ _ _ _ c.self.view_is c.self.invariant.0 in
    let long = ap (λ (s : AgendaState). length s.rules) c.self.view_is in
    let within : c.loop-class.class < length c.args.self.now.rules = omega (
      arith,
      long,
      length-map
          c.self.inside.rules.items rule_of,
      c.self.inside.rules.ok,
      c.len-class-end.ensures,
      c.loop-class-test.true,
    ) in
    (first-of_class _ _ _ c.args.listing.now _ _ k c.requires within refl).taken

pub loop-class-preserved : goal.loop-class-preserved
loop-class-preserved g c =
    let k = kept _ _ _ _ c.self.view_is c.self.invariant.0 in
    let long = ap (λ (s : AgendaState). length s.rules) c.self.view_is in
    let within : c.loop-class.class < length c.args.self.now.rules = omega (
      arith,
      long,
      length-map
          c.self.inside.rules.items rule_of,
      c.self.inside.rules.ok,
      c.len-class-end.ensures,
      c.loop-class-test.true,
    ) in
    first-more _ _ _ c.args.listing.now _ c.loop-class.least _ _ k c.loop-class.invariant (first-of_class _ _ _
    c.args.listing.now _ _ k c.requires within refl) c.earlier-least.ensures.earlier c.earlier-least.ensures.taken

pub returns-clause-notice : goal.returns-clause-notice
returns-clause-notice g c =
    let k = kept _ _ _ _ c.self.view_is c.self.invariant.0 in
    let long = ap (λ (s : AgendaState). length s.rules) c.self.view_is in
    let all : c.loop-class.class ≡ length c.args.self.now.rules = omega (
      arith,
      long,
      length-map
          c.self.inside.rules.items rule_of,
      c.self.inside.rules.ok,
      c.len-class-end.ensures,
      c.loop-class-test.false,
      c.loop-class.auto.class-end,
    ) in
    first-all _ _ _ c.args.listing.now _ _ k all c.loop-class.invariant
