use Rattle.std.proofs.Common.{rules, w64, FitsSigned, refl}
use Rattle.std.proofs.lemmas.Int.{to_z-of_z}
use Rattle.std.specs.Prelude.{Ok, Err}
use Rattle.ss_words.specs.declared.fault.RunFault.TheVariants.{NoEntity}
use Rattle.ss_store.specs.declared.change.StoreChange.TheVariants.{Removed}
use Rattle.ss_store.specs.Store.{number_of}
use Rattle.std.specs.Option.{option_map}
use Rattle.std.proofs.Common.{ap, sym, ◌∙◌, length, arith, ℕ}
use Rattle.ss_store.specs.Parts.{number_at}
use Rattle.ss_store.proofs.Calls.{case_of, head_small}
use Rattle.ss_store.proofs.Agree.{head_below, seat_below}
use Rattle.ss_store.proofs.RemovedMembers.{remove_no_owner, remove_unnamed, remove_store, remove_left, named_below}
use Rattle.ss_store.proofs.RemovedMembers.{named_linked}
use Rattle.ss_store.proofs.RemovedMembers.{named_number, before_below, remove_to}
use Rattle.std.proofs.Common.{subst}
use Rattle.ss_store.specs.Order.{AreInOrder}
use Rattle.ss_store.proofs.ListOrders.{removed_order}
use Rattle.ss_store.proofs.store.Store.remove.Goals as goal

pub head_of-requires : goal.head_of-requires
head_of-requires g c = head_small _ _ c.args.set c.index-shape.result.now c.number_of_value-number.result
    _
    (case_of _ _ c.args.set c.index-shape.result.now c.self.view_is c.self.invariant.2 c.requires c.index-shape.ensures)
    refl c.known.ensures.heads

pub returns-in-None : goal.returns-in-None
returns-in-None g c = let p = remove_no_owner _ _ c.args.set c.index-shape.result.now c.number_of_value-number.result
    c.args.which
    (case_of _ _ c.args.set c.index-shape.result.now c.self.view_is c.self.invariant.2 c.requires c.index-shape.ensures)
    (sym c.head_of.ensures ∙ c.in-None.is) in
    remove_to (Err NoEntity) c.args.self.now c.args.self.now c.args.set _ _ c.args.which
    (let fits : FitsSigned w64 c.args.owner = search rules in c.number_of_value-number.ensures
    ∙ ap number_of (to_z-of_z w64 _ fits)) p

pub seat_to_remove-requires-clause-head : goal.seat_to_remove-requires-clause-head
seat_to_remove-requires-clause-head g c = let k =
    (case_of _ _ c.args.set c.index-shape.result.now c.self.view_is c.self.invariant.2 c.requires
    c.index-shape.ensures) in head_below _ c.index-shape.result.now c.number_of_value-number.result c.in-Some.head
    c.self.invariant.2 k.is_set (sym c.head_of.ensures ∙ c.in-Some.is)

pub seat_to_remove-requires-clause-seats : goal.seat_to_remove-requires-clause-seats
seat_to_remove-requires-clause-seats g c = let k =
    (case_of _ _ c.args.set c.index-shape.result.now c.self.view_is c.self.invariant.2 c.requires
    c.index-shape.ensures) in λ y t e. seat_below _ c.index-shape.result.now y t c.self.invariant.2 k.is_set e

pub returns-in-Err : goal.returns-in-Err
returns-in-Err g c = let p = remove_unnamed _ _ c.args.set c.index-shape.result.now c.number_of_value-number.result
    c.in-Some.head
    c.in-Err.fault c.args.which (case_of _ _ c.args.set c.index-shape.result.now c.self.view_is c.self.invariant.2
    c.requires c.index-shape.ensures) (sym c.head_of.ensures ∙ c.in-Some.is)
    (sym c.seat_to_remove.ensures ∙ c.in-Err.is) in
    remove_to (Err c.in-Err.fault) c.args.self.now c.args.self.now c.args.set _ _ c.args.which
    (let fits : FitsSigned w64 c.args.owner = search rules in c.number_of_value-number.ensures
    ∙ ap number_of (to_z-of_z w64 _ fits)) p

pub unlink-place-requires-clause-is_seat : goal.unlink-place-requires-clause-is_seat
unlink-place-requires-clause-is_seat g c =
    named_below _ _ c.args.set c.index-shape.result.now c.number_of_value-number.result c.in-Some.head c.in-Ok.seat
    c.args.which
    (case_of _ _ c.args.set c.index-shape.result.now c.self.view_is c.self.invariant.2 c.requires c.index-shape.ensures)
    (sym c.head_of.ensures ∙ c.in-Some.is) (sym c.seat_to_remove.ensures ∙ c.in-Ok.is)

pub unlink-place-requires-clause-is_linked : goal.unlink-place-requires-clause-is_linked
unlink-place-requires-clause-is_linked g c =
    named_linked _ _ c.args.set c.index-shape.result.now c.number_of_value-number.result c.in-Some.head c.in-Ok.seat
    c.args.which
    (case_of _ _ c.args.set c.index-shape.result.now c.self.view_is c.self.invariant.2 c.requires c.index-shape.ensures)
    (sym c.head_of.ensures ∙ c.in-Some.is) (sym c.seat_to_remove.ensures ∙ c.in-Ok.is)

pub member_at_seat-member-requires : goal.member_at_seat-member-requires
member_at_seat-member-requires g c = let b = named_number _ _ c.args.set c.index-shape.result.now
    c.number_of_value-number.result
    c.in-Some.head c.in-Ok.seat c.args.which
    (case_of _ _ c.args.set c.index-shape.result.now c.self.view_is c.self.invariant.2 c.requires c.index-shape.ensures)
    (sym c.head_of.ensures ∙ c.in-Some.is) (sym c.seat_to_remove.ensures ∙ c.in-Ok.is) in
    let is = ap (length {A = ℕ}) c.deref.ensures.value in omega (arith, b, is)

pub member_if-before-requires : goal.member_if-before-requires
member_if-before-requires g c x e =
    let b = before_below _ _ c.args.set c.index-shape.result.now c.number_of_value-number.result c.in-Some.head
    c.in-Ok.seat
    c.args.which c.unlink-place.result.before
    (case_of _ _ c.args.set c.index-shape.result.now c.self.view_is c.self.invariant.2 c.requires
    c.index-shape.ensures) (sym c.head_of.ensures ∙ c.in-Some.is) (sym c.seat_to_remove.ensures
    ∙ c.in-Ok.is) c.unlink-place.ensures.before x e in
    let is = ap (length {A = ℕ}) c.deref-2.ensures.value in omega (arith, b, is)

pub invariant_of-self : goal.invariant_of-self
invariant_of-self g c = (
  c.self.invariant.0,
  c.self.invariant.1,
  remove_store _ _ _ c.args.set c.index-shape.result.now c.number_of_value-number.result c.in-Some.head c.in-Ok.seat
      c.args.which (case_of _ _ c.args.set c.index-shape.result.now c.self.view_is c.self.invariant.2 c.requires
      c.index-shape.ensures) (sym c.head_of.ensures ∙ c.in-Some.is) (sym c.seat_to_remove.ensures
      ∙ c.in-Ok.is) c.unlink-place.ensures.board c.unlink-place.ensures.sound.1,
  subst (AreInOrder _) (sym c.take.ensures)
      (removed_order _ _ _ c.in-Ok.seat c.unlink-place.ensures.board c.self.invariant.3),
)

pub returns : goal.returns
returns g c = let p = remove_left _ _ _ c.args.set c.index-shape.result.now c.number_of_value-number.result
    c.in-Some.head
    c.in-Ok.seat c.args.which c.unlink-place.result.before c.member_at_seat-member.result c.member_if-before.result
    (case_of _ _ c.args.set c.index-shape.result.now c.self.view_is c.self.invariant.2 c.requires c.index-shape.ensures)
    (sym c.head_of.ensures ∙ c.in-Some.is) (sym c.seat_to_remove.ensures
    ∙ c.in-Ok.is) c.unlink-place.ensures.board c.unlink-place.ensures.sound.1 c.unlink-place.ensures.before
    (c.member_at_seat-member.ensures ∙ ap (λ z. number_at z c.in-Ok.seat) c.deref.ensures.value)
    (c.member_if-before.ensures
    ∙ ap (λ z. option_map (number_at z) c.unlink-place.result.before) c.deref-2.ensures.value) in
    remove_to (Ok (
      c.member_at_seat-member.result,
      Removed c.args.set c.index-shape.result.now.owner c.index-shape.result.now.list c.number_of_value-number.result
          c.member_at_seat-member.result c.member_if-before.result,
    )) c.args.self.now _ c.args.set _ _ c.args.which
    (let fits : FitsSigned w64 c.args.owner = search rules in c.number_of_value-number.ensures
    ∙ ap number_of (to_z-of_z w64 _ fits)) p
