use Rattle.std.proofs.Common.{rules, w64, FitsSigned, refl}
use Rattle.std.proofs.lemmas.Int.{to_z-of_z}
use Rattle.std.specs.Prelude.{Ok, Err}
use Rattle.ss_words.specs.declared.fault.RunFault.TheVariants.{NoEntity, AlreadyInSet}
use Rattle.ss_store.specs.declared.change.StoreChange.TheVariants.{Filed}
use Rattle.ss_store.specs.Store.{number_of}
use Rattle.std.proofs.Common.{ap, sym, subst, ◌∙◌}
use Rattle.std.specs.Prelude.{slice_set}
use Rattle.ss_links.specs.Board.{list_at}
use Rattle.ss_store.specs.Order.{InOrder, AreInOrder}
use Rattle.ss_store.specs.Finding.{place_by}
use Rattle.ss_store.proofs.Calls.{case_of, head_small, seat_small, file_no_owner, file_no_member, file_none_named}
use Rattle.ss_store.proofs.Calls.{file_already, file_not_there, spot_below, can_relink, file_store, file_left, file_to}
use Rattle.ss_store.proofs.Agree.{head_below, seat_below}
use Rattle.ss_store.proofs.ListOrders.{filed_order, known_order, started}
use Rattle.ss_store.proofs.store.Store.file.Goals as goal

pub head_of-requires : goal.head_of-requires
head_of-requires g c = head_small _ _ c.args.set c.index-shape.result.now c.number_of_value-number.result
    _
    (case_of _ _ c.args.set c.index-shape.result.now c.self.view_is c.self.invariant.2 c.requires c.index-shape.ensures)
    refl c.known.ensures.heads

pub returns-in-None : goal.returns-in-None
returns-in-None g c = let p = file_no_owner _ _ c.args.set c.index-shape.result.now c.number_of_value-number.result
    c.number_of_value-member.result c.args.how
    (case_of _ _ c.args.set c.index-shape.result.now c.self.view_is c.self.invariant.2
    c.requires c.index-shape.ensures) (sym c.head_of.ensures ∙ c.in-None.is) in
    file_to (Err NoEntity) c.args.self.now c.args.self.now c.args.set _ _ _ _ c.args.how
    (let fits : FitsSigned w64 c.args.owner = search rules in c.number_of_value-number.ensures
    ∙ ap number_of (to_z-of_z w64 _ fits))
    (let fits : FitsSigned w64 c.args.member = search rules in c.number_of_value-member.ensures
    ∙ ap number_of (to_z-of_z w64 _ fits)) p

pub seat_of-requires : goal.seat_of-requires
seat_of-requires g c = seat_small _ _ c.args.set c.index-shape.result.now _
    (case_of _ _ c.args.set c.index-shape.result.now c.self.view_is c.self.invariant.2 c.requires c.index-shape.ensures)
    refl c.known.ensures.seats c.number_of_value-member.result

pub returns-in-None-seat_of : goal.returns-in-None-seat_of
returns-in-None-seat_of g c = let p = file_no_member _ _ c.args.set c.index-shape.result.now
    c.number_of_value-number.result
    c.number_of_value-member.result c.in-Some.head c.args.how
    (case_of _ _ c.args.set c.index-shape.result.now c.self.view_is c.self.invariant.2 c.requires c.index-shape.ensures)
    (sym c.head_of.ensures ∙ c.in-Some.is) (sym c.seat_of.ensures ∙ c.in-None-seat_of.is) in
    file_to (Err NoEntity) c.args.self.now c.args.self.now c.args.set _ _ _ _ c.args.how
    (let fits : FitsSigned w64 c.args.owner = search rules in c.number_of_value-number.ensures
    ∙ ap number_of (to_z-of_z w64 _ fits))
    (let fits : FitsSigned w64 c.args.member = search rules in c.number_of_value-member.ensures
    ∙ ap number_of (to_z-of_z w64 _ fits)) p

pub spot_of-requires : goal.spot_of-requires
spot_of-requires g c = seat_small _ _ c.args.set c.index-shape.result.now _
    (case_of _ _ c.args.set c.index-shape.result.now c.self.view_is c.self.invariant.2 c.requires c.index-shape.ensures)
    refl c.known.ensures.seats

pub returns-in-Err : goal.returns-in-Err
returns-in-Err g c = let p = file_none_named _ _ c.args.set c.index-shape.result.now c.number_of_value-number.result
    c.number_of_value-member.result c.in-Some.head c.in-Some-seat_of.seat c.args.how c.in-Err.fault
    (case_of _ _ c.args.set c.index-shape.result.now c.self.view_is c.self.invariant.2 c.requires c.index-shape.ensures)
    (sym c.head_of.ensures ∙ c.in-Some.is) (sym c.seat_of.ensures ∙ c.in-Some-seat_of.is) (sym c.spot_of.ensures
    ∙ c.in-Err.is) in file_to (Err c.in-Err.fault) c.args.self.now c.args.self.now c.args.set _ _ _ _ c.args.how
    (let fits : FitsSigned w64 c.args.owner = search rules in c.number_of_value-number.ensures
    ∙ ap number_of (to_z-of_z w64 _ fits))
    (let fits : FitsSigned w64 c.args.member = search rules in c.number_of_value-member.ensures
    ∙ ap number_of (to_z-of_z w64 _ fits)) p

pub place-requires : goal.place-requires
place-requires g c = let k = (case_of _ _ c.args.set c.index-shape.result.now c.self.view_is c.self.invariant.2
    c.requires c.index-shape.ensures) in seat_below _ c.index-shape.result.now c.number_of_value-member.result
    c.in-Some-seat_of.seat c.self.invariant.2 k.is_set (sym c.seat_of.ensures ∙ c.in-Some-seat_of.is)

pub returns-in-Some-place : goal.returns-in-Some-place
returns-in-Some-place g c = let p = file_already _ _ c.args.set c.index-shape.result.now c.number_of_value-number.result
    c.number_of_value-member.result c.in-Some.head c.in-Some-seat_of.seat _ c.args.how c.in-Ok.spot
    (case_of _ _ c.args.set c.index-shape.result.now c.self.view_is c.self.invariant.2 c.requires c.index-shape.ensures)
    (sym c.head_of.ensures ∙ c.in-Some.is) (sym c.seat_of.ensures ∙ c.in-Some-seat_of.is) (sym c.spot_of.ensures
    ∙ c.in-Ok.is) (sym c.place.ensures.value ∙ c.in-Some-place.is) in
    file_to (Err AlreadyInSet) c.args.self.now c.args.self.now c.args.set _ _ _ _ c.args.how
    (let fits : FitsSigned w64 c.args.owner = search rules in c.number_of_value-number.ensures
    ∙ ap number_of (to_z-of_z w64 _ fits))
    (let fits : FitsSigned w64 c.args.member = search rules in c.number_of_value-member.ensures
    ∙ ap number_of (to_z-of_z w64 _ fits)) p

pub is_in_order-in_order-requires-clause-head : goal.is_in_order-in_order-requires-clause-head
is_in_order-in_order-requires-clause-head g c = let k =
    (case_of _ _ c.args.set c.index-shape.result.now c.self.view_is c.self.invariant.2 c.requires
    c.index-shape.ensures) in head_below _ c.index-shape.result.now c.number_of_value-number.result c.in-Some.head
    c.self.invariant.2 k.is_set (sym c.head_of.ensures ∙ c.in-Some.is)

pub is_in_order-in_order-requires-clause-known : goal.is_in_order-in_order-requires-clause-known
is_in_order-in_order-requires-clause-known g c e = let k =
    (case_of _ _ c.args.set c.index-shape.result.now c.self.view_is c.self.invariant.2 c.requires
    c.index-shape.ensures) in subst (λ z. InOrder c.self.inside.entities z c.index-shape.result.now
    (list_at (g.S.SetBoard.board c.self.inside.board).lists c.in-Some.head)) (sym c.deref.ensures.value)
    (known_order _ _ c.index-shape.result.now c.number_of_value-number.result c.in-Some.head c.self.invariant.2
    c.self.invariant.3 k.is_set (sym c.head_of.ensures ∙ c.in-Some.is) e)

pub place_for-requires-clause-order : goal.place_for-requires-clause-order
place_for-requires-clause-order g c t e = c.is_in_order-in_order.ensures.order
    (started c.is_in_order-in_order.result c.start_of-start.result t c.start_of-start.ensures e)

pub place_for-requires-clause-head : goal.place_for-requires-clause-head
place_for-requires-clause-head g c = let k =
    (case_of _ _ c.args.set c.index-shape.result.now c.self.view_is c.self.invariant.2 c.requires
    c.index-shape.ensures) in head_below _ c.index-shape.result.now c.number_of_value-number.result c.in-Some.head
    c.self.invariant.2 k.is_set (sym c.head_of.ensures ∙ c.in-Some.is)

pub place_for-requires-clause-spot : goal.place_for-requires-clause-spot
place_for-requires-clause-spot g c = let k =
    (case_of _ _ c.args.set c.index-shape.result.now c.self.view_is c.self.invariant.2 c.requires
    c.index-shape.ensures) in spot_below _ c.index-shape.result.now c.args.how c.in-Ok.spot c.self.invariant.2 k.is_set
    (sym c.spot_of.ensures ∙ c.in-Ok.is)

pub returns-in-Err-place_for : goal.returns-in-Err-place_for
returns-in-Err-place_for g c = let p = file_not_there _ _ c.args.set c.index-shape.result.now
    c.number_of_value-number.result
    c.number_of_value-member.result c.in-Some.head c.in-Some-seat_of.seat c.args.how c.in-Ok.spot
    c.in-Err-place_for.fault
    (case_of _ _ c.args.set c.index-shape.result.now c.self.view_is c.self.invariant.2 c.requires c.index-shape.ensures)
    (sym c.head_of.ensures ∙ c.in-Some.is) (sym c.seat_of.ensures ∙ c.in-Some-seat_of.is) (sym c.spot_of.ensures
    ∙ c.in-Ok.is) (sym c.place.ensures.value
    ∙ c.in-None-place.is) (sym (c.place_for.ensures
    ∙ ap (λ z. place_by c.self.inside.entities z (g.S.SetBoard.board c.self.inside.board).lists c.index-shape.result.now
    c.in-Some.head c.number_of_value-member.result c.in-Ok.spot) c.deref.ensures.value) ∙ c.in-Err-place_for.is) in
    file_to (Err c.in-Err-place_for.fault) c.args.self.now c.args.self.now c.args.set _ _ _ _ c.args.how
    (let fits : FitsSigned w64 c.args.owner = search rules in c.number_of_value-number.ensures
    ∙ ap number_of (to_z-of_z w64 _ fits))
    (let fits : FitsSigned w64 c.args.member = search rules in c.number_of_value-member.ensures
    ∙ ap number_of (to_z-of_z w64 _ fits)) p

pub relink-requires : goal.relink-requires
relink-requires g c = can_relink _ _ c.args.set c.index-shape.result.now c.number_of_value-number.result
    c.number_of_value-member.result
    c.in-Some.head c.in-Some-seat_of.seat c.in-Ok-place_for.before c.args.how c.in-Ok.spot
    (case_of _ _ c.args.set c.index-shape.result.now c.self.view_is c.self.invariant.2 c.requires c.index-shape.ensures)
    (sym c.head_of.ensures ∙ c.in-Some.is) (sym c.seat_of.ensures ∙ c.in-Some-seat_of.is) (sym c.spot_of.ensures
    ∙ c.in-Ok.is) (sym c.place.ensures.value
    ∙ c.in-None-place.is) (sym (c.place_for.ensures
    ∙ ap (λ z. place_by c.self.inside.entities z (g.S.SetBoard.board c.self.inside.board).lists c.index-shape.result.now
    c.in-Some.head c.number_of_value-member.result c.in-Ok.spot) c.deref.ensures.value) ∙ c.in-Ok-place_for.is)

pub invariant_of-self : goal.invariant_of-self
invariant_of-self g c = (
  c.self.invariant.0,
  c.self.invariant.1,
  file_store _ _ _ c.args.set c.index-shape.result.now c.number_of_value-number.result c.number_of_value-member.result
      c.in-Some.head
      c.in-Some-seat_of.seat c.in-Ok-place_for.before c.args.how c.in-Ok.spot
      (case_of _ _ c.args.set c.index-shape.result.now c.self.view_is c.self.invariant.2 c.requires
      c.index-shape.ensures)
      (sym c.head_of.ensures ∙ c.in-Some.is) (sym c.seat_of.ensures ∙ c.in-Some-seat_of.is) (sym c.spot_of.ensures
      ∙ c.in-Ok.is) (sym c.place.ensures.value
      ∙ c.in-None-place.is) (sym (c.place_for.ensures
      ∙ ap (λ z. place_by c.self.inside.entities z (g.S.SetBoard.board c.self.inside.board).lists
      c.index-shape.result.now
      c.in-Some.head c.number_of_value-member.result c.in-Ok.spot) c.deref.ensures.value)
      ∙ c.in-Ok-place_for.is) c.relink.ensures.board c.relink.ensures.sound.1,
  subst (AreInOrder _) (sym (c.note.ensures
      ∙ ap (λ z. slice_set z c.in-Some.head c.is_in_order-in_order.result) c.put.ensures))
      (filed_order _ _ _ _ c.args.set c.index-shape.result.now c.number_of_value-number.result
      c.number_of_value-member.result c.in-Some.head c.in-Some-seat_of.seat c.in-Ok-place_for.before c.args.how
      c.in-Ok.spot c.is_in_order-in_order.result
      (case_of _ _ c.args.set c.index-shape.result.now c.self.view_is c.self.invariant.2 c.requires
      c.index-shape.ensures)
      (sym c.head_of.ensures ∙ c.in-Some.is) (sym c.seat_of.ensures ∙ c.in-Some-seat_of.is) (sym c.spot_of.ensures
      ∙ c.in-Ok.is) (sym c.place.ensures.value
      ∙ c.in-None-place.is) (sym (c.place_for.ensures
      ∙ ap (λ z. place_by c.self.inside.entities z (g.S.SetBoard.board c.self.inside.board).lists
      c.index-shape.result.now
      c.in-Some.head c.number_of_value-member.result c.in-Ok.spot) c.deref.ensures.value)
      ∙ c.in-Ok-place_for.is) c.relink.ensures.board c.relink.ensures.sound.1 c.self.invariant.3
      c.is_in_order-in_order.ensures.rule (λ e. subst (λ z. InOrder c.self.inside.entities z c.index-shape.result.now
      (list_at (g.S.SetBoard.board c.self.inside.board).lists c.in-Some.head)) c.deref.ensures.value
      (c.is_in_order-in_order.ensures.order e))),
)

pub returns : goal.returns
returns g c = let p = file_left _ _ _ c.args.set c.index-shape.result.now c.number_of_value-number.result
    c.number_of_value-member.result
    c.in-Some.head c.in-Some-seat_of.seat c.in-Ok-place_for.before c.args.how c.in-Ok.spot
    (case_of _ _ c.args.set c.index-shape.result.now c.self.view_is c.self.invariant.2 c.requires c.index-shape.ensures)
    (sym c.head_of.ensures ∙ c.in-Some.is) (sym c.seat_of.ensures ∙ c.in-Some-seat_of.is) (sym c.spot_of.ensures
    ∙ c.in-Ok.is) (sym c.place.ensures.value
    ∙ c.in-None-place.is) (sym (c.place_for.ensures
    ∙ ap (λ z. place_by c.self.inside.entities z (g.S.SetBoard.board c.self.inside.board).lists c.index-shape.result.now
    c.in-Some.head c.number_of_value-member.result c.in-Ok.spot) c.deref.ensures.value)
    ∙ c.in-Ok-place_for.is) c.relink.ensures.board c.relink.ensures.sound.1 in
    file_to
    (Ok (Filed c.args.set c.index-shape.result.now.owner c.index-shape.result.now.list c.number_of_value-number.result
    c.number_of_value-member.result)) c.args.self.now _ c.args.set _ _ _ _ c.args.how
    (let fits : FitsSigned w64 c.args.owner =
    search rules in c.number_of_value-number.ensures ∙ ap number_of (to_z-of_z w64 _ fits))
    (let fits : FitsSigned w64 c.args.member =
    search rules in c.number_of_value-member.ensures ∙ ap number_of (to_z-of_z w64 _ fits)) p
