use Rattle.std.proofs.lemmas.Int.{to_z-of_z}
use Rattle.std.proofs.Common.{rules, w64, FitsSigned, ap, sym, subst, ◌∙◌, refl}
use Rattle.ss_store.specs.declared.change.StoreChange.{StoreChange}
use Rattle.ss_store.specs.Change.{FitsFiled, FitsRemoved, FitsCreated, FitsClassCreated, FitsSet, FitsEnded, FitsStore}
use Rattle.ss_store.specs.Change.{unapply_store}
use Rattle.ss_store.specs.Store.{with_back, entity_back}
use Rattle.ss_store.proofs.Calls.{case_of, head_small, seat_small}
use Rattle.ss_store.proofs.RemovalChanges.{unfiles, unfile_below, unfile_linked, unfile_store, unfile_left, refiles}
use Rattle.ss_store.proofs.RemovalChanges.{refile_can, refile_store, refile_left}
use Rattle.ss_store.proofs.SetUndos.{undoes, behind, filed_seat, removed_head, removed_seat}
use Rattle.ss_store.proofs.MakingChains.{created_back}
use Rattle.ss_store.proofs.ValueWrites.{positive, reset_back}
use Rattle.std.proofs.Common.{false}
use Rattle.std.specs.Prelude.{slice_set}
use Rattle.ss_store.specs.Order.{AreInOrder}
use Rattle.ss_store.proofs.Agree.{head_below}
use Rattle.ss_store.proofs.ListOrders.{removed_order, refiled_order}
use Rattle.ss_store.proofs.store.StoreUndo.undo.Goals as goal

pub seat_of-requires : goal.seat_of-requires
seat_of-requires g c = let f : FitsFiled c.args.self.now c.in-Filed.set c.in-Filed.owner c.in-Filed.list
    c.in-Filed.number c.in-Filed.member = subst (λ (z : StoreChange). FitsStore z c.args.self.now) c.in-Filed.is
    c.requires in let k = case_of _ _ c.in-Filed.set c.index-shape.result.now c.self.view_is c.self.invariant.2 f.is_set
    c.index-shape.ensures in seat_small _ _ c.in-Filed.set c.index-shape.result.now _ k
    refl c.known.ensures.seats c.in-Filed.member

pub unwrap-seat-requires : goal.unwrap-seat-requires
unwrap-seat-requires g c = let f : FitsFiled c.args.self.now c.in-Filed.set c.in-Filed.owner c.in-Filed.list
    c.in-Filed.number c.in-Filed.member = subst (λ (z : StoreChange). FitsStore z c.args.self.now) c.in-Filed.is
    c.requires in let k = case_of _ _ c.in-Filed.set c.index-shape.result.now c.self.view_is c.self.invariant.2 f.is_set
    c.index-shape.ensures in filed_seat _ _ c.in-Filed.set c.index-shape.result.now c.in-Filed.owner c.in-Filed.list
    c.in-Filed.number c.in-Filed.member _ k f c.seat_of.ensures

pub unlink-place-requires-clause-is_seat : goal.unlink-place-requires-clause-is_seat
unlink-place-requires-clause-is_seat g c =
    let f : FitsFiled c.args.self.now c.in-Filed.set c.in-Filed.owner c.in-Filed.list c.in-Filed.number
    c.in-Filed.member = subst (λ (z : StoreChange). FitsStore z c.args.self.now) c.in-Filed.is c.requires in
    let k = case_of _ _ c.in-Filed.set c.index-shape.result.now c.self.view_is c.self.invariant.2 f.is_set
    c.index-shape.ensures in unfile_below _ c.index-shape.result.now c.in-Filed.number c.in-Filed.member
    c.unwrap-seat.result c.self.invariant.2 (unfiles _ _ c.in-Filed.set c.index-shape.result.now c.in-Filed.owner
    c.in-Filed.list c.in-Filed.number c.in-Filed.member (undoes _ _ c.in-Filed.set c.index-shape.result.now k) f)
    (sym c.seat_of.ensures ∙ c.unwrap-seat.ensures)

pub unlink-place-requires-clause-is_linked : goal.unlink-place-requires-clause-is_linked
unlink-place-requires-clause-is_linked g c =
    let f : FitsFiled c.args.self.now c.in-Filed.set c.in-Filed.owner c.in-Filed.list c.in-Filed.number
    c.in-Filed.member = subst (λ (z : StoreChange). FitsStore z c.args.self.now) c.in-Filed.is c.requires in
    let k = case_of _ _ c.in-Filed.set c.index-shape.result.now c.self.view_is c.self.invariant.2 f.is_set
    c.index-shape.ensures in unfile_linked _ c.index-shape.result.now c.in-Filed.number c.in-Filed.member
    c.unwrap-seat.result (unfiles _ _ c.in-Filed.set c.index-shape.result.now c.in-Filed.owner c.in-Filed.list
    c.in-Filed.number c.in-Filed.member (undoes _ _ c.in-Filed.set c.index-shape.result.now k) f) (sym c.seat_of.ensures
    ∙ c.unwrap-seat.ensures)

pub invariant_of-self : goal.invariant_of-self
invariant_of-self g c = let f : FitsFiled c.args.self.now c.in-Filed.set c.in-Filed.owner c.in-Filed.list
    c.in-Filed.number c.in-Filed.member = subst (λ (z : StoreChange). FitsStore z c.args.self.now) c.in-Filed.is
    c.requires in let k = case_of _ _ c.in-Filed.set c.index-shape.result.now c.self.view_is c.self.invariant.2 f.is_set
    c.index-shape.ensures in (
      c.self.invariant.0,
      c.self.invariant.1,
      unfile_store _ _ c.index-shape.result.now c.in-Filed.number c.in-Filed.member c.unwrap-seat.result
          c.self.invariant.2 (unfiles _ _ c.in-Filed.set c.index-shape.result.now c.in-Filed.owner c.in-Filed.list
          c.in-Filed.number c.in-Filed.member (undoes _ _ c.in-Filed.set c.index-shape.result.now k) f)
          (sym c.seat_of.ensures
          ∙ c.unwrap-seat.ensures) c.unlink-place.ensures.board c.unlink-place.ensures.sound.1,
      subst (AreInOrder _) (sym c.take.ensures)
          (removed_order _ _ _ c.unwrap-seat.result c.unlink-place.ensures.board c.self.invariant.3),
    )

pub returns-in-Filed : goal.returns-in-Filed
returns-in-Filed g c = let f : FitsFiled c.args.self.now c.in-Filed.set c.in-Filed.owner c.in-Filed.list
    c.in-Filed.number c.in-Filed.member = subst (λ (z : StoreChange). FitsStore z c.args.self.now) c.in-Filed.is
    c.requires in let k = case_of _ _ c.in-Filed.set c.index-shape.result.now c.self.view_is c.self.invariant.2 f.is_set
    c.index-shape.ensures in unfile_left _ _ _ c.in-Filed.set c.index-shape.result.now c.in-Filed.owner c.in-Filed.list
    c.in-Filed.number c.in-Filed.member c.unwrap-seat.result (undoes _ _ c.in-Filed.set c.index-shape.result.now k) f
    (sym c.seat_of.ensures ∙ c.unwrap-seat.ensures) c.unlink-place.ensures.board c.unlink-place.ensures.sound.1
    ∙ ap (λ (z : StoreChange). unapply_store z c.args.self.now) (sym c.in-Filed.is)

pub seat_if-before-requires : goal.seat_if-before-requires
seat_if-before-requires g c = let f : FitsRemoved c.args.self.now c.in-Removed.set c.in-Removed.owner c.in-Removed.list
    c.in-Removed.number c.in-Removed.member c.in-Removed.before =
    subst (λ (z : StoreChange). FitsStore z c.args.self.now) c.in-Removed.is c.requires in
    let k = case_of _ _ c.in-Removed.set c.index-shape-in-Removed.result.now c.self-in-Removed.view_is
    c.self-in-Removed.invariant.2 f.is_set c.index-shape-in-Removed.ensures in
    seat_small _ _ c.in-Removed.set c.index-shape-in-Removed.result.now _ k
    refl c.known-in-Removed.ensures.seats

pub head_of-requires : goal.head_of-requires
head_of-requires g c = let f : FitsRemoved c.args.self.now c.in-Removed.set c.in-Removed.owner c.in-Removed.list
    c.in-Removed.number c.in-Removed.member c.in-Removed.before =
    subst (λ (z : StoreChange). FitsStore z c.args.self.now) c.in-Removed.is c.requires in
    let k = case_of _ _ c.in-Removed.set c.index-shape-in-Removed.result.now c.self-in-Removed.view_is
    c.self-in-Removed.invariant.2 f.is_set c.index-shape-in-Removed.ensures in
    head_small _ _ c.in-Removed.set c.index-shape-in-Removed.result.now c.in-Removed.number _ k
    refl c.known-in-Removed.ensures.heads

pub unwrap-head-requires : goal.unwrap-head-requires
unwrap-head-requires g c = let f : FitsRemoved c.args.self.now c.in-Removed.set c.in-Removed.owner c.in-Removed.list
    c.in-Removed.number c.in-Removed.member c.in-Removed.before =
    subst (λ (z : StoreChange). FitsStore z c.args.self.now) c.in-Removed.is c.requires in
    let k = case_of _ _ c.in-Removed.set c.index-shape-in-Removed.result.now c.self-in-Removed.view_is
    c.self-in-Removed.invariant.2 f.is_set c.index-shape-in-Removed.ensures in
    removed_head _ _ c.in-Removed.set c.index-shape-in-Removed.result.now c.in-Removed.owner c.in-Removed.list
    c.in-Removed.number c.in-Removed.member c.in-Removed.before _ k f c.head_of.ensures

pub seat_of-requires-in-Removed : goal.seat_of-requires-in-Removed
seat_of-requires-in-Removed g c = let f : FitsRemoved c.args.self.now c.in-Removed.set c.in-Removed.owner
    c.in-Removed.list c.in-Removed.number c.in-Removed.member c.in-Removed.before =
    subst (λ (z : StoreChange). FitsStore z c.args.self.now) c.in-Removed.is c.requires in
    let k = case_of _ _ c.in-Removed.set c.index-shape-in-Removed.result.now c.self-in-Removed.view_is
    c.self-in-Removed.invariant.2 f.is_set c.index-shape-in-Removed.ensures in
    seat_small _ _ c.in-Removed.set c.index-shape-in-Removed.result.now _ k
    refl c.known-in-Removed.ensures.seats c.in-Removed.member

pub unwrap-seat-requires-in-Removed : goal.unwrap-seat-requires-in-Removed
unwrap-seat-requires-in-Removed g c = let f : FitsRemoved c.args.self.now c.in-Removed.set c.in-Removed.owner
    c.in-Removed.list c.in-Removed.number c.in-Removed.member c.in-Removed.before =
    subst (λ (z : StoreChange). FitsStore z c.args.self.now) c.in-Removed.is c.requires in
    let k = case_of _ _ c.in-Removed.set c.index-shape-in-Removed.result.now c.self-in-Removed.view_is
    c.self-in-Removed.invariant.2 f.is_set c.index-shape-in-Removed.ensures in
    removed_seat _ _ c.in-Removed.set c.index-shape-in-Removed.result.now c.in-Removed.owner c.in-Removed.list
    c.in-Removed.number c.in-Removed.member c.in-Removed.before _ k f c.seat_of-in-Removed.ensures

pub relink-requires : goal.relink-requires
relink-requires g c = let f : FitsRemoved c.args.self.now c.in-Removed.set c.in-Removed.owner c.in-Removed.list
    c.in-Removed.number c.in-Removed.member c.in-Removed.before =
    subst (λ (z : StoreChange). FitsStore z c.args.self.now) c.in-Removed.is c.requires in
    let k = case_of _ _ c.in-Removed.set c.index-shape-in-Removed.result.now c.self-in-Removed.view_is
    c.self-in-Removed.invariant.2 f.is_set c.index-shape-in-Removed.ensures in
    refile_can _ c.index-shape-in-Removed.result.now c.in-Removed.number c.in-Removed.member c.unwrap-head.result
    c.unwrap-seat-in-Removed.result c.in-Removed.before c.seat_if-before.result c.self-in-Removed.invariant.2
    (refiles _ _ c.in-Removed.set c.index-shape-in-Removed.result.now c.in-Removed.owner c.in-Removed.list
    c.in-Removed.number c.in-Removed.member c.in-Removed.before
    (undoes _ _ c.in-Removed.set c.index-shape-in-Removed.result.now k) f) (sym c.head_of.ensures
    ∙ c.unwrap-head.ensures) (sym c.seat_of-in-Removed.ensures
    ∙ c.unwrap-seat-in-Removed.ensures) (behind _ c.index-shape-in-Removed.result.now c.in-Removed.before
    c.seat_if-before.result c.seat_if-before.ensures.none c.seat_if-before.ensures.some)

pub invariant_of-self-in-Removed : goal.invariant_of-self-in-Removed
invariant_of-self-in-Removed g c = let f : FitsRemoved c.args.self.now c.in-Removed.set c.in-Removed.owner
    c.in-Removed.list c.in-Removed.number c.in-Removed.member c.in-Removed.before =
    subst (λ (z : StoreChange). FitsStore z c.args.self.now) c.in-Removed.is c.requires in
    let k = case_of _ _ c.in-Removed.set c.index-shape-in-Removed.result.now c.self-in-Removed.view_is
    c.self-in-Removed.invariant.2 f.is_set c.index-shape-in-Removed.ensures in (
      c.self-in-Removed.invariant.0,
      c.self-in-Removed.invariant.1,
      refile_store _ _ c.index-shape-in-Removed.result.now c.in-Removed.number c.in-Removed.member c.unwrap-head.result
          c.unwrap-seat-in-Removed.result c.in-Removed.before c.seat_if-before.result c.self-in-Removed.invariant.2
          (refiles _ _ c.in-Removed.set c.index-shape-in-Removed.result.now c.in-Removed.owner c.in-Removed.list
          c.in-Removed.number c.in-Removed.member c.in-Removed.before
          (undoes _ _ c.in-Removed.set c.index-shape-in-Removed.result.now k) f) (sym c.head_of.ensures
          ∙ c.unwrap-head.ensures) (sym c.seat_of-in-Removed.ensures
          ∙ c.unwrap-seat-in-Removed.ensures) (behind _ c.index-shape-in-Removed.result.now c.in-Removed.before
          c.seat_if-before.result c.seat_if-before.ensures.none c.seat_if-before.ensures.some) c.relink.ensures.board
          c.relink.ensures.sound.1,
      subst (AreInOrder _) (sym (c.note.ensures ∙ ap (λ z. slice_set z c.unwrap-head.result false) c.put.ensures))
          (refiled_order _ _ _ c.unwrap-head.result c.unwrap-seat-in-Removed.result c.seat_if-before.result
          (head_below _ c.index-shape-in-Removed.result.now c.in-Removed.number c.unwrap-head.result
          c.self-in-Removed.invariant.2 k.is_set (sym c.head_of.ensures ∙ c.unwrap-head.ensures)) c.relink.ensures.board
          c.relink.ensures.sound.1 c.self-in-Removed.invariant.3),
    )

pub returns-in-Removed : goal.returns-in-Removed
returns-in-Removed g c = let f : FitsRemoved c.args.self.now c.in-Removed.set c.in-Removed.owner c.in-Removed.list
    c.in-Removed.number c.in-Removed.member c.in-Removed.before =
    subst (λ (z : StoreChange). FitsStore z c.args.self.now) c.in-Removed.is c.requires in
    let k = case_of _ _ c.in-Removed.set c.index-shape-in-Removed.result.now c.self-in-Removed.view_is
    c.self-in-Removed.invariant.2 f.is_set c.index-shape-in-Removed.ensures in
    refile_left _ _ _ c.in-Removed.set c.index-shape-in-Removed.result.now c.in-Removed.owner c.in-Removed.list
    c.in-Removed.number c.in-Removed.member c.unwrap-head.result c.unwrap-seat-in-Removed.result c.in-Removed.before
    c.seat_if-before.result (undoes _ _ c.in-Removed.set c.index-shape-in-Removed.result.now k) f (sym c.head_of.ensures
    ∙ c.unwrap-head.ensures) (sym c.seat_of-in-Removed.ensures
    ∙ c.unwrap-seat-in-Removed.ensures) (behind _ c.index-shape-in-Removed.result.now c.in-Removed.before
    c.seat_if-before.result c.seat_if-before.ensures.none c.seat_if-before.ensures.some) c.relink.ensures.board
    c.relink.ensures.sound.1 ∙ ap (λ (z : StoreChange). unapply_store z c.args.self.now) (sym c.in-Removed.is)

pub take_entity-requires-clause-class : goal.take_entity-requires-clause-class
take_entity-requires-clause-class g c = let f : FitsCreated c.args.self.now c.in-Created.class c.in-Created.number
    c.in-Created.heads c.in-Created.seats = subst (λ (z : StoreChange). FitsStore z c.args.self.now) c.in-Created.is
    c.requires in f.newest.is_class

pub take_entity-requires-clause-fits : goal.take_entity-requires-clause-fits
take_entity-requires-clause-fits g c = let f : FitsCreated c.args.self.now c.in-Created.class c.in-Created.number
    c.in-Created.heads c.in-Created.seats = subst (λ (z : StoreChange). FitsStore z c.args.self.now) c.in-Created.is
    c.requires in (c.in-Created.number, c.in-Created.heads, c.in-Created.seats, f.newest)

pub returns-in-Created : goal.returns-in-Created
returns-in-Created g c = let f : FitsCreated c.args.self.now c.in-Created.class c.in-Created.number c.in-Created.heads
    c.in-Created.seats = subst (λ (z : StoreChange). FitsStore z c.args.self.now) c.in-Created.is c.requires in
    c.take_entity.ensures c.in-Created.number c.in-Created.heads c.in-Created.seats f.newest
    ∙ created_back c.in-Created.class c.in-Created.number c.in-Created.heads c.in-Created.seats c.args.self.now f
    ∙ ap (λ (z : StoreChange). unapply_store z c.args.self.now) (sym c.in-Created.is)

pub take_entities-requires : goal.take_entities-requires
take_entities-requires g c = let f : FitsClassCreated c.args.self.now c.in-ClassCreated.class c.in-ClassCreated.count
    c.in-ClassCreated.heads c.in-ClassCreated.seats =
    subst (λ (z : StoreChange). FitsStore z c.args.self.now) c.in-ClassCreated.is c.requires in (_, f.takes_off)

pub returns-in-ClassCreated : goal.returns-in-ClassCreated
returns-in-ClassCreated g c = let f : FitsClassCreated c.args.self.now c.in-ClassCreated.class c.in-ClassCreated.count
    c.in-ClassCreated.heads c.in-ClassCreated.seats =
    subst (λ (z : StoreChange). FitsStore z c.args.self.now) c.in-ClassCreated.is c.requires in
    c.take_entities.ensures _ f.takes_off ∙ ap (λ (z : StoreChange). unapply_store z c.args.self.now)
    (sym c.in-ClassCreated.is)

pub reset-requires-clause-class : goal.reset-requires-clause-class
reset-requires-clause-class g c = let f : FitsSet c.args.self.now c.in-AttributeSet.class c.in-AttributeSet.number =
    subst (λ (z : StoreChange). FitsStore z c.args.self.now) c.in-AttributeSet.is c.requires in f.is_class

pub reset-requires-clause-number : goal.reset-requires-clause-number
reset-requires-clause-number g c = let f : FitsSet c.args.self.now c.in-AttributeSet.class c.in-AttributeSet.number =
    subst (λ (z : StoreChange). FitsStore z c.args.self.now) c.in-AttributeSet.is c.requires in
    positive c.args.self.now.state c.in-AttributeSet.class c.in-AttributeSet.number f.there

pub reset-requires-clause-there : goal.reset-requires-clause-there
reset-requires-clause-there g c = let f : FitsSet c.args.self.now c.in-AttributeSet.class c.in-AttributeSet.number =
    subst (λ (z : StoreChange). FitsStore z c.args.self.now) c.in-AttributeSet.is c.requires in f.there

pub returns-in-AttributeSet : goal.returns-in-AttributeSet
returns-in-AttributeSet g c = reset_back _ c.args.self.now c.in-AttributeSet.class c.in-AttributeSet.attribute
    c.in-AttributeSet.number c.in-AttributeSet.old _ c.reset.ensures (let fits : FitsSigned w64 c.in-AttributeSet.old =
    search rules in to_z-of_z w64 _ fits) ∙ ap (λ (z : StoreChange). unapply_store z c.args.self.now)
    (sym c.in-AttributeSet.is)

pub bring_back-requires : goal.bring_back-requires
bring_back-requires g c =
    let f : FitsEnded c.args.self.now c.in-Ended.class c.in-Ended.number c.in-Ended.owned c.in-Ended.values.items =
    subst (λ (z : StoreChange). FitsStore z c.args.self.now) c.in-Ended.is c.requires in
    subst (λ n. FitsEnded c.args.self.now c.in-Ended.class c.in-Ended.number n c.in-Ended.values.items) f.owned_sets f

pub returns-in-Ended : goal.returns-in-Ended
returns-in-Ended g c =
    let f : FitsEnded c.args.self.now c.in-Ended.class c.in-Ended.number c.in-Ended.owned c.in-Ended.values.items =
    subst (λ (z : StoreChange). FitsStore z c.args.self.now) c.in-Ended.is c.requires in
    c.bring_back.ensures
    ∙ ap (λ n. record c.args.self.now {
      state = with_back c.args.self.now.state c.in-Ended.number
          (entity_back c.in-Ended.class n c.in-Ended.values.items);
    }) (sym f.owned_sets)
    ∙ ap (λ (z : StoreChange). unapply_store z c.args.self.now) (sym c.in-Ended.is)
