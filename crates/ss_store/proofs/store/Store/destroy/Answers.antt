use Rattle.std.proofs.Common.{rules, w64, FitsSigned, ap, sym, ◌∙◌, ◌-◌, refl}
use Rattle.std.proofs.lemmas.Int.{to_z-of_z}
use Rattle.ss_store.specs.Store.{number_of}
use Rattle.ss_store.proofs.MakingAnswers.{at_of}
use Rattle.ss_store.proofs.EndingAnswers.{lives, seats_below, heads_below, index_below, end_fault, none_ends}
use Rattle.ss_store.proofs.EndingAnswers.{member_stays}
use Rattle.ss_store.proofs.EndingAnswers.{owner_stays, found_out, ended_pair, taken_out, ended_outcome}
use Rattle.ss_store.proofs.EndingAnswers.{lives}
use Rattle.ss_store.proofs.ListOrders.{ended_order}
use Rattle.ss_store.proofs.store.Store.destroy.Goals as goal

pub returns-in-None : goal.returns-in-None
returns-in-None g c =
    let fits : FitsSigned w64 c.args.entity = search rules in
    end_fault c.args.self.now c.args.class c.number_of_value-number.result _ _
    (c.number_of_value-number.ensures ∙ ap number_of (to_z-of_z w64 _ fits))
    (none_ends _ _ c.args.class c.number_of_value-number.result c.self.view_is c.self.invariant.2 (sym c.row_of.ensures
    ∙ c.in-None.is))

pub stands_anywhere-requires : goal.stands_anywhere-requires
stands_anywhere-requires g c =
    let k = at_of _ _ c.args.class c.index-shape.result.now c.self.view_is c.self.invariant.2 c.requires.class
    c.index-shape.ensures in
    seats_below _ _ c.args.class c.number_of_value-number.result c.index-shape.result.now c.in-Some.row _ k
    (sym c.row_of.ensures ∙ c.in-Some.is) c.deref.ensures.value

pub returns-then-stands_anywhere : goal.returns-then-stands_anywhere
returns-then-stands_anywhere g c =
    let fits : FitsSigned w64 c.args.entity = search rules in
    end_fault c.args.self.now c.args.class c.number_of_value-number.result _ _
    (c.number_of_value-number.ensures ∙ ap number_of (to_z-of_z w64 _ fits))
    (member_stays _ _ c.args.class c.number_of_value-number.result c.in-Some.row c.stands_anywhere.result _
    c.self.view_is
    c.self.invariant.2 (sym c.row_of.ensures ∙ c.in-Some.is) c.deref.ensures.value c.stands_anywhere.ensures
    c.if-stands_anywhere.true)

pub has_members-requires : goal.has_members-requires
has_members-requires g c =
    let k = at_of _ _ c.args.class c.index-shape.result.now c.self.view_is c.self.invariant.2 c.requires.class
    c.index-shape.ensures in
    heads_below _ _ c.args.class c.number_of_value-number.result c.index-shape.result.now c.in-Some.row k
    (sym c.row_of.ensures ∙ c.in-Some.is)

pub returns-then-has_members : goal.returns-then-has_members
returns-then-has_members g c =
    let fits : FitsSigned w64 c.args.entity = search rules in
    let k = at_of _ _ c.args.class c.index-shape.result.now c.self.view_is c.self.invariant.2 c.requires.class
    c.index-shape.ensures in
    end_fault c.args.self.now c.args.class c.number_of_value-number.result _ _
    (c.number_of_value-number.ensures ∙ ap number_of (to_z-of_z w64 _ fits))
    (owner_stays _ _ c.args.class c.number_of_value-number.result c.in-Some.row c.index-shape.result.now
    c.stands_anywhere.result
    c.has_members.result _ k (sym c.row_of.ensures ∙ c.in-Some.is) c.deref.ensures.value c.stands_anywhere.ensures
    c.if-stands_anywhere.false c.has_members.ensures c.if-has_members.true)

pub take_values-requires-clause-index : goal.take_values-requires-clause-index
take_values-requires-clause-index g c =
    let k = at_of _ _ c.args.class c.index-shape.result.now c.self.view_is c.self.invariant.2 c.requires.class
    c.index-shape.ensures in
    let l = lives _ _ c.args.class c.number_of_value-number.result c.index-shape.result.now c.in-Some.row k
    c.requires.kind
    (sym c.row_of.ensures ∙ c.in-Some.is) in
    index_below _ c.args.class c.number_of_value-number.result
    (c.number_of_value-number.result - 1) c.in-Some.row l refl

pub invariant_of-self : goal.invariant_of-self
invariant_of-self g c =
    let k = at_of _ _ c.args.class c.index-shape.result.now c.self.view_is c.self.invariant.2 c.requires.class
    c.index-shape.ensures in
    let d = found_out _ _ c.args.class c.number_of_value-number.result c.in-Some.row c.index-shape.result.now
    c.stands_anywhere.result
    c.has_members.result _ k c.requires.kind (sym c.row_of.ensures ∙ c.in-Some.is) c.deref.ensures.value
    c.stands_anywhere.ensures c.if-stands_anywhere.false c.has_members.ensures c.if-has_members.false in
    ended_pair _ _ c.args.class c.number_of_value-number.result
    (c.number_of_value-number.result - 1) c.index-shape.result.now c.in-Some.row
    _ d
    refl c.take_values.ensures.rows _
    (ended_order _ _ c.args.class
    c.number_of_value-number.result (c.number_of_value-number.result - 1) c.in-Some.row _ _ _ c.self.invariant.2
    c.self.invariant.3 (lives _ _ c.args.class c.number_of_value-number.result c.index-shape.result.now c.in-Some.row k
    c.requires.kind (sym c.row_of.ensures ∙ c.in-Some.is)) refl c.take_values.ensures.rows c.deref.ensures.value
    c.stands_anywhere.ensures c.if-stands_anywhere.false)

pub returns : goal.returns
returns g c =
    let fits : FitsSigned w64 c.args.entity = search rules in
    let k = at_of _ _ c.args.class c.index-shape.result.now c.self.view_is c.self.invariant.2 c.requires.class
    c.index-shape.ensures in
    let d = found_out _ _ c.args.class c.number_of_value-number.result c.in-Some.row c.index-shape.result.now
    c.stands_anywhere.result
    c.has_members.result _ k c.requires.kind (sym c.row_of.ensures ∙ c.in-Some.is) c.deref.ensures.value
    c.stands_anywhere.ensures c.if-stands_anywhere.false c.has_members.ensures c.if-has_members.false in
    ended_outcome _ _ c.args.class c.number_of_value-number.result _
    (c.number_of_value-number.result - 1) c.index-shape.result.now
    c.in-Some.row _ c.unwrap-values.result d refl c.take_values.ensures.rows
    (taken_out _ c.take_values.result c.unwrap-values.result _ c.take_values.ensures.value c.unwrap-values.ensures)
    (c.number_of_value-number.ensures ∙ ap number_of (to_z-of_z w64 _ fits))
