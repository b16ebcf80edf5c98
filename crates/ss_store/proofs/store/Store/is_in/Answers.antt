use Rattle.std.proofs.Common.{rules, w64, FitsSigned, refl}
use Rattle.std.proofs.lemmas.Int.{to_z-of_z}
use Rattle.std.specs.Prelude.{Ok}
use Rattle.ss_store.specs.Store.{number_of}
use Rattle.std.proofs.Common.{ap, sym, ◌∙◌}
use Rattle.ss_store.specs.Tables.{set_of}
use Rattle.ss_store.specs.Filing.{is_in}
use Rattle.ss_store.proofs.Calls.{case_of, head_small}
use Rattle.ss_store.proofs.Agree.{seat_below}
use Rattle.ss_store.proofs.ReadingAnswers.{is_in_fault, is_in_false, is_in_true}
use Rattle.ss_store.proofs.store.Store.is_in.Goals as goal

pub seat_in-requires-clause-heads : goal.seat_in-requires-clause-heads
seat_in-requires-clause-heads g c = head_small _ _ c.args.set c.index-shape.result.now c.number_of_value.result
    _ (case_of _ _ c.args.set c.index-shape.result.now c.self.view_is c.self.invariant.2 c.requires
    c.index-shape.ensures) refl c.known.ensures.heads

pub seat_in-requires-clause-seats : goal.seat_in-requires-clause-seats
seat_in-requires-clause-seats g c = let k =
    (case_of _ _ c.args.set c.index-shape.result.now c.self.view_is c.self.invariant.2 c.requires
    c.index-shape.ensures) in λ y t e. seat_below _ c.index-shape.result.now y t c.self.invariant.2 k.is_set e

pub returns-in-Err : goal.returns-in-Err
returns-in-Err g c = is_in_fault _ _ c.args.set c.index-shape.result.now c.number_of_value.result
    c.number_of_value-2.result c.in-Err.fault
    (case_of _ _ c.args.set c.index-shape.result.now c.self.view_is c.self.invariant.2 c.requires c.index-shape.ensures)
    (sym c.seat_in.ensures ∙ c.in-Err.is) ∙ (λ i. is_in (set_of c.args.self.now.tables c.args.set) c.args.self.now.state
    ((let fits : FitsSigned w64 c.args.owner = search rules in
    c.number_of_value.ensures ∙ ap number_of (to_z-of_z w64 _ fits)) i)
    ((let fits : FitsSigned w64 c.args.member = search rules in
    c.number_of_value-2.ensures ∙ ap number_of (to_z-of_z w64 _ fits)) i))

pub returns-in-Ok-None : goal.returns-in-Ok-None
returns-in-Ok-None g c = is_in_false _ _ c.args.set c.index-shape.result.now c.number_of_value.result
    c.number_of_value-2.result
    (case_of _ _ c.args.set c.index-shape.result.now c.self.view_is c.self.invariant.2 c.requires c.index-shape.ensures)
    (sym c.seat_in.ensures ∙ c.in-Ok-None.is ∙ ap Ok c.in-Ok-None.field-0-is)
    ∙ (λ i. is_in (set_of c.args.self.now.tables c.args.set) c.args.self.now.state
    ((let fits : FitsSigned w64 c.args.owner = search rules in
    c.number_of_value.ensures ∙ ap number_of (to_z-of_z w64 _ fits)) i)
    ((let fits : FitsSigned w64 c.args.member = search rules in
    c.number_of_value-2.ensures ∙ ap number_of (to_z-of_z w64 _ fits)) i))

pub returns-in-Ok-Some : goal.returns-in-Ok-Some
returns-in-Ok-Some g c = is_in_true _ _ c.args.set c.index-shape.result.now c.number_of_value.result
    c.number_of_value-2.result _
    (case_of _ _ c.args.set c.index-shape.result.now c.self.view_is c.self.invariant.2 c.requires c.index-shape.ensures)
    (sym c.seat_in.ensures ∙ c.in-Ok-Some.is ∙ ap Ok c.in-Ok-Some.field-0-is)
    ∙ (λ i. is_in (set_of c.args.self.now.tables c.args.set) c.args.self.now.state
    ((let fits : FitsSigned w64 c.args.owner = search rules in
    c.number_of_value.ensures ∙ ap number_of (to_z-of_z w64 _ fits)) i)
    ((let fits : FitsSigned w64 c.args.member = search rules in
    c.number_of_value-2.ensures ∙ ap number_of (to_z-of_z w64 _ fits)) i))
