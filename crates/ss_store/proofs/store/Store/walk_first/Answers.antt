use Rattle.std.proofs.Common.{rules, w64, FitsSigned, refl}
use Rattle.std.proofs.lemmas.Int.{to_z-of_z}
use Rattle.ss_store.specs.Store.{number_of}
use Rattle.std.specs.Option.{option_map}
use Rattle.std.proofs.Common.{ap, sym, ◌∙◌, length, arith, ℕ}
use Rattle.ss_store.specs.Parts.{number_at}
use Rattle.ss_store.specs.Tables.{set_of}
use Rattle.ss_store.specs.Filing.{walk_first}
use Rattle.ss_store.proofs.Calls.{case_of, head_small}
use Rattle.ss_store.proofs.Agree.{head_below}
use Rattle.ss_store.proofs.ReadingAnswers.{first_no_owner, first_is, first_below}
use Rattle.ss_store.proofs.store.Store.walk_first.Goals as goal

pub head_of-requires : goal.head_of-requires
head_of-requires g c = head_small _ _ c.args.set c.index-shape.result.now c.number_of_value.result _
    (case_of _ _ c.args.set c.index-shape.result.now c.self.view_is c.self.invariant.2 c.requires c.index-shape.ensures)
    refl c.known.ensures.heads

pub first-first-requires : goal.first-first-requires
first-first-requires g c = let k = (case_of _ _ c.args.set c.index-shape.result.now c.self.view_is c.self.invariant.2
    c.requires c.index-shape.ensures) in head_below _ c.index-shape.result.now c.number_of_value.result c.in-Some.head
    c.self.invariant.2 k.is_set (sym c.head_of.ensures ∙ c.in-Some.is)

pub member_if-requires : goal.member_if-requires
member_if-requires g c x e =
    let b = first_below _ _ c.args.set c.index-shape.result.now c.number_of_value.result c.in-Some.head
    c.first-first.result
    (case_of _ _ c.args.set c.index-shape.result.now c.self.view_is c.self.invariant.2 c.requires
    c.index-shape.ensures) (sym c.head_of.ensures ∙ c.in-Some.is) c.first-first.ensures.value x e in
    let is = ap (length {A = ℕ}) c.deref.ensures.value in omega (arith, b, is)

pub returns-in-None : goal.returns-in-None
returns-in-None g c = first_no_owner _ _ c.args.set c.index-shape.result.now c.number_of_value.result
    (case_of _ _ c.args.set c.index-shape.result.now c.self.view_is c.self.invariant.2 c.requires c.index-shape.ensures)
    (sym c.head_of.ensures ∙ c.in-None.is) ∙ ap
    (walk_first (set_of c.args.self.now.tables c.args.set) c.args.self.now.state)
    (let fits : FitsSigned w64 c.args.owner = search rules in
    c.number_of_value.ensures ∙ ap number_of (to_z-of_z w64 _ fits))

pub returns-in-Some : goal.returns-in-Some
returns-in-Some g c = first_is _ _ c.args.set c.index-shape.result.now c.number_of_value.result c.in-Some.head
    c.first-first.result c.member_if.result (case_of _ _ c.args.set c.index-shape.result.now c.self.view_is
    c.self.invariant.2 c.requires c.index-shape.ensures) (sym c.head_of.ensures
    ∙ c.in-Some.is) c.first-first.ensures.value (c.member_if.ensures
    ∙ ap (λ z. option_map (number_at z) c.first-first.result) c.deref.ensures.value)
    ∙ ap (walk_first (set_of c.args.self.now.tables c.args.set) c.args.self.now.state)
    (let fits : FitsSigned w64 c.args.owner = search rules in
    c.number_of_value.ensures ∙ ap number_of (to_z-of_z w64 _ fits))
