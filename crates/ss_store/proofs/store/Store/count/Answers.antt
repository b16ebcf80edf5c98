use Rattle.std.proofs.Common.{rules, w64, FitsSigned, refl}
use Rattle.std.proofs.lemmas.Int.{to_z-of_z}
use Rattle.ss_store.specs.Store.{number_of}
use Rattle.std.proofs.Common.{ap, sym, ◌∙◌}
use Rattle.ss_store.specs.Tables.{set_of}
use Rattle.ss_store.specs.Filing.{count}
use Rattle.ss_store.proofs.Calls.{case_of, head_small}
use Rattle.ss_store.proofs.Agree.{head_below}
use Rattle.ss_store.proofs.ReadingAnswers.{count_no_owner, count_is}
use Rattle.ss_store.proofs.store.Store.count.Goals as goal

pub head_of-requires : goal.head_of-requires
head_of-requires g c = head_small _ _ c.args.set c.index-shape.result.now c.number_of_value.result _
    (case_of _ _ c.args.set c.index-shape.result.now c.self.view_is c.self.invariant.2 c.requires c.index-shape.ensures)
    refl c.known.ensures.heads

pub len-requires : goal.len-requires
len-requires g c = let k = (case_of _ _ c.args.set c.index-shape.result.now c.self.view_is c.self.invariant.2 c.requires
    c.index-shape.ensures) in
    head_below _ c.index-shape.result.now c.number_of_value.result c.in-Some.head c.self.invariant.2
    k.is_set (sym c.head_of.ensures ∙ c.in-Some.is)

pub returns-in-None : goal.returns-in-None
returns-in-None g c = count_no_owner _ _ c.args.set c.index-shape.result.now c.number_of_value.result
    (case_of _ _ c.args.set c.index-shape.result.now c.self.view_is c.self.invariant.2 c.requires c.index-shape.ensures)
    (sym c.head_of.ensures ∙ c.in-None.is) ∙ ap (count (set_of c.args.self.now.tables c.args.set) c.args.self.now.state)
    (let fits : FitsSigned w64 c.args.owner = search rules in
    c.number_of_value.ensures ∙ ap number_of (to_z-of_z w64 _ fits))

pub returns-in-Some : goal.returns-in-Some
returns-in-Some g c = count_is _ _ c.args.set c.index-shape.result.now c.number_of_value.result c.in-Some.head
    c.len.result
    (case_of _ _ c.args.set c.index-shape.result.now c.self.view_is c.self.invariant.2 c.requires c.index-shape.ensures)
    (sym c.head_of.ensures ∙ c.in-Some.is) c.len.ensures.value
    ∙ ap (count (set_of c.args.self.now.tables c.args.set) c.args.self.now.state)
    (let fits : FitsSigned w64 c.args.owner = search rules in
    c.number_of_value.ensures ∙ ap number_of (to_z-of_z w64 _ fits))
