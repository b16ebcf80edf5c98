use Rattle.std.proofs.Common.{rules, w64, FitsSigned}
use Rattle.std.proofs.lemmas.Int.{to_z-of_z}
use Rattle.std.proofs.Common.{ap, ◌∙◌, Ok}
use Rattle.std.specs.Option.{option_map}
use Rattle.ss_store.specs.Store.{number_of, attribute_of}
use Rattle.ss_store.proofs.Values.{get_some, get_none}
use Rattle.ss_store.proofs.store.Store.get.Goals as goal

pub returns-in-None : goal.returns-in-None
returns-in-None g c = get_none _ _ c.args.class c.number_of_value.result c.args.attribute _ c.self.view_is
    c.self.invariant.2
    c.values_of.ensures (ap (option_map (λ v. v.now)) c.in-None.is)
    ∙ ap (attribute_of c.args.self.now.state c.args.class c.args.attribute) (let fits : FitsSigned w64 c.args.entity =
    search rules in c.number_of_value.ensures ∙ ap number_of (to_z-of_z w64 _ fits))

pub returns-in-Some : goal.returns-in-Some
returns-in-Some g c = let in_range : FitsSigned w64 c.value_at.result = search rules in ap Ok (to_z-of_z w64 _ in_range)
    ∙ ap Ok c.value_at.ensures ∙ get_some _ _ c.args.class c.number_of_value.result c.args.attribute _ _ c.self.view_is
    c.self.invariant.2 c.values_of.ensures (ap (option_map (λ v. v.now)) c.in-Some.is)
    ∙ ap (attribute_of c.args.self.now.state c.args.class c.args.attribute) (let fits : FitsSigned w64 c.args.entity =
    search rules in c.number_of_value.ensures ∙ ap number_of (to_z-of_z w64 _ fits))
