use Rattle.std.proofs.Common.{rules, w64, FitsSigned, ap, ◌∙◌}
use Rattle.std.proofs.lemmas.Int.{to_z-of_z}
use Rattle.ss_store.specs.Store.{number_of}
use Rattle.ss_store.proofs.Values.{attributes_are}
use Rattle.ss_store.proofs.store.Store.attributes.Goals as goal

pub returns : goal.returns
returns g c = attributes_are _ _ c.args.class c.number_of_value-number.result _ _ c.self.view_is c.self.invariant.2
    c.values_of.ensures (let fits : FitsSigned w64 c.args.entity =
    search rules in c.number_of_value-number.ensures ∙ ap number_of (to_z-of_z w64 _ fits))
