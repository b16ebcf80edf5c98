use Rattle.std.proofs.Common.{rules, w64, FitsSigned}
use Rattle.std.proofs.lemmas.Int.{to_z-of_z}
use Rattle.std.proofs.Common.{ap, ◌∙◌}
use Rattle.ss_store.specs.Store.{number_of, exists}
use Rattle.ss_store.proofs.Values.{exists_is}
use Rattle.ss_store.proofs.store.Store.exists.Goals as goal

pub returns : goal.returns
returns g c = exists_is _ _ c.args.class c.number_of_value.result c.row_of.result _ c.self.view_is c.self.invariant.2
    c.row_of.ensures c.is_some.ensures ∙ ap (exists c.args.self.now.state c.args.class)
    (let fits : FitsSigned w64 c.args.entity = search rules in
    c.number_of_value.ensures ∙ ap number_of (to_z-of_z w64 _ fits))
