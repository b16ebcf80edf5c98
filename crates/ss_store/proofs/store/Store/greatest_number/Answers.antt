use Rattle.std.proofs.Common.{◌∙◌, ap}
use Rattle.ss_store.specs.Value.{StoreValue}
use Rattle.ss_store.specs.Store as pure
use Rattle.ss_store.proofs.Wells.{greatest_is}
use Rattle.ss_store.proofs.store.Store.greatest_number.Goals as goal

pub returns : goal.returns
returns g c = c.greatest_number.ensures ∙ greatest_is _ c.args.class c.self.invariant.2
    ∙ ap (λ (z : StoreValue). pure.greatest_number z.state c.args.class) c.self.view_is
