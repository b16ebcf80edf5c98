use Rattle.std.proofs.Common.{subst}
use Rattle.ss_store.specs.Value.{StoreValue}
use Rattle.ss_store.specs.WellStore.{IsWellStore}
use Rattle.ss_store.proofs.Wells.{is_well}
use Rattle.ss_store.proofs.store.Store.known.Goals as goal

pub returns : goal.returns
returns g c = subst (λ (z : StoreValue). IsWellStore z.tables z.state) c.self.view_is (is_well _ c.self.invariant.2)
