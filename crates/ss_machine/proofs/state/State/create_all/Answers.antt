use Rattle.std.proofs.Common.{◌≡◌, rules, Result, Ok, Err, w64, to_z, of_z}
use Rattle.std.proofs.lemmas.Int.{to_z-of_z}
use Rattle.ss_words.specs.declared.fault.RunFault.{RunFault}
use Rattle.ss_words.specs.declared.fault.StepFault.{StepFault}
use Rattle.ss_store.specs.declared.change.StoreChange.{StoreChange}
use Rattle.ss_store.specs.Store.{Store}
use Rattle.ss_store.specs.Value.{StoreValue}
use Rattle.ss_store.specs.Change.{IsMaking}
use Rattle.ss_machine.specs.declared.state.change.Change.{Change}
use Rattle.ss_machine.specs.declared.state.change.Change.TheVariants as change
use Rattle.ss_state.specs.Held.{Held, store_of, with_store}
use Rattle.ss_machine.specs.Storing.{IsMakingAll}
use Rattle.ss_machine.proofs.Storings.{making_all, not_making_all}
use Rattle.ss_machine.proofs.state.State.create_all.Goals as goal

-- the same of either result
abbrev made : Result StoreChange StepFault → Result Change StepFault
made (Ok c) = Ok (change.Store c)
made (Err e) = Err e

making_both : (r : Result StoreChange StepFault) (q : Result Store RunFault) (h : Held) (v : StoreValue) →
    IsMaking r q (store_of h) v →
    IsMakingAll (made r) q h (with_store h v)
making_both (Ok c) q h v o = making_all c q h v o
making_both (Err e) q h v o = not_making_all e q h v o

pub returns : goal.returns
returns g c =
    let e : to_z w64 (of_z w64 c.args.count) ≡ c.args.count = to_z-of_z w64 c.args.count c.ranges.count in
    let r : c.match-create_all.result ≡ made c.create_all.result = search rules in
    rw (← c.self.view_is, r) (making_both c.create_all.result _ _ c.create_all.new.self (rw e at c.create_all.ensures))
