use Rattle.std.proofs.Common.{◌≡◌, rules, w64, FitsSigned, to_z, of_z}
use Rattle.std.proofs.lemmas.Int.{to_z-of_z}
use Rattle.ss_machine.proofs.Storings.{stored, storing_both}
use Rattle.ss_machine.proofs.state.State.destroy.Goals as goal

pub returns : goal.returns
returns g c =
    let entity : FitsSigned w64 c.args.entity = search rules in
    let e : to_z w64 (of_z w64 c.args.entity) ≡ c.args.entity = to_z-of_z w64 _ entity in
    let r : c.match-destroy.result ≡ stored c.destroy.result = search rules in
    rw (← c.self.view_is, r) (storing_both c.destroy.result _ _ c.destroy.new.self (rw e at c.destroy.ensures))
