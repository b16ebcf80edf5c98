use Rattle.std.proofs.Common.{◌≡◌, rules, w64, FitsSigned, to_z, of_z}
use Rattle.std.proofs.lemmas.Int.{to_z-of_z}
use Rattle.ss_machine.proofs.Storings.{taken, removing_both}
use Rattle.ss_machine.proofs.state.State.remove.Goals as goal

pub returns : goal.returns
returns g c =
    let owner : FitsSigned w64 c.args.owner = search rules in
    let e : to_z w64 (of_z w64 c.args.owner) ≡ c.args.owner = to_z-of_z w64 _ owner in
    let r : c.match-remove.result ≡ taken c.remove.result = search rules in
    rw (← c.self.view_is, r) (removing_both c.remove.result _ _ c.remove.new.self (rw e at c.remove.ensures))
