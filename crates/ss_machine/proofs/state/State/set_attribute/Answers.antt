use Rattle.std.proofs.Common.{◌≡◌, rules, w64, FitsSigned, to_z, of_z}
use Rattle.std.proofs.lemmas.Int.{to_z-of_z}
use Rattle.ss_machine.proofs.Storings.{stored, storing_both}
use Rattle.ss_machine.proofs.state.State.set_attribute.Goals as goal

pub returns : goal.returns
returns g c =
    let entity : FitsSigned w64 c.args.entity = search rules in
    let value : FitsSigned w64 c.args.value = search rules in
    let e : to_z w64 (of_z w64 c.args.entity) ≡ c.args.entity = to_z-of_z w64 _ entity in
    let f : to_z w64 (of_z w64 c.args.value) ≡ c.args.value = to_z-of_z w64 _ value in
    let r : c.match-set.result ≡ stored c.set.result = search rules in
    rw (← c.self.view_is, r) (storing_both c.set.result _ _ c.set.new.self (rw (e, f) at c.set.ensures))
