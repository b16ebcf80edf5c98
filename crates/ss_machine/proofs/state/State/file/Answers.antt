use Rattle.std.proofs.Common.{◌≡◌, rules, w64, FitsSigned, to_z, of_z}
use Rattle.std.proofs.lemmas.Int.{to_z-of_z}
use Rattle.ss_machine.proofs.Storings.{stored, storing_both}
use Rattle.ss_machine.proofs.state.State.file.Goals as goal

pub returns : goal.returns
returns g c =
    let owner : FitsSigned w64 c.args.owner = search rules in
    let member : FitsSigned w64 c.args.member = search rules in
    let e : to_z w64 (of_z w64 c.args.owner) ≡ c.args.owner = to_z-of_z w64 _ owner in
    let f : to_z w64 (of_z w64 c.args.member) ≡ c.args.member = to_z-of_z w64 _ member in
    let r : c.match-file.result ≡ stored c.file.result = search rules in
    rw (← c.self.view_is, r) (storing_both c.file.result _ _ c.file.new.self (rw (e, f) at c.file.ensures))
