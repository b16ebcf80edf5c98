use Rattle.std.proofs.Common.{◌≡◌, rules, w64, FitsSigned, to_z, of_z}
use Rattle.std.proofs.lemmas.Int.{to_z-of_z}
use Rattle.ss_store.specs.Tables.{set_of}
use Rattle.ss_store.specs.Store.{number_of}
use Rattle.ss_debug.proofs.Walks.{next_found, well_members}
use Rattle.ss_debug.proofs.set_text.member_behind.Goals as goal

pub returns : goal.returns
returns g c =
    let t = c.args.store.now.tables in
    let st = c.args.store.now.state in
    let whole : FitsSigned w64 c.from.result = search rules in
    let x : to_z w64 (of_z w64 c.from.result) ≡ c.from.result = to_z-of_z w64 _ whole in
    let fits : FitsSigned w64 c.args.owner = search rules in
    let o : to_z w64 (of_z w64 c.args.owner) ≡ c.args.owner = to_z-of_z w64 _ fits in
    let members = well_members t st c.args.set c.requires.set c.known.ensures in
    let found =
    next_found (set_of t c.args.set) st (number_of c.args.owner) c.args.member c.from.result members
    c.requires.there c.from.ensures in
    rw (c.unwrap_or.ensures, c.walk_next.ensures, o, x) found
