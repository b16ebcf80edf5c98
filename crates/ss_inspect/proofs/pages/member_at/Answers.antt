use Rattle.std.proofs.Common.{◌≡◌, ℕ, ℤ, ◌+◌, suc, arith, ◌∙◌, sym, subst, Some, None, slice_get, rules}
use Rattle.std.proofs.Common.{w64, FitsSigned, to_z, of_z}
use Rattle.std.proofs.lemmas.Int.{to_z-of_z}
use Rattle.ss_links.specs.Seats.{next_in}
use Rattle.ss_store.specs.Tables.{set_of}
use Rattle.ss_store.specs.Store.{number_of, members_of}
use Rattle.ss_debug.proofs.Walks.{member_once, well_members}
use Rattle.ss_inspect.proofs.Members.{has_at, next_at, none_further}
use Rattle.ss_inspect.proofs.pages.member_at.Goals as goal

pub member_behind-requires-clause-there : goal.member_behind-requires-clause-there
member_behind-requires-clause-there g c = has_at _ c.loop-place.place c.loop-place.member c.loop-place.invariant

pub loop-place-preserved : goal.loop-place-preserved
loop-place-preserved g c =
    let t = c.args.store.now.tables in
    let st = c.args.store.now.state in
    let s = set_of t c.args.set in
    let o = number_of (to_z w64 (of_z w64 c.args.owner)) in
    let once = member_once s st o (well_members t st c.args.set c.requires c.known.ensures) in
    let found : next_in (members_of s st o) c.loop-place.member ≡ Some c.in_ok-member-2.member =
    sym c.in_ok-member-2.ensures in
    let behind = next_at (members_of s st o) c.loop-place.place c.loop-place.member once c.loop-place.invariant in
    let next : c.loop-place.place + 1 ≡ suc c.loop-place.place = omega arith in rw next (sym behind ∙ found)

pub returns-in_err-member-2 : goal.returns-in_err-member-2
returns-in_err-member-2 g c =
    let t = c.args.store.now.tables in
    let st = c.args.store.now.state in
    let s = set_of t c.args.set in
    let o = number_of (to_z w64 (of_z w64 c.args.owner)) in
    let once = member_once s st o (well_members t st c.args.set c.requires c.known.ensures) in
    let none : next_in (members_of s st o) c.loop-place.member ≡ None = sym c.in_err-member-2.ensures in
    let behind = next_at (members_of s st o) c.loop-place.place c.loop-place.member once c.loop-place.invariant in
    let past =
    none_further (members_of s st o) (suc c.loop-place.place) c.args.start (sym behind ∙ none)
    (omega (arith, c.loop-place-test.true)) in
    let fits : FitsSigned w64 c.args.owner = search rules in
    let same : to_z w64 (of_z w64 c.args.owner) ≡ c.args.owner = to_z-of_z w64 _ fits in
    let said : ℤ → Type 0 = λ x. None ≡ slice_get (members_of s st (number_of x)) c.args.start in
    rw c.from_residual-in_err-member-2.ensures (subst said same (sym past))

pub returns : goal.returns
returns g c =
    let st = c.args.store.now.state in
    let s = set_of c.args.store.now.tables c.args.set in
    let o = number_of (to_z w64 (of_z w64 c.args.owner)) in
    let whole : c.loop-place.place ≡ c.args.start = omega (arith, c.loop-place-test.false, c.loop-place.auto.place-end) in
    let at : ℕ → Type 0 = λ i. Some c.loop-place.member ≡ slice_get (members_of s st o) i in
    let here = subst at whole (sym c.loop-place.invariant) in
    let fits : FitsSigned w64 c.args.owner = search rules in
    let same : to_z w64 (of_z w64 c.args.owner) ≡ c.args.owner = to_z-of_z w64 _ fits in
    let said : ℤ → Type 0 = λ x. Some c.loop-place.member ≡ slice_get (members_of s st (number_of x)) c.args.start in
    subst said same here
