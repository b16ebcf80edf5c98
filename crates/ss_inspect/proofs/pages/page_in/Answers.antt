use Rattle.std.proofs.Common.{◌≡◌, ℕ, ℤ, ◌+◌, suc, take, drop, arith, ◌∙◌, sym, subst, refl}
use Rattle.std.proofs.Common.{Some, None, slice_get, rules, w64, FitsSigned, to_z, of_z}
use Rattle.std.proofs.lemmas.Int.{to_z-of_z}
use Rattle.ss_store.specs.Tables.{set_of}
use Rattle.ss_store.specs.Store.{number_of, members_of}
use Rattle.ss_debug.proofs.Walks.{member_once, well_members}
use Rattle.ss_inspect.proofs.Members.{has_at, next_at, page_more, page_ends}
use Rattle.ss_inspect.proofs.pages.page_in.Goals as goal

pub loop-taken-init : goal.loop-taken-init
loop-taken-init g c =
    let start : c.args.start + 0 ≡ c.args.start = omega arith in
    record { next = rw start c.member_at-next.ensures; page = c.new-page.ensures.items }

pub returns-in-None : goal.returns-in-None
returns-in-None g c =
    let st = c.args.store.now.state in
    let s = set_of c.args.store.now.tables c.args.set in
    let o = number_of (to_z w64 (of_z w64 c.args.owner)) in
    let past : slice_get (members_of s st o) (c.args.start + c.loop-taken.taken) ≡ None =
    sym c.loop-taken.invariant.next ∙ c.in-None.is in
    let all =
    page_ends (members_of s st o) c.args.start c.loop-taken.taken c.args.count past
    (omega (arith, c.loop-taken-test.true)) in
    let fits : FitsSigned w64 c.args.owner = search rules in
    let same : to_z w64 (of_z w64 c.args.owner) ≡ c.args.owner = to_z-of_z w64 _ fits in
    let said : ℤ → Type 0 = λ x. c.loop-taken.page.items
    ≡ take c.args.count (drop c.args.start (members_of s st (number_of x))) in
    subst said same (c.loop-taken.invariant.page ∙ all)

pub member_behind-next-requires-clause-there : goal.member_behind-next-requires-clause-there
member_behind-next-requires-clause-there g c =
    has_at _ (c.args.start + c.loop-taken.taken) c.in-Some.member (sym c.loop-taken.invariant.next ∙ c.in-Some.is)

pub loop-taken-preserved : goal.loop-taken-preserved
loop-taken-preserved g c =
    let t = c.args.store.now.tables in
    let st = c.args.store.now.state in
    let s = set_of t c.args.set in
    let o = number_of (to_z w64 (of_z w64 c.args.owner)) in
    let once = member_once s st o (well_members t st c.args.set c.requires c.known.ensures) in
    let here : slice_get (members_of s st o) (c.args.start + c.loop-taken.taken) ≡ Some c.in-Some.member =
    sym c.loop-taken.invariant.next ∙ c.in-Some.is in
    let behind = next_at (members_of s st o) (c.args.start + c.loop-taken.taken) c.in-Some.member once here in
    let next : c.args.start + (c.loop-taken.taken + 1) ≡ suc (c.args.start + c.loop-taken.taken) = omega arith in
    record {
      next = rw next (c.member_behind-next.ensures ∙ behind);
      page =
          page_more (members_of s st o) c.args.start c.loop-taken.taken (c.loop-taken.taken + 1) c.in-Some.member
          c.loop-taken.page.items c.push.new.self.items here refl c.loop-taken.invariant.page c.in_ok-push-in-Some.ensures.items;
    }

pub returns : goal.returns
returns g c =
    let st = c.args.store.now.state in
    let s = set_of c.args.store.now.tables c.args.set in
    let o = number_of (to_z w64 (of_z w64 c.args.owner)) in
    let whole : c.loop-taken.taken ≡ c.args.count = omega (arith, c.loop-taken-test.false, c.loop-taken.auto.taken-end) in
    let fits : FitsSigned w64 c.args.owner = search rules in
    let same : to_z w64 (of_z w64 c.args.owner) ≡ c.args.owner = to_z-of_z w64 _ fits in
    let said : ℤ → Type 0 = λ x. c.loop-taken.page.items
    ≡ take c.loop-taken.taken (drop c.args.start (members_of s st (number_of x))) in
    let count : ℕ → Type 0 = λ n. c.loop-taken.page.items
    ≡ take n (drop c.args.start (members_of s st (number_of c.args.owner))) in
    subst count whole (subst said same c.loop-taken.invariant.page)
