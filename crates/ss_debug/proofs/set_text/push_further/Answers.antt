use Rattle.std.proofs.Common.{◌≡◌, ◌++◌, ◌∷◌, ℕ, ℤ, List, length, arith, ap, ◌∙◌, sym, subst, Some, None}
use Rattle.std.proofs.Common.{rules, w64, FitsSigned, to_z, of_z}
use Rattle.std.specs.Prelude.{decimal}
use Rattle.std.proofs.lemmas.Int.{to_z-of_z}
use Rattle.ss_links.specs.Seats.{next_in}
use Rattle.ss_store.specs.Tables.{set_of}
use Rattle.ss_store.specs.Store.{number_of, members_of}
use Rattle.ss_debug.specs.Entities.{further_members, members_behind}
use Rattle.ss_debug.proofs.Walks.{member_once, next_there, behind_next, member_more, members_all, well_members}
use Rattle.ss_debug.proofs.set_text.push_further.Goals as goal

pub member_behind-requires-clause-there : goal.member_behind-requires-clause-there
member_behind-requires-clause-there g c = c.loop-next.invariant.there

pub loop-next-smaller : goal.loop-next-smaller
loop-next-smaller g c =
    let t = c.args.store.now.tables in
    let st = c.args.store.now.state in
    let s = set_of t c.args.set in
    let o = number_of (to_z w64 (of_z w64 c.args.owner)) in
    let once = member_once s st o (well_members t st c.args.set c.requires.set c.known.ensures) in
    let next : next_in (members_of s st o) c.loop-next.member ≡ Some c.in-Some.next = sym c.in-Some.ensures in
    let more = behind_next (members_of s st o) c.loop-next.member c.in-Some.next once next in
    let shorter : length (members_behind (members_of s st o) c.loop-next.member)
    ≡ length (c.in-Some.next ∷ members_behind (members_of s st o) c.in-Some.next) =
    ap (λ (l : List ℕ). length l) more in
    omega (arith, shorter)

pub loop-next-preserved : goal.loop-next-preserved
loop-next-preserved g c =
    let t = c.args.store.now.tables in
    let st = c.args.store.now.state in
    let s = set_of t c.args.set in
    let o = number_of (to_z w64 (of_z w64 c.args.owner)) in
    let once = member_once s st o (well_members t st c.args.set c.requires.set c.known.ensures) in
    let next : next_in (members_of s st o) c.loop-next.member ≡ Some c.in-Some.next = sym c.in-Some.ensures in
    let text = c.in_ok-push_number.ensures.ok
    ∙ ap (λ (l : List ℕ). l ++ decimal c.in-Some.next) c.in_ok-extend_from_slice.ensures.items in
    record {
      there = next_there s st o c.loop-next.member c.in-Some.next next;
      text =
          member_more (members_of s st o) c.loop-next.member c.in-Some.next c.loop-next.text.items
          c.push_number.new.text.items _ once next c.loop-next.invariant.text text;
    }

pub returns : goal.returns
returns g c =
    let st = c.args.store.now.state in
    let s = set_of c.args.store.now.tables c.args.set in
    let fits : FitsSigned w64 c.args.owner = search rules in
    let same : to_z w64 (of_z w64 c.args.owner) ≡ c.args.owner = to_z-of_z w64 _ fits in
    let o = number_of (to_z w64 (of_z w64 c.args.owner)) in
    let none : next_in (members_of s st o) c.loop-next.member ≡ None = sym c.in_default.ensures in
    let text =
    members_all (members_of s st o) c.loop-next.member c.loop-next.text.items _ none c.loop-next.invariant.text in
    let said : ℤ → Type 0 = λ x. c.loop-next.text.items ≡ c.args.text.now.items
    ++ further_members (members_behind (members_of s st (number_of x)) c.args.first) in
    record { ok = subst said same text }
