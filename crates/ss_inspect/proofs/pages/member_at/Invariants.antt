use Rattle.std.proofs.Common.{◌≡◌, Some, slice_get}
use Rattle.ss_store.specs.Tables.{set_of}
use Rattle.ss_store.specs.Store.{number_of, members_of}
use Rattle.ss_inspect.proofs.pages.member_at.Given as goal

abbrev pub invariant-loop-place : goal.invariant-loop-place
invariant-loop-place g l =
    slice_get (members_of (set_of l.store.tables l.set) l.store.state (number_of l.owner)) l.place ≡ Some l.member
