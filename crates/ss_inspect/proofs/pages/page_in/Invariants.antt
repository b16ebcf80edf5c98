use Rattle.std.proofs.Common.{◌≡◌, ◌+◌, take, drop, slice_get}
use Rattle.ss_store.specs.Tables.{set_of}
use Rattle.ss_store.specs.Store.{number_of, members_of}
use Rattle.ss_inspect.proofs.pages.page_in.Given as goal

abbrev pub invariant-loop-taken : goal.invariant-loop-taken
invariant-loop-taken g l = record {
  next : l.next ≡ slice_get (members_of (set_of l.store.tables l.set) l.store.state (number_of l.owner))
      (l.start + l.taken);
  page : l.page.items ≡ take l.taken
      (drop l.start (members_of (set_of l.store.tables l.set) l.store.state (number_of l.owner)));
}
