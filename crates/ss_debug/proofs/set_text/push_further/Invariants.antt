use Rattle.std.proofs.Common.{◌≡◌, ◌++◌, length, true}
use Rattle.ss_links.specs.Seats.{has}
use Rattle.ss_store.specs.Tables.{set_of}
use Rattle.ss_store.specs.Store.{number_of, members_of}
use Rattle.ss_debug.specs.Entities.{further_members, members_behind}
use Rattle.ss_debug.proofs.set_text.push_further.Given as goal

abbrev pub invariant-loop-next : goal.invariant-loop-next
invariant-loop-next g l = record {
  there : has (members_of (set_of l.store.tables l.set) l.store.state (number_of l.owner)) l.member ≡ true;
  text : l.text.items ++ further_members
      (members_behind (members_of (set_of l.store.tables l.set) l.store.state (number_of l.owner)) l.member)
      ≡ l.initial.text.items ++ further_members
      (members_behind (members_of (set_of l.store.tables l.set) l.store.state (number_of l.owner)) l.first);
}

abbrev pub decreases-loop-next : goal.decreases-loop-next
decreases-loop-next g l =
    length (members_behind (members_of (set_of l.store.tables l.set) l.store.state (number_of l.owner)) l.member)
