use Rattle.std.proofs.Common.{◌≡◌, ◌++◌, ◌-◌, ◌≤◌, length, drop}
use Rattle.ss_events.specs.State.{order}
use Rattle.ss_events.specs.Listings.{IsListing}
use Rattle.ss_scopes.specs.Events.{notice_items}
use Rattle.ss_scopes.proofs.events.push_events.Given as goal

abbrev pub invariant-loop-notice : goal.invariant-loop-notice
invariant-loop-notice g l = record {
  listing : IsListing l.agenda l.listing;
  within : l.listing.listed ≤ length (order l.agenda);
  items : l.out.items ++ notice_items l.machine.input.program (drop l.listing.listed (order l.agenda))
      ≡ l.fn.out.items ++ notice_items l.machine.input.program (order l.agenda);
}

abbrev pub decreases-loop-notice : goal.decreases-loop-notice
decreases-loop-notice g l = length (order l.agenda) - l.listing.listed
