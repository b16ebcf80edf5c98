use Rattle.std.proofs.Common.{◌≡◌, ◌++◌, ◌-◌, ◌≤◌, length, drop}
use Rattle.ss_events.specs.State.{order}
use Rattle.ss_events.specs.Listings.{IsListing}
use Rattle.ss_changes.specs.Parts.{notices_of}
use Rattle.ss_changes.proofs.listing.notices_now.Given as goal

abbrev pub invariant-loop-notice : goal.invariant-loop-notice
invariant-loop-notice g l = record {
  listing : IsListing l.agenda l.listing;
  within : l.listing.listed ≤ length (order l.agenda);
  parts : l.parts.items ++ notices_of (drop l.listing.listed (order l.agenda)) ≡ notices_of (order l.agenda);
}

abbrev pub decreases-loop-notice : goal.decreases-loop-notice
decreases-loop-notice g l = length (order l.agenda) - l.listing.listed
