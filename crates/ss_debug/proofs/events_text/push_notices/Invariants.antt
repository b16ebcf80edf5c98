use Rattle.std.proofs.Common.{◌≡◌, ◌++◌, ◌-◌, ◌≤◌, length, drop}
use Rattle.ss_events.specs.State.{order}
use Rattle.ss_events.specs.Listings.{IsListing}
use Rattle.ss_debug.specs.Answer.{notice_lines}
use Rattle.ss_debug.proofs.events_text.push_notices.Given as goal

abbrev pub invariant-loop-notice : goal.invariant-loop-notice
invariant-loop-notice g l = record {
  listing : IsListing l.agenda l.listing;
  within : l.listing.listed ≤ length (order l.agenda);
  lines : l.text.items ++ notice_lines l.machine.input.program (drop l.listing.listed (order l.agenda))
      ≡ l.initial.text.items ++ notice_lines l.machine.input.program (order l.agenda);
}

abbrev pub decreases-loop-notice : goal.decreases-loop-notice
decreases-loop-notice g l = length (order l.agenda) - l.listing.listed
