use Rattle.std.proofs.Common.{◌≡◌, ◌++◌, ◌-◌, ◌≤◌, length, drop}
use Rattle.ss_events.specs.State.{order}
use Rattle.ss_events.specs.Listings.{IsListing}
use Rattle.ss_prompt.specs.Rows.{notice_rows}
use Rattle.ss_prompt.proofs.notice_rows.push_notice_rows.Given as goal

abbrev pub invariant-loop-notice : goal.invariant-loop-notice
invariant-loop-notice g l = record {
  listing : IsListing l.agenda l.listing;
  within : l.listing.listed ≤ length (order l.agenda);
  rows : l.text.items
      ++ notice_rows l.machine.input.program l.machine.state.store (drop l.listing.listed (order l.agenda))
      ≡ l.initial.text.items ++ notice_rows l.machine.input.program l.machine.state.store (order l.agenda);
}

abbrev pub decreases-loop-notice : goal.decreases-loop-notice
decreases-loop-notice g l = length (order l.agenda) - l.listing.listed
