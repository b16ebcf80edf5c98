use Rattle.std.proofs.Common.{◌≡◌, ◌++◌, ◌<◌, ◌+◌, arith, refl}
use Rattle.std.proofs.lemmas.Option.{slice_get_within}
use Rattle.ss_machine.specs.Moment.{position}
use Rattle.ss_events.specs.State.{order}
use Rattle.ss_events.specs.Slots.{slot_of}
use Rattle.ss_prompt.specs.Rows.{notice_row}
use Rattle.ss_debug.proofs.Pendings.{listed, slot_is}
use Rattle.ss_prompt.proofs.RowTexts.{row_more, all_rows, rows_are}
use Rattle.ss_prompt.proofs.notice_rows.push_notice_rows.Goals as goal

pub slot-requires : goal.slot-requires
slot-requires g c =
    let a = c.agenda-agenda.result.now in
    let k =
    listed a.rules a.agenda c.loop-notice.listing.listed c.in-Some.notice c.known-2.ensures
    c.in-Some.ensures.notice in
    k.number

pub unwrap-slot-requires : goal.unwrap-slot-requires
unwrap-slot-requires g c =
    let a = c.agenda-agenda.result.now in
    let k =
    listed a.rules a.agenda c.loop-notice.listing.listed c.in-Some.notice c.known-2.ensures
    c.in-Some.ensures.notice in
    rw (c.slot.ensures, k.pending) refl

pub loop-notice-smaller : goal.loop-notice-smaller
loop-notice-smaller g c =
    let a = c.agenda-agenda.result.now in
    let k =
    listed a.rules a.agenda c.loop-notice.listing.listed c.in-Some.notice c.known-2.ensures
    c.in-Some.ensures.notice in
    let below = slice_get_within (order a) c.loop-notice.listing.listed k.entry k.at in
    let more : c.list_next.new.listing.listed ≡ c.loop-notice.listing.listed + 1 = c.in-Some.ensures.count in
    omega (arith, below, more)

pub loop-notice-preserved : goal.loop-notice-preserved
loop-notice-preserved g c =
    let a = c.agenda-agenda.result.now in
    let m = c.args.machine.now in
    let k =
    listed a.rules a.agenda c.loop-notice.listing.listed c.in-Some.notice c.known-2.ensures
    c.in-Some.ensures.notice in
    let below = slice_get_within (order a) c.loop-notice.listing.listed k.entry k.at in
    let more : c.list_next.new.listing.listed ≡ c.loop-notice.listing.listed + 1 = c.in-Some.ensures.count in
    let slot : c.unwrap-slot.result ≡ slot_of k.entry =
    slot_is c.slot.result _ k.entry c.unwrap-slot.result c.slot.ensures k.pending c.unwrap-slot.ensures in
    let row : c.push_notice_row.new.text.items
    ≡ c.loop-notice.text.items ++ notice_row m.input.program m.state.store k.entry.notice (slot_of k.entry) =
    rw (← slot, ← k.notice) c.in_ok-push_notice_row.ensures in
    record {
      listing = c.in-Some.ensures.listing;
      within = omega (arith, below, more);
      rows =
          row_more m.input.program m.state.store (order a) c.loop-notice.listing.listed
          c.list_next.new.listing.listed k.entry _ _ _ k.at more c.loop-notice.invariant.rows row;
    }

pub returns : goal.returns
returns g c =
    let a = c.agenda-agenda.result.now in
    let m = c.args.machine.now in
    let text =
    rows_are m.input (position m) m.state a.rules a.agenda c.known.ensures.state c.agenda-agenda.ensures.state
    c.agenda-agenda.ensures.rules in
    rw text
    (all_rows m.input.program m.state.store (order a) c.loop-notice.listing.listed c.loop-notice.text.items _
    c.in_default.ensures.notice c.loop-notice.invariant.rows)
