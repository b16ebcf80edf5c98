use Rattle.std.proofs.Common.{◌≡◌, ◌++◌, ◌+◌, arith, refl}
use Rattle.std.proofs.lemmas.Option.{slice_get_within}
use Rattle.ss_events.specs.State.{order}
use Rattle.ss_events.specs.Slots.{slot_of}
use Rattle.ss_debug.proofs.Pendings.{listed, slot_is}
use Rattle.ss_scopes.specs.Events.{notice_item, notice_items}
use Rattle.ss_scopes.proofs.Notices.{item_more, all_items}
use Rattle.ss_scopes.proofs.events.push_events.Goals as goal

pub slot-requires : goal.slot-requires
slot-requires g c =
    let a = c.agenda-agenda.result.now in
    let k =
    listed a.rules a.agenda c.loop-notice.listing.listed c.in-Some.notice c.known.ensures
    c.in-Some.ensures.notice in
    k.number

pub unwrap-slot-requires : goal.unwrap-slot-requires
unwrap-slot-requires g c =
    let a = c.agenda-agenda.result.now in
    let k =
    listed a.rules a.agenda c.loop-notice.listing.listed c.in-Some.notice c.known.ensures
    c.in-Some.ensures.notice in
    rw (c.slot.ensures, k.pending) refl

pub loop-notice-smaller : goal.loop-notice-smaller
loop-notice-smaller g c =
    let a = c.agenda-agenda.result.now in
    let k =
    listed a.rules a.agenda c.loop-notice.listing.listed c.in-Some.notice c.known.ensures
    c.in-Some.ensures.notice in
    let below = slice_get_within (order a) c.loop-notice.listing.listed k.entry k.at in
    let more : c.list_next.new.listing.listed ≡ c.loop-notice.listing.listed + 1 = c.in-Some.ensures.count in
    omega (arith, below, more)

pub loop-notice-preserved : goal.loop-notice-preserved
loop-notice-preserved g c =
    let a = c.agenda-agenda.result.now in
    let p = c.args.machine.now.input.program in
    let k =
    listed a.rules a.agenda c.loop-notice.listing.listed c.in-Some.notice c.known.ensures
    c.in-Some.ensures.notice in
    let below = slice_get_within (order a) c.loop-notice.listing.listed k.entry k.at in
    let more : c.list_next.new.listing.listed ≡ c.loop-notice.listing.listed + 1 = c.in-Some.ensures.count in
    let slot : c.unwrap-slot.result ≡ slot_of k.entry =
    slot_is c.slot.result _ k.entry c.unwrap-slot.result c.slot.ensures k.pending c.unwrap-slot.ensures in
    let item : c.push_event.new.out.items
    ≡ c.loop-notice.out.items ++ notice_item p k.entry.notice (slot_of k.entry) =
    rw (← slot, ← k.notice, ← c.program.ensures) c.in_ok-push_event.ensures in
    record {
      listing = c.in-Some.ensures.listing;
      within = omega (arith, below, more);
      items =
          item_more p (order a) c.loop-notice.listing.listed c.list_next.new.listing.listed k.entry _ _ _ k.at more
          c.loop-notice.invariant.items item;
    }

pub returns : goal.returns
returns g c =
    let a = c.agenda-agenda.result.now in
    let m = c.args.machine.now in
    let items =
    all_items m.input.program (order a) c.loop-notice.listing.listed c.loop-notice.out.items
    (c.args.out.now.items ++ notice_items m.input.program (order a))
    c.in_default.ensures.notice c.loop-notice.invariant.items in
    rw (← c.agenda-agenda.ensures.state, ← c.agenda-agenda.ensures.rules) items
