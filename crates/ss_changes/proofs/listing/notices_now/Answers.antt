use Rattle.std.proofs.Common.{◌≡◌, ◌++◌, ◌∷◌, [], ◌+◌, arith, refl}
use Rattle.std.proofs.lemmas.Option.{slice_get_within}
use Rattle.ss_events.specs.State.{order}
use Rattle.ss_events.specs.Slots.{slot_of}
use Rattle.ss_debug.proofs.Pendings.{listed, slot_is}
use Rattle.ss_changes.specs.declared.part.Part.TheVariants.{Notice}
use Rattle.ss_changes.specs.Parts.{notices_of}
use Rattle.ss_changes.proofs.Notices.{notice_more, all_notices}
use Rattle.ss_changes.proofs.listing.notices_now.Goals as goal

pub slot-requires : goal.slot-requires
slot-requires g c =
    let a = c.agenda-agenda.result.now in
    let k =
    listed a.rules a.agenda c.loop-notice.listing.listed c.in-Some.notice c.known.ensures
    c.in-Some.ensures.notice in
    k.number

pub unwrap-slot-requires : goal.unwrap-slot-requires
unwrap-slot-requires g c =
    let a = c.agenda-agenda.result.now in
    let k =
    listed a.rules a.agenda c.loop-notice.listing.listed c.in-Some.notice c.known.ensures
    c.in-Some.ensures.notice in
    rw (c.slot.ensures, k.pending) refl

pub loop-notice-smaller : goal.loop-notice-smaller
loop-notice-smaller g c =
    let a = c.agenda-agenda.result.now in
    let k =
    listed a.rules a.agenda c.loop-notice.listing.listed c.in-Some.notice c.known.ensures
    c.in-Some.ensures.notice in
    let below = slice_get_within (order a) c.loop-notice.listing.listed k.entry k.at in
    let more : c.list_next.new.listing.listed ≡ c.loop-notice.listing.listed + 1 = c.in-Some.ensures.count in
    omega (arith, below, more)

pub loop-notice-preserved : goal.loop-notice-preserved
loop-notice-preserved g c =
    let a = c.agenda-agenda.result.now in
    let k =
    listed a.rules a.agenda c.loop-notice.listing.listed c.in-Some.notice c.known.ensures
    c.in-Some.ensures.notice in
    let below = slice_get_within (order a) c.loop-notice.listing.listed k.entry k.at in
    let more : c.list_next.new.listing.listed ≡ c.loop-notice.listing.listed + 1 = c.in-Some.ensures.count in
    let slot : c.unwrap-slot.result ≡ slot_of k.entry =
    slot_is c.slot.result _ k.entry c.unwrap-slot.result c.slot.ensures k.pending c.unwrap-slot.ensures in
    let part : c.push.new.self.items
    ≡ c.loop-notice.parts.items ++ Notice (slot_of k.entry).class k.entry.notice ∷ [] =
    rw (← slot, ← k.notice) c.in_ok-push.ensures.items in
    record {
      listing = c.in-Some.ensures.listing;
      within = omega (arith, below, more);
      parts =
          notice_more (order a) c.loop-notice.listing.listed c.list_next.new.listing.listed k.entry _ _ _ k.at more
          c.loop-notice.invariant.parts part;
    }

pub returns : goal.returns
returns g c =
    let a = c.agenda-agenda.result.now in
    let all =
    all_notices (order a) c.loop-notice.listing.listed c.loop-notice.parts.items (notices_of (order a))
    c.in_default.ensures.notice c.loop-notice.invariant.parts in
    rw (← c.agenda-agenda.ensures.state, ← c.agenda-agenda.ensures.rules) all
