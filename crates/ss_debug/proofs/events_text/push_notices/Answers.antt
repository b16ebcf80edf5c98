use Rattle.std.proofs.Common.{◌≡◌, ◌++◌, ◌+◌, length, arith, refl, ◌∙◌}
use Rattle.std.proofs.lemmas.Option.{slice_get_within}
use Rattle.ss_events.specs.State.{order}
use Rattle.ss_events.specs.Slots.{slot_of}
use Rattle.ss_debug.specs.Answer.{notice_line, notice_lines}
use Rattle.ss_debug.proofs.Pendings.{listed, slot_is, line_more, all_lines, all_listed}
use Rattle.ss_debug.proofs.events_text.push_notices.Goals as goal

pub slot-requires : goal.slot-requires
slot-requires g c =
    let a = c.agenda-agenda.result.now in
    let k =
    listed a.rules a.agenda c.loop-notice.listing.listed c.in-Some.notice c.known-2.ensures
    c.in-Some.ensures.notice in
    k.number

pub unwrap-slot-requires : goal.unwrap-slot-requires
unwrap-slot-requires g c =
    let a = c.agenda-agenda.result.now in
    let k =
    listed a.rules a.agenda c.loop-notice.listing.listed c.in-Some.notice c.known-2.ensures
    c.in-Some.ensures.notice in
    rw (c.slot.ensures, k.pending) refl

pub loop-notice-smaller : goal.loop-notice-smaller
loop-notice-smaller g c =
    let a = c.agenda-agenda.result.now in
    let k =
    listed a.rules a.agenda c.loop-notice.listing.listed c.in-Some.notice c.known-2.ensures
    c.in-Some.ensures.notice in
    let below = slice_get_within (order a) c.loop-notice.listing.listed k.entry k.at in
    let more : c.list_next.new.listing.listed ≡ c.loop-notice.listing.listed + 1 = c.in-Some.ensures.count in
    omega (arith, below, more)

pub loop-notice-preserved : goal.loop-notice-preserved
loop-notice-preserved g c =
    let a = c.agenda-agenda.result.now in
    let p = c.args.machine.now.input.program in
    let k =
    listed a.rules a.agenda c.loop-notice.listing.listed c.in-Some.notice c.known-2.ensures
    c.in-Some.ensures.notice in
    let below = slice_get_within (order a) c.loop-notice.listing.listed k.entry k.at in
    let more : c.list_next.new.listing.listed ≡ c.loop-notice.listing.listed + 1 = c.in-Some.ensures.count in
    let slot : c.unwrap-slot.result ≡ slot_of k.entry =
    slot_is c.slot.result _ k.entry c.unwrap-slot.result c.slot.ensures k.pending c.unwrap-slot.ensures in
    let line : c.push_notice.new.text.items
    ≡ c.loop-notice.text.items ++ notice_line p k.entry.notice (slot_of k.entry) =
    rw (← slot, ← k.notice, ← c.program.ensures) c.in_ok-push_notice.ensures in
    record {
      listing = c.in-Some.ensures.listing;
      within = omega (arith, below, more);
      lines =
          line_more p (order a) c.loop-notice.listing.listed c.list_next.new.listing.listed k.entry _ _ _ k.at more
          c.loop-notice.invariant.lines line;
    }

pub returns-clause-lines : goal.returns-clause-lines
returns-clause-lines g c =
    let a = c.agenda-agenda.result.now in
    let m = c.args.machine.now in
    let p = m.input.program in
    let all : c.loop-notice.text.items ≡ c.args.text.now.items ++ notice_lines p (order a) =
    all_lines p (order a) c.loop-notice.listing.listed c.loop-notice.text.items
    (c.args.text.now.items ++ notice_lines p (order a)) c.in_default.ensures.notice c.loop-notice.invariant.lines in
    rw (← c.agenda-agenda.ensures.state, ← c.agenda-agenda.ensures.rules) all

pub returns-clause-count : goal.returns-clause-count
returns-clause-count g c =
    let a = c.agenda-agenda.result.now in
    let all : c.list_next.new.listing.listed ≡ length (order a) =
    c.in_default.ensures.count ∙ all_listed (order a) c.loop-notice.listing.listed c.in_default.ensures.notice c.loop-notice.invariant.within in
    rw (← c.agenda-agenda.ensures.state, ← c.agenda-agenda.ensures.rules) all
