use Rattle.std.proofs.Common.{◌≡◌, ◌-◌, suc, min, true, false, length, sym, rules, slice_index_or}
use Rattle.std.proofs.lemmas.List.{append-nil}
use Rattle.ss_changes.specs.Parts.{is_same_section, section_below}
use Rattle.ss_changes.specs.Snapshots.{shared_frame, no_frame}
use Rattle.ss_changes.proofs.Across.{frames_apart, frames_shared}
use Rattle.ss_changes.proofs.Orders.{behind}
use Rattle.ss_changes.proofs.Saying.{on_ok}
use Rattle.ss_changes.proofs.since.push_shared_locals.Goals as goal

pub returns-then-not-is_same_section : goal.returns-then-not-is_same_section
returns-then-not-is_same_section g c =
    let m = c.args.machine.now in
    let frames = c.args.frames.now in
    let n = c.saturating_sub-below.result in
    let f = c.in-Some.frame.now in
    let at : slice_index_or frames n no_frame ≡ f = search rules in
    let many : c.frames.result ≡ suc (length m.state.below) = search rules in
    let last : n ≡ min (length frames) c.frames.result - 1 = search rules in
    let apart : is_same_section f.section (section_below m.state n) ≡ false = search rules in
    rw (frames_apart m.input.program m.state frames n f (rw many at last) at apart)
    (sym (append-nil c.args.changes.now.items))

pub returns : goal.returns
returns g c =
    let m = c.args.machine.now in
    let frames = c.args.frames.now in
    let n = c.saturating_sub-below.result in
    let f = c.in-Some.frame.now in
    let at : slice_index_or frames n no_frame ≡ f = search rules in
    let many : c.frames.result ≡ suc (length m.state.below) = search rules in
    let last : n ≡ min (length frames) c.frames.result - 1 = search rules in
    let shared : is_same_section f.section (section_below m.state n) ≡ true = search rules in
    rw (frames_shared m.input.program m.state frames n f (rw many at last) at shared) (search rules)
