use Rattle.std.proofs.Common.{◌≡◌, sym, ap, ◌∙◌, length, slice_index_or, refl, rules}
use Rattle.ss_program.specs.ProgramSound.{IsSound}
use Rattle.ss_changes.specs.Parts.{frames_below, notices_in}
use Rattle.ss_changes.specs.Changes.{changes_among}
use Rattle.ss_changes.specs.View.{local_counts, living_in}
use Rattle.ss_changes.proofs.Comparing.{below_there, living_length, compared, compared_same}
use Rattle.ss_changes.proofs.compared.compared_parts.Goals as goal

pub push_all_entities-requires : goal.push_all_entities-requires
push_all_entities-requires g c =
    let m = c.args.machine.now in
    rw (c.deref.ensures.value, c.in_ok-earlier.ensures)
    (living_length m.input.program m.state ∙ sym c.requires.classes)

pub returns : goal.returns
returns g c = λ u counts living notices.
    let p = c.args.machine.now.input.program in
    let s = c.args.machine.now.state in
    let sound : IsSound p = rw c.program-program.ensures at c.known.ensures in
    let n = frames_below s u in
    let below : c.min-below.result ≡ n =
    c.min-below.ensures ∙ below_there p s u c.args.counts.now c.frames.result c.frames.ensures counts in
    let globals : c.len.result ≡ length p.globals = search rules in
    let all : c.extend_from_slice-2.new.self.items
    ≡ compared p s n (slice_index_or (local_counts p u) n 0) (living_in p s) (living_in p u) (notices_in p u) =
    rw (
      c.in_ok-extend_from_slice-2.ensures.items,
      c.in_ok-push_absent.ensures,
      c.in_ok-extend_from_slice.ensures.items,
      c.deref-2.ensures.value,
      c.in_ok-pending.ensures,
      c.in_ok-push_all_lists.ensures,
      c.in_ok-push_all_entities.ensures,
      c.deref.ensures.value,
      c.in_ok-earlier.ensures,
      c.in_ok-push_all_attributes.ensures,
      c.in_ok-push_locals.ensures,
      c.in_ok-push_globals.ensures,
      c.new-parts.ensures.items,
      globals,
      c.program-program.ensures,
      below,
      counts,
      living,
      notices,
    ) refl in
    ap (changes_among p s u) all ∙ compared_same p s u sound
