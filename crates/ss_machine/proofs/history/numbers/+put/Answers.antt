use Rattle.std.proofs.Common.{ℕ, ◌+◌, ◌/◌, ◌^◌, ◌<◌, ◌≤◌, ap, arith}
use Rattle.ss_journal.specs.Log.{Log}
use Rattle.ss_machine.proofs.NumberBytes.{group_room}
use Rattle.ss_machine.proofs.history.numbers.+put.Goals.{put-then-higher-lt-GROUP, put-else-higher-lt-GROUP}
use Rattle.ss_machine.proofs.history.numbers.+put.Goals as goal

pub put-note-requires-else-higher-lt-GROUP : goal.put-note-requires-else-higher-lt-GROUP
put-note-requires-else-higher-lt-GROUP t c =
    let n = c.args.bytes.now.notes in
    omega (
      arith,
      group_room (c.args.number / 128) n n c.write.new.bytes.notes c.if-higher-lt-GROUP.false
          (omega (arith, c.requires.enough)) c.write.ensures.notes,
    )

pub put-note-requires-2 : goal.put-note-requires-2
put-note-requires-2 t c =
    let n = c.args.bytes.now.notes in
    let left = c.if-higher-lt-GROUP.bytes.notes in
    let above : (k : ℕ) → 0 < k → c.args.number / 128 < 128 ^ k → n ≤ left + k =
    elim c.if-higher-lt-GROUP.branch [
      | put-then-higher-lt-GROUP w ↦ λ k some small. omega (
        arith,
        ap (λ (v : Log ℕ). v.notes) w.bytes-is,
        w.note.ensures.notes,
      )
      | put-else-higher-lt-GROUP w ↦ λ k some small. omega (
        arith,
        ap (λ (v : Log ℕ). v.notes) w.bytes-is,
        w.note-else-higher-lt-GROUP.ensures.notes,
        group_room (c.args.number / 128) k n w.write.new.bytes.notes w.if-higher-lt-GROUP.false small
            w.write.ensures.notes,
      )
    ] in
    omega (arith, group_room c.args.number n n left c.requires.great c.requires.enough above)

pub put-returns-clause-notes : goal.put-returns-clause-notes
put-returns-clause-notes t c = λ k some small.
    let n = c.args.bytes.now.notes in
    let left = c.if-higher-lt-GROUP.bytes.notes in
    let above : (k : ℕ) → 0 < k → c.args.number / 128 < 128 ^ k → n ≤ left + k =
    elim c.if-higher-lt-GROUP.branch [
      | put-then-higher-lt-GROUP w ↦ λ k some small. omega (
        arith,
        ap (λ (v : Log ℕ). v.notes) w.bytes-is,
        w.note.ensures.notes,
      )
      | put-else-higher-lt-GROUP w ↦ λ k some small. omega (
        arith,
        ap (λ (v : Log ℕ). v.notes) w.bytes-is,
        w.note-else-higher-lt-GROUP.ensures.notes,
        group_room (c.args.number / 128) k n w.write.new.bytes.notes w.if-higher-lt-GROUP.false small
            w.write.ensures.notes,
      )
    ] in
    omega (arith, c.note-2.ensures.notes, group_room c.args.number k n left c.requires.great small above)
