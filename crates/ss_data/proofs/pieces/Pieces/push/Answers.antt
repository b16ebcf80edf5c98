use Rattle.std.proofs.Common.{◌≡◌, ◌+◌, length, ap, ◌∙◌}
use Rattle.ss_data.proofs.PackedLemmas.{AreEnds-push, cut-push}
use Rattle.std.proofs.lemmas.List.{length-append}
use Rattle.ss_data.proofs.pieces.Pieces.push.Goals as goal

-- the new end is the length of the bytes with the piece
new_end : (c : goal.After-push_reserved) → c.len.result ≡ length c.self.inside.bytes.items + length c.args.piece.now
new_end c =
    c.len.ensures ∙ c.extend_from_slice.new.self.ok.0 ∙ ap length c.in_ok-extend_from_slice.ensures.items
    ∙ length-append c.self.inside.bytes.items c.args.piece.now

pub invariant_of-self-2 : goal.invariant_of-self-2
invariant_of-self-2 c =
    rw (
      c.push_reserved.ensures.items,
      c.reserve.ensures.items,
      c.in_ok-extend_from_slice.ensures.items,
      new_end c,
      length-append,
    )
    (AreEnds-push 0 c.self.inside.ends.items (length c.self.inside.bytes.items) (length c.args.piece.now)
    c.self.invariant)

pub returns : goal.returns
returns c =
    rw (
      c.push_reserved.ensures.items,
      c.reserve.ensures.items,
      c.in_ok-extend_from_slice.ensures.items,
      new_end c,
      ← c.self.view_is,
    )
    (cut-push 0 c.self.inside.ends.items c.self.inside.bytes.items c.args.piece.now c.self.invariant)
