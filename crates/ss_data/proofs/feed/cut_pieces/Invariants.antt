use Rattle.std.proofs.Common.{◌≡◌, map}
use Rattle.std.specs.List.{filter}
use Rattle.ss_data.specs.Pieces.{is_piece}
use Rattle.ss_data.proofs.feed.cut_pieces.Given as goal

-- the pieces among the parts so far
abbrev pub invariant-loop-part : goal.invariant-loop-part
invariant-loop-part l = l.pieces ≡ filter is_piece (map (λ part. part.now) l.yielded)
