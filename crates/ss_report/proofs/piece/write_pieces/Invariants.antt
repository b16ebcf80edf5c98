use Rattle.std.proofs.Common.{◌≡◌, ◌+◌, ◌≤◌, ◌++◌, length, drop, vec_len}
use Rattle.std.specs.List.{count_by}
use Rattle.std.specs.Vec.{vec_capacity}
use Rattle.ss_report.specs.Pictures.{parts_text, is_field}
use Rattle.ss_report.specs.Pieces.{parts_len, parts_of}
use Rattle.ss_report.proofs.piece.write_pieces.Given as goal

abbrev pub invariant-loop-piece : goal.invariant-loop-piece
invariant-loop-piece l = record {
  values : length l.values ≡ count_by is_field (parts_of (drop l.piece-index l.pieces));
  room : vec_len l.bytes + parts_len (parts_of (drop l.piece-index l.pieces)) ≤ vec_capacity l.bytes;
  written : l.bytes.items ++ parts_text (parts_of (drop l.piece-index l.pieces)) l.values
      ≡ l.initial.bytes.items ++ parts_text (parts_of l.pieces) l.initial.values;
}
