use Rattle.std.proofs.Common.{ℕ, ◌+◌, ◌≤◌, List, ◌++◌, length, take, arith, Option}
use Rattle.std.specs.Io.KnownBytes.{Appends}
use Rattle.std.proofs.Common.{length-append}
use Rattle.std.proofs.Math.Seq.{take-append-add}
use Rattle.std.proofs.lemmas.List.{take-append-le}
use Rattle.ss_session.proofs.Pieces.{appends_then, appends_part, appends_none, appends_no_more}
use Rattle.ss_session.specs.Written.{WritesPart}

pub writes_part : (text : List ℕ) (old new : Option (List ℕ)) (n : ℕ) → n ≤ length text →
    Appends old new (take n text) → WritesPart text old new
writes_part text old new n h p = record { count = n; within = h; said = p }

pub part_left : (x y : List ℕ) (old new : Option (List ℕ)) → WritesPart x old new → WritesPart (x ++ y) old new
part_left x y old new w =
    let b : w.count ≤ length x = w.within in
    record { count = w.count; within = rw length-append (omega arith); said = rw take-append-le w.said }

pub part_right : (x y : List ℕ) (old mid new : Option (List ℕ)) → Appends old mid x → WritesPart y mid new →
    WritesPart (x ++ y) old new
part_right x y old mid new p w =
    let b : w.count ≤ length y = w.within in
    record {
      count = length x + w.count;
      within = rw length-append (omega arith);
      said = rw take-append-add (appends_then old mid new _ _ p w.said);
    }

-- two texts, one after the other
pub ruleset texts_in_turn = (appends_then, part_left, part_right)

-- a text, piece by piece
pub ruleset texts_in_pieces = (appends_part, appends_none, appends_no_more, writes_part)
