-- Texts that are written in pieces, and parts of them.
use Rattle.std.proofs.Common.{ℕ, ◌+◌, ◌≤◌, List, [], ◌++◌, length, take, drop, sym, append_assoc, append-nil, arith}
use Rattle.std.proofs.Common.{Option, Some, None, length-append}
use Rattle.std.proofs.Math.Seq.{take-add, take-append-add}
use Rattle.std.proofs.lemmas.List.{take-append-le, map-append}
use Rattle.ss_console.specs.Event.{Event, wrote, Adds, write_events}
use Rattle.ss_console.specs.Puts.{AddsPart}

-- events, one after the other
pub adds_then : (a b c : Option (List Event)) (x y : List Event) → Adds a b x → Adds b c y → Adds a c (x ++ y)
adds_then None b c x y p q = tt
adds_then (Some s) None c x y p q = absurd p
adds_then (Some s) (Some t) None x y p q = absurd q
adds_then (Some s) (Some t) (Some u) x y p q = rw (q, p) (append_assoc s x y)

-- nothing happened
pub adds_none : (a : Option (List Event)) → Adds a a []
adds_none None = tt
adds_none (Some s) = sym (append-nil s)

-- nothing more happened
pub adds_no_more : (a b c : Option (List Event)) (x : List Event) → Adds a b x → Adds b c [] → Adds a c x
adds_no_more a b c x p q = rw (sym (append-nil x)) (adds_then a b c x [] p q)

-- two texts, one after the other
pub texts_then : (a b c : Option (List Event)) (x y : List ℕ) → Adds a b (write_events x) → Adds b c (write_events y) →
    Adds a c (write_events (x ++ y))
texts_then a b c x y p q = rw (map-append wrote x y) (adds_then a b c (write_events x) (write_events y) p q)

-- a further part of a text
pub adds_piece : (a b c : Option (List Event)) (s : List ℕ) (n m : ℕ) → Adds a b (write_events (take n s)) →
    Adds b c (write_events (take m (drop n s))) → Adds a c (write_events (take (n + m) s))
adds_piece a b c s n m p q = rw (take-add n m s) (texts_then a b c _ _ p q)

pub adds_part : (text : List ℕ) (old new : Option (List Event)) (n : ℕ) → n ≤ length text →
    Adds old new (write_events (take n text)) → AddsPart text old new
adds_part text old new n h p = record { count = n; within = h; told = p }

pub part_left : (x y : List ℕ) (old new : Option (List Event)) → AddsPart x old new → AddsPart (x ++ y) old new
part_left x y old new w =
    let b : w.count ≤ length x = w.within in
    record { count = w.count; within = rw length-append (omega arith); told = rw take-append-le w.told }

pub part_right : (x y : List ℕ) (old mid new : Option (List Event)) → Adds old mid (write_events x) →
    AddsPart y mid new → AddsPart (x ++ y) old new
part_right x y old mid new p w =
    let b : w.count ≤ length y = w.within in
    record {
      count = length x + w.count;
      within = rw length-append (omega arith);
      told = rw take-append-add (texts_then old mid new _ _ p w.told);
    }

-- two texts, one after the other
pub ruleset in_turn = (texts_then, part_left, part_right)

-- a text, piece by piece
pub ruleset in_pieces = (adds_piece, adds_none, adds_no_more, adds_part)

-- some texts, one after the other
pub ruleset with_others = (texts_then, part_left, part_right, adds_none)

-- no prompt
pub ruleset no_prompt = (adds_none)
