-- The pieces of the data, found by a walk over its bytes.
use Rattle.std.proofs.Common.{◌≡◌, ℕ, ◌-◌, ◌<◌, ◌≤◌, Bool, true, false, nat_lt, List, [], ◌∷◌, length, map}
use Rattle.std.proofs.Common.{take, drop, refl, ap, sym, ◌∙◌, arith, zero, suc, Some, None}
use Rattle.std.proofs.lemmas.Bool.Decides.{nat_tests}
use Rattle.std.proofs.lemmas.List.{length-drop}
use Rattle.std.proofs.lemmas.List.Sums.{take_while-cons}
use Rattle.std.proofs.Math.Seq.{take-length}
use Rattle.std.specs.List.{take_while, filter, slice_split, slice_get, onto_first as onto_first_part}
use Rattle.ss_data.specs.Pieces.{is_separator, is_piece}
use Rattle.ss_faults.specs.DataPieces.{PlacedPiece, line_after, onto_first, parts, has_byte, pieces_from}
use Rattle.ss_faults.specs.DataPieces.{in_piece, begins_piece}
use Rattle.ss_faults.specs.Laws.{LinesLeaveThePieces}

-- a separator is at the front, or nothing
abbrev ends_piece : List ℕ → Bool
ends_piece [] = true
ends_piece (b ∷ bs) = is_separator b

-- ---- a separator at the front is passed
pub separator_passed : (l b : ℕ) (bs : List ℕ) → is_separator b ≡ true
    → pieces_from (line_after l b) bs ≡ pieces_from l (b ∷ bs)
separator_passed l b bs e = rw e refl

-- ---- a piece at the front is passed
abbrev after : ℕ → List ℕ → List PlacedPiece
after l [] = []
after l (b ∷ bs) = parts (line_after l b) bs

first_at : (l b : ℕ) (bs : List ℕ) (c : Bool) → is_separator b ≡ c
    → parts l bs
    ≡ record { line = l; bytes = take_while in_piece bs } ∷ after l (drop (length (take_while in_piece bs)) bs)
    → parts l (b ∷ bs)
    ≡ record { line = l; bytes = take_while in_piece (b ∷ bs) }
    ∷ after l (drop (length (take_while in_piece (b ∷ bs))) (b ∷ bs))
first_at l b bs true e h = rw (take_while-cons in_piece b bs, e) refl
first_at l b bs false e h = rw (take_while-cons in_piece b bs, e, h) refl

first_part : (l : ℕ) (text : List ℕ)
    → parts l text
    ≡ record { line = l; bytes = take_while in_piece text } ∷ after l (drop (length (take_while in_piece text)) text)
first_part l [] = refl
first_part l (b ∷ bs) = first_at l b bs (is_separator b) refl (first_part l bs)

ends_at : (b : ℕ) (bs : List ℕ) (c : Bool) → is_separator b ≡ c
    → ends_piece (drop (length (take_while in_piece bs)) bs) ≡ true
    → ends_piece (drop (length (take_while in_piece (b ∷ bs))) (b ∷ bs)) ≡ true
ends_at b bs true e h = rw (take_while-cons in_piece b bs, e) e
ends_at b bs false e h = rw (take_while-cons in_piece b bs, e) h

ends : (text : List ℕ) → ends_piece (drop (length (take_while in_piece text)) text) ≡ true
ends [] = refl
ends (b ∷ bs) = ends_at b bs (is_separator b) refl (ends bs)

pieces_after : (l : ℕ) (rest : List ℕ) → ends_piece rest ≡ true → filter has_byte (after l rest) ≡ pieces_from l rest
pieces_after l [] h = refl
pieces_after l (b ∷ bs) h = separator_passed l b bs h

front_at : (b : ℕ) (bs : List ℕ) (c : Bool) → is_separator b ≡ c
    → take (length (take_while in_piece bs)) bs ≡ take_while in_piece bs
    → take (length (take_while in_piece (b ∷ bs))) (b ∷ bs) ≡ take_while in_piece (b ∷ bs)
front_at b bs true e h = rw (take_while-cons in_piece b bs, e) refl
front_at b bs false e h = rw (take_while-cons in_piece b bs, e) (ap (λ xs. b ∷ xs) h)

front : (text : List ℕ) → take (length (take_while in_piece text)) text ≡ take_while in_piece text
front [] = refl
front (b ∷ bs) = front_at b bs (is_separator b) refl (front bs)

kept : (l : ℕ) (bytes : List ℕ) (more : List PlacedPiece) → 0 < length bytes
    → filter has_byte (record { line = l; bytes = bytes } ∷ more)
    ≡ record { line = l; bytes = bytes } ∷ filter has_byte more
kept l bytes more h = let t : nat_lt 0 (length bytes) ≡ true = grind (arith, nat_tests, h) in rw t refl

-- the first piece is at the front, and those after it
pub one_left : (l : ℕ) (text : List ℕ) → 0 < length (take_while in_piece text)
    → pieces_from l text
    ≡ record { line = l; bytes = take (length (take_while in_piece text)) text }
    ∷ pieces_from l (drop (length (take_while in_piece text)) text)
one_left l text h =
    let rest = drop (length (take_while in_piece text)) text in
    ap (filter has_byte) (first_part l text) ∙ kept l (take_while in_piece text) (after l rest) h
    ∙ ap (λ more. record { line = l; bytes = take_while in_piece text } ∷ more) (pieces_after l rest (ends text))
    ∙ ap (λ bytes. record { line = l; bytes = bytes } ∷ pieces_from l rest) (sym (front text))

longer : (b : ℕ) (bs : List ℕ) (c : Bool) → is_separator b ≡ c → in_piece b ≡ true
    → length (take_while in_piece (b ∷ bs)) ≡ 0 → ⊥
longer b bs true e i h = let k = rw e at i in cc
longer b bs false e i h = let k = rw (take_while-cons in_piece b bs, e) at h in omega (arith, k)

-- none is left where none is at the front
pub none_left : (l : ℕ) (text : List ℕ) → begins_piece text ≡ true → length (take_while in_piece text) ≡ 0
    → text ≡ []
none_left l [] b h = refl
none_left l (x ∷ xs) b h = absurd (longer x xs (is_separator x) refl b h)

-- a piece at the front is the first that is left
pub piece_passed : (l n : ℕ) (text : List ℕ) (xs : List PlacedPiece) → pieces_from l text ≡ xs
    → n ≡ length (take_while in_piece text) → 0 < n → Some (record { line = l; bytes = take n text }) ≡ slice_get xs 0
piece_passed l n text xs e k h = rw (← e, k, one_left l text (rw k at h)) refl

all_after : (n : ℕ) (text : List ℕ) → take (length text - n) (drop n text) ≡ drop n text
all_after n text = ap (λ m. take m (drop n text)) (sym (length-drop n text)) ∙ take-length (drop n text)

-- after it the others are left
pub others_left : (l n : ℕ) (text : List ℕ) (xs : List PlacedPiece) → pieces_from l text ≡ xs
    → n ≡ length (take_while in_piece text) → 0 < n
    → pieces_from l (take (length text - n) (drop n text)) ≡ drop 1 xs
others_left l n text xs e k h =
    ap (pieces_from l) (all_after n text) ∙ rw (← e, k, one_left l text (rw k at h)) refl

-- ---- some pieces are passed
pub none_passed : (n : ℕ) (xs new : List PlacedPiece) → slice_get xs 0 ≡ None → new ≡ drop 1 xs → new ≡ drop n xs
none_passed zero [] new h e = e
none_passed (suc n) [] new h e = e
none_passed n (x ∷ xs) new h e = cc

pub one_passed : (n m : ℕ) (xs new all : List PlacedPiece) → new ≡ drop 1 xs → 0 < n → m ≡ n - 1 → drop n xs ≡ all
    → drop m new ≡ all
one_passed zero m xs new all e h k i = absurd (omega (arith, h))
one_passed (suc n) zero [] new all e h k i = rw e i
one_passed (suc n) (suc m) [] new all e h k i = rw e i
one_passed (suc n) m (x ∷ xs) new all e h k i = let s : m ≡ n = omega (arith, k) in rw (e, s) i

pub ruleset pieces_passed = (none_passed, one_passed)

-- ---- the pieces are fewer than the bytes
more_at : (b : ℕ) (p : PlacedPiece) (ps : List PlacedPiece) (c : Bool) → has_byte p ≡ c
    → length (filter has_byte (record { line = p.line; bytes = b ∷ p.bytes } ∷ ps))
    ≤ suc (length (filter has_byte (p ∷ ps)))
more_at b p ps true e = rw (e, ap length (kept p.line (b ∷ p.bytes) ps (omega arith))) (omega arith)
more_at b p ps false e = rw (e, ap length (kept p.line (b ∷ p.bytes) ps (omega arith))) (omega arith)

more : (b : ℕ) (ps : List PlacedPiece) → length (filter has_byte (onto_first b ps)) ≤ suc (length (filter has_byte ps))
more b [] = omega arith
more b (p ∷ ps) = more_at b p ps (has_byte p) refl

few_at : (l b : ℕ) (bs : List ℕ) (c : Bool) → is_separator b ≡ c
    → length (pieces_from (line_after l b) bs) ≤ length bs → length (pieces_from l bs) ≤ length bs
    → length (pieces_from l (b ∷ bs)) ≤ length (b ∷ bs)
few_at l b bs true e h k = rw e (omega (arith, h))
few_at l b bs false e h k = let m = more b (parts l bs) in rw e (omega (arith, m, k))

pub few_pieces : (l : ℕ) (text : List ℕ) → length (pieces_from l text) ≤ length text
few_pieces l [] = omega arith
few_pieces l (b ∷ bs) = few_at l b bs (is_separator b) refl (few_pieces (line_after l b) bs) (few_pieces l bs)

-- ---- without their lines they are the pieces of the data
onto_bytes : (b l : ℕ) (bs : List ℕ)
    → map (λ (p : PlacedPiece). p.bytes) (onto_first b (parts l bs))
    ≡ onto_first_part b (map (λ (p : PlacedPiece). p.bytes) (parts l bs))
onto_bytes b l bs = rw (first_part l bs) refl

bytes_at : (l b : ℕ) (bs : List ℕ) (c : Bool) → is_separator b ≡ c
    → map (λ (p : PlacedPiece). p.bytes) (parts (line_after l b) bs) ≡ slice_split is_separator bs
    → map (λ (p : PlacedPiece). p.bytes) (parts l bs) ≡ slice_split is_separator bs
    → map (λ (p : PlacedPiece). p.bytes) (parts l (b ∷ bs)) ≡ slice_split is_separator (b ∷ bs)
bytes_at l b bs true e h k = rw e (ap (λ ps. [] ∷ ps) h)
bytes_at l b bs false e h k = rw e (onto_bytes b l bs ∙ ap (onto_first_part b) k)

bytes_of_parts : (l : ℕ) (text : List ℕ)
    → map (λ (p : PlacedPiece). p.bytes) (parts l text) ≡ slice_split is_separator text
bytes_of_parts l [] = refl
bytes_of_parts l (b ∷ bs) =
    bytes_at l b bs (is_separator b) refl (bytes_of_parts (line_after l b) bs) (bytes_of_parts l bs)

filtered_at : (p : PlacedPiece) (ps : List PlacedPiece) (c : Bool) → has_byte p ≡ c
    → map (λ (q : PlacedPiece). q.bytes) (filter has_byte ps) ≡ filter is_piece (map (λ (q : PlacedPiece). q.bytes) ps)
    → map (λ (q : PlacedPiece). q.bytes) (filter has_byte (p ∷ ps))
    ≡ filter is_piece (map (λ (q : PlacedPiece). q.bytes) (p ∷ ps))
filtered_at p ps true e h = rw e (ap (λ xs. p.bytes ∷ xs) h)
filtered_at p ps false e h = rw e h

filtered : (ps : List PlacedPiece)
    → map (λ (q : PlacedPiece). q.bytes) (filter has_byte ps) ≡ filter is_piece (map (λ (q : PlacedPiece). q.bytes) ps)
filtered [] = refl
filtered (p ∷ ps) = filtered_at p ps (has_byte p) refl (filtered ps)

pub bytes_of_pieces : LinesLeaveThePieces
bytes_of_pieces text = filtered (parts 1 text) ∙ ap (filter is_piece) (bytes_of_parts 1 text)
