-- Packed pieces: adding one, and finding one.
use Rattle.std.proofs.Common.{◌≡◌, ℕ, ◌+◌, ◌<◌, ◌≤◌, List, [], ◌∷◌, ◌++◌, length, get_or, refl, ap, sym, ◌∙◌, arith}
use Rattle.std.proofs.Common.{Some, None, zero, suc}
use Rattle.std.proofs.lemmas.Grind.{common_steps}
use Rattle.std.proofs.lemmas.Option.{slice_get_past}
use Rattle.std.specs.List.{slice_get, slice_range}
use Rattle.ss_data.specs.Packed.{pieces_by_ends, AreEnds}

-- the pieces start within the bytes
pub AreEnds-le : (start : ℕ) (ends : List ℕ) (size : ℕ) → AreEnds start ends size → start ≤ size
AreEnds-le start [] size h = omega arith
AreEnds-le start (e ∷ es) size h = omega (arith, AreEnds-le e es size h.1)

pub AreEnds-push : (start : ℕ) (ends : List ℕ) (size more : ℕ) → AreEnds start ends size
    → AreEnds start (ends ++ (size + more) ∷ []) (size + more)
AreEnds-push start [] size more h = (omega arith, refl)
AreEnds-push start (e ∷ es) size more h = (h.0, AreEnds-push e es size more h.1)

-- a range within the first list of two
pub range-append : (xs ys : List ℕ) (a b : ℕ) → a ≤ b → b ≤ length xs → slice_range (xs ++ ys) a b ≡ slice_range xs a b
range-append xs ys a b h k = grind (arith, common_steps)

-- the range after the first list of two is the second
pub range-behind : (xs ys : List ℕ) (a : ℕ) → a ≡ length xs → slice_range (xs ++ ys) a (length xs + length ys) ≡ ys
range-behind xs ys a h = grind (arith, common_steps)

pub cut-push : (start : ℕ) (ends bytes piece : List ℕ) → AreEnds start ends (length bytes)
    → pieces_by_ends start (ends ++ (length bytes + length piece) ∷ []) (bytes ++ piece)
    ≡ pieces_by_ends start ends bytes ++ piece ∷ []
cut-push start [] bytes piece h = ap (λ p. p ∷ []) (range-behind bytes piece start h)
cut-push start (e ∷ es) bytes piece h =
    let first : slice_range (bytes ++ piece) start e ≡ slice_range bytes start e =
    range-append bytes piece start e h.0 (AreEnds-le e es (length bytes) h.1) in
    let others : pieces_by_ends e (es ++ (length bytes + length piece) ∷ []) (bytes ++ piece)
    ≡ pieces_by_ends e es bytes ++ piece ∷ [] =
    cut-push e es bytes piece h.1 in
    cc

pub length-cut : (start : ℕ) (ends bytes : List ℕ) → length (pieces_by_ends start ends bytes) ≡ length ends
length-cut start [] bytes = refl
length-cut start (e ∷ es) bytes = grind (arith, common_steps, length-cut e es bytes)

-- the range of piece i
pub cut-get : (start : ℕ) (ends bytes : List ℕ) (i : ℕ) → i < length ends
    → slice_get (pieces_by_ends start ends bytes) i
    ≡ Some (slice_range bytes (get_or (start ∷ ends) i 0) (get_or ends i 0))
cut-get start [] bytes i h = absurd (omega arith)
cut-get start (e ∷ es) bytes zero h = refl
cut-get start (e ∷ es) bytes (suc i) h = cut-get e es bytes i (omega arith)

-- this range is within the bytes
pub AreEnds-at : (start : ℕ) (ends : List ℕ) (size i : ℕ) → AreEnds start ends size → i < length ends
    → (get_or (start ∷ ends) i 0 ≤ get_or ends i 0) × (get_or ends i 0 ≤ size)
AreEnds-at start [] size i h k = absurd (omega arith)
AreEnds-at start (e ∷ es) size zero h k = (h.0, AreEnds-le e es size h.1)
AreEnds-at start (e ∷ es) size (suc i) h k = AreEnds-at e es size i h.1 (omega arith)

-- the result of a look-up by index: nothing past the end, else the piece from its start to its end
pub get-past : (view : List (List ℕ)) (ends got bytes : List ℕ) (i : ℕ) → pieces_by_ends 0 ends bytes ≡ view → got
    ≡ ends
    → length got ≤ i → slice_get view i ≡ None
get-past view ends got bytes i v g h =
    rw (← v) (slice_get_past (pieces_by_ends 0 ends bytes) i (omega (arith, length-cut 0 ends bytes, ap length g)))

pub get-at : (view : List (List ℕ)) (ends got bytes : List ℕ) (i start end : ℕ) → pieces_by_ends 0 ends bytes ≡ view
    → got ≡ ends
    → i < length got → end ≡ get_or got i 0 → start ≡ get_or (0 ∷ got) i 0
    → Some (slice_range bytes start end) ≡ slice_get view i
get-at view ends got bytes i start end v g h e s =
    rw (← v, cut-get 0 ends bytes i (omega (arith, ap length g)), e, s, g) refl

pub bounds-at : (ends got bytes : List ℕ) (i start end : ℕ) → AreEnds 0 ends (length bytes) → got ≡ ends
    → i < length got → end ≡ get_or got i 0 → start ≡ get_or (0 ∷ got) i 0 → (start ≤ end) × (end ≤ length bytes)
bounds-at ends got bytes i start end a g h e s =
    rw (e, s, g) (AreEnds-at 0 ends (length bytes) i a (omega (arith, ap length g)))

pub length-view : (view : List (List ℕ)) (ends got bytes : List ℕ) → pieces_by_ends 0 ends bytes ≡ view → got ≡ ends
    → length view ≡ length got
length-view view ends got bytes v g = ap length (sym v) ∙ length-cut 0 ends bytes ∙ ap length (sym g)
