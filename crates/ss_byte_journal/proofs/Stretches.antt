-- stretches of a list of bytes: the forgotten ones, those of closed steps, those of the open step
use Rattle.std.proofs.Common.{◌≡◌, ℕ, ◌+◌, ◌-◌, ◌<◌, ◌≤◌, List, [], ◌∷◌, ◌++◌, length, take, drop, get_or, refl, ap}
use Rattle.std.proofs.Common.{sym, ◌∙◌, arith}
use Rattle.std.proofs.Common.{length-take, length-drop}
use Rattle.std.specs.Prelude.{reverse, sum, nat_lt}
use Rattle.std.proofs.lemmas.List.{reverse-append, length-reverse, take-append-drop, drop-append-le, take_at, drop_at}
use Rattle.std.proofs.lemmas.List.{take_all, drop-take, drop-drop, drop_more, length_push}
use Rattle.ss_journal.specs.Pieces.{cut_by_lengths, long_count, long_by}
use Rattle.ss_journal.proofs.Bytes.{is_long}
use Rattle.ss_journal.proofs.Cuts.{pieces_newest, kept_of}

-- the bytes after the forgotten ones are the closed ones, and then the open ones
parts : (bytes : List ℕ) (forgotten closed : ℕ) → forgotten ≤ closed → closed ≤ length bytes
    → reverse (drop forgotten bytes) ≡ reverse (drop closed bytes) ++ reverse (drop forgotten (take closed bytes))
parts bytes forgotten closed within fits =
    let front : forgotten ≤ length (take closed bytes) = omega (arith, length-take closed bytes) in
    ap (λ (l : List ℕ). reverse (drop forgotten l)) (sym (take-append-drop closed bytes))
    ∙ ap reverse (drop-append-le forgotten (take closed bytes) (drop closed bytes) front)
    ∙ reverse-append (drop forgotten (take closed bytes)) (drop closed bytes)

-- the bytes of the open step and those of the closed ones, cut as the steps are once it is closed
pub closed_cut : (bytes : List ℕ) (forgotten closed size end : ℕ) (sizes : List ℕ) →
    forgotten ≤ closed → closed + size ≡ end → end ≡ length bytes →
    cut_by_lengths (size ∷ sizes) (reverse (drop forgotten (take end bytes)))
    ≡ reverse (drop closed bytes) ∷ cut_by_lengths sizes (reverse (drop forgotten (take closed bytes)))
closed_cut bytes forgotten closed size end sizes within counted full =
    let many : length (reverse (drop closed bytes)) ≡ size =
    omega (arith, length-reverse (drop closed bytes), length-drop closed bytes) in
    let whole : take end bytes ≡ bytes = take_all end bytes (omega (arith, full)) in
    let all : reverse (drop forgotten (take end bytes))
    ≡ reverse (drop closed bytes) ++ reverse (drop forgotten (take closed bytes)) =
    ap (λ (l : List ℕ). reverse (drop forgotten l)) whole ∙ parts bytes forgotten closed within (omega (arith, counted, full)) in
    rw (
      all,
      take_at (reverse (drop closed bytes)) (reverse (drop forgotten (take closed bytes))) size many,
      drop_at (reverse (drop closed bytes)) (reverse (drop forgotten (take closed bytes))) size many,
    ) refl

-- the closed bytes, once the forgotten ones are gone
pub moved_down : (bytes : List ℕ) (forgotten closed : ℕ) → forgotten ≤ closed →
    take (closed - forgotten) (drop forgotten bytes) ≡ drop forgotten (take closed bytes)
moved_down bytes forgotten closed within =
    let all : forgotten + (closed - forgotten) ≡ closed = omega (arith, within) in
    sym (drop-take forgotten (closed - forgotten) bytes) ∙ ap (λ k. drop forgotten (take k bytes)) all

-- the steps that are kept, once the bytes of the others are forgotten
pub kept_cut : (n m forgotten closed : ℕ) (sizes kept bytes : List ℕ) →
    forgotten + sum sizes ≡ closed → closed ≤ length bytes → kept ≡ kept_of n sizes → m + sum kept ≡ sum sizes →
    cut_by_lengths kept (reverse (drop (forgotten + m) (take closed bytes)))
    ≡ take n (cut_by_lengths sizes (reverse (drop forgotten (take closed bytes))))
kept_cut n m forgotten closed sizes kept bytes counted fits are is =
    let more : drop m (drop forgotten (take closed bytes)) ≡ drop (forgotten + m) (take closed bytes) =
    drop-drop m forgotten (take closed bytes) in
    let many : sum sizes ≡ length (drop forgotten (take closed bytes)) =
    omega (arith, counted, fits, length-take closed bytes, length-drop forgotten (take closed bytes)) in
    ap (λ (l : List ℕ). cut_by_lengths kept (reverse l)) (sym more)
    ∙ pieces_newest n 0 m (sum sizes) sizes kept (drop forgotten (take closed bytes)) (omega arith) many refl are is

-- if no byte is after the closed ones, the closed ones are all
pub none_open : (bytes : List ℕ) (closed : ℕ) → closed ≤ length bytes → reverse (drop closed bytes) ≡ []
    → closed ≡ length bytes
none_open bytes closed fits none =
    omega (arith, length-drop closed bytes, length-reverse (drop closed bytes), ap length none)

-- the last byte off, of the live ones
pub live_off : (all bytes : List ℕ) (forgotten byte : ℕ) → all ≡ bytes ++ byte ∷ [] → forgotten ≤ length bytes
    → drop forgotten all ≡ drop forgotten bytes ++ byte ∷ []
live_off all bytes forgotten byte is within = ap (drop forgotten) is ∙ drop-append-le forgotten bytes (byte ∷ []) within

-- the long sizes that are left if the newest byte means one of them
pub newest_count : (all bytes longs rest : List ℕ) (byte more : ℕ) → all ≡ bytes ++ byte ∷ [] →
    longs ≡ rest ++ more ∷ [] → 255 ≤ byte → long_count (reverse all) ≡ length longs →
    long_count (reverse bytes) ≡ length rest
newest_count all bytes longs rest byte more are long_are long matched =
    let turned : long_count (reverse all) ≡ long_by (nat_lt byte 255) + long_count (reverse bytes) =
    ap (λ (l : List ℕ). long_count (reverse l)) are ∙ ap long_count (reverse-append bytes (byte ∷ [])) in
    omega (
      arith,
      turned,
      matched,
      ap long_by (is_long byte long),
      ap length long_are,
      length_push rest more,
    )

-- the first byte of the live ones
pub first_live : (bytes : List ℕ) (forgotten byte : ℕ) → forgotten < length bytes → byte ≡ get_or bytes forgotten byte
    → drop forgotten bytes ≡ byte ∷ drop (forgotten + 1) bytes
first_live bytes forgotten byte some is =
    drop_more bytes forgotten byte some ∙ ap (λ (b : ℕ). b ∷ drop (forgotten + 1) bytes) (sym is)
