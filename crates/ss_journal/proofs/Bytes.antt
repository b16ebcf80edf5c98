-- sizes in bytes, with the long ones in a list next to them
use Rattle.std.proofs.Common.{◌≡◌, ℕ, ◌+◌, ◌*◌, ◌<◌, ◌≤◌, List, [], ◌∷◌, ◌++◌, length, refl, ap, sym, ◌∙◌, suc, arith}
use Rattle.std.proofs.Common.{length-take, length-append}
use Rattle.std.specs.Prelude.{sum, reverse, take, Bool, true, false, nat_lt}
use Rattle.std.proofs.lemmas.Bool.{lt-ltb, le-ltb}
use Rattle.std.proofs.lemmas.List.{reverse-append, length-reverse, append-nil, take_at}
use Rattle.std.proofs.lemmas.List.Sums.{sum_by-cons, sum_by_push}
use Rattle.ss_journal.proofs.Cuts.{take-take}
use Rattle.ss_journal.specs.Pieces.{size_by, longs_behind, sizes_of, long_by, long_count}

-- there are as many sizes as bytes
pub length-sizes : (bytes longs : List ℕ) → length (sizes_of bytes longs) ≡ length bytes
length-sizes [] longs = refl
length-sizes (byte ∷ bytes) longs = ap suc (length-sizes bytes (longs_behind (nat_lt byte 255) longs))

within_by : (short : Bool) (byte : ℕ) (bytes longs : List ℕ) →
    ((rest : List ℕ) → long_count bytes ≡ length rest → 255 * length rest ≤ sum (sizes_of bytes rest)) →
    long_by short + long_count bytes ≡ length longs →
    255 * length longs ≤ sum (size_by short byte longs ∷ sizes_of bytes (longs_behind short longs))
within_by true byte bytes longs within matched =
    omega (arith, within longs (omega (arith, matched)), sum_by-cons (λ n. n) byte (sizes_of bytes longs))
within_by false byte bytes [] within matched = absurd (omega (arith, matched))
within_by false byte bytes (long ∷ longs) within matched =
    omega (
      arith,
      within longs (omega (arith, matched)),
      sum_by-cons (λ n. n) (255 + long) (sizes_of bytes longs),
    )

-- each long one counts for 255 changes at least
pub longs_within : (bytes longs : List ℕ) → long_count bytes ≡ length longs
    → 255 * length longs ≤ sum (sizes_of bytes longs)
longs_within [] [] matched = omega arith
longs_within [] (long ∷ longs) matched = absurd (omega (arith, matched))
longs_within (byte ∷ bytes) longs matched =
    within_by (nat_lt byte 255) byte bytes longs (λ rest is. longs_within bytes rest is) matched

append_by : (short : Bool) (byte : ℕ) (bytes others longs more : List ℕ) →
    ((rest : List ℕ) → long_count bytes ≡ length rest →
    sizes_of (bytes ++ others) (rest ++ more) ≡ sizes_of bytes rest ++ sizes_of others more) →
    long_by short + long_count bytes ≡ length longs →
    size_by short byte (longs ++ more) ∷ sizes_of (bytes ++ others) (longs_behind short (longs ++ more))
    ≡ size_by short byte longs ∷ (sizes_of bytes (longs_behind short longs) ++ sizes_of others more)
append_by true byte bytes others longs more append matched =
    ap (λ (rest : List ℕ). byte ∷ rest) (append longs (omega (arith, matched)))
append_by false byte bytes others [] more append matched = absurd (omega (arith, matched))
append_by false byte bytes others (long ∷ longs) more append matched =
    ap (λ (rest : List ℕ). (255 + long) ∷ rest) (append longs (omega (arith, matched)))

-- the sizes of two parts
pub sizes-append : (bytes others longs more : List ℕ) → long_count bytes ≡ length longs
    → sizes_of (bytes ++ others) (longs ++ more) ≡ sizes_of bytes longs ++ sizes_of others more
sizes-append [] others [] more matched = refl
sizes-append [] others (long ∷ longs) more matched = absurd (omega (arith, matched))
sizes-append (byte ∷ bytes) others longs more matched =
    append_by (nat_lt byte 255) byte bytes others longs more
    (λ rest is. sizes-append bytes others rest more is) matched

pub count-append : (bytes others : List ℕ) → long_count (bytes ++ others) ≡ long_count bytes + long_count others
count-append [] others = omega arith
count-append (byte ∷ bytes) others = omega (arith, count-append bytes others)

-- a byte of a short size, and one of a long size
pub is_short : (byte : ℕ) → byte < 255 → nat_lt byte 255 ≡ true
is_short byte h = lt-ltb byte 255 h

pub is_long : (byte : ℕ) → 255 ≤ byte → nat_lt byte 255 ≡ false
is_long byte h = le-ltb byte 255 h

-- how many long ones are left after an oldest byte
pub count_oldest : (all bytes : List ℕ) (byte : ℕ) → all ≡ byte ∷ bytes
    → long_count (reverse all) ≡ long_count (reverse bytes) + long_by (nat_lt byte 255)
count_oldest all bytes byte is =
    let turned : long_count (reverse all) ≡ long_count (reverse bytes ++ byte ∷ []) =
    ap (λ (l : List ℕ). long_count (reverse l)) is ∙ ap long_count (reverse-append (byte ∷ []) bytes) in
    let counted : long_count (reverse bytes ++ byte ∷ [])
    ≡ long_count (reverse bytes) + (long_by (nat_lt byte 255) + 0) = count-append (reverse bytes) (byte ∷ []) in
    omega (arith, turned, counted)

-- the long ones that are left after a short one, and after a long one
pub left_short : (all bytes longs : List ℕ) (byte : ℕ) → all ≡ byte ∷ bytes →
    long_count (reverse all) ≡ length longs → byte < 255 → long_count (reverse bytes) ≡ length longs
left_short all bytes longs byte are matched h =
    omega (arith, count_oldest all bytes byte are, matched, ap long_by (is_short byte h))

pub some_long : (all bytes longs : List ℕ) (byte : ℕ) → all ≡ byte ∷ bytes →
    long_count (reverse all) ≡ length longs → 255 ≤ byte → 0 < length longs
some_long all bytes longs byte are matched h =
    omega (arith, count_oldest all bytes byte are, matched, ap long_by (is_long byte h))

pub left_long : (all bytes longs rest : List ℕ) (byte more : ℕ) → all ≡ byte ∷ bytes → longs ≡ more ∷ rest →
    long_count (reverse all) ≡ length longs → 255 ≤ byte → long_count (reverse bytes) ≡ length rest
left_long all bytes longs rest byte more are long_are matched h =
    omega (arith, count_oldest all bytes byte are, matched, ap long_by (is_long byte h), ap length long_are)

-- one of some sizes is no more than all
pub first_fits : (all rest : List ℕ) (size : ℕ) → all ≡ size ∷ rest → size ≤ sum all
first_fits all rest size is = omega (arith, ap sum is, sum_by-cons (λ n. n) size rest)

pub last_fits : (all rest : List ℕ) (size : ℕ) → all ≡ rest ++ size ∷ [] → sum rest + size ≡ sum all
last_fits all rest size is = omega (arith, ap sum is, sum_by_push (λ n. n) rest size)

-- the newest size, if it is long
pub newest_long : (all bytes longs rest : List ℕ) (byte more : ℕ) → all ≡ bytes ++ byte ∷ [] →
    longs ≡ rest ++ more ∷ [] → 255 ≤ byte →
    sizes_of (reverse all) (reverse longs) ≡ (255 + more) ∷ sizes_of (reverse bytes) (reverse rest)
newest_long all bytes longs rest byte more are long_are h =
    rw (are, long_are, reverse-append, reverse-append, is_long byte h) refl

-- the oldest size, if it is short
pub oldest_short : (all bytes longs : List ℕ) (byte : ℕ) → all ≡ byte ∷ bytes →
    long_count (reverse all) ≡ length longs → byte < 255 →
    sizes_of (reverse all) (reverse longs) ≡ sizes_of (reverse bytes) (reverse longs) ++ byte ∷ []
oldest_short all bytes longs byte are matched h =
    let tells : long_by (nat_lt byte 255) ≡ 0 = ap long_by (is_short byte h) in
    let left : long_count (reverse bytes) ≡ length (reverse longs) =
    omega (arith, count_oldest all bytes byte are, matched, tells, length-reverse longs) in
    let turned : reverse all ≡ reverse bytes ++ byte ∷ [] =
    ap reverse are ∙ reverse-append (byte ∷ []) bytes in
    let whole : reverse longs ≡ reverse longs ++ [] = sym (append-nil (reverse longs)) in
    let cut = sizes-append (reverse bytes) (byte ∷ []) (reverse longs) [] left in
    let one : sizes_of (byte ∷ []) [] ≡ byte ∷ [] = rw (is_short byte h) refl in
    ap (λ (l : List ℕ). sizes_of l (reverse longs)) turned
    ∙ ap (sizes_of (reverse bytes ++ byte ∷ [])) whole ∙ cut
    ∙ ap (λ (l : List ℕ). sizes_of (reverse bytes) (reverse longs) ++ l) one

-- the oldest size, if it is long
pub oldest_long : (all bytes longs rest : List ℕ) (byte more : ℕ) → all ≡ byte ∷ bytes → longs ≡ more ∷ rest →
    long_count (reverse all) ≡ length longs → 255 ≤ byte →
    sizes_of (reverse all) (reverse longs) ≡ sizes_of (reverse bytes) (reverse rest) ++ (255 + more) ∷ []
oldest_long all bytes longs rest byte more are long_are matched h =
    let tells : long_by (nat_lt byte 255) ≡ 1 = ap long_by (is_long byte h) in
    let left : long_count (reverse bytes) ≡ length (reverse rest) =
    omega (arith, count_oldest all bytes byte are, matched, tells, length-reverse rest, ap length long_are) in
    let turned : reverse all ≡ reverse bytes ++ byte ∷ [] =
    ap reverse are ∙ reverse-append (byte ∷ []) bytes in
    let turned_longs : reverse longs ≡ reverse rest ++ more ∷ [] =
    ap reverse long_are ∙ reverse-append (more ∷ []) rest in
    let cut = sizes-append (reverse bytes) (byte ∷ []) (reverse rest) (more ∷ []) left in
    let one : sizes_of (byte ∷ []) (more ∷ []) ≡ (255 + more) ∷ [] = rw (is_long byte h) refl in
    ap (λ (l : List ℕ). sizes_of l (reverse longs)) turned
    ∙ ap (sizes_of (reverse bytes ++ byte ∷ [])) turned_longs ∙ cut
    ∙ ap (λ (l : List ℕ). sizes_of (reverse bytes) (reverse rest) ++ l) one

-- there is room for a size more that is long
pub room_for_long : (bytes longs : List ℕ) (size room : ℕ) → long_count (reverse bytes) ≡ length longs →
    size + sum (sizes_of (reverse bytes) (reverse longs)) ≤ 255 * room + 254 → 255 ≤ size → length longs < room
room_for_long bytes longs size room matched fits h =
    omega (
      arith,
      fits,
      h,
      length-reverse longs,
      longs_within (reverse bytes) (reverse longs) (matched ∙ sym (length-reverse longs)),
    )

-- taking the oldest of those that are left
pub one_fewer : (k n : ℕ) (all left fewer : List ℕ) (size : ℕ) → n ≡ suc k → left ≡ take n all → n ≤ length all →
    left ≡ fewer ++ size ∷ [] → fewer ≡ take k all
one_fewer k n all left fewer size more are few is =
    let many : length fewer ≡ k =
    omega (arith, more, few, ap length are, ap length is, length-take n all, length-append fewer (size ∷ [])) in
    sym (take_at fewer (size ∷ []) k many) ∙ ap (take k) (sym is ∙ are) ∙ take-take k n all (omega (arith, more))
