-- The parts of lines, and the lines of parts.
use Rattle.std.proofs.Common.{◌≡◌, ◌==◌, ℕ, suc, ◌+◌, ◌<◌, Bool, true, false, List, [], ◌∷◌, ◌++◌, length, map, take}
use Rattle.std.proofs.Common.{drop, replicate, refl, sym, ap, ◌∙◌, append_assoc, arith, rules}
use Rattle.std.specs.List.{position_or_len, prefix_len}
use Rattle.ss_words.specs.declared.characters.TheConstants.{ASTERISK}
use Rattle.ss_report.specs.Pictures.{Part, field, byte, line_end, with_asterisk, line_parts, picture_parts}
use Rattle.ss_report.specs.Pieces.{before_first_line, lines_with_parts}

abbrev pub is_asterisk : ℕ → Bool
is_asterisk b = b == ASTERISK

one-add : (n : ℕ) → 1 + n ≡ suc n
one-add n = omega arith

line_parts-asterisk : (b : ℕ) (bs : List ℕ) → is_asterisk b ≡ true → line_parts (b ∷ bs) ≡ with_asterisk (line_parts bs)
line_parts-asterisk b bs e = rw e

line_parts-other : (b : ℕ) (bs : List ℕ) → is_asterisk b ≡ false → line_parts (b ∷ bs) ≡ byte b ∷ line_parts bs
line_parts-other b bs e = rw e

drop-one : (n b : ℕ) (bs : List ℕ) → drop (1 + n) (b ∷ bs) ≡ drop n bs
drop-one n b bs = rw one-add refl

take-one : (n b : ℕ) (bs : List ℕ) → take (1 + n) (b ∷ bs) ≡ b ∷ take n bs
take-one n b bs = rw one-add refl

-- asterisks in front are one field, as long as they are many
abbrev BeginsWithField : List ℕ → Type 0
BeginsWithField bs =
    with_asterisk (line_parts bs) ≡ field (1 + prefix_len is_asterisk bs)
    ∷ line_parts (drop (prefix_len is_asterisk bs) bs)

BeginsWithField-cons : (b : ℕ) (bs : List ℕ) (t : Bool) → is_asterisk b ≡ t → BeginsWithField bs
    → BeginsWithField (b ∷ bs)
BeginsWithField-cons b bs true e ih =
    rw (line_parts-asterisk b bs e) (rw e (rw drop-one (ap with_asterisk ih)))
BeginsWithField-cons b bs false e ih =
    rw (line_parts-other b bs e) (rw e (sym (ap (λ (ps : List Part). field 1 ∷ ps) (line_parts-other b bs e))))

BeginsWithField-all : (bs : List ℕ) → BeginsWithField bs
BeginsWithField-all [] = refl
BeginsWithField-all (b ∷ bs) = BeginsWithField-cons b bs (is_asterisk b) refl (BeginsWithField-all bs)

line_parts-field_cons : (b : ℕ) (bs : List ℕ) (t : Bool) → is_asterisk b ≡ t → 0 < prefix_len is_asterisk (b ∷ bs)
    → line_parts (b ∷ bs) ≡ field (prefix_len is_asterisk (b ∷ bs))
    ∷ line_parts (drop (prefix_len is_asterisk (b ∷ bs)) (b ∷ bs))
line_parts-field_cons b bs true e h = rw (line_parts-asterisk b bs e) (rw e (rw drop-one (BeginsWithField-all bs)))
line_parts-field_cons b bs false e h = let z : 0 < 0 = rw e at h in absurd (omega arith)

-- a line that begins with asterisks begins with that field
line_parts-field : (bs : List ℕ) → 0 < prefix_len is_asterisk bs
    → line_parts bs ≡ field (prefix_len is_asterisk bs) ∷ line_parts (drop (prefix_len is_asterisk bs) bs)
line_parts-field [] h = absurd (omega arith)
line_parts-field (b ∷ bs) h = line_parts-field_cons b bs (is_asterisk b) refl h

-- a field, and the parts after it
pub first_field : (bs behind : List ℕ) (width : ℕ) → width ≡ prefix_len is_asterisk bs → 0 < width
    → behind ≡ drop width bs → line_parts bs ≡ field width ∷ line_parts behind
first_field bs behind width e h b = rw (b, e) (line_parts-field bs (rw e at h))

-- the other bytes in front are parts as they are
abbrev BeginsWithBytes : List ℕ → Type 0
BeginsWithBytes bs =
    line_parts bs ≡ map (λ b. byte b) (take (position_or_len is_asterisk bs) bs)
    ++ line_parts (drop (position_or_len is_asterisk bs) bs)

BeginsWithBytes-cons : (b : ℕ) (bs : List ℕ) (t : Bool) → is_asterisk b ≡ t → BeginsWithBytes bs
    → BeginsWithBytes (b ∷ bs)
BeginsWithBytes-cons b bs true e ih = rw (line_parts-asterisk b bs e) (rw e (sym (line_parts-asterisk b bs e)))
BeginsWithBytes-cons b bs false e ih =
    rw (line_parts-other b bs e) (rw e (rw (drop-one, take-one) (ap (λ (ps : List Part). byte b ∷ ps) ih)))

line_parts-bytes : (bs : List ℕ) → BeginsWithBytes bs
line_parts-bytes [] = refl
line_parts-bytes (b ∷ bs) = BeginsWithBytes-cons b bs (is_asterisk b) refl (line_parts-bytes bs)

-- bytes, and the parts after them
pub first_bytes : (bs text behind : List ℕ) (n : ℕ) → n ≡ position_or_len is_asterisk bs → text ≡ take n bs
    → behind ≡ drop n bs → line_parts bs ≡ map (λ b. byte b) text ++ line_parts behind
first_bytes bs text behind n e t b = rw (t, b, e) (line_parts-bytes bs)

some_bytes_cons : (b : ℕ) (bs : List ℕ) (t : Bool) → is_asterisk b ≡ t → prefix_len is_asterisk (b ∷ bs) ≡ 0
    → 0 < position_or_len is_asterisk (b ∷ bs)
some_bytes_cons b bs true e z = let y : 1 + prefix_len is_asterisk bs ≡ 0 = rw e at z in absurd (omega arith)
some_bytes_cons b bs false e z = rw e (omega arith)

-- a line that does not begin with an asterisk begins with another byte
pub some_bytes : (bs : List ℕ) → 0 < length bs → prefix_len is_asterisk bs ≡ 0 → 0 < position_or_len is_asterisk bs
some_bytes [] h z = absurd (omega arith)
some_bytes (b ∷ bs) h z = some_bytes_cons b bs (is_asterisk b) refl z

before_first_line-twice : (cs bs : List ℕ) (ls : List (List ℕ))
    → before_first_line cs (before_first_line bs ls) ≡ before_first_line (cs ++ bs) ls
before_first_line-twice cs bs [] = refl
before_first_line-twice cs bs (l ∷ ls) = ap (λ (x : List ℕ). x ∷ ls) (sym (append_assoc cs bs l))

lines_with_parts-with_asterisk : (ps rest : List Part)
    → lines_with_parts (with_asterisk ps ++ rest) ≡ before_first_line (ASTERISK ∷ []) (lines_with_parts (ps ++ rest))
lines_with_parts-with_asterisk [] rest = refl
lines_with_parts-with_asterisk (field n ∷ ps) rest =
    rw one-add (sym (before_first_line-twice (ASTERISK ∷ []) (replicate n ASTERISK) (lines_with_parts (ps ++ rest))))
lines_with_parts-with_asterisk (byte b ∷ ps) rest = refl
lines_with_parts-with_asterisk (line_end ∷ ps) rest = refl

abbrev IsReadBack : List ℕ → List Part → Type 0
IsReadBack l rest = lines_with_parts (line_parts l ++ line_end ∷ rest) ≡ l ∷ lines_with_parts rest

IsReadBack-cons : (b : ℕ) (bs : List ℕ) (rest : List Part) (t : Bool) → is_asterisk b ≡ t → (t ≡ true → ASTERISK ≡ b)
    → IsReadBack bs rest → IsReadBack (b ∷ bs) rest
IsReadBack-cons b bs rest true e star ih =
    rw e (lines_with_parts-with_asterisk (line_parts bs) (line_end ∷ rest)
    ∙ rw ih (ap (λ (x : ℕ). (x ∷ bs) ∷ lines_with_parts rest) (star refl)))
IsReadBack-cons b bs rest false e star ih = rw e (rw ih refl)

IsReadBack-all : (l : List ℕ) (rest : List Part) → IsReadBack l rest
IsReadBack-all [] rest = refl
IsReadBack-all (b ∷ bs) rest =
    IsReadBack-cons b bs rest (is_asterisk b) refl (λ e. search (rules, e)) (IsReadBack-all bs rest)

-- the lines of a picture's parts are its lines
pub lines_with_parts-picture_parts : (ls : List (List ℕ)) → lines_with_parts (picture_parts ls) ≡ ls
lines_with_parts-picture_parts [] = refl
lines_with_parts-picture_parts (l ∷ ls) =
    rw append_assoc (IsReadBack-all l (picture_parts ls)
    ∙ ap (λ (x : List (List ℕ)). l ∷ x) (lines_with_parts-picture_parts ls))
