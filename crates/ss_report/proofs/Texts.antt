-- How long the text of parts is, and the text of some parts before others.
use Rattle.std.proofs.Common.{◌≡◌, ℕ, ℤ, ◌+◌, ◌-◌, ◌≤◌, Bool, true, false, cond, leb, List, [], ◌∷◌, ◌++◌, length, map}
use Rattle.std.proofs.Common.{replicate, refl, ap, ◌∙◌, arith, rules, length-append}
use Rattle.std.proofs.lemmas.List.Sums.{sum_by-cons}
use Rattle.std.specs.List.{count_by}
use Rattle.std.specs.Fmt.{signed_decimal}
use lib.ListN.{length-replicate}
use Rattle.ss_words.specs.declared.characters.TheConstants.{ASTERISK, BLANK}
use Rattle.ss_report.specs.Pictures.{Part, field, byte, line_end, is_field, field_text, parts_text}
use Rattle.ss_report.specs.Pieces.{part_len, parts_len}

length_padded : (n : ℕ) (text : List ℕ) (t : Bool) → leb (length text) n ≡ t → (t ≡ true → length text ≤ n)
    → length (cond t (replicate (n - length text) BLANK ++ text) (replicate n ASTERISK)) ≡ n
length_padded n text true e le =
    let h : length text ≤ n = le refl in simp (length-append, length-replicate) (omega arith)
length_padded n text false e le = length-replicate {A = ℕ} n ASTERISK

pub length-field_text : (n : ℕ) (v : ℤ) → length (field_text n v) ≡ n
length-field_text n v =
    length_padded n (signed_decimal v) (leb (length (signed_decimal v)) n) refl (λ e. search (rules, e))

pub parts_len-cons : (p : Part) (ps : List Part) → parts_len (p ∷ ps) ≡ part_len p + parts_len ps
parts_len-cons p ps = sum_by-cons part_len p ps

-- whatever the values, the text is as long as the parts
pub length-parts_text : (ps : List Part) (vs : List ℤ) → length (parts_text ps vs) ≡ parts_len ps
length-parts_text [] vs = refl
length-parts_text (field n ∷ ps) [] =
    length-append (replicate n ASTERISK) (parts_text ps [])
    ∙ omega (arith, length-replicate {A = ℕ} n ASTERISK, length-parts_text ps [], parts_len-cons (field n) ps)
length-parts_text (field n ∷ ps) (v ∷ vs) =
    length-append (field_text n v) (parts_text ps vs)
    ∙ omega (arith, length-field_text n v, length-parts_text ps vs, parts_len-cons (field n) ps)
length-parts_text (byte b ∷ ps) vs = omega (arith, length-parts_text ps vs, parts_len-cons (byte b) ps)
length-parts_text (line_end ∷ ps) vs = omega (arith, length-parts_text ps vs, parts_len-cons line_end ps)

-- bytes that are no fields stay
pub parts_text-bytes : (bs : List ℕ) (ps : List Part) (vs : List ℤ)
    → parts_text (map (λ b. byte b) bs ++ ps) vs ≡ bs ++ parts_text ps vs
parts_text-bytes [] ps vs = refl
parts_text-bytes (b ∷ bs) ps vs = ap (λ (x : List ℕ). b ∷ x) (parts_text-bytes bs ps vs)

pub parts_len-bytes : (bs : List ℕ) → parts_len (map (λ b. byte b) bs) ≡ length bs
parts_len-bytes [] = refl
parts_len-bytes (b ∷ bs) = omega (arith, parts_len-bytes bs, parts_len-cons (byte b) (map (λ b. byte b) bs))

pub count_by-bytes : (bs : List ℕ) → count_by is_field (map (λ b. byte b) bs) ≡ 0
count_by-bytes [] = refl
count_by-bytes (b ∷ bs) =
    omega (arith, count_by-bytes bs, sum_by-cons (λ (p : Part). cond (is_field p) 1 0) (byte b) (map (λ b. byte b) bs))
