-- The results of std's parsing of an integer, in this crate's words.
use Rattle.std.proofs.Common.{◌≡◌, ◌≢◌, ℕ, ℤ, pos, neg_ℤ, ◌+◌, ◌-◌, ◌*◌, ◌^◌, ◌<◌, ◌≤◌, ◌⊎◌, inl, inr, true, false}
use Rattle.std.proofs.Common.{List, [], ◌∷◌, length, rules, refl, arith, Option, Some, None, Result, Ok, Err, w64, eqb}
use Rattle.std.proofs.Common.{fold, subst, zero, suc}
use Rattle.std.proofs.lemmas.Grind.{common_steps}
use Rattle.std.proofs.lemmas.Bool.Decides.{nat_tests, eqb_tells}
use Rattle.std.proofs.lemmas.Str.Parse.{IsNumeralModel, numerals_by_fold, parse_signed_minus, parse_signed_plain}
use Rattle.std.proofs.lemmas.Str.Parse.{parse_signed_plus}
use lib.Signed.{mag}
use Rattle.std.specs.Prelude.{FitsSigned}
use Rattle.std.proofs.lemmas.Str.{IsUtf8-from_ascii}
use Rattle.std.proofs.lemmas.Str.Ascii.{IsAscii-cons}
use Rattle.std.proofs.lemmas.Fmt.{IsAscii-from_digits}
use Rattle.std.specs.Str.{all_ascii_digits, IsAscii, IsUtf8}
use Rattle.std.specs.Str.Parse.{ParsesSigned}
use Rattle.std.specs.Result.{OkIff, result_ok, MatchResult}
use Rattle.ss_data.specs.Numbers.{number, non_negative, non_positive, natural}

-- std's word for digits and this crate's word for their value fit std's parsing
own : IsNumeralModel (λ ds. all_ascii_digits ds ≡ true) natural
own = numerals_by_fold _ (search rules) (fold (λ n digit. n * 10 + (digit - 48))) (search rules)

from_zero : {E : Type 0} (ds : List ℕ) (r : Result ℤ E)
    → OkIff r ((all_ascii_digits ds ≡ true) × (0 < length ds) × (natural ds < 2 ^ 63)) (pos (natural ds))
    → result_ok r ≡ non_negative ds
from_zero ds (Ok z) h = grind (arith, nat_tests, common_steps)
from_zero ds (Err e) h = grind (arith, nat_tests, common_steps)

to_zero : {E : Type 0} (ds : List ℕ) (r : Result ℤ E)
    → OkIff r ((all_ascii_digits ds ≡ true) × (0 < length ds) × (natural ds ≤ 2 ^ 63)) (neg_ℤ (pos (natural ds)))
    → result_ok r ≡ non_positive ds
to_zero ds (Ok z) h = grind (arith, nat_tests, common_steps)
to_zero ds (Err e) h = grind (arith, nat_tests, common_steps)

-- a byte is `-`, or `+`, or neither
by_sign : {E : Type 0} (b : ℕ) (bs : List ℕ) (r : Result ℤ E) → ParsesSigned w64 10 (b ∷ bs) r
    → ((eqb b 45 ≡ true) × (b ≡ 45)) ⊎ ((eqb b 45 ≡ false) × (b ≢ 45))
    → ((eqb b 43 ≡ true) × (b ≡ 43)) ⊎ ((eqb b 43 ≡ false) × (b ≢ 43)) → result_ok r ≡ number (b ∷ bs)
by_sign b bs r h (inl minus) plus = rw minus.0 (to_zero bs r (parse_signed_minus own w64 (b ∷ bs) r h minus.1))
by_sign b bs r h (inr minus) (inl plus) =
    rw (minus.0, plus.0) (from_zero bs r (parse_signed_plus own w64 (b ∷ bs) r h plus.1))
by_sign b bs r h (inr minus) (inr plus) =
    rw (minus.0, plus.0) (from_zero (b ∷ bs) r (parse_signed_plain own w64 (b ∷ bs) r h plus.1 minus.1))

-- the empty text is no number
empty : {E : Type 0} (r : Result ℤ E) → ParsesSigned w64 10 [] r → result_ok r ≡ None
empty (Ok z) h = absurd (omega (arith, h.0.0.0))
empty (Err e) h = refl

pub number-parse : {E : Type 0} (bs : List ℕ) (r : Result ℤ E) → ParsesSigned w64 10 bs r → result_ok r ≡ number bs
number-parse [] r h = empty r h
number-parse (b ∷ bs) r h = by_sign b bs r h (eqb_tells b 45) (eqb_tells b 43)

-- ---- a number's bytes are ASCII, so std reads them as text
digits_IsAscii : (ds : List ℕ) → all_ascii_digits ds ≡ true → IsAscii ds
digits_IsAscii ds h = IsAscii-from_digits ds (own.to ds h)

from_zero_digits : (ds : List ℕ) (z : ℤ) → non_negative ds ≡ Some z → all_ascii_digits ds ≡ true
from_zero_digits ds z h = grind (arith, nat_tests, common_steps)

to_zero_digits : (ds : List ℕ) (z : ℤ) → non_positive ds ≡ Some z → all_ascii_digits ds ≡ true
to_zero_digits ds z h = grind (arith, nat_tests, common_steps)

signed_IsAscii : (b : ℕ) (bs : List ℕ) (z : ℤ) → number (b ∷ bs) ≡ Some z
    → ((eqb b 45 ≡ true) × (b ≡ 45)) ⊎ ((eqb b 45 ≡ false) × (b ≢ 45))
    → ((eqb b 43 ≡ true) × (b ≡ 43)) ⊎ ((eqb b 43 ≡ false) × (b ≢ 43)) → IsAscii (b ∷ bs)
signed_IsAscii b bs z h (inl minus) plus =
    IsAscii-cons b bs (omega (arith, minus.1)) (digits_IsAscii bs (to_zero_digits bs z (rw minus.0 at h)))
signed_IsAscii b bs z h (inr minus) (inl plus) =
    IsAscii-cons b bs (omega (arith, plus.1)) (digits_IsAscii bs (from_zero_digits bs z (rw (minus.0, plus.0) at h)))
signed_IsAscii b bs z h (inr minus) (inr plus) =
    digits_IsAscii (b ∷ bs) (from_zero_digits (b ∷ bs) z (rw (minus.0, plus.0) at h))

number-IsAscii : (bs : List ℕ) (z : ℤ) → number bs ≡ Some z → IsAscii bs
number-IsAscii [] z h = cc
number-IsAscii (b ∷ bs) z h = signed_IsAscii b bs z h (eqb_tells b 45) (eqb_tells b 43)

none_unless_text : (bs : List ℕ) (o : Option ℤ) → number bs ≡ o → ¬ (IsUtf8 bs) → None ≡ o
none_unless_text bs None h not_text = refl
none_unless_text bs (Some z) h not_text = absurd (not_text (IsUtf8-from_ascii bs (number-IsAscii bs z h)))

-- bytes that are no text are no number
pub none-from_utf8 : {S E : Type 0} (bs : List ℕ) (r : Result S E) (P : S → Type 0) (Q : E → Type 0)
    → None ≡ result_ok r → MatchResult r P (λ e. ¬ (IsUtf8 bs) × Q e) → None ≡ number bs
none-from_utf8 bs (Ok s) P Q none h = cc
none-from_utf8 bs (Err e) P Q none h = none_unless_text bs (number bs) refl h.0

-- the text that std reads has the property that std promises of a text
pub text-from_utf8 : {S E : Type 0} (r : Result S E) (text : S) (P : S → Type 0) (Q : E → Type 0)
    → Some text ≡ result_ok r → MatchResult r P Q → P text
text-from_utf8 (Ok s) text P Q is h = let e : s ≡ text = cc in subst P e h
text-from_utf8 (Err e) text P Q is h = cc

-- ---- a number is in range
from_zero_fits : (ds : List ℕ) (z : ℤ) → non_negative ds ≡ Some z → mag z < 2 ^ 63
from_zero_fits ds z h = grind (arith, nat_tests, common_steps)

mag_neg : (n : ℕ) → n ≤ 2 ^ 63 → mag (neg_ℤ (pos n)) < 2 ^ 63
mag_neg zero h = omega arith
mag_neg (suc n) h = omega arith

to_zero_value : (ds : List ℕ) (z : ℤ) → non_positive ds ≡ Some z
    → (z ≡ neg_ℤ (pos (natural ds))) × (natural ds ≤ 2 ^ 63)
to_zero_value ds z h = grind (arith, nat_tests, common_steps)

to_zero_fits : (ds : List ℕ) (z : ℤ) → non_positive ds ≡ Some z → mag z < 2 ^ 63
to_zero_fits ds z h = let v = to_zero_value ds z h in rw v.0 (mag_neg (natural ds) v.1)

signed_fits : (b : ℕ) (bs : List ℕ) (z : ℤ) → number (b ∷ bs) ≡ Some z
    → ((eqb b 45 ≡ true) × (b ≡ 45)) ⊎ ((eqb b 45 ≡ false) × (b ≢ 45))
    → ((eqb b 43 ≡ true) × (b ≡ 43)) ⊎ ((eqb b 43 ≡ false) × (b ≢ 43)) → mag z < 2 ^ 63
signed_fits b bs z h (inl minus) plus = to_zero_fits bs z (rw minus.0 at h)
signed_fits b bs z h (inr minus) (inl plus) = from_zero_fits bs z (rw (minus.0, plus.0) at h)
signed_fits b bs z h (inr minus) (inr plus) = from_zero_fits (b ∷ bs) z (rw (minus.0, plus.0) at h)

pub number-fits : (bs : List ℕ) (z : ℤ) → number bs ≡ Some z → FitsSigned w64 z
number-fits [] z h = cc
number-fits (b ∷ bs) z h = record { sfits = signed_fits b bs z h (eqb_tells b 45) (eqb_tells b 43) }
