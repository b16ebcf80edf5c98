-- the numbers of the data are in range
use Rattle.std.proofs.Common.{◌≡◌, ◌<◌, ◌≤◌, ◌+◌, ◌^◌, ℕ, ℤ, pos, zero, suc, Bool, true, false, List, [], ◌∷◌, length}
use Rattle.std.proofs.Common.{Option, Some, None, Result, Ok, Err, arith, refl}
use Rattle.std.specs.Prelude.{map, slice_get, nat_lt, nat_le, neg_ℤ, ◌&&◌, ◌==◌, if◌then◌else◌}
use Rattle.std.proofs.lemmas.Bool.{lt-ltb, leb-true, and_parts}
use Rattle.ss_words.specs.declared.fault.RunFault.{RunFault}
use Rattle.ss_program.specs.declared.target.Target.{Target}
use Rattle.ss_data.specs.Numbers.{is_numeral, natural, non_negative, non_positive, number}
use Rattle.ss_data.specs.Pieces.{pieces}
use Rattle.ss_data.specs.Items.{Item, item, items, number_or_fault, value_or_fault}
use Rattle.ss_words.specs.declared.fault.RunFault.TheVariants.{OutsideEntry}
use Rattle.ss_data.specs.Entries.{kind_or_end}
use Rattle.ss_state.specs.Statements.Reading.{is_mark, value_taken, values_taken}
use Rattle.ss_state.specs.Well.{AreInRange, AreItemsInRange, IsNoneOrInRange}
use Rattle.ss_state.proofs.Ranges.{Got, after_got, unless_refused, IsIn}

-- ---- numbers that pieces write

non_negative_in : (digits : List ℕ) → IsNoneOrInRange (non_negative digits)
non_negative_in digits = chosen (is_numeral digits && nat_lt (natural digits) (2 ^ 63)) refl
  where
    chosen : (b : Bool) → (is_numeral digits && nat_lt (natural digits) (2 ^ 63)) ≡ b →
        IsNoneOrInRange (if b then Some (pos (natural digits)) else None)
    chosen true e = (and_parts (is_numeral digits) (nat_lt (natural digits) (2 ^ 63)) e).1
    chosen false e = tt

negated_in : (n : ℕ) → n ≤ 2 ^ 63 → IsIn (neg_ℤ (pos n))
negated_in zero h = refl
negated_in (suc n) h = lt-ltb n (2 ^ 63) (omega (arith, h))

non_positive_in : (digits : List ℕ) → IsNoneOrInRange (non_positive digits)
non_positive_in digits = chosen (is_numeral digits && nat_le (natural digits) (2 ^ 63)) refl
  where
    chosen : (b : Bool) → (is_numeral digits && nat_le (natural digits) (2 ^ 63)) ≡ b →
        IsNoneOrInRange (if b then Some (neg_ℤ (pos (natural digits))) else None)
    chosen true e = negated_in (natural digits) (leb-true _ _
        (and_parts (is_numeral digits) (nat_le (natural digits) (2 ^ 63)) e).1)
    chosen false e = tt

number_in : (piece : List ℕ) → IsNoneOrInRange (number piece)
number_in [] = tt
number_in (byte ∷ bytes) = chosen (byte == 45) (byte == 43)
  where
    chosen : (b c : Bool) → IsNoneOrInRange
        (if b then non_positive bytes else (if c then non_negative bytes else non_negative (byte ∷ bytes)))
    chosen true c = non_positive_in bytes
    chosen false true = non_negative_in bytes
    chosen false false = non_negative_in (byte ∷ bytes)

pieces_in : (ps : List (List ℕ)) → AreItemsInRange (map item ps)
pieces_in [] = tt
pieces_in (p ∷ ps) = (number_in p, pieces_in ps)

-- items that are each that of its bytes
pub known_in : (is : List Item) → AreItemsInRange (map (λ i. item i.bytes) is)
known_in [] = tt
known_in (i ∷ is) = (number_in i.bytes, known_in is)

-- those of any data
pub items_in : (text : List ℕ) → AreItemsInRange (items text)
items_in text = pieces_in (pieces text)

-- ---- values taken

-- a value in range, from an item that is there
abbrev pub IsThere : List Item → ℕ → ℤ → Type 0
IsThere xs i x = IsIn x × (i < length xs)

first_there : (o : Option ℤ) (xs : List Item) → IsNoneOrInRange o → 0 < length xs →
    Got (IsThere xs 0) (number_or_fault o)
first_there None xs h l = tt
first_there (Some x) xs h l = (h, l)

later_there : (y : Item) (xs : List Item) (i : ℕ) (r : Result ℤ RunFault) → Got (IsThere xs i) r →
    Got (IsThere (y ∷ xs) (suc i)) r
later_there y xs i (Ok x) h = (h.0, omega (arith, h.1))
later_there y xs i (Err e) h = tt

pub item_there : (xs : List Item) (i : ℕ) → AreItemsInRange xs → Got (IsThere xs i) (value_or_fault (slice_get xs i))
item_there [] i h = tt
item_there (x ∷ xs) zero h = first_there x.value (x ∷ xs) h.0 (omega arith)
item_there (x ∷ xs) (suc i) h = later_there x xs i (value_or_fault (slice_get xs i)) (item_there xs i h.1)

-- values in range, from items that are there
abbrev pub AreThere : List Item → ℕ → List Target → List ℤ → Type 0
AreThere xs i ts vs = AreInRange vs × (i + length ts ≤ length xs)

value_there : (external : Bool) (xs : List Item) (i : ℕ) → AreItemsInRange xs →
    Got (IsThere xs i) (value_taken external (slice_get xs i))
value_there external xs i h =
    unless_refused (IsThere xs i) (external && is_mark (kind_or_end (slice_get xs i))) OutsideEntry
    (value_or_fault (slice_get xs i)) (item_there xs i h)

pub taken_there : (external : Bool) (xs : List Item) (i : ℕ) (ts : List Target) → AreItemsInRange xs → i ≤ length xs →
    Got (AreThere xs i ts) (values_taken external xs i ts)
taken_there external xs i [] h l = (tt, omega (arith, l))
taken_there external xs i (t ∷ ts) h l =
    after_got (IsThere xs i) (AreThere xs i (t ∷ ts)) (value_taken external (slice_get xs i)) _
    (value_there external xs i h) (λ v a.
    after_got (AreThere xs (i + 1) ts) (AreThere xs i (t ∷ ts)) (values_taken external xs (i + 1) ts) _
    (taken_there external xs (i + 1) ts h (omega (arith, a.1))) (λ vs b. ((a.0, b.0), omega (arith, b.1))))
