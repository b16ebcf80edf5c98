-- The one MAIN exists, and a search finds it.
use Rattle.std.proofs.Common.{◌≡◌, ℕ, suc, ◌+◌, ◌<◌, ◌≤◌, List, [], ◌∷◌, length, Bool, true, false, not, arith, refl}
use Rattle.std.proofs.Common.{sym, ◌∙◌, Some, None, nat_lt}
use Rattle.std.proofs.lemmas.Bool.{ltb-false}
use Rattle.std.specs.Prelude.{count_by, position, cond}
use Rattle.std.specs.List.{position_or_len}
use Rattle.std.proofs.lemmas.List.Sums.{sum_by-cons}
use Rattle.ss_program.specs.Program.{is_main, ProgramTable}
use Rattle.ss_program.specs.ProgramSound.{IsSound}

one_more : (b : Bool) (k i n : ℕ) → cond b 1 0 + k ≡ 1 → (k ≡ 1 → i < n) → cond (not b) (1 + i) 0 < suc n
one_more true k i n h f = omega arith
one_more false k i n h f = let l : i < n = f (omega (arith, h)) in omega (arith, l)

one_of : {X : Type 0} (p : X → Bool) (xs : List X) → count_by p xs ≡ 1 → position_or_len p xs < length xs
one_of p [] h = omega (arith, h)
one_of {X = X} p (x ∷ xs) h =
    one_more (p x) (count_by p xs) (position_or_len p xs) (length xs)
    (sym (sum_by-cons (λ (y : X). cond (p y) 1 0) x xs) ∙ h) (one_of p xs)

pub one_main : (p : ProgramTable) → IsSound p → position_or_len is_main p.sections < length p.sections
one_main p h = one_of is_main p.sections h.main

-- the first that passes
found_at : (b : Bool) (i n : ℕ) → Some n ≡ cond b (Some i) None → n ≡ i
found_at true i n h = cc
found_at false i n h = cc

pub found_first : {X : Type 0} (p : X → Bool) (xs : List X) (n : ℕ) → Some n ≡ position p xs → n ≡ position_or_len p xs
found_first p xs n h = found_at (nat_lt (position_or_len p xs) (length xs)) _ n h

pub position_or_len-le : {X : Type 0} (p : X → Bool) (xs : List X) → position_or_len p xs ≤ length xs
position_or_len-le p [] = omega arith
position_or_len-le p (x ∷ xs) = at_most (p x) (position_or_len-le p xs)
  where
    at_most : (b : Bool) → position_or_len p xs ≤ length xs →
        cond (not b) (1 + position_or_len p xs) 0 ≤ suc (length xs)
    at_most true h = omega arith
    at_most false h = omega (arith, h)

none_at : (i n : ℕ) (b : Bool) → nat_lt i n ≡ b → None ≡ cond b (Some i) None → i ≤ n → n ≡ i
none_at i n true e h le = cc
none_at i n false e h le = omega (arith, ltb-false i n e)

-- if nothing is found, the number is the one after the last
pub found_none : {X : Type 0} (p : X → Bool) (xs : List X) → None ≡ position p xs → length xs ≡ position_or_len p xs
found_none p xs h =
    none_at (position_or_len p xs) (length xs) (nat_lt (position_or_len p xs) (length xs)) refl h
    (position_or_len-le p xs)

pub found_main : (p : ProgramTable) (n : ℕ) → Some n ≡ position is_main p.sections →
    n ≡ position_or_len is_main p.sections
found_main p n h = found_first is_main p.sections n h
