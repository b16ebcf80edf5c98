-- The place after the next mark, found by a walk from item to item.
use Rattle.std.proofs.Common.{◌≡◌, ℕ, ◌+◌, Bool, true, false, cond, nat_lt, List, [], ◌∷◌, map, drop, length, Option}
use Rattle.std.proofs.Common.{Some, None, refl, ap, ◌∙◌, arith, zero, suc}
use Rattle.std.proofs.lemmas.Grind.{common_steps}
use Rattle.std.proofs.lemmas.Bool.Decides.{nat_tests}
use Rattle.std.specs.List.{slice_get, position, position_or_len}
use Rattle.std.specs.Option.{option_map}
use Rattle.std.proofs.lemmas.Option.{slice_get-map}
use Rattle.ss_data.specs.Items.{Item, item}
use Rattle.ss_data.specs.Entries.{is_mark, behind_mark}

drop-at : {A : Type 0} (xs : List A) (i : ℕ) (x : A) → slice_get xs i ≡ Some x → drop i xs ≡ x ∷ drop (suc i) xs
drop-at [] i x h = cc
drop-at (y ∷ ys) zero x h = let e : y ≡ x = cc in rw e refl
drop-at (y ∷ ys) (suc i) x h = drop-at ys i x h

drop-none : {A : Type 0} (xs : List A) (i : ℕ) → slice_get xs i ≡ None → drop i xs ≡ []
drop-none [] zero h = refl
drop-none [] (suc i) h = refl
drop-none (y ∷ ys) zero h = cc
drop-none (y ∷ ys) (suc i) h = drop-none ys i h

front : (n : ℕ) → cond {A = Option ℕ} (nat_lt 0 (suc n)) (Some 0) None ≡ Some 0
front n = grind (arith, nat_tests, common_steps)

one_more : (q n : ℕ) → cond {A = Option ℕ} (nat_lt (1 + q) (suc n)) (Some (1 + q)) None
    ≡ option_map (λ k. 1 + k) (cond (nat_lt q n) (Some q) None)
one_more q n = grind (arith, nat_tests, common_steps)

position-here : {A : Type 0} (p : A → Bool) (x : A) (xs : List A) → p x ≡ true → position p (x ∷ xs) ≡ Some 0
position-here p x xs h = rw h (front (length xs))

position-later : {A : Type 0} (p : A → Bool) (x : A) (xs : List A) → p x ≡ false
    → position p (x ∷ xs) ≡ option_map (λ k. 1 + k) (position p xs)
position-later p x xs h = rw h (one_more (position_or_len p xs) (length xs))

from_next : (i : ℕ) (o : Option ℕ)
    → option_map (λ n. i + n + 1) (option_map (λ k. 1 + k) o) ≡ option_map (λ n. suc i + n + 1) o
from_next i None = refl
from_next i (Some n) = ap Some (omega arith)

item-at : (pieces : List (List ℕ)) (i : ℕ) (piece : List ℕ) → slice_get pieces i ≡ Some piece
    → drop i (map item pieces) ≡ item piece ∷ drop (suc i) (map item pieces)
item-at pieces i piece next =
    drop-at (map item pieces) i (item piece) (slice_get-map item pieces i ∙ ap (option_map item) next)

-- a mark there: the place is the one after it
pub place-here : (pieces : List (List ℕ)) (i : ℕ) (piece : List ℕ) → slice_get pieces i ≡ Some piece
    → is_mark piece ≡ true → behind_mark (map item pieces) i ≡ Some (i + 1)
place-here pieces i piece next mark =
    ap (λ (items : List Item). option_map (λ n. i + n + 1) (position (λ (k : Item). is_mark k.bytes) items))
    (item-at pieces i piece next)
    ∙ ap (option_map (λ n. i + n + 1))
    (position-here (λ (k : Item). is_mark k.bytes) (item piece) (drop (suc i) (map item pieces)) mark)
    ∙ ap Some (omega arith)

-- no mark there: the place is the one from the next item on
pub place-later : (pieces : List (List ℕ)) (i : ℕ) (piece : List ℕ) → slice_get pieces i ≡ Some piece
    → is_mark piece ≡ false → behind_mark (map item pieces) i ≡ behind_mark (map item pieces) (i + 1)
place-later pieces i piece next other =
    let rest = drop (suc i) (map item pieces) in
    let next_place : suc i ≡ i + 1 = omega arith in
    ap (λ (items : List Item). option_map (λ n. i + n + 1) (position (λ (k : Item). is_mark k.bytes) items))
    (item-at pieces i piece next)
    ∙ ap (option_map (λ n. i + n + 1)) (position-later (λ (k : Item). is_mark k.bytes) (item piece) rest other)
    ∙ from_next i (position (λ (k : Item). is_mark k.bytes) rest)
    ∙ ap (behind_mark (map item pieces)) next_place

-- nothing there: no mark is left
pub place-none : (pieces : List (List ℕ)) (i : ℕ) → slice_get pieces i ≡ None → behind_mark (map item pieces) i ≡ None
place-none pieces i end =
    rw (drop-none (map item pieces) i (slice_get-map item pieces i ∙ ap (option_map item) end)) refl
