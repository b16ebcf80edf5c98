-- the values of attributes are read one by one
use Rattle.std.proofs.Common.{◌≡◌, ◌<◌, ◌+◌, ℕ, ℤ, zero, suc, List, [], ◌∷◌, ◌++◌, length, drop, Some}
use Rattle.std.proofs.Common.{Result, Ok, Err, arith, refl, ap, sym, subst, ◌∙◌}
use Rattle.std.specs.Prelude.{map, slice_get}
use Rattle.std.specs.List.{range_with_len}
use Rattle.std.proofs.lemmas.List.{append_assoc}
use Rattle.std.proofs.lemmas.List.FromFn.{get_or-range_with_len, length-range_with_len}
use Rattle.std.proofs.lemmas.Option.{slice_get-get_or}
use Rattle.ss_words.specs.declared.fault.RunFault.{RunFault}
use Rattle.ss_store.specs.Store.{Store, attribute_of}
use Rattle.ss_values.specs.Faults.{◌>>=◌}
use Rattle.ss_state.specs.Statements.Timing.{attributes_now}

behind_first : (r : Result (List ℤ) RunFault) (vs : List ℤ) (x : ℤ) →
    ((r >>= λ xs. Ok (x ∷ xs)) >>= λ xs. Ok (vs ++ xs)) ≡ (r >>= λ xs. Ok ((vs ++ x ∷ []) ++ xs))
behind_first (Ok xs) vs x = ap Ok (sym (append_assoc vs (x ∷ []) xs))
behind_first (Err e) vs x = refl

-- a value more is read
pub attributes_more : (st : Store) (c k i a : ℕ) (x : ℤ) (numbers : List ℕ) (vs : List ℤ) →
    slice_get numbers i ≡ Some a → attribute_of st c a k ≡ Ok x →
    (attributes_now st c k (drop (i + 1) numbers) >>= λ xs. Ok ((vs ++ x ∷ []) ++ xs))
    ≡ (attributes_now st c k (drop i numbers) >>= λ xs. Ok (vs ++ xs))
attributes_more st c k i a x [] vs e f = cc
attributes_more st c k zero a x (b ∷ rest) vs e f =
    let g : b ≡ a = cc in
    let h : attribute_of st c b k ≡ Ok x = subst (λ (n : ℕ). attribute_of st c n k ≡ Ok x) (sym g) f in
    rw h (sym (behind_first (attributes_now st c k rest) vs x))
attributes_more st c k (suc i) a x (b ∷ rest) vs e f =
    let z : suc i + 1 ≡ suc (i + 1) = omega arith in
    rw z (attributes_more st c k i a x rest vs e f)

-- the next one has no value
pub attributes_fail : (st : Store) (c k i a : ℕ) (fault : RunFault) (numbers : List ℕ) (vs : List ℤ) →
    slice_get numbers i ≡ Some a →
    attribute_of st c a k ≡ Err fault → (attributes_now st c k (drop i numbers) >>= λ xs. Ok (vs ++ xs)) ≡ Err fault
attributes_fail st c k i a fault [] vs e f = cc
attributes_fail st c k zero a fault (b ∷ rest) vs e f =
    let g : b ≡ a = cc in
    let h : attribute_of st c b k ≡ Err fault = subst (λ (n : ℕ). attribute_of st c n k ≡ Err fault) (sym g) f in
    rw h refl
attributes_fail st c k (suc i) a fault (b ∷ rest) vs e f = attributes_fail st c k i a fault rest vs e f

-- nothing is left to read
pub attributes_all : (st : Store) (c k i : ℕ) (numbers : List ℕ) (vs : List ℤ) → length numbers ≡ i →
    (attributes_now st c k (drop i numbers) >>= λ xs. Ok (vs ++ xs)) ≡ Ok vs
attributes_all st c k i [] vs e = rw (drop_none i) (ap Ok (append_none vs))
  where
    drop_none : (i : ℕ) → drop {A = ℕ} i [] ≡ []
    drop_none zero = refl
    drop_none (suc i) = refl

    append_none : (vs : List ℤ) → vs ++ [] ≡ vs
    append_none [] = refl
    append_none (v ∷ vs) = ap (λ l. v ∷ l) (append_none vs)
attributes_all st c k zero (b ∷ rest) vs e = cc
attributes_all st c k (suc i) (b ∷ rest) vs e = attributes_all st c k i rest vs (omega (arith, e))

pub mapped_at : {A B : Type 0} (f : A → B) (xs : List A) (i : ℕ) (x : A) → slice_get xs i ≡ Some x →
    slice_get (map f xs) i ≡ Some (f x)
mapped_at f [] i x e = cc
mapped_at f (y ∷ ys) zero x e = let g : y ≡ x = cc in ap (λ z. Some (f z)) g
mapped_at f (y ∷ ys) (suc i) x e = mapped_at f ys i x e

pub ranged_at : (n i : ℕ) → i < n → slice_get (range_with_len 0 n) i ≡ Some i
ranged_at n i h =
    let l : i < length (range_with_len 0 n) = omega (arith, length-range_with_len 0 n, h) in
    let z : 0 + i ≡ i = omega arith in
    slice_get-get_or (range_with_len 0 n) i 0 l ∙ ap Some (get_or-range_with_len 0 n i 0 h ∙ z)
