-- The spelling of a run.
use Rattle.std.proofs.Common.{◌≡◌, ℕ, ◌+◌, ◌-◌, ◌*◌, ◌<◌, ◌≤◌, Bool, ◌==◌, cond, List, [], ◌∷◌, ◌++◌, take, drop}
use Rattle.std.proofs.Common.{length, get_or, fold, refl, sym, ap, ◌∙◌, subst, arith, take-append-drop}
use Rattle.std.proofs.lemmas.List.{take_more}
use Rattle.std.proofs.lemmas.List.Sums.{fold_more}
use Rattle.std.proofs.lemmas.Grind.{fold-append}
use Rattle.ss_words.specs.TextRuns.{without_stops, number_of}
use Rattle.ss_words.proofs.TextBytesLemmas.{eqb-not}

-- one more stop at the end is dropped too
without_stops-stop : (xs : List ℕ) → without_stops (xs ++ 46 ∷ []) ≡ without_stops xs
unfolding without_stops
without_stops-stop [] = refl
without_stops-stop (b ∷ bs) =
    ap (λ (r : List ℕ). elim r [ [] ↦ cond (b == 46) [] (b ∷ []) | c ∷ cs ↦ b ∷ c ∷ cs ]) (without_stops-stop bs)

cons_all : (b : ℕ) (xs ys : List ℕ) (c : ℕ) → ys ≡ xs ++ c ∷ []
    → (elim ys [ [] ↦ cond (b == 46) [] (b ∷ []) | d ∷ ds ↦ b ∷ d ∷ ds ]) ≡ b ∷ ys
cons_all b [] [] c e = absurd cc
cons_all b (x ∷ xs) [] c e = absurd cc
cons_all b xs (y ∷ ys) c e = refl

-- another byte at the end stays
without_stops-other : (xs : List ℕ) (c : ℕ) → (c ≡ 46 → ⊥) → without_stops (xs ++ c ∷ []) ≡ xs ++ c ∷ []
unfolding without_stops
without_stops-other [] c h = ap (λ (t : Bool). cond t [] (c ∷ [])) (eqb-not c 46 h)
without_stops-other (b ∷ bs) c h =
    cons_all b bs (without_stops (bs ++ c ∷ [])) c (without_stops-other bs c h)
    ∙ ap (λ (r : List ℕ). b ∷ r) (without_stops-other bs c h)

pub without_stops-none : without_stops [] ≡ []
unfolding without_stops
without_stops-none = refl

take_last : (xs : List ℕ) (n : ℕ) → 0 < n → n ≤ length xs → take n xs ≡ take (n - 1) xs ++ get_or xs (n - 1) 0 ∷ []
take_last xs n some within =
    let e : n ≡ (n - 1) + 1 = omega arith in
    ap (λ (m : ℕ). take m xs) e ∙ take_more xs (n - 1) 0 (omega arith)

pub without_stops-take_stop : (xs : List ℕ) (n : ℕ) → 0 < n → n ≤ length xs → get_or xs (n - 1) 0 ≡ 46
    → without_stops (take n xs) ≡ without_stops (take (n - 1) xs)
without_stops-take_stop xs n some within stop =
    ap without_stops (take_last xs n some within ∙ ap (λ (c : ℕ). take (n - 1) xs ++ c ∷ []) stop)
    ∙ without_stops-stop (take (n - 1) xs)

pub without_stops-take_other : (xs : List ℕ) (n : ℕ) → 0 < n → n ≤ length xs → (get_or xs (n - 1) 0 ≡ 46 → ⊥)
    → without_stops (take n xs) ≡ take n xs
without_stops-take_other xs n some within other =
    ap without_stops (take_last xs n some within) ∙ without_stops-other (take (n - 1) xs) (get_or xs (n - 1) 0) other
    ∙ sym (take_last xs n some within)

pub number_of-nil : number_of [] ≡ 0
unfolding number_of
number_of-nil = refl

abbrev next_number : ℕ → ℕ → ℕ
next_number n d = 10 * n + (d - 48)

-- one more digit
pub number_of-more : (xs : List ℕ) (i : ℕ) → i < length xs
    → number_of (take (i + 1) xs) ≡ 10 * number_of (take i xs) + (get_or xs i 0 - 48)
unfolding number_of
number_of-more xs i within = fold_more next_number 0 xs i 0 within

fold-grows : (n : ℕ) (xs : List ℕ) → n ≤ fold next_number n xs
fold-grows n [] = omega arith
fold-grows n (x ∷ xs) = let more = fold-grows (next_number n x) xs in omega arith

number_of-grows : (xs : List ℕ) (i : ℕ) → number_of (take i xs) ≤ number_of xs
unfolding number_of
number_of-grows xs i =
    let e = fold-append next_number 0 (take i xs) (drop i xs) in
    let w = ap (λ (ys : List ℕ). fold next_number 0 ys) (take-append-drop i xs) in
    let more = fold-grows (fold next_number 0 (take i xs)) (drop i xs) in
    let P : ℕ → Type 0 = λ m. fold next_number 0 (take i xs) ≤ m in
    subst P (sym e ∙ w) more

-- a number that is too large stays so
pub number_of-too_large : (xs : List ℕ) (i m : ℕ) → i < length xs
    → m ≤ 10 * number_of (take i xs) + (get_or xs i 0 - 48) → m ≤ number_of xs
number_of-too_large xs i m within large = omega (arith, number_of-more xs i within, number_of-grows xs (i + 1))
