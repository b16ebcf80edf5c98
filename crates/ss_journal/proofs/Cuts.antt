-- lists cut into pieces
use Rattle.std.proofs.Common.{◌≡◌, ℕ, ◌+◌, ◌-◌, ◌≤◌, List, [], ◌∷◌, ◌++◌, length, take, drop, refl, ap, sym, ◌∙◌, zero}
use Rattle.std.proofs.Common.{suc, min, arith, length-take, length-drop}
use Rattle.std.specs.Prelude.{reverse, sum, map}
use Rattle.std.proofs.lemmas.List.{reverse-append, length-reverse, take-append-drop, drop-take, take_at, take_min}
use Rattle.std.proofs.lemmas.List.Sums.{sum_by-cons}
use Rattle.ss_journal.specs.Pieces.{cut_by_lengths}

-- there are as many pieces as lengths
pub length-pieces : {C : Type 0} (ks : List ℕ) (cs : List C) → length (cut_by_lengths ks cs) ≡ length ks
length-pieces [] cs = refl
length-pieces (k ∷ ks) cs = ap suc (length-pieces ks (drop k cs))

-- if the first part is empty, it has length 0
pub take-none : {C : Type 0} (k : ℕ) (cs : List C) → k ≤ length cs → take k cs ≡ [] → k ≡ 0
take-none k cs h e = omega (arith, length-take k cs, ap length e)

-- the first size and those after it add up to the number of all changes
pub rest_of_sizes : {C : Type 0} (o : ℕ) (all ks : List ℕ) (k n : ℕ) (cs : List C) →
    o + sum all ≡ n → n ≡ length cs → take o (reverse cs) ≡ [] → all ≡ k ∷ ks → k + sum ks ≡ n
rest_of_sizes o all ks k n cs within full none is =
    let zero_open : o ≡ 0 = take-none o (reverse cs) (rw length-reverse (omega arith)) none in
    omega (arith, zero_open, ap sum is, sum_by-cons (λ n. n) k ks)

-- taking off the first size makes its piece the open step
pub pieces_back : {C : Type 0} (o : ℕ) (all ks : List ℕ) (k n : ℕ) (cs : List C) →
    o + sum all ≡ n → n ≡ length cs → take o (reverse cs) ≡ [] → all ≡ k ∷ ks →
    cut_by_lengths all (drop o (reverse cs)) ≡ take k (reverse cs) ∷ cut_by_lengths ks (drop k (reverse cs))
pieces_back o all ks k n cs within full none is =
    let zero_open : o ≡ 0 = take-none o (reverse cs) (rw length-reverse (omega arith)) none in rw (is, zero_open) refl

-- taking off the newest change, of those of the open step and of the others
pub open_taken : {C : Type 0} (o k : ℕ) (all cs : List C) (c : C) → k + 1 ≡ o → all ≡ cs ++ c ∷ []
    → take o (reverse all) ≡ c ∷ take k (reverse cs)
open_taken o k all cs c one is = let more : o ≡ suc k = omega (arith, one) in rw (more, is, reverse-append) refl

pub open_left : {C : Type 0} (o k : ℕ) (all cs : List C) (c : C) → k + 1 ≡ o → all ≡ cs ++ c ∷ []
    → drop o (reverse all) ≡ drop k (reverse cs)
open_left o k all cs c one is = let more : o ≡ suc k = omega (arith, one) in rw (more, is, reverse-append) refl

-- the first of the first
pub take-take : {C : Type 0} (k n : ℕ) (cs : List C) → k ≤ n → take k (take n cs) ≡ take k cs
take-take zero n cs h = refl
take-take (suc k) zero cs h = absurd (omega (arith, h))
take-take (suc k) (suc n) [] h = refl
take-take (suc k) (suc n) (c ∷ cs) h = ap (λ (rest : List _). c ∷ rest) (take-take k n cs (omega (arith, h)))

-- the first pieces are those of the first lengths
take-pieces : {C : Type 0} (n : ℕ) (ks : List ℕ) (cs : List C)
    → take n (cut_by_lengths ks cs) ≡ cut_by_lengths (take n ks) (take (sum (take n ks)) cs)
take-pieces zero ks cs = refl
take-pieces (suc n) [] cs = refl
take-pieces (suc n) (k ∷ ks) cs =
    let more = sum (take n ks) in
    let all : sum (k ∷ take n ks) ≡ k + more = sum_by-cons (λ n. n) k (take n ks) in
    rw (all, take-take k (k + more) cs (omega arith), drop-take k more cs)
    (ap (λ (ps : List (List _)). take k cs ∷ ps) (take-pieces n ks (drop k cs)))

-- the first of the reversed list are those that are left when the others are dropped
take-reverse : {C : Type 0} (k : ℕ) (cs : List C) → take (length cs - k) (reverse cs) ≡ reverse (drop k cs)
take-reverse k cs =
    ap (λ (l : List _). take (length cs - k) (reverse l)) (sym (take-append-drop k cs))
    ∙ ap (take (length cs - k)) (reverse-append (take k cs) (drop k cs))
    ∙ take_at (reverse (drop k cs)) (reverse (take k cs)) (length cs - k)
    (length-reverse (drop k cs) ∙ length-drop k cs)

-- the sizes that are kept
abbrev pub kept_of : ℕ → List ℕ → List ℕ
kept_of n all = take (length all - (length all - n)) all

pieces_kept : {C : Type 0} (n m l : ℕ) (all : List ℕ) (cs : List C) →
    sum all ≡ l → l ≡ length cs → m + sum (kept_of n all) ≡ sum all →
    cut_by_lengths (kept_of n all) (reverse (drop m cs)) ≡ take n (cut_by_lengths all (reverse cs))
pieces_kept n m l all cs within full is =
    let kept = length all - (length all - n) in
    let many : sum (take kept all) ≡ length cs - m = omega (arith, is, within, full) in
    let count : kept ≡ min n (length (cut_by_lengths all (reverse cs))) =
    omega (arith, length-pieces all (reverse cs)) in
    let first : take kept (cut_by_lengths all (reverse cs))
    ≡ cut_by_lengths (take kept all) (take (sum (take kept all)) (reverse cs)) = take-pieces kept all (reverse cs) in
    sym (sym (ap (λ k. take k (cut_by_lengths all (reverse cs))) count ∙ take_min n (cut_by_lengths all (reverse cs)))
    ∙ first ∙ rw (many, take-reverse m cs) refl)

-- the pieces of the sizes that are kept are the first ones
pub pieces_newest : {C : Type 0} (n o m l : ℕ) (all kept : List ℕ) (cs : List C) →
    o + sum all ≡ l → l ≡ length cs → take o (reverse cs) ≡ [] → kept ≡ kept_of n all → m + sum kept ≡ sum all →
    cut_by_lengths kept (drop o (reverse (drop m cs))) ≡ take n (cut_by_lengths all (drop o (reverse cs)))
pieces_newest n o m l all kept cs within full none are is =
    let zero_open : o ≡ 0 = take-none o (reverse cs) (rw length-reverse (omega arith)) none in
    rw (zero_open, are) (pieces_kept n m l all cs (omega (arith, zero_open)) full (rw are at is))

-- the pieces have as many members as their lengths say
pub sum-pieces : {C : Type 0} (ks : List ℕ) (cs : List C) → sum ks ≤ length cs
    → sum (map length (cut_by_lengths ks cs)) ≡ sum ks
sum-pieces [] cs fits = refl
sum-pieces (k ∷ ks) cs fits =
    let all : sum (k ∷ ks) ≡ k + sum ks = sum_by-cons (λ n. n) k ks in
    let counts : sum (length (take k cs) ∷ map length (cut_by_lengths ks (drop k cs)))
    ≡ length (take k cs) + sum (map length (cut_by_lengths ks (drop k cs))) =
    sum_by-cons (λ n. n) (length (take k cs)) (map length (cut_by_lengths ks (drop k cs))) in
    omega (
      arith,
      all,
      counts,
      length-take k cs,
      length-drop k cs,
      sum-pieces ks (drop k cs) (omega (arith, all, length-drop k cs)),
    )

-- there are as many steps as sizes
pub step-count : {C : Type 0} (steps : List (List C)) (all : List ℕ) (cs : List C)
    → cut_by_lengths all cs ≡ steps → length steps ≡ length all
step-count steps all cs is = ap length (sym is) ∙ length-pieces all cs

-- the kept sizes add up to the number of changes that are left
pub rest_of_kept : {C : Type 0} (o m l : ℕ) (all kept : List ℕ) (cs : List C) →
    o + sum all ≡ l → l ≡ length cs → take o (reverse cs) ≡ [] → m + sum kept ≡ sum all
    → o + sum kept ≡ length (drop m cs)
rest_of_kept o m l all kept cs within full none is =
    let zero_open : o ≡ 0 = take-none o (reverse cs) (rw length-reverse (omega arith)) none in
    omega (arith, zero_open, is, length-drop m cs)

pub none_kept : {C : Type 0} (o m l : ℕ) (all : List ℕ) (cs : List C) →
    o + sum all ≡ l → l ≡ length cs → take o (reverse cs) ≡ [] → take o (reverse (drop m cs)) ≡ []
none_kept o m l all cs within full none =
    let zero_open : o ≡ 0 = take-none o (reverse cs) (rw length-reverse (omega arith)) none in
    rw zero_open refl

-- if no step is open, the steps have all changes
pub count_all : {C : Type 0} (o l : ℕ) (all : List ℕ) (cs : List C) →
    o + sum all ≡ l → l ≡ length cs → take o (reverse cs) ≡ []
    → sum (map length (cut_by_lengths all (drop o (reverse cs)))) ≡ l
count_all o l all cs within full none =
    let zero_open : o ≡ 0 = take-none o (reverse cs) (rw length-reverse (omega arith)) none in
    let fits : sum all ≤ length (reverse cs) = omega (arith, zero_open, length-reverse cs) in
    let counted : sum (map length (cut_by_lengths all (reverse cs))) ≡ l =
    omega (arith, zero_open, sum-pieces all (reverse cs) fits) in
    rw zero_open counted
