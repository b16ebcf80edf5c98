-- A list of places read at one of them: those before it, the nearest first, and those from it on.
use Rattle.std.proofs.Common.{◌≡◌, ℕ, ◌+◌, ◌-◌, Bool, false, List, [], ◌∷◌, ◌++◌, length, drop, take, refl, sym, ap}
use Rattle.std.proofs.Common.{◌∙◌, arith, append_assoc, length-append, Some}
use Rattle.std.specs.Prelude.{reverse, slice_get}
use Rattle.std.proofs.lemmas.List.{length-reverse, reverse-reverse}
use Rattle.std.proofs.lemmas.Bool.{ne_eqb}
use Rattle.std.proofs.lemmas.Grind.{reverse_onto}
use Rattle.std.proofs.Math.Seq.{drop-append_seam, take-append_seam}
use Rattle.ss_program.specs.declared.place.Place.{Place}
use Rattle.ss_program.specs.declared.place.Spot.{Spot}
use Rattle.ss_program.specs.Match.{is_at, is_before, passes}

-- places after others that are turned round
abbrev pub unwind : List Spot → List Spot → List Spot
unwind [] a = a
unwind (x ∷ b) a = unwind b (x ∷ a)

pub unwind_append : (b xs a : List Spot) → unwind b (xs ++ a) ≡ unwind (unwind xs b) a
unwind_append b [] a = refl
unwind_append b (x ∷ xs) a = unwind_append (x ∷ b) xs a

-- turned round twice
pub unwind_both : (xs ys r : List Spot) → unwind (xs ++ ys) r ≡ unwind ys (unwind xs r)
unwind_both [] ys r = refl
unwind_both (x ∷ xs) ys r = unwind_both xs ys (x ∷ r)

pub unwind_length : (xs b : List Spot) → length (unwind xs b) ≡ length xs + length b
unwind_length [] b = omega arith
unwind_length (x ∷ xs) b = let h = unwind_length xs (x ∷ b) in omega (arith, h)

unwind_is : (b a : List Spot) → unwind b a ≡ reverse b ++ a
unwind_is [] a = refl
unwind_is (x ∷ b) a =
    unwind_is b (x ∷ a) ∙ sym (append_assoc (reverse b) (x ∷ []) a)
    ∙ ap (λ (ys : List Spot). ys ++ a) (sym (reverse_onto b x []))

-- the places ps read at number i
pub record At (ps : List Spot) (i : ℕ) (b a : List Spot) : Type 0 where
  pub list : ps ≡ unwind b a
  pub index : i ≡ length b

module _ (ps : List Spot) (i : ℕ) (b a : List Spot) (h : At ps i b a) where
  place_of : i ≡ length (reverse b)
  place_of = h.index ∙ sym (length-reverse b)

  pub dropped : drop i ps ≡ a
  dropped =
      rw (h.list, unwind_is b a, place_of) (drop-append_seam (reverse b) a)

  pub taken : reverse (take i ps) ≡ b
  taken =
      rw (h.list, unwind_is b a, place_of) (ap reverse (take-append_seam (reverse b) a) ∙ reverse-reverse b)

  pub size : length ps ≡ i + length a
  size = rw (h.list, unwind_is b a)
      (let k = length-append (reverse b) a in let l = length-reverse b in let j = h.index in omega (arith, k, l, j))

-- the next place
pub onward : {ps : List Spot} {i : ℕ} {x : Spot} {b a : List Spot} → At ps i b (x ∷ a) → At ps (i + 1) (x ∷ b) a
onward h = record { list = h.list; index = let j = h.index in omega (arith, j) }

-- after several places
pub past : (ps : List Spot) (i : ℕ) (b xs a : List Spot) → At ps i b (xs ++ a) → At ps (i + length xs) (unwind xs b) a
past ps i b xs a h = record {
  list = h.list ∙ unwind_append b xs a;
  index = let j = h.index in let k = unwind_length xs b in omega (arith, j, k);
}

-- the same places in other words
pub same_after : {ps : List Spot} {i : ℕ} {b a a' : List Spot} → a ≡ a' → At ps i b a → At ps i b a'
same_after {b = b} e h = record { list = h.list ∙ ap (unwind b) e; index = h.index }

pub same_index : {ps : List Spot} {i j : ℕ} {b a : List Spot} → j ≡ i → At ps i b a → At ps j b a
same_index e h = record { list = h.list; index = e ∙ h.index }

get_behind : (xs : List Spot) (x : Spot) (a : List Spot) → slice_get (xs ++ x ∷ a) (length xs) ≡ Some x
get_behind [] x a = refl
get_behind (y ∷ ys) x a = get_behind ys x a

pub got : (ps : List Spot) (i : ℕ) (b : List Spot) (x : Spot) (a : List Spot) → At ps i b (x ∷ a) →
    slice_get ps i ≡ Some x
got ps i b x a h = rw (h.list, unwind_is b (x ∷ a), h.index ∙ sym (length-reverse b)) (get_behind (reverse b) x a)

pub is_here : (test : Place → Bool) (ps : List Spot) (i : ℕ) (b : List Spot) (x : Spot) (a : List Spot) →
    At ps i b (x ∷ a) →
    is_at ps test i ≡ test x.place
is_here test ps i b x a h = ap (passes test) (got ps i b x a h)

-- the place directly before
abbrev pub front_is : (Place → Bool) → List Spot → Bool
front_is test [] = false
front_is test (x ∷ b) = test x.place

pub is_there : (test : Place → Bool) (ps : List Spot) (i : ℕ) (b a : List Spot) → At ps i b a →
    is_before ps test i ≡ front_is test b
is_there test ps i [] a h = rw h.index refl
is_there test ps i (x ∷ b) a h =
    let j = h.index in
    let k : i - 1 ≡ length b = omega (arith, j) in
    let before : At ps (i - 1) b (x ∷ a) = record { list = h.list; index = k } in
    rw (ne_eqb i 0 (λ e. omega (arith, e, j))) (is_here test ps (i - 1) b x a before)
