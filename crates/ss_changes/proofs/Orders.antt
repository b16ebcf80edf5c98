-- Parts and changes one after the other.
use Rattle.std.proofs.Common.{◌≡◌, ℕ, zero, suc, ◌+◌, ◌<◌, ◌==◌, ◌||◌, Bool, true, false, cond, List, [], ◌∷◌, ◌++◌, map}
use Rattle.std.proofs.Common.{refl, ap, sym, ◌∙◌, arith, length, slice_index_or, nat_lt}
use Rattle.std.specs.List.{filter}
use Rattle.std.proofs.lemmas.List.{get_or_append_left, get_or_push, length-append, map-append}
use Rattle.std.proofs.lemmas.List.Elements.{filter-append}
use Rattle.std.proofs.lemmas.Bool.Decides.{Decides-eqb}
use borrow.Author.Tests.{ltb-true, ltb-false}
use Rattle.ss_links.specs.Seats.{has}
use Rattle.ss_program.specs.Program.{ProgramTable}
use Rattle.ss_state.specs.State.{State}
use Rattle.ss_changes.specs.declared.part.Part.{Part}
use Rattle.ss_changes.specs.declared.change.Change.{Change}
use Rattle.ss_changes.specs.Values.{value_in}
use Rattle.ss_changes.specs.Parts.{below_of, each_of}
use Rattle.ss_changes.specs.Changes.{changes_among, is_changed, told_of}
use Rattle.ss_changes.specs.View.{told_if, told_against}

-- equal elements after those that were there
pub behind : {A : Type 0} (old new one other : List A) → one ≡ other → new ≡ old ++ one → new ≡ old ++ other
behind old new one other e h = rw (← e) h

-- ---- one element for each number below n

pub below_length : {A : Type 0} (f : ℕ → A) (n : ℕ) → length (below_of (λ k. f k ∷ []) n) ≡ n
below_length f zero = refl
below_length f (suc n) =
    let more = length-append (below_of (λ k. f k ∷ []) n) (f n ∷ []) in omega (arith, more, below_length f n)

below_last : {A : Type 0} (f : ℕ → A) (n i : ℕ) (d : A) (b : Bool) → nat_lt i n ≡ b → i < suc n →
    (i < n → slice_index_or (below_of (λ k. f k ∷ []) n) i d ≡ f i) →
    slice_index_or (below_of (λ k. f k ∷ []) n ++ f n ∷ []) i d ≡ f i
below_last f n i d true e h more =
    let less : i < n = ltb-true i n e in
    let count = below_length f n in
    get_or_append_left (below_of (λ k. f k ∷ []) n) (f n ∷ []) d i (omega (arith, less, count)) ∙ more less
below_last f n i d false e h more =
    let same : i ≡ n = omega (arith, ltb-false i n e, h) in
    rw same (get_or_push (below_of (λ k. f k ∷ []) n) (f n) d n (below_length f n))

pub below_at : {A : Type 0} (f : ℕ → A) (n i : ℕ) (d : A) → i < n →
    slice_index_or (below_of (λ k. f k ∷ []) n) i d ≡ f i
below_at f zero i d h = absurd (omega (arith, h))
below_at f (suc n) i d h = below_last f n i d _ refl h (λ less. below_at f n i d less)

-- ---- what is shown of the elements that pass a test

abbrev pub among : {A B : Type 0} → (A → B) → (A → Bool) → List A → List B
among told test xs = map told (filter test xs)

pub among_append : {A B : Type 0} (told : A → B) (test : A → Bool) (xs ys : List A) →
    among told test (xs ++ ys) ≡ among told test xs ++ among told test ys
among_append told test xs ys =
    ap (map told) (filter-append test xs ys) ∙ map-append told (filter test xs) (filter test ys)

-- of one list after another
pub both_same : {A B : Type 0} (told : A → B) (test : A → Bool) (xs ys zs ws : List A) →
    among told test xs ≡ among told test zs → among told test ys ≡ among told test ws →
    among told test (xs ++ ys) ≡ among told test (zs ++ ws)
both_same told test xs ys zs ws h k = rw (among_append told test xs ys, among_append told test zs ws, h, k) refl

-- of a list for each number below n
pub below_same : {A B : Type 0} (told : A → B) (test : A → Bool) (f g : ℕ → List A) (n : ℕ) →
    ((i : ℕ) → i < n → among told test (f i) ≡ among told test (g i)) →
    among told test (below_of f n) ≡ among told test (below_of g n)
below_same told test f g zero h = refl
below_same told test f g (suc n) h =
    both_same told test (below_of f n) (f n) (below_of g n) (g n)
    (below_same told test f g n (λ i k. h i (omega (arith, k)))) (h n (omega arith))

-- of the elements that pass another test, which is the same for each of them
first_same : {A B : Type 0} (told : A → B) (test other : A → Bool) (x : A) (xs : List A) (b : Bool) → other x ≡ b →
    test x ≡ other x → among told test xs ≡ among told test (filter other xs) →
    among told test (x ∷ xs) ≡ among told test (cond b (x ∷ filter other xs) (filter other xs))
first_same told test other x xs true e same h =
    both_same told test (x ∷ []) xs (x ∷ []) (filter other xs) refl h
first_same told test other x xs false e same h = let no : test x ≡ false = same ∙ e in rw no h

has_first : (k : ℕ) (ks : List ℕ) → has (k ∷ ks) k ≡ true
has_first k ks = rw ((Decides-eqb k k).1 refl) refl

has_later : (b c : Bool) → c ≡ true → (b || c) ≡ true
has_later true c h = refl
has_later false c h = h

pub each_same : {A B : Type 0} (told : A → B) (test other : A → Bool) (f : ℕ → A) (ks : List ℕ) →
    ((k : ℕ) → has ks k ≡ true → test (f k) ≡ other (f k)) →
    among told test (each_of (λ k. f k ∷ []) ks) ≡ among told test (filter other (each_of (λ k. f k ∷ []) ks))
each_same told test other f [] h = refl
each_same told test other f (k ∷ ks) h =
    first_same told test other (f k) (each_of (λ k. f k ∷ []) ks) _ refl (h k (has_first k ks))
    (each_same told test other f ks (λ j more. h j (has_later (k == j) (has ks j) more)))

-- ---- changes

-- one part, and others
changes_first : (p : ProgramTable) (s u : State) (x : Part) (xs : List Part) →
    changes_among p s u (x ∷ xs) ≡ told_if x (value_in p s x) (value_in p u x) ++ changes_among p s u xs
changes_first p s u x xs = first (is_changed p s u x) refl
  where
    first : (b : Bool) → is_changed p s u x ≡ b →
        changes_among p s u (x ∷ xs) ≡ told_if x (value_in p s x) (value_in p u x) ++ changes_among p s u xs
    first true e = rw e refl
    first false e = rw e refl

-- the changes against the values in a state are those between the states
pub told_between : (p : ProgramTable) (s u : State) (xs : List Part) →
    told_against p u xs (map (value_in p s) xs) ≡ changes_among p s u xs
told_between p s u [] = refl
told_between p s u (x ∷ xs) =
    ap (λ (l : List Change). told_if x (value_in p s x) (value_in p u x) ++ l) (told_between p s u xs)
    ∙ sym (changes_first p s u x xs)
