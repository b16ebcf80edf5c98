-- What is told of some reads, one after the other.
use Rattle.std.proofs.Common.{◌≡◌, ℕ, zero, suc, ◌+◌, ◌<◌, List, [], ◌∷◌, ◌++◌, length, true, false, Bool, Some}
use Rattle.std.proofs.Common.{take, drop, refl, ap, sym, ◌∙◌, arith}
use Rattle.std.specs.Prelude.{slice_get, slice_index_or, if◌then◌else◌}
use Rattle.ss_reads.specs.declared.read.Read.{Read}
use Rattle.ss_reads.specs.Same.{is_among}
use Rattle.ss_state.specs.State.{State}
use Rattle.ss_state.specs.Run.{Input, run}
use Rattle.ss_reads.specs.Reads.{first_ones, written_reads, reads_of}
use Rattle.ss_reads.specs.Answers.{read_line, new_line, read_lines, lines_or_none, reads_text}
use Rattle.std.proofs.lemmas.List.{append-nil, append_assoc}

-- the one at place i comes first of those from there on
rest_at : (rs : List Read) (i : ℕ) (r : Read) → slice_get rs i ≡ Some r → drop i rs ≡ r ∷ drop (suc i) rs
rest_at [] i r h = absurd (cc)
rest_at (x ∷ xs) zero r h = let e : x ≡ r = cc in ap (λ (y : Read). y ∷ xs) e
rest_at (x ∷ xs) (suc i) r h = rest_at xs i r h

-- and last of those up to there
front_at : (rs : List Read) (i : ℕ) (r : Read) → slice_get rs i ≡ Some r → take (suc i) rs ≡ take i rs ++ r ∷ []
front_at [] i r h = absurd (cc)
front_at (x ∷ xs) zero r h = let e : x ≡ r = cc in ap (λ (y : Read). y ∷ []) e
front_at (x ∷ xs) (suc i) r h = ap (λ (ys : List Read). x ∷ ys) (front_at xs i r h)

line_first : (t : Input) (f p : ℕ) (earlier rest : List Read) (r : Read) (b : Bool) → is_among earlier r ≡ b →
    read_lines t f p (first_ones earlier (r ∷ rest))
    ≡ new_line t f p earlier r ++ read_lines t f p (first_ones (earlier ++ r ∷ []) rest)
line_first t f p earlier rest r true a = rw a refl
line_first t f p earlier rest r false a = rw a refl

-- one line more, if it is of the first
pub more_lines : (t : Input) (f p : ℕ) (rs : List Read) (i : ℕ) (r : Read) (text new all : List ℕ) →
    slice_get rs i ≡ Some r → new ≡ text ++ new_line t f p (take i rs) r →
    text ++ read_lines t f p (first_ones (take i rs) (drop i rs)) ≡ all →
    new ++ read_lines t f p (first_ones (take (i + 1) rs) (drop (i + 1) rs)) ≡ all
more_lines t f p rs i r text new all h e k =
    let next : i + 1 ≡ suc i = omega arith in
    let first : read_lines t f p (first_ones (take i rs) (drop i rs))
    ≡ new_line t f p (take i rs) r ++ read_lines t f p (first_ones (take (suc i) rs) (drop (suc i) rs)) =
    rw (rest_at rs i r h, front_at rs i r h)
    (line_first t f p (take i rs) (drop (suc i) rs) r (is_among (take i rs) r) refl) in
    rw (next, e) (append_assoc text _ _ ∙ ap (λ (l : List ℕ). text ++ l) (sym first) ∙ k)

-- if there are some, the answer is their lines
some_lines : (t : Input) (f p : ℕ) (rs : List Read) → 0 < length rs →
    lines_or_none t f p (first_ones [] rs) ≡ read_lines t f p (first_ones [] rs)
some_lines t f p [] h = absurd (omega (arith, h))
some_lines t f p (r ∷ rs) h = refl

pub answer_is : (t : Input) (f p : ℕ) (st : State) (rs : List Read) → st ≡ run t p → rs ≡ written_reads t.program st →
    0 < length rs → reads_text t f p ≡ read_lines t f p (first_ones [] rs)
unfolding reads_text reads_of
answer_is t f p st rs e h l = rw (← e, ← h) (some_lines t f p rs l)
