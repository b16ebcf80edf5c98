-- The lines of a model are taken one by one.
use Rattle.std.proofs.Common.{◌≡◌, ℕ, ◌+◌, ◌<◌, suc, Bool, true, false, List, [], ◌∷◌, ◌++◌, length, map, take, drop}
use Rattle.std.proofs.Common.{refl, ◌∙◌, sym, ap, append_assoc, append-nil, arith}
use Rattle.std.specs.Prelude.{◌==◌}
use Rattle.std.specs.List.{before_first, after_first, position_or_len}
use Rattle.std.proofs.lemmas.Bool.Decides.{nat_tests}
use Rattle.ss_console.specs.Lines.{lines, onto_first}
use Rattle.ss_debug.specs.CommandLines.{separates, line_separators, command_lines}
use Rattle.ss_prompt.specs.Source.{without_return, source_lines}
use Rattle.ss_prompt.proofs.KeptLines.{lines_same}

-- ---- the first line of a text

ends : (b : ℕ) (c : Bool) → separates line_separators b ≡ c → (b == 10) ≡ c
ends b true e = grind (arith, nat_tests)
ends b false e = grind (arith, nat_tests)

taken : (n b : ℕ) (bs : List ℕ) → take (1 + n) (b ∷ bs) ≡ b ∷ take n bs
taken n b bs = let e : 1 + n ≡ suc n = omega arith in rw e refl

dropped : (n b : ℕ) (bs : List ℕ) → drop (1 + n + 1) (b ∷ bs) ≡ drop (n + 1) bs
dropped n b bs = let e : 1 + n + 1 ≡ suc (n + 1) = omega arith in rw e refl

before_at : (b : ℕ) (bs : List ℕ) → separates line_separators b ≡ false →
    before_first (separates line_separators) (b ∷ bs) ≡ b ∷ before_first (separates line_separators) bs
before_at b bs e = rw e (taken (position_or_len (separates line_separators) bs) b bs)

after_at : (b : ℕ) (bs : List ℕ) → separates line_separators b ≡ false →
    after_first (separates line_separators) (b ∷ bs) ≡ after_first (separates line_separators) bs
after_at b bs e = rw e (dropped (position_or_len (separates line_separators) bs) b bs)

first_at : (b : ℕ) (bs : List ℕ) (c : Bool) → separates line_separators b ≡ c →
    lines (b ∷ bs) ≡ before_first (separates line_separators) (b ∷ bs)
    ∷ lines (after_first (separates line_separators) (b ∷ bs))
unfolding lines
first_at b bs true e = rw (ends b true e, e) refl
first_at b [] false e = rw (ends b false e, before_at b [] e, after_at b [] e) refl
first_at b (c ∷ cs) false e =
    rw (ends b false e, before_at b (c ∷ cs) e, after_at b (c ∷ cs) e)
    (ap (onto_first b) (first_at c cs (separates line_separators c) refl))

-- the first line of a text, and the lines after it
first_line : (text : List ℕ) → 0 < length text →
    command_lines text ≡ before_first (separates line_separators) text
    ∷ command_lines (after_first (separates line_separators) text)
first_line [] h = absurd (omega arith)
first_line (b ∷ bs) h =
    let all = first_at b bs (separates line_separators b) refl in
    let behind = after_first (separates line_separators) (b ∷ bs) in
    sym (lines_same (b ∷ bs)) ∙ all
    ∙ ap (λ ls. before_first (separates line_separators) (b ∷ bs) ∷ ls) (lines_same behind)

-- no line is left
none_left : (text : List ℕ) → length text ≡ 0 → command_lines text ≡ []
unfolding lines
none_left [] h = sym (lines_same [])
none_left (b ∷ bs) h = absurd (omega arith)

-- ---- the lines of a model

-- one line more
pub line_taken : (done new all : List (List ℕ)) (rest line more kept : List ℕ) → 0 < length rest →
    line ≡ before_first (separates line_separators) rest → more ≡ after_first (separates line_separators) rest →
    kept ≡ without_return line → done ++ source_lines rest ≡ all → new ≡ done ++ kept ∷ [] →
    new ++ source_lines more ≡ all
line_taken done new all rest line more kept h e f k inv n =
    rw (n, k, e, f)
    (append_assoc done (without_return (before_first (separates line_separators) rest) ∷ [])
    (source_lines (after_first (separates line_separators) rest))
    ∙ sym (ap (λ ls. done ++ map without_return ls) (first_line rest h)) ∙ inv)

-- all lines
pub all_taken : (done all : List (List ℕ)) (rest : List ℕ) → length rest ≡ 0 →
    done ++ source_lines rest ≡ all → done ≡ all
all_taken done all rest h inv =
    sym (append-nil done) ∙ sym (ap (λ ls. done ++ map without_return ls) (none_left rest h)) ∙ inv
