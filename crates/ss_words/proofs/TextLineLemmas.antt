-- The first line of a text, and the rest of the text.
use Rattle.std.proofs.Common.{◌≡◌, ℕ, zero, suc, ◌+◌, ◌<◌, Bool, true, false, ◌==◌, not, cond, nat_lt, List, [], ◌∷◌}
use Rattle.std.proofs.Common.{map, take, drop, length, get_or, Some, None, refl, sym, ap, ◌∙◌, subst, arith}
use Rattle.std.specs.List.{slice_split, onto_first, position, position_or_len}
use Rattle.std.proofs.lemmas.Bool.Decides.{nat_tests, Decides-ltb}
use Rattle.std.proofs.lemmas.List.Splits.{slice_split_first}
use Rattle.std.proofs.lemmas.List.{nil_from_length}
use Rattle.ss_words.specs.TextLines.{without_return, without_empty_last, text_lines}
use Rattle.ss_words.proofs.TextBytesLemmas.{eqb-not}

pub without_return-nil : (line : List ℕ) → length line ≡ 0 → without_return line ≡ line
unfolding without_return
without_return-nil [] e = refl
without_return-nil (b ∷ bs) e = absurd (omega arith)

-- a carriage return at the end is dropped
pub without_return-return : (line : List ℕ) (m : ℕ) → length line ≡ suc m → get_or line m 0 ≡ 13
    → without_return line ≡ take m line
unfolding without_return
without_return-return [] m e last = absurd (omega arith)
without_return-return (b ∷ []) zero e last = ap (λ (x : ℕ). cond (x == 13) [] (x ∷ [])) last
without_return-return (b ∷ []) (suc m) e last = absurd (omega arith)
without_return-return (b ∷ c ∷ bs) zero e last = absurd (omega arith)
without_return-return (b ∷ c ∷ bs) (suc m) e last =
    ap (λ (xs : List ℕ). b ∷ xs) (without_return-return (c ∷ bs) m (omega arith) last)

-- another byte at the end stays
pub without_return-other : (line : List ℕ) (m : ℕ) → length line ≡ suc m → (get_or line m 0 ≡ 13 → ⊥)
    → without_return line ≡ line
unfolding without_return
without_return-other [] m e last = absurd (omega arith)
without_return-other (b ∷ []) zero e last = ap (λ (t : Bool). cond t [] (b ∷ [])) (eqb-not b 13 last)
without_return-other (b ∷ []) (suc m) e last = absurd (omega arith)
without_return-other (b ∷ c ∷ bs) zero e last = absurd (omega arith)
without_return-other (b ∷ c ∷ bs) (suc m) e last =
    ap (λ (xs : List ℕ). b ∷ xs) (without_return-other (c ∷ bs) m (omega arith) last)

-- pieces are never none
pieces_some : (text : List ℕ) → (l : List ℕ) × (ls : List (List ℕ)) × (slice_split (λ b. b == 10) text ≡ l ∷ ls)
pieces_some [] = ([], [], refl)
pieces_some (b ∷ bs) =
    elim (b == 10) as (λ t. (l : List ℕ) × (ls : List (List ℕ))
    × (cond t ([] ∷ slice_split (λ b. b == 10) bs) (onto_first b (slice_split (λ b. b == 10) bs)) ≡ l ∷ ls)) [
      | true ↦ ([], slice_split (λ b. b == 10) bs, refl)
      | false ↦ let p = pieces_some bs in (b ∷ p.0, p.1, ap (onto_first b) p.2)
    ]

without_empty_last-cons : (l : List ℕ) (text : List ℕ)
    → without_empty_last (l ∷ map without_return (slice_split (λ b. b == 10) text)) ≡ l ∷ text_lines text
unfolding without_empty_last text_lines
without_empty_last-cons l text =
    let p = pieces_some text in
    let F : List (List ℕ) → Type 0 =
    λ ls. without_empty_last (l ∷ map without_return ls) ≡ l ∷ without_empty_last (map without_return ls) in
    subst F (sym p.2) refl

position-some : (p : ℕ → Bool) (xs : List ℕ) (i : ℕ) → position p xs ≡ Some i
    → (position_or_len p xs < length xs) × (i ≡ position_or_len p xs)
position-some p xs i e =
    elim (nat_lt (position_or_len p xs) (length xs)) as
    (λ t. nat_lt (position_or_len p xs) (length xs) ≡ t → cond t (Some (position_or_len p xs)) None ≡ Some i
    → (position_or_len p xs < length xs) × (i ≡ position_or_len p xs)) [
      | true ↦ λ below some. ((Decides-ltb (position_or_len p xs) (length xs)).0 below, cc)
      | false ↦ λ above none. absurd cc
    ] refl e

position-none : (p : ℕ → Bool) (xs : List ℕ) → position p xs ≡ None → nat_lt (position_or_len p xs) (length xs) ≡ false
position-none p xs e =
    elim (nat_lt (position_or_len p xs) (length xs)) as
    (λ t. cond t (Some (position_or_len p xs)) None ≡ None → t ≡ false) [
      | true ↦ λ some. absurd cc
      | false ↦ λ none. refl
    ] e

-- the line before the first line feed is the first line
pub text_lines-feed : (text : List ℕ) (i : ℕ) → position (λ b. b == 10) text ≡ Some i
    → text_lines text ≡ without_return (take i text) ∷ text_lines (drop (i + 1) text)
unfolding text_lines
text_lines-feed text i e =
    let p = position-some (λ b. b == 10) text i e in
    let s = slice_split_first (λ b. b == 10) text 0 p.0 in
    let F : ℕ → Type 0 = λ j. text_lines text ≡ without_return (take j text) ∷ text_lines (drop (j + 1) text) in
    subst F (sym p.1) (ap (λ (ls : List (List ℕ)). without_empty_last (map without_return ls)) s
    ∙ without_empty_last-cons (without_return (take (position_or_len (λ b. b == 10) text) text))
    (drop (position_or_len (λ b. b == 10) text + 1) text))

some_before : (n : ℕ) → nat_lt 0 (suc n) ≡ false → ⊥
some_before n far = grind (arith, nat_tests)

far_before : (a b : ℕ) → nat_lt (1 + a) (suc b) ≡ false → nat_lt a b ≡ false
far_before a b far = grind (arith, nat_tests)

split-none : (xs : List ℕ) → nat_lt (position_or_len (λ b. b == 10) xs) (length xs) ≡ false
    → slice_split (λ b. b == 10) xs ≡ xs ∷ []
split-none [] e = refl
split-none (x ∷ xs) e =
    elim (x == 10) as (λ t. (nat_lt (cond (not t) (1 + position_or_len (λ b. b == 10) xs) 0) (suc (length xs)) ≡ false)
    → cond t ([] ∷ slice_split (λ b. b == 10) xs) (onto_first x (slice_split (λ b. b == 10) xs)) ≡ (x ∷ xs) ∷ []) [
      | true ↦ λ far. absurd (some_before (length xs) far)
      | false ↦ λ far. ap (onto_first x) (split-none xs (far_before _ _ far))
    ] e

-- without a line feed the text is its one line, or none
pub text_lines-last : (text : List ℕ) → position (λ b. b == 10) text ≡ None
    → text_lines text ≡ without_empty_last (without_return text ∷ [])
unfolding text_lines
text_lines-last text e =
    ap (λ (ls : List (List ℕ)). without_empty_last (map without_return ls))
    (split-none text (position-none (λ b. b == 10) text e))

pub text_lines-nil : text_lines [] ≡ []
unfolding text_lines without_empty_last without_return
text_lines-nil = refl

pub text_lines-no_line : (text line : List ℕ) → position (λ b. b == 10) text ≡ None → line ≡ without_return text
    → length line ≡ 0 → text_lines text ≡ []
unfolding without_empty_last
text_lines-no_line text line e is empty =
    text_lines-last text e ∙ ap (λ (l : List ℕ). without_empty_last (l ∷ [])) (sym is ∙ nil_from_length line empty)

without_empty_last-some : (line : List ℕ) → 0 < length line → without_empty_last (line ∷ []) ≡ line ∷ []
unfolding without_empty_last
without_empty_last-some [] some = absurd (omega arith)
without_empty_last-some (b ∷ bs) some = refl

pub text_lines-one_line : (text line rest : List ℕ) → position (λ b. b == 10) text ≡ None → line ≡ without_return text
    → 0 < length line → rest ≡ [] → text_lines text ≡ line ∷ text_lines rest
text_lines-one_line text line rest e is some end =
    text_lines-last text e ∙ ap (λ (l : List ℕ). without_empty_last (l ∷ [])) (sym is)
    ∙ without_empty_last-some line some
    ∙ ap (λ (ls : List (List ℕ)). line ∷ ls) (sym (ap text_lines end ∙ text_lines-nil))

-- a line that is not empty comes from a text that is not empty
pub some_text : (text line : List ℕ) → line ≡ without_return text → 0 < length line → 0 < length text
unfolding without_return
some_text [] line is some = omega (arith, ap length is)
some_text (b ∷ bs) line is some = omega arith
