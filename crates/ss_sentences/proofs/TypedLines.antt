-- The ends of the first words of a line.
use Rattle.std.proofs.Common.{◌≡◌, ℕ, zero, suc, ◌+◌, ◌-◌, List, length, length-drop, take, drop, refl, sym, ap, ◌∙◌}
use Rattle.std.proofs.Common.{arith}
use Rattle.std.proofs.lemmas.List.{take_all}
use Rattle.ss_sentences.specs.Typed.{first_end, words_end}

-- of no word
pub no_word : (n : ℕ) (line : List ℕ) → n ≡ 0 → words_end n line ≡ 0
unfolding words_end
no_word n line e = rw e refl

-- of one and those after it
pub a_word : (n : ℕ) (line : List ℕ) → (n ≡ 0 → ⊥)
    → words_end n line ≡ first_end line + words_end (n - 1) (drop (first_end line) line)
unfolding words_end
a_word zero line some = absurd (some refl)
a_word (suc n) line some =
    let e : suc n - 1 ≡ n = omega arith in
    ap (λ (k : ℕ). first_end line + words_end k (drop (first_end line) line)) (sym e)

-- the rest of a line, as the code takes it
pub rest_whole : (xs : List ℕ) (n : ℕ) → take (length xs - n) (drop n xs) ≡ drop n xs
rest_whole xs n = take_all (length xs - n) (drop n xs) (omega (arith, length-drop n xs))

-- as the code adds them
pub added : (n : ℕ) (line rest : List ℕ) (e w : ℕ) → (n ≡ 0 → ⊥) → e ≡ first_end line
    → w ≡ words_end (n - 1) rest → rest ≡ drop e line → e + w ≡ words_end n line
added n line rest e w some here more left =
    let there : rest ≡ drop (first_end line) line = left ∙ ap (λ (k : ℕ). drop k line) here in
    ap (λ (k : ℕ). k + w) here
    ∙ ap (λ (k : ℕ). first_end line + k) (more ∙ ap (words_end (n - 1)) there)
    ∙ sym (a_word n line some)

pub ruleset ends = (no_word, a_word)
