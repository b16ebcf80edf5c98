-- The words after a preamble.
use Rattle.std.proofs.Common.{◌≡◌, ℕ, zero, suc, ◌+◌, ◌-◌, ◌≤◌, ◌<◌, List, [], ◌∷◌, length, length-append}
use Rattle.std.proofs.Common.{drop, drop_at, refl, sym, ap, ◌∙◌, arith, le-leb}
use Rattle.std.proofs.lemmas.Bool.{lt-leb}
use Rattle.std.specs.Prelude.{map, slice_index}
use Rattle.ss_words.specs.Plain.{PlainAt, plains}
use Rattle.ss_words.specs.PlainRules.{plain_words_of}
use Rattle.ss_preamble.specs.Spelling.{spell}
use Rattle.ss_words.specs.Words.{WordAt}
use Rattle.ss_preamble.specs.Tree.{Decls}
use Rattle.ss_preamble.specs.Refused.{IsPreamble, words_from}
use Rattle.ss_preamble.specs.Laws.{WordsStandBehind}
use Rattle.ss_preamble.proofs.Indexes.{Rising, rising}

-- the numbers after each word
abbrev numbers_behind : List PlainAt → List ℕ
numbers_behind ws = map (λ w. w.index + 1) ws

-- words that rise from a number on are all from it on
all_from : (l k n : ℕ) (ws : List PlainAt) → k ≤ l → Rising l n ws → words_from k ws ≡ ws
all_from l k n [] le h = refl
all_from l k n (w ∷ ws) le (a, b, c) =
    rw (le-leb k w.index (omega (arith, le, a)))
    (ap (λ (u : List PlainAt). w ∷ u) (all_from (w.index + 1) k n ws (omega (arith, le, a)) c))

-- the number after one of them is above the number from which they rise
above : (l n : ℕ) (ws : List PlainAt) (i : ℕ) → Rising l n ws → i < length ws → l < slice_index (numbers_behind ws) i
above l n [] i h lt = absurd (omega (arith, lt))
above l n (w ∷ ws) zero (a, b, c) lt = omega (arith, a)
above l n (w ∷ ws) (suc i) (a, b, c) lt =
    let more = above (w.index + 1) n ws i c (omega (arith, lt)) in omega (arith, a, more)

-- from the number after one of them on there are those after it
from_behind : (l n : ℕ) (ws : List PlainAt) (i : ℕ) → Rising l n ws → i < length ws
    → words_from (slice_index (numbers_behind ws) i) ws ≡ drop (suc i) ws
from_behind l n [] i h lt = absurd (omega (arith, lt))
from_behind l n (w ∷ ws) zero (a, b, c) lt =
    rw (lt-leb (w.index + 1) w.index (omega arith))
    (all_from (w.index + 1) (w.index + 1) n ws (omega arith) c)
from_behind l n (w ∷ ws) (suc i) (a, b, c) lt =
    let more = above (w.index + 1) n ws i c (omega (arith, lt)) in
    rw (lt-leb (slice_index (numbers_behind ws) i) w.index (omega (arith, more)))
    (from_behind (w.index + 1) n ws i c (omega (arith, lt)))

plains_behind : (k : ℕ) (ws : List PlainAt) → plains (drop k ws) ≡ drop k (plains ws)
plains_behind zero ws = refl
plains_behind (suc k) [] = refl
plains_behind (suc k) (w ∷ ws) = plains_behind k ws

length_plains : (ws : List PlainAt) → length (plains ws) ≡ length ws
length_plains [] = refl
length_plains (w ∷ ws) = ap suc (length_plains ws)

-- from the number after a preamble on there are the words after it
pub drop_behind : (ws : List WordAt) (d : Decls) (number : ℕ) (p : IsPreamble d number (plain_words_of ws))
    → words_from number (plain_words_of ws) ≡ drop (length (spell p.items)) (plain_words_of ws)
drop_behind ws d number p =
    let all = plain_words_of ws in
    let size = length (spell p.items) in
    let some : 0 < size = omega arith in
    let split : length (plains all) ≡ size + length p.behind =
    ap length p.words ∙ length-append (spell p.items) p.behind in
    let count : length all ≡ size + length p.behind = sym (length_plains all) ∙ split in
    let here : words_from (slice_index (numbers_behind all) (size - 1)) all ≡ drop (suc (size - 1)) all =
    from_behind 0 (length ws) all (size - 1) (rising ws) (omega (arith, some, count)) in
    ap (λ (n : ℕ). words_from n all) p.number_is ∙ here
    ∙ ap (λ (n : ℕ). drop n all) (let h : suc (size - 1) ≡ size = omega (arith, some) in h)

pub words_stand_behind : WordsStandBehind
words_stand_behind ws d number p =
    let all = plain_words_of ws in
    let size = length (spell p.items) in
    ap plains (drop_behind ws d number p) ∙ plains_behind size all ∙ ap (drop size) p.words
    ∙ drop_at (spell p.items) p.behind size refl
