-- The plain words come from words further and further on.
use Rattle.std.proofs.Common.{◌≡◌, ℕ, zero, suc, ◌+◌, ◌≤◌, ◌<◌, List, [], ◌∷◌, ◌++◌, length, Option, Some, None, sym}
use Rattle.std.proofs.Common.{subst, arith}
use Rattle.std.specs.Prelude.{map, option_map, option_to_list, slice_index_or}
use Rattle.std.specs.List.{enumerate_from}
use Rattle.ss_words.specs.declared.mark.Mark.{Mark}
use Rattle.ss_words.specs.declared.plain_word.PlainWord.{PlainWord}
use Rattle.ss_words.specs.Words.{WordAt}
use Rattle.ss_words.specs.Plain.{Plain, PlainAt, name, number, mark, picture, plains, plain_at}
use Rattle.ss_words.specs.PlainRules.{PlainRule, Surroundings, surroundings, ruled_word, follow_behind, plain_from}
use Rattle.ss_words.specs.PlainRules.{unruled_words, as_follows, without_fillers, by_governing_word, single_commas}
use Rattle.ss_words.specs.PlainRules.{parting_commas}
use Rattle.ss_words.specs.PlainRules.{plain_words_of}

-- the words rise from l on, below n
abbrev pub Rising : ℕ → ℕ → List PlainAt → Type 0
Rising l n [] = Unit {0}
Rising l n (w ∷ ws) = (l ≤ w.index) × (w.index < n) × Rising (w.index + 1) n ws

lower : (l k n : ℕ) (ws : List PlainAt) → l ≤ k → Rising k n ws → Rising l n ws
lower l k n [] le h = tt
lower l k n (w ∷ ws) le (a, b, c) = (omega (arith, le, a), b, c)

kept_or_dropped : (o : Option Mark) (w : PlainAt) (l n : ℕ) (ws : List PlainAt) → l ≤ w.index → w.index < n
    → Rising (w.index + 1) n ws → Rising l n (option_to_list (option_map (λ k. record w { word = mark k }) o) ++ ws)
kept_or_dropped (Some k) w l n ws a b h = (a, b, h)
kept_or_dropped None w l n ws a b h = lower l (w.index + 1) n ws (omega (arith, a)) h

rising_word : (q : PlainRule) (x : Surroundings) (line index : ℕ) (v : Plain) (l n : ℕ) (ws : List PlainAt) → l ≤ index
    → index < n → Rising (index + 1) n ws
    → Rising l n (ruled_word q x (record { line = line; index = index; word = v }) ++ ws)
rising_word q x line index (name k) l n ws a b h = (a, b, h)
rising_word q x line index (number k) l n ws a b h = (a, b, h)
rising_word q x line index (picture k) l n ws a b h = (a, b, h)
rising_word q x line index (mark k) l n ws a b h =
    kept_or_dropped (q x k) (record { line = line; index = index; word = mark k }) l n ws a b h

rising_follow : (q : PlainRule) (before ws : List PlainAt) (l n : ℕ) → Rising l n ws
    → Rising l n (follow_behind q before ws)
rising_follow q before [] l n h = tt
rising_follow q before (w ∷ ws) l n (a, b, c) =
    rising_word q (surroundings (plains before) (plains ws)) w.line w.index w.word l n (follow_behind q (w ∷ before) ws)
    a b (rising_follow q (w ∷ before) ws (w.index + 1) n c)

rising_spelled : (i n : ℕ) (ws : List WordAt) → i + length ws ≤ n
    → Rising i n (map (λ e. plain_from e.0 e.1) (enumerate_from i ws))
rising_spelled i n [] le = tt
rising_spelled i n (w ∷ ws) le = (omega arith, omega (arith, le), rising_spelled (i + 1) n ws (omega (arith, le)))

pub rising : (ws : List WordAt) → Rising 0 (length ws) (plain_words_of ws)
rising ws =
    let n = length ws in
    let a = rising_follow as_follows [] (unruled_words ws) 0 n (rising_spelled 0 n ws (omega arith)) in
    let b = rising_follow without_fillers [] _ 0 n a in
    let c = rising_follow by_governing_word [] _ 0 n b in
    let d = rising_follow single_commas [] _ 0 n c in
    rising_follow parting_commas [] _ 0 n d

below : (ps : List PlainWord) (l n : ℕ) → Rising l n (map plain_at ps) → (k : ℕ) (d : PlainWord) → k < length ps
    → (slice_index_or ps k d).index < n
below [] l n h k d lt = absurd (omega (arith, lt))
below (p ∷ ps) l n (a, b, c) zero d lt = b
below (p ∷ ps) l n (a, b, c) (suc k) d lt = below ps (p.index + 1) n c k d (omega (arith, lt))

-- each comes from one of the words
pub indexes_below : (ws : List WordAt) (ps : List PlainWord) (n : ℕ) → map plain_at ps ≡ plain_words_of ws
    → length ws ≡ n → (k : ℕ) (d : PlainWord) → k < length ps → (slice_index_or ps k d).index < n
indexes_below ws ps n e len =
    below ps 0 n (subst (λ (us : List PlainAt). Rising 0 n us) (sym e)
    (subst (λ (i : ℕ). Rising 0 i (plain_words_of ws)) len (rising ws)))
