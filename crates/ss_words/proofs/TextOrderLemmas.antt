-- At one place the rules are found in the order of their numbers.
use Rattle.std.proofs.Common.{◌≡◌, ℕ, Bool, true, false, List, [], ◌∷◌, ◌++◌, Option, Some, None, drop, length, nat_lt}
use Rattle.std.proofs.Common.{not, refl}
use Rattle.std.specs.Prelude.{slice_index, take_while}
use Rattle.ss_words.specs.declared.word.Sign.{Sign}
use Rattle.ss_words.specs.declared.fault.TextRule.TheVariants.{StrayByte, BadNumber, LongRun, NoPicture}
use Rattle.ss_words.specs.declared.fault.TextRule.TheVariants.{LongPictureLine}
use Rattle.ss_words.specs.Words.{Kind}
use Rattle.ss_words.specs.TextBytes.{in_run, is_allowed, is_joined, is_stray, sign_from}
use Rattle.ss_words.specs.TextRuns.{without_stops, is_bad_number, word_of_run, lacks_picture}
use Rattle.ss_words.specs.TextWords.{word, breach_if, on_line, sign_found, word_found, run_found, begun_at, found_at}
use Rattle.ss_words.specs.TextOrder.{rule_numbers, is_rising, LowestFirst}

rising_word : (n : ℕ) (s a b c : Bool) (k : Kind)
    → is_rising 0 (rule_numbers (breach_if StrayByte n s
    ++ (breach_if BadNumber n a ++ breach_if LongRun n b ++ (breach_if NoPicture n c ++ word (on_line n k) ∷ []))))
    ≡ true
rising_word n true true true true k = refl
rising_word n true true true false k = refl
rising_word n true true false true k = refl
rising_word n true true false false k = refl
rising_word n true false true true k = refl
rising_word n true false true false k = refl
rising_word n true false false true k = refl
rising_word n true false false false k = refl
rising_word n false true true true k = refl
rising_word n false true true false k = refl
rising_word n false true false true k = refl
rising_word n false true false false k = refl
rising_word n false false true true k = refl
rising_word n false false true false k = refl
rising_word n false false false true k = refl
rising_word n false false false false k = refl

rising_stops : (n : ℕ) (s a b : Bool)
    → is_rising 0 (rule_numbers (breach_if StrayByte n s ++ (breach_if BadNumber n a ++ breach_if LongRun n b ++ [])))
    ≡ true
rising_stops n true true true = refl
rising_stops n true true false = refl
rising_stops n true false true = refl
rising_stops n true false false = refl
rising_stops n false true true = refl
rising_stops n false true false = refl
rising_stops n false false true = refl
rising_stops n false false false = refl

rising_run : (n below : ℕ) (before : List Kind) (rest : List ℕ) (s a b : Bool) (o : Option Kind)
    → is_rising 0 (rule_numbers (breach_if StrayByte n s
    ++ (breach_if BadNumber n a ++ breach_if LongRun n b ++ word_found n below before rest o))) ≡ true
rising_run n below before rest s a b None = rising_stops n s a b
rising_run n below before rest s a b (Some k) = rising_word n s a b (lacks_picture (k ∷ before) rest below) k

rising_sign : (n : ℕ) (s : Bool) (o : Option Sign)
    → is_rising 0 (rule_numbers (breach_if StrayByte n s ++ sign_found n o)) ≡ true
rising_sign n true None = refl
rising_sign n true (Some g) = refl
rising_sign n false None = refl
rising_sign n false (Some g) = refl

rising_none : (n : ℕ) (s : Bool) → is_rising 0 (rule_numbers (breach_if StrayByte n s ++ [])) ≡ true
rising_none n true = refl
rising_none n false = refl

rising_at : (n below : ℕ) (before : List Kind) (last : ℕ) (line plain : List ℕ)
    → is_rising 0 (rule_numbers (found_at n below before last line plain)) ≡ true
unfolding found_at begun_at run_found
rising_at n below before last line plain =
    elim (is_joined last (slice_index plain 0)) as
    (λ j. is_rising 0 (rule_numbers
    (breach_if StrayByte n (is_stray (slice_index line 0) (slice_index plain 0))
    ++ (elim j [ true ↦ [] | false ↦ begun_at n below before line plain ]))) ≡ true) [
      | true ↦ rising_none n (is_stray (slice_index line 0) (slice_index plain 0))
      | false ↦ (elim (in_run (slice_index plain 0)) as
          (λ r. is_rising 0 (rule_numbers (breach_if StrayByte n (is_stray (slice_index line 0) (slice_index plain 0))
          ++ (elim r [
            | true ↦ run_found n below before (drop (length (take_while in_run plain)) line)
                (take_while in_run plain)
            | false ↦ sign_found n (sign_from (slice_index plain 0) (slice_index plain 1))
          ])))
          ≡ true) [
            | true ↦ rising_run n below before (drop (length (take_while in_run plain)) line)
                (is_stray (slice_index line 0) (slice_index plain 0))
                (is_bad_number (without_stops (take_while in_run plain))) (nat_lt 80 (length (take_while in_run plain)))
                (word_of_run (without_stops (take_while in_run plain)))
            | false ↦ rising_sign n (is_stray (slice_index line 0) (slice_index plain 0))
                (sign_from (slice_index plain 0) (slice_index plain 1))
          ])
    ]

rising_head : (n : ℕ) (s long : Bool)
    → is_rising 0 (rule_numbers (breach_if StrayByte n s ++ breach_if LongPictureLine n long)) ≡ true
rising_head n true true = refl
rising_head n true false = refl
rising_head n false true = refl
rising_head n false false = refl

pub lowest_first : LowestFirst
lowest_first = (rising_at, λ n b bs. rising_head n (not (is_allowed b)) (nat_lt 132 (length (b ∷ bs))))
