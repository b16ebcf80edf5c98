-- The word of a run, and the rules that a run breaks.
use Rattle.std.proofs.Common.{◌≡◌, ℕ, ◌<◌, Bool, true, false, cond, nat_lt, List, [], ◌∷◌, ◌++◌, map, length, Option}
use Rattle.std.proofs.Common.{Some, None, refl, sym, ap, ◌∙◌, arith}
use Rattle.std.specs.Char.{to_ascii_uppercase}
use Rattle.ss_words.specs.declared.scan.run.Spelling.{Spelling}
use Rattle.ss_words.specs.declared.scan.run.Spelling.TheVariants.{Name, Number}
use Rattle.ss_words.specs.declared.fault.TextRule.TheVariants.{BadNumber, LongRun, NoPicture}
use Rattle.ss_words.specs.declared.fault.TextFault.TheVariants.{Refused}
use Rattle.ss_words.specs.Words.{Kind, WordAt, name, number}
use Rattle.ss_words.specs.TextRuns.{has_letter, without_stops, is_bad_number, number_of, word_of_run, lacks_picture}
use Rattle.ss_words.specs.TextSpelling.{spelling_of, spelled_word}
use Rattle.ss_words.specs.TextWords.{word, breach_if, on_line, word_found, run_found}
use Rattle.ss_words.specs.TextScan.{nearest, SameFindings, first_breach}
use Rattle.ss_words.proofs.TextFinds.{nearest-push}
use Rattle.ss_words.proofs.TextSteps.{goes-word}

good : (bad : Bool) (g s : Spelling) → cond bad None (Some g) ≡ Some s → bad ≡ false
good true g s e = absurd cc
good false g s e = refl

bad_if : (bad : Bool) (g : Spelling) → cond bad None (Some g) ≡ None → bad ≡ true
bad_if true g e = refl
bad_if false g e = absurd cc

-- a run that spells something is no bad number
pub is_bad_number-spelled : (run : List ℕ) (s : Spelling) → spelling_of run ≡ Some s → is_bad_number run ≡ false
is_bad_number-spelled run s e = good (is_bad_number run) (cond (has_letter run) Name (Number (number_of run))) s e

pub is_bad_number-none : (run : List ℕ) → spelling_of run ≡ None → is_bad_number run ≡ true
is_bad_number-none run e = bad_if (is_bad_number run) (cond (has_letter run) Name (Number (number_of run))) e

which : (letter : Bool) (run : List ℕ) (s : Spelling) → cond letter Name (Number (number_of run)) ≡ s
    → cond letter (name (map to_ascii_uppercase run)) (number (number_of run)) ≡ spelled_word run s
which true run s e = ap (spelled_word run) e
which false run s e = ap (spelled_word run) e

only : (bad : Bool) (g s : Spelling) → cond bad None (Some g) ≡ Some s → g ≡ s
only true g s e = absurd cc
only false g s e = cc

-- the word that a run spells is its word
pub word_of_run-spelled : (run : List ℕ) (s : Spelling) → 0 < length run → spelling_of run ≡ Some s
    → word_of_run run ≡ Some (spelled_word run s)
unfolding word_of_run
word_of_run-spelled [] s some e = absurd (omega arith)
word_of_run-spelled (b ∷ bs) s some e =
    ap (λ (k : Kind). Some k) (which (has_letter (b ∷ bs)) (b ∷ bs) s
    (only (is_bad_number (b ∷ bs)) (cond (has_letter (b ∷ bs)) Name (Number (number_of (b ∷ bs)))) s e))

pub word_of_run-none : (run : List ℕ) → length run ≡ 0 → word_of_run run ≡ None
unfolding word_of_run
word_of_run-none [] none = refl
word_of_run-none (b ∷ bs) none = absurd (omega arith)

-- a line of number n with `below` lines below it
module _ (n below : ℕ) (before : List Kind) (rest run : List ℕ) where
  -- a bad number is the first breach of its run
  pub first-bad : is_bad_number (without_stops run) ≡ true
      → first_breach (run_found n below before rest run) ≡ Some (Refused BadNumber n)
  unfolding run_found
  first-bad bad =
      ap (λ (t : Bool). first_breach
      (breach_if BadNumber n t ++ breach_if LongRun n (nat_lt 80 (length run))
      ++ word_found n below before rest (word_of_run (without_stops run)))) bad

  -- a long run that is no bad number
  pub first-long : is_bad_number (without_stops run) ≡ false → nat_lt 80 (length run) ≡ true
      → first_breach (run_found n below before rest run) ≡ Some (Refused LongRun n)
  unfolding run_found
  first-long good long =
      ap (λ (t : Bool). first_breach
      (breach_if BadNumber n t ++ breach_if LongRun n (nat_lt 80 (length run))
      ++ word_found n below before rest (word_of_run (without_stops run)))) good
      ∙ ap (λ (t : Bool). first_breach
      (breach_if LongRun n t ++ word_found n below before rest (word_of_run (without_stops run)))) long

  -- a run that breaks neither rule
  pub run_found-word : (o : Option Kind) → is_bad_number (without_stops run) ≡ false → nat_lt 80 (length run) ≡ false
      → word_of_run (without_stops run) ≡ o → run_found n below before rest run ≡ word_found n below before rest o
  unfolding run_found
  run_found-word o good short e =
      ap (λ (t : Bool). breach_if BadNumber n t ++ breach_if LongRun n (nat_lt 80 (length run))
      ++ word_found n below before rest (word_of_run (without_stops run))) good
      ∙ ap (λ (t : Bool). breach_if LongRun n t
      ++ word_found n below before rest (word_of_run (without_stops run))) short
      ∙ ap (λ (k : Option Kind). word_found n below before rest k) e

-- a line of number n with `below` lines below it
module _ (n below : ℕ) (rest : List ℕ) (old new : List WordAt) (kind : Kind) (is : new ≡ old ++ on_line n kind ∷ [])
  where
    lacks : lacks_picture (nearest new) rest below ≡ lacks_picture (kind ∷ nearest old) rest below
    lacks = ap (λ (ks : List Kind). lacks_picture ks rest below) (ap nearest is ∙ nearest-push old (on_line n kind))

    -- a word that calls no picture, or one that is there
    pub goes-kept : lacks_picture (nearest new) rest below ≡ false
        → SameFindings old (word_found n below (nearest old) rest (Some kind)) new []
    goes-kept there =
        goes-word (λ _. []) old (on_line n kind) new (word_found n below (nearest old) rest (Some kind))
        (ap (λ (t : Bool). breach_if NoPicture n t ++ word (on_line n kind) ∷ []) (sym lacks ∙ there)) is

    -- a word whose picture is not there
    pub first-lacking : lacks_picture (nearest new) rest below ≡ true
        → first_breach (word_found n below (nearest old) rest (Some kind)) ≡ Some (Refused NoPicture n)
    first-lacking missing =
        ap (λ (t : Bool). first_breach (breach_if NoPicture n t ++ word (on_line n kind) ∷ [])) (sym lacks ∙ missing)
