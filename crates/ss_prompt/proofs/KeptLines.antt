-- The lines of a text are the same at a console and in a batch, and the kept part of a line says
-- the same as the line.
use Rattle.std.proofs.Common.{◌≡◌, ℕ, ◌+◌, ◌<◌, ◌≤◌, Bool, true, false, not, ◌||◌, nat_lt}
use Rattle.std.proofs.Common.{List, [], ◌∷◌, length, map, refl, ap, sym, ◌∙◌, arith}
use Rattle.std.specs.Prelude.{nat_eq, ◌==◌, if◌then◌else◌, None}
use Rattle.std.proofs.lemmas.Bool.Decides.{nat_tests}
use Rattle.std.specs.List.{filter, list_any, slice_split}
use Rattle.ss_words.specs.TextLines.{without_empty_last}
use Rattle.ss_console.specs.Lines.{is_stop, lines, onto_first, kept_part}
use Rattle.ss_console.specs.Laws.{answers}
use Rattle.ss_console.proofs.KeptLaws.{short_lines_are_kept, long_lines_are_cut, words_are_kept}
use Rattle.ss_console.specs.declared.lines.TheConstants.{LONGEST_LINE}
use Rattle.ss_debug.specs.declared.commands.Command.{Command}
use Rattle.ss_debug.specs.declared.commands.Command.TheVariants.{Blank, Bad}
use Rattle.ss_debug.specs.CommandLines.{separates, word_separators, is_written, command_words}
use Rattle.ss_debug.specs.CommandLines.{command_lines}
use Rattle.ss_debug.specs.Command.{command_of, command_of_long_line}
use Rattle.ss_prompt.specs.PromptState.{PromptState}
use Rattle.ss_program.specs.Program.{ProgramTable}
use Rattle.ss_prompt.specs.Reading.{or_own, or_else, bad, own_command_of, prompt_command_of}
use Rattle.ss_prompt.specs.Reading.{plain_command_of, first_whole_command_of, plain_meant}
use Rattle.ss_prompt.specs.declared.commands.PromptCommand.{PromptCommand}
use Rattle.ss_prompt.specs.Misread.{line_misread}
use Rattle.ss_prompt.specs.Prompting.{prompt_meaning, line_next}
use Rattle.ss_prompt.specs.Laws.{KeptLinesSayTheSame, LinesAreThoseOfTheBatch, PlainTextsAnswerTheBatch}
use Rattle.ss_prompt.proofs.Batches.{plain_batch}

-- ---- words

-- whether a list has an element
abbrev has_some : {A : Type 0} → List A → Bool
has_some [] = false
has_some (x ∷ xs) = true

-- with a byte in front of the first piece some piece is written
written_front : (b : ℕ) (pieces : List (List ℕ)) → has_some (filter is_written (onto_first b pieces)) ≡ true
written_front b [] = refl
written_front b (piece ∷ pieces) = refl

words_at : (p : ℕ → Bool) (b : ℕ) (bs : List ℕ) (c : Bool) → p b ≡ c →
    has_some (filter is_written (slice_split p bs)) ≡ list_any (λ x. not (p x)) bs →
    has_some (filter is_written (slice_split p (b ∷ bs))) ≡ list_any (λ x. not (p x)) (b ∷ bs)
words_at p b bs true e h = rw e h
words_at p b bs false e h = rw e (written_front b (slice_split p bs))

-- a line has words if some byte of it is no separator
pub words_there : (p : ℕ → Bool) (line : List ℕ) →
    has_some (filter is_written (slice_split p line)) ≡ list_any (λ x. not (p x)) line
words_there p [] = refl
words_there p (b ∷ bs) = words_at p b bs (p b) refl (words_there p bs)

same_at : (n m : ℕ) (b : Bool) → nat_eq n m ≡ b → nat_eq m n ≡ b
same_at n m true e = grind (arith, nat_tests)
same_at n m false e = grind (arith, nat_tests)

same_either_way : (n m : ℕ) → nat_eq n m ≡ nat_eq m n
same_either_way n m = sym (same_at n m (nat_eq n m) refl)

or_three : (a b c : Bool) → (a || (b || (c || false))) ≡ ((a || b) || c)
or_three true b c = refl
or_three false true c = refl
or_three false false true = refl
or_three false false false = refl

-- the bytes that separate words
separates_is_stop : (b : ℕ) → separates (32 ∷ 9 ∷ 13 ∷ []) b ≡ is_stop b
separates_is_stop b =
    rw (same_either_way 32 b, same_either_way 9 b, same_either_way 13 b)
    (or_three (nat_eq b 32) (nat_eq b 9) (nat_eq b 13))

any_same : (p q : ℕ → Bool) → ((b : ℕ) → p b ≡ q b) → (bs : List ℕ) → list_any p bs ≡ list_any q bs
any_same p q e [] = refl
any_same p q e (b ∷ bs) = rw (e b, any_same p q e bs) refl

-- ---- lines

front_at : (b : ℕ) (piece : List ℕ) (pieces : List (List ℕ)) →
    onto_first b (without_empty_last (piece ∷ pieces)) ≡ without_empty_last ((b ∷ piece) ∷ pieces)
unfolding without_empty_last
front_at b [] [] = refl
front_at b (c ∷ cs) [] = refl
front_at b piece (next ∷ pieces) = refl

-- there is a first piece
abbrev head_of : List (List ℕ) → List ℕ
head_of [] = []
head_of (piece ∷ pieces) = piece

abbrev tail_of : List (List ℕ) → List (List ℕ)
tail_of [] = []
tail_of (piece ∷ pieces) = pieces

pieces_front : (b : ℕ) (pieces : List (List ℕ)) →
    onto_first b pieces ≡ head_of (onto_first b pieces) ∷ tail_of (onto_first b pieces)
pieces_front b [] = refl
pieces_front b (piece ∷ pieces) = refl

pieces_at : (p : ℕ → Bool) (b : ℕ) (bs : List ℕ) (c : Bool) → p b ≡ c →
    slice_split p (b ∷ bs) ≡ head_of (slice_split p (b ∷ bs)) ∷ tail_of (slice_split p (b ∷ bs))
pieces_at p b bs true e = rw e refl
pieces_at p b bs false e = rw e (pieces_front b (slice_split p bs))

pieces : (p : ℕ → Bool) (text : List ℕ) →
    slice_split p text ≡ head_of (slice_split p text) ∷ tail_of (slice_split p text)
pieces p [] = refl
pieces p (b ∷ bs) = pieces_at p b bs (p b) refl

end_front : (b : ℕ) (all : List (List ℕ)) → all ≡ head_of all ∷ tail_of all →
    onto_first b (without_empty_last all) ≡ without_empty_last (onto_first b all)
end_front b [] e = absurd (cc)
end_front b (piece ∷ more) e = front_at b piece more

end_behind : (all : List (List ℕ)) → all ≡ head_of all ∷ tail_of all →
    [] ∷ without_empty_last all ≡ without_empty_last ([] ∷ all)
unfolding without_empty_last
end_behind [] e = absurd (cc)
end_behind (piece ∷ more) e = refl

lines_at : (b : ℕ) (bs : List ℕ) (c : Bool) → (b == 10) ≡ c →
    lines bs ≡ without_empty_last (slice_split (separates (10 ∷ [])) bs) →
    lines (b ∷ bs) ≡ without_empty_last (slice_split (separates (10 ∷ [])) (b ∷ bs))
unfolding lines
lines_at b bs true e h =
    rw (same_either_way 10 b, e, h)
    (end_behind (slice_split (separates (10 ∷ [])) bs) (pieces (separates (10 ∷ [])) bs))
lines_at b bs false e h =
    rw (same_either_way 10 b, e, h)
    (end_front b (slice_split (separates (10 ∷ [])) bs) (pieces (separates (10 ∷ [])) bs))

-- the lines of a text
pub lines_same : LinesAreThoseOfTheBatch
unfolding lines without_empty_last command_lines
lines_same [] = refl
lines_same (b ∷ bs) = lines_at b bs (b == 10) refl (lines_same bs)

-- ---- the kept part of a line

-- the command in a line that is too long, by whether it has a word
abbrev says : Bool → Command
says some = if some then Bad else Blank

long_words : (words : List (List ℕ)) → command_of_long_line words ≡ says (has_some words)
long_words [] = refl
long_words (word ∷ words) = refl

-- whether a line has a word
words_in : (line : List ℕ) → has_some (command_words line) ≡ list_any (λ b. not (is_stop b)) line
unfolding command_words
words_in line =
    words_there (separates word_separators) line
    ∙ any_same (λ b. not (separates word_separators b)) (λ b. not (is_stop b)) (λ b. ap not (separates_is_stop b)) line

-- the command of docs/DEBUGGER.md in a line that is too long
long_plain : (line : List ℕ) → nat_lt LONGEST_LINE (length line) ≡ true →
    plain_command_of line ≡ or_else (says (list_any (λ b. not (is_stop b)) line)) Bad
unfolding plain_command_of first_whole_command_of command_of
long_plain line e = rw (e, long_words (command_words line), words_in line) refl

-- the command in a line that is too long
long_says : (program : ProgramTable) (line : List ℕ) → nat_lt LONGEST_LINE (length line) ≡ true →
    prompt_command_of program line
    ≡ or_own program (or_else (says (list_any (λ b. not (is_stop b)) line)) Bad) bad
unfolding prompt_command_of own_command_of
long_says program line e = rw (e, long_plain line e) refl

-- the kept part of a line gives the same command of docs/DEBUGGER.md as the line
plain_at : (line : List ℕ) (b : Bool) → nat_lt LONGEST_LINE (length line) ≡ b →
    plain_command_of (kept_part line) ≡ plain_command_of line
plain_at line false e =
    let short : length line ≤ LONGEST_LINE = grind (arith, nat_tests) in
    ap plain_command_of (short_lines_are_kept line short)
plain_at line true e =
    let long : LONGEST_LINE < length line = grind (arith, nat_tests) in
    let cut : length (kept_part line) ≡ LONGEST_LINE + 1 = long_lines_are_cut line long in
    let past : nat_lt LONGEST_LINE (length (kept_part line)) ≡ true = rw cut refl in
    long_plain (kept_part line) past ∙ ap (λ some. or_else (says some) Bad) (words_are_kept line)
    ∙ sym (long_plain line e)

kept_at : (program : ProgramTable) (line : List ℕ) (b : Bool) → nat_lt LONGEST_LINE (length line) ≡ b →
    prompt_command_of program (kept_part line) ≡ prompt_command_of program line
kept_at program line false e =
    let short : length line ≤ LONGEST_LINE = grind (arith, nat_tests) in
    ap (prompt_command_of program) (short_lines_are_kept line short)
kept_at program line true e =
    let long : LONGEST_LINE < length line = grind (arith, nat_tests) in
    let cut : length (kept_part line) ≡ LONGEST_LINE + 1 = long_lines_are_cut line long in
    let past : nat_lt LONGEST_LINE (length (kept_part line)) ≡ true = rw cut refl in
    long_says program (kept_part line) past
    ∙ ap (λ some. or_own program (or_else (says some) Bad) bad) (words_are_kept line)
    ∙ sym (long_says program line e)

pub kept_says : KeptLinesSayTheSame
kept_says program line = (
  kept_at program line (nat_lt LONGEST_LINE (length line)) refl,
  plain_at line (nat_lt LONGEST_LINE (length line)) refl,
)

-- a line that is too long asks for nothing in a text
nothing_told : (program : ProgramTable) (some : Bool) (other : List ℕ) →
    line_misread (or_own program (or_else (says some) Bad) bad) other ≡ None
unfolding line_misread plain_meant
nothing_told program true other = refl
nothing_told program false other = refl

long_misread : (program : ProgramTable) (line other : List ℕ) → nat_lt LONGEST_LINE (length line) ≡ true →
    line_misread (prompt_command_of program line) other ≡ None
long_misread program line other e =
    ap (λ (c : PromptCommand). line_misread c other) (long_says program line e)
    ∙ nothing_told program (list_any (λ b. not (is_stop b)) line) other

-- so the text in the kept part is misread as that in the line
misread_kept : (program : ProgramTable) (line : List ℕ) (b : Bool) → nat_lt LONGEST_LINE (length line) ≡ b →
    line_misread (prompt_command_of program line) (kept_part line) ≡ line_misread (prompt_command_of program line) line
misread_kept program line false e =
    let short : length line ≤ LONGEST_LINE = grind (arith, nat_tests) in
    ap (line_misread (prompt_command_of program line)) (short_lines_are_kept line short)
misread_kept program line true e =
    long_misread program line (kept_part line) e ∙ sym (long_misread program line line e)

-- so they are answered the same
answers_kept : (s : PromptState) (ls : List (List ℕ)) →
    answers prompt_meaning s (map kept_part ls) ≡ answers prompt_meaning s ls
unfolding answers
answers_kept s [] = refl
answers_kept s (line ∷ ls) =
    let same = kept_says s.input.program line in
    let misread = misread_kept s.input.program line (nat_lt LONGEST_LINE (length line)) refl in
    rw (same.0, same.1, misread, answers_kept (line_next s line) ls) refl

pub plain_texts : PlainTextsAnswerTheBatch
plain_texts s text h = rw (answers_kept s (lines text), lines_same text) (plain_batch s (command_lines text) h)
