-- The explanation after the line of a fault, or of a refused model.
use Rattle.std.specs.Prelude.{ℕ, ◌-◌, List, ◌∷◌, [], ◌++◌, length, take, codes, decimal, nat_eq, get_or}
use Rattle.std.specs.Prelude.{zero, suc, Some, if◌then◌else◌}
use Rattle.std.specs.List.{before_first, after_first}
use Rattle.ss_program.specs.Program.{ProgramTable}
use Rattle.ss_state.specs.State.{State}
use Rattle.ss_check.specs.declared.wrong.Wrong.{Wrong}
use Rattle.ss_debug.specs.CommandLines.{separates, line_separators}
use Rattle.ss_sentences.specs.Wording.{rule_sentence}
use Rattle.ss_faults.specs.Sentence.{fault_text}
use Rattle.ss_names.specs.Subjects.{breach_text}

-- the text after the line of the last state of a run over some data: if it is faulted, the fault's
-- sentence, its parts, and the piece of the data that it is about
unfoldable pub end_explanation : ProgramTable → List ℕ → State → List ℕ
end_explanation program data_text state = fault_text program state (Some data_text) state.status

-- the sentence of a rule after its code, as a line
abbrev pub rule_line : List ℕ → List ℕ
rule_line code = code ++ codes ": " ++ rule_sentence code ++ 10 ∷ []

-- a text after its first k line feeds
abbrev pub behind_lines : ℕ → List ℕ → List ℕ
behind_lines zero text = text
behind_lines (suc k) text = after_first (separates line_separators) (behind_lines k text)

-- a line without the carriage return (13) at its end
abbrev pub without_return : List ℕ → List ℕ
without_return line =
    if nat_eq (get_or line (length line - 1) 0) 13 then take (length line - 1) line else line

-- line l of a text, the first of which is line 1
abbrev pub line_of_text : List ℕ → ℕ → List ℕ
line_of_text text l = without_return (before_first (separates line_separators) (behind_lines (l - 1) text))

-- the text after the line of a model that the rule of the checker with this code refuses at line l:
-- the rule's sentence, the line of the model after its number, and what is wrong
unfoldable pub refusal_explanation : List ℕ → List ℕ → ℕ → Wrong → List ℕ
refusal_explanation model code l wrong =
    rule_line code ++ decimal l ++ codes "> " ++ line_of_text model l ++ codes "\n" ++ breach_text model l wrong
