-- The explanation of a refusal of a model by a rule of the checker.
use Rattle.std.specs.Prelude.{ℕ, Bool, List, [], ◌∷◌, ◌++◌, codes, if◌then◌else◌, nat_eq}
use Rattle.std.specs.List.{list_any}
use Rattle.ss_check.specs.declared.fault.CheckRule.{CheckRule}
use Rattle.ss_check.specs.declared.wrong.Wrong.{Wrong}
use Rattle.ss_check.specs.CheckRules.{check_rule_code}
use Rattle.ss_sentences.specs.Wording.{rule_sentence}
use Rattle.ss_names.specs.Subjects.{breach_text}
use Rattle.ss_prompt.specs.Source.{marked_line, source_lines}

-- whether a sentence has a blank for a word of the model: a brace (123)
abbrev pub has_blank : List ℕ → Bool
has_blank sentence = list_any (λ b. nat_eq b 123) sentence

-- the code of a rule before its sentence, if that has no blank
abbrev pub rule_line : List ℕ → List ℕ → List ℕ
rule_line code sentence = if has_blank sentence then [] else code ++ codes ": " ++ sentence ++ 10 ∷ []

-- the explanation of a refusal of a model by a rule of the checker at a line: the meaning of the
-- rule, the line as it is written, and what is wrong
abbrev pub check_explanation : List ℕ → CheckRule → ℕ → Wrong → List ℕ
check_explanation model rule line wrong =
    rule_line (check_rule_code rule) (rule_sentence (check_rule_code rule))
    ++ marked_line (source_lines model) (codes "> ") line ++ breach_text model line wrong
