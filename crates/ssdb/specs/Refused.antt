-- The text that is written for a refused model.
use Rattle.std.specs.Prelude.{ℕ, ◌≡◌, ◌⊎◌, List, [], ◌++◌}
use Rattle.ss_words.specs.declared.fault.TextRule.{TextRule}
use Rattle.ss_words.specs.Faults.{text_rule_code}
use Rattle.ss_check.specs.declared.fault.CheckRule.{CheckRule}
use Rattle.ss_check.specs.CheckRules.{check_rule_code}
use Rattle.ss_console.specs.Event.{Adds, write_events}
use Rattle.ss_console.specs.Puts.{AddsPart}
use Rattle.ss_console.specs.declared.cut.Cut.TheVariants as cut
use Rattle.ss_check.specs.declared.wrong.Wrong.{Wrong}
use Rattle.ss_session.specs.Load.{IsWrong}
use Rattle.ss_session.specs.Model.{IsOutcome, refused_text, refused_check}
use Rattle.ss_session.specs.Transcript.{refusal_line}
use Rattle.ss_sentences.specs.Refusals.{IsSaid}
use Rattle.ss_prompt.specs.Explained.{check_explanation}
use Rattle.ssdb.specs.declared.end.PromptFault.{PromptFault}
use Rattle.ssdb.specs.declared.end.PromptFault.TheVariants.{Refused, Cut, Memory}
use Rattle.ssdb.specs.Seen.{Seen}

-- the text for a model that the checker refuses: the rule and the line, and their explanation
abbrev pub refused_model_text : List ℕ → CheckRule → ℕ → Wrong → List ℕ
refused_model_text model rule line wrong =
    refusal_line (check_rule_code rule) line ++ check_explanation model rule line wrong

-- the text for a model whose text is refused: the rule and the line, and lines about the word, its
-- place and the words that could be there
abbrev pub IsTextTold : List ℕ → List ℕ → ℕ → List ℕ → Type 0
IsTextTold model code line text = (said : List ℕ) × IsSaid model said × (text ≡ refusal_line code line ++ said)

-- the text for a refused model is that of the one rule that refuses it, its line, and what is wrong
abbrev pub IsTold : List ℕ → List ℕ → Type 0
IsTold model text =
    ((rule : TextRule) × (line : ℕ) × IsOutcome model (refused_text rule line)
    × IsTextTold model (text_rule_code rule) line text)
    ⊎ ((rule : CheckRule) × (line : ℕ) × (wrong : Wrong) × IsOutcome model (refused_check rule line)
    × IsWrong model rule line wrong × (text ≡ refused_model_text model rule line wrong))

-- the part of the text for a refused model that was written, by the stop of the program: all of it,
-- a prefix of it if writing failed, nothing if memory was refused
abbrev pub IsRefusalTold : List ℕ → Seen → PromptFault → Type 0
IsRefusalTold model seen Refused = (text : List ℕ) × IsTold model text × Adds seen.old seen.new (write_events text)
IsRefusalTold model seen (Cut cut.Write) = (text : List ℕ) × IsTold model text × AddsPart text seen.old seen.new
IsRefusalTold model seen (Cut other) = ⊥
IsRefusalTold model seen Memory = Adds seen.old seen.new []

-- the written part of the text for a refused model; no line was read
abbrev pub IsRefusalWritten : List ℕ → Seen → PromptFault → Type 0
IsRefusalWritten model seen fault = IsRefusalTold model seen fault × (seen.after ≡ seen.before)
