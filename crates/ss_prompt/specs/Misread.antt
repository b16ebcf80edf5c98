-- Lines in which a command asks for something in a text that is neither an expression nor a condition.
use Rattle.std.specs.Prelude.{◌≡◌, ◌⊎◌, ℕ, Bool, true, false, List, Option, Some, None, unwrap_or}
use Rattle.ss_sentences.specs.Typed as typed
use Rattle.ss_prompt.specs.declared.commands.PromptCommand.{PromptCommand}
use Rattle.ss_prompt.specs.declared.commands.PromptCommand.TheVariants.{Value, Until, BreakWhen, Meant}
use Rattle.ss_prompt.specs.declared.manner.Manner.TheVariants.{History}
use Rattle.ss_prompt.specs.Manners.{words_before}
use Rattle.ss_prompt.specs.Meant.{text_with_rows}

-- where HISTORY asks for something in a text, if that has no number of rows behind it
abbrev pub history_place : Option (List ℕ × ℕ) → Option (ℕ × Bool)
history_place None = Some (1, false)
history_place (Some x) = None

-- where a command asks for something in a text: how many words of the line come before the text, and whether it has to
-- be a condition
abbrev pub text_place : PromptCommand → Option (ℕ × Bool)
text_place (Value text numbered) = Some (1, false)
text_place (Until way text numbered) = Some (2, true)
text_place (BreakWhen place text numbered) = Some (3, true)
text_place (Meant History text numbered) = history_place (text_with_rows text)
text_place (Meant manner text numbered) = Some (words_before manner, false)
text_place command = None

-- why a text is not what it has to be, if there is a text
abbrev pub misread_at : Option (ℕ × Bool) → List ℕ → Option (List ℕ)
misread_at None line = None
misread_at (Some place) line = typed.line_misread place.0 place.1 line

-- why the text in a line with this command is not what it has to be
unfoldable pub line_misread : PromptCommand → List ℕ → Option (List ℕ)
line_misread command line = misread_at (text_place command) line

-- the answer to such a line, or else another
abbrev pub said_or : Option (List ℕ) → List ℕ → List ℕ
said_or misread other = unwrap_or misread other

-- such a line changes nothing
abbrev pub next_or : {S : Type 0} → Option (List ℕ) → S → S → S
next_or None state next = next
next_or (Some misread) state next = state

-- if memory was refused: before the command, if there is a text, or for it
abbrev pub IsRefusedAt : {S : Type 0} → Option (ℕ × Bool) → S → S → Type 0 → Type 0
IsRefusedAt None state after refused = refused
IsRefusedAt (Some place) state after refused = (after ≡ state) ⊎ refused
