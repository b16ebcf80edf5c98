-- Lines in which a command asks for something in a text.
use Rattle.std.proofs.Common.{◌≡◌, ℕ, Bool, true, List, ◌++◌, Option, Some, None, inl, inr, refl, ap, subst}
use Rattle.std.specs.Prelude.{is_some}
use Rattle.std.specs.Option.{option_map}
use Rattle.ss_program.specs.Program.{ProgramTable}
use Rattle.ss_debug.specs.Turn.{is_quit as is_plain_quit}
use Rattle.ss_debug.specs.declared.commands.Command.{Command}
use Rattle.ss_prompt.specs.declared.commands.PromptCommand.{PromptCommand}
use Rattle.ss_prompt.specs.declared.commands.PromptCommand.TheVariants.{Plain}
use Rattle.ss_prompt.specs.Misread.{text_place, misread_at, line_misread, said_or, next_or, IsRefusedAt}
use Rattle.ss_prompt.specs.Reading.{plain_command_of, prompt_command_of}
use Rattle.ss_prompt.proofs.Quits.{quit_is_obeyed}
use Rattle.ss_prompt.specs.PromptState.{PromptState}
use Rattle.ss_prompt.specs.Prompting.{prompt_answer, prompt_state_after, IsRefused, is_quit, command_in, misread_in}
use Rattle.ss_prompt.specs.Prompting.{line_said, line_next, IsLineRefused}

-- ---- lines without a text

-- a command of docs/DEBUGGER.md asks for nothing in a text
pub plain_misread : (command : Command) (line : List ℕ) → line_misread (Plain command) line ≡ None
unfolding line_misread
plain_misread command line = refl

-- without a text nothing is misread
pub none_misread : (command : PromptCommand) (line : List ℕ) → text_place command ≡ None → line_misread command line ≡ None
unfolding line_misread
none_misread command line e = rw e refl

-- a command that ends the dialogue asks for nothing in a text
pub quit_asks_nothing : (command : PromptCommand) → is_quit command ≡ true → is_some (text_place command) ≡ true → ⊥
quit_asks_nothing (Plain command) q h = absurd cc
quit_asks_nothing _ q h = absurd cc

-- nor does a line that ends it
pub quit_reads_no_text : (program : ProgramTable) (line : List ℕ) (command : PromptCommand) →
    command ≡ prompt_command_of program line → is_plain_quit (plain_command_of line) ≡ true →
    is_some (text_place command) ≡ true → ⊥
quit_reads_no_text program line command e h t = quit_asks_nothing command (rw e (quit_is_obeyed program line h)) t

placed_at : (o : Option (ℕ × Bool)) (line m : List ℕ) → Some m ≡ misread_at o line → is_some o ≡ true
placed_at None line m h = cc
placed_at (Some place) line m h = refl

-- what is misread is a text
pub placed : {X : Type 0} (f : X → List ℕ) (command : PromptCommand) (line : List ℕ) (o : Option X) (x : X) →
    o ≡ Some x → option_map f o ≡ line_misread command line → is_some (text_place command) ≡ true
unfolding line_misread
placed f command line o x e h =
    placed_at (text_place command) line (f x)
    (subst (λ y. option_map f y ≡ misread_at (text_place command) line) e h)

-- ---- the answer to a line

module _ (s : PromptState) (line : List ℕ) where
  -- a text is not what it has to be
  pub misread_said : (old m : List ℕ) → Some m ≡ misread_in s line → old ++ m ≡ old ++ line_said s line
  misread_said old m h = ap (λ (o : Option (List ℕ)). old ++ said_or o (prompt_answer s (command_in s line))) h

  pub misread_next : (m : List ℕ) → Some m ≡ misread_in s line → s ≡ line_next s line
  misread_next m h = ap (λ (o : Option (List ℕ)). next_or o s (prompt_state_after s (command_in s line))) h

  -- the command is obeyed
  pub obeyed_said : (old : List ℕ) → None ≡ misread_in s line
      → old ++ prompt_answer s (command_in s line) ≡ old ++ line_said s line
  obeyed_said old h = ap (λ (o : Option (List ℕ)). old ++ said_or o (prompt_answer s (command_in s line))) h

  pub obeyed_next : None ≡ misread_in s line → prompt_state_after s (command_in s line) ≡ line_next s line
  obeyed_next h = ap (λ (o : Option (List ℕ)). next_or o s (prompt_state_after s (command_in s line))) h

  -- memory was refused
  before_at : (place : Option (ℕ × Bool)) (refused : Type 0) → is_some place ≡ true → IsRefusedAt place s s refused
  before_at None refused h = absurd cc
  before_at (Some place) refused h = inl refl

  pub refused_before : is_some (text_place (command_in s line)) ≡ true → IsLineRefused s line s
  refused_before h = before_at (text_place (command_in s line)) (IsRefused s (command_in s line) s) h

  for_at : (place : Option (ℕ × Bool)) (after : PromptState) (refused : Type 0) → refused
      → IsRefusedAt place s after refused
  for_at None after refused h = h
  for_at (Some place) after refused h = inr h

  pub refused_for : (after : PromptState) → IsRefused s (command_in s line) after → IsLineRefused s line after
  refused_for after h = for_at (text_place (command_in s line)) after (IsRefused s (command_in s line) after) h

-- the answer to a line, and the state after it
pub ruleset lines = (
  misread_said,
  misread_next,
  obeyed_said,
  obeyed_next,
  refused_before,
  refused_for,
  quit_asks_nothing,
)
