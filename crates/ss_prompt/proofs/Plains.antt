-- Commands of docs/DEBUGGER.md at the prompt.
use Rattle.std.proofs.Common.{◌≡◌, ◌⊎◌, inl, inr, ℕ, Bool, true, false, List, Option, Some, None, refl, ap, sym}
use Rattle.std.proofs.Common.{◌∙◌, arith}
use Rattle.std.specs.Prelude.{nat_eq}
use Rattle.std.proofs.lemmas.Bool.Decides.{nat_tests}
use Rattle.ss_program.specs.Program.{ProgramTable}
use Rattle.ss_debug.specs.declared.commands.Command.{Command}
use Rattle.ss_debug.specs.declared.commands.Command.TheVariants.{Blank, Bad, Move, Break, Clear, Forget, Show, Quit}
use Rattle.ss_debug.specs.Command.{command_of}
use Rattle.ss_prompt.specs.declared.commands.PromptCommand.{PromptCommand}
use Rattle.ss_prompt.specs.declared.commands.PromptCommand.TheVariants.{Plain}
use Rattle.ss_prompt.specs.Places.{next_line}
use Rattle.ss_prompt.specs.Reading.{or_own, or_else, own_command_of, prompt_command_of, plain_command_of}
use Rattle.ss_prompt.specs.Reading.{first_whole_command_of, plain_meant, break_command}
use Rattle.ss_prompt.specs.Prompting.{prompt_answer, prompt_state_after, state_led}
use Rattle.ss_prompt.specs.Plain.{plain_stop}
use Rattle.ss_prompt.specs.Laws.{PlainLinesStay, FewAreMeantOtherwise, IsMeant, PlainAnswersComeFirst}

stays : (program : ProgramTable) (command : Command) (own : PromptCommand) → (command ≡ Bad → ⊥) →
    or_own program command own ≡ plain_meant program command
stays program Blank own h = refl
stays program Bad own h = absurd (h refl)
stays program (Move m) own h = refl
stays program (Break line) own h = refl
stays program (Clear line) own h = refl
stays program (Forget n) own h = refl
stays program (Show q) own h = refl
stays program Quit own h = refl

kept : (command other : Command) → (command ≡ Bad → ⊥) → or_else command other ≡ command
kept Blank other h = refl
kept Bad other h = absurd (h refl)
kept (Move m) other h = refl
kept (Break line) other h = refl
kept (Clear line) other h = refl
kept (Forget n) other h = refl
kept (Show q) other h = refl
kept Quit other h = refl

-- a command of docs/DEBUGGER.md is read as it is written
pub plain_read : (line : List ℕ) → (command_of line ≡ Bad → ⊥) → plain_command_of line ≡ command_of line
unfolding plain_command_of
plain_read line h = kept (command_of line) (first_whole_command_of line) h

pub plain_lines : PlainLinesStay
unfolding prompt_command_of
plain_lines program line h =
    ap (λ c. or_own program c (own_command_of program line)) (plain_read line h)
    ∙ stays program (command_of line) (own_command_of program line) h

-- ---- commands that are meant otherwise

differ : (n line : ℕ) → nat_eq n line ≡ false → Some n ≡ Some line → ⊥
differ n line e h =
    let same : n ≡ line = cc in absurd (grind (arith, nat_tests))

-- BREAK of a line, by whether the next line with a place is that
at_next : (program : ProgramTable) (line n : ℕ) (b : Bool) → nat_eq n line ≡ b → next_line program line ≡ Some n →
    (break_command line (Some n) ≡ Plain (Break line)) ⊎ (next_line program line ≡ Some line → ⊥)
at_next program line n true e h = inl (rw e refl)
at_next program line n false e h = inr (λ k. differ n line e (sym h ∙ k))

break_meant : (program : ProgramTable) (line : ℕ) (next : Option ℕ) → next_line program line ≡ next →
    (break_command line next ≡ Plain (Break line)) ⊎ (next_line program line ≡ Some line → ⊥)
break_meant program line None e = inr (λ k. let clash : None ≡ Some line = sym e ∙ k in absurd (cc))
break_meant program line (Some n) e = at_next program line n (nat_eq n line) refl e

break_few : (program : ProgramTable) (line : ℕ) →
    (break_command line (next_line program line) ≡ Plain (Break line)) ⊎ (next_line program line ≡ Some line → ⊥) →
    IsMeant program (Break line)
unfolding plain_meant
break_few program line (inl e) = inl e
break_few program line (inr h) = inr (line, refl, h)

pub few_others : FewAreMeantOtherwise
unfolding plain_meant
few_others program Blank = inl refl
few_others program Bad = inl refl
few_others program (Move m) = inl refl
few_others program (Break line) =
    break_few program line (break_meant program line (next_line program line) refl)
few_others program (Clear line) = inl refl
few_others program (Forget n) = inl refl
few_others program (Show q) = inl refl
few_others program Quit = inl refl

pub plain_answers : PlainAnswersComeFirst
unfolding prompt_answer prompt_state_after state_led
plain_answers s command = ((plain_stop s command, refl), refl)
