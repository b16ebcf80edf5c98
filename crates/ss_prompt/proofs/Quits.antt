-- A line that is QUIT is that command.
use Rattle.std.proofs.Common.{◌≡◌, ℕ, List, true, refl}
use Rattle.ss_program.specs.Program.{ProgramTable}
use Rattle.ss_debug.specs.declared.commands.Command.{Command}
use Rattle.ss_debug.specs.declared.commands.Command.TheVariants as plain
use Rattle.ss_debug.specs.Turn.{is_quit as is_plain_quit}
use Rattle.ss_prompt.specs.declared.commands.PromptCommand.{PromptCommand}
use Rattle.ss_prompt.specs.Prompting.{is_quit}
use Rattle.ss_prompt.specs.Reading.{or_own, plain_meant, plain_command_of, own_command_of, prompt_command_of}

quits : (program : ProgramTable) (command : Command) (own : PromptCommand) → is_plain_quit command ≡ true →
    is_quit (or_own program command own) ≡ true
unfolding plain_meant
quits program plain.Blank own h = absurd (cc)
quits program plain.Bad own h = absurd (cc)
quits program (plain.Move movement) own h = absurd (cc)
quits program (plain.Break line) own h = absurd (cc)
quits program (plain.Clear line) own h = absurd (cc)
quits program (plain.Forget count) own h = absurd (cc)
quits program (plain.Show question) own h = absurd (cc)
quits program plain.Quit own h = refl

pub quit_is_obeyed : (program : ProgramTable) (line : List ℕ) → is_plain_quit (plain_command_of line) ≡ true →
    is_quit (prompt_command_of program line) ≡ true
unfolding prompt_command_of
quit_is_obeyed program line h = quits program (plain_command_of line) (own_command_of program line) h
