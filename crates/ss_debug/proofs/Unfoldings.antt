-- Definitions that functions and laws unfold together.
use Rattle.std.specs.Prelude.{⊤}
use Rattle.ss_words.specs.TextBytes.{in_run}
use Rattle.ss_words.specs.TextLines.{without_empty_last}
use Rattle.ss_words.specs.TextRuns.{number_of, without_stops}
use Rattle.ss_debug.specs.CommandLines.{command_words, command_lines, number_within, name_of}
use Rattle.ss_debug.specs.Command.{command_in_words, command_of}
use Rattle.ss_debug.specs.Turn.{debugger_state_after, answer}
use Rattle.ss_debug.specs.AfterRefusal.{IsStateAfterRefusal}

-- the command that a line says
unfoldable pub command_lines_together : ⊤
unfolding in_run without_empty_last number_of without_stops command_words command_lines number_within name_of
    command_in_words command_of
command_lines_together = tt

-- a command's answer, and the state after it
unfoldable pub turns : ⊤
unfolding debugger_state_after answer IsStateAfterRefusal
turns = tt
