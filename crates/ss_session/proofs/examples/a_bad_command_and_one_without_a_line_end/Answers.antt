use Rattle.std.proofs.Common.{refl, arith}
use Rattle.std.specs.Fmt.{digits}
use Rattle.ss_words.specs.TextLines.{without_empty_last}
use Rattle.ss_words.specs.TextRuns.{number_of, without_stops}
use Rattle.ss_debug.specs.CommandLines.{command_words, command_lines, number_within, name_of}
use Rattle.ss_debug.specs.Command.{command_in_words, command_of}
use Rattle.ss_debug.specs.Move.{least}
use Rattle.ss_debug.specs.Answer.{moment_text, place_text, state_line, movement_text, var_text, report_text}
use Rattle.ss_debug.specs.Turn.{debugger_state_after, answer, debugger_state_after_lines, answers}
use Rattle.ss_session.specs.Transcript.{program_transcript}
use Rattle.ss_session.specs.Examples.{stop}
use Rattle.ss_session.proofs.ExampleWords.{stop_words, stop_read}
use Rattle.ss_session.proofs.ExamplePrograms.{stop_plain, stop_spelled, stop_tree, stop_spells, stop_program}
use Rattle.ss_session.proofs.Transcripts.{tells_run}
use Rattle.ss_session.proofs.examples.a_bad_command_and_one_without_a_line_end.Goals as goal

pub returns : goal.returns
unfolding digits program_transcript answers debugger_state_after_lines debugger_state_after answer command_of
    command_in_words command_words command_lines without_empty_last number_within number_of name_of moment_text
    place_text state_line movement_text var_text report_text least without_stops
returns c =
    tells_run stop stop_words stop_plain stop_read stop_spelled (λ h. cc) stop_tree stop_program
    (record {
      parentheses = omega arith;
      ifs = omega arith;
      phrases = omega arith;
      parameters = omega arith;
      sections = omega arith;
    }) stop_spells refl refl _ _ refl
