use Rattle.std.proofs.Common.{refl, arith}
use Rattle.std.specs.Fmt.{digits}
use Rattle.ss_words.specs.TextBytes.{in_run}
use Rattle.ss_words.specs.TextLines.{without_empty_last}
use Rattle.ss_words.specs.TextRuns.{number_of, without_stops}
use Rattle.ss_debug.specs.CommandLines.{command_words, command_lines, number_within, name_of}
use Rattle.ss_debug.specs.Command.{command_in_words, command_of}
use Rattle.ss_debug.specs.Move.{least}
use Rattle.ss_debug.specs.Answer.{moment_text, place_text, state_line, movement_text, kept_text, var_text, report_text}
use Rattle.ss_debug.specs.Turn.{debugger_state_after, answer, debugger_state_after_lines, answers}
use Rattle.ss_session.specs.Transcript.{program_transcript}
use Rattle.ss_session.specs.Examples.{five}
use Rattle.ss_session.proofs.ExampleWords.{five_words, five_read}
use Rattle.ss_session.proofs.ExamplePrograms.{five_plain, five_spelled, five_tree, five_spells, five_program}
use Rattle.ss_session.proofs.Transcripts.{tells_run}
use Rattle.ss_session.proofs.examples.old_steps_are_forgotten.Goals as goal

pub returns : goal.returns
unfolding digits program_transcript answers debugger_state_after_lines debugger_state_after answer command_of
    command_in_words command_words command_lines without_empty_last number_within number_of in_run name_of
    moment_text place_text state_line movement_text kept_text var_text report_text least without_stops
returns c =
    tells_run five five_words five_plain five_read five_spelled (λ h. cc) five_tree five_program
    (record {
      parentheses = omega arith;
      ifs = omega arith;
      phrases = omega arith;
      parameters = omega arith;
      sections = omega arith;
    }) five_spells refl refl _ _ refl
