use Rattle.std.proofs.Common.{[], codes, refl, arith}
use Rattle.std.specs.Fmt.{digits}
use Rattle.ss_words.specs.declared.fault.TextRule.TheVariants.{BadNumber, UnexpectedWord, UnexpectedEnd}
use Rattle.ss_words.specs.Reading.{bind, pure, refuse, look, skip, end_of_words, whole, many, many_from}
use Rattle.ss_words.specs.Marks.{expect, eat, a_name, a_number, a_picture}
use Rattle.ss_routines.specs.Combined.{pair, behind, before, made, if_mark, if_word, either, star, by_table, eat_open}
use Rattle.ss_routines.specs.Combined.{if_open, eat_allowed, if_allowed, several, either_of, made_of, must}
use Rattle.ss_routines.specs.BlockReading.{branch_with, one_with, statement_with, block_with, controlled_with, loop_in}
use Rattle.ss_routines.specs.BlockReading.{branch_at, block_at}
use Rattle.ss_routines.specs.SectionReading.{no_name, others_at, names_at, given_at, yielded_at, saving, routine_at}
use Rattle.ss_routines.specs.SectionReading.{event_at, head_at, as_variables, a_define, locals, section_at}
use Rattle.ss_routines.specs.SectionReading.{sections_upto}
use Rattle.ss_routines.specs.ExprReading.{factor_with, term_with, expr_with, expr_at, rest_with}
use Rattle.ss_routines.specs.SimpleReading.{list_behind, listing_with, an_article, subscript_at, reference_at}
use Rattle.ss_routines.specs.SimpleReading.{called_at, equation_at, moved_at, assign_at, named_at, making_at}
use Rattle.ss_routines.specs.SimpleReading.{file_place_at, file_at, remove_at, filing_at, call_at, transfer_at}
use Rattle.ss_routines.specs.SimpleReading.{details_at, when_at, schedule_at, timing_at, print_at, exchange_at}
use Rattle.ss_routines.specs.SimpleReading.{simple_at}
use Rattle.ss_routines.proofs.AnswerByReading.{at_word, at_end}
use Rattle.ss_check.specs.declared.fault.CheckRule.TheVariants.{WrongPicture, WrongMain}
use Rattle.ss_session.specs.Examples.{two_values, word_behind, half_statement, too_large}
use Rattle.ss_session.proofs.ExampleWords.{two_values_words, two_values_read, word_behind_words, word_behind_read}
use Rattle.ss_session.proofs.ExampleWords.{half_statement_words, half_statement_read, too_large_read, empty_read}
use Rattle.ss_session.proofs.ExamplePrograms.{two_values_plain, two_values_spelled, two_values_tree, two_values_spells}
use Rattle.ss_session.proofs.ExamplePrograms.{word_behind_plain, word_behind_spelled, half_statement_plain}
use Rattle.ss_session.proofs.ExamplePrograms.{half_statement_spelled}
use Rattle.ss_session.proofs.Transcripts.{tells_breach, tells_refused, tells_no_words}
use Rattle.ss_session.proofs.examples.refused_models_give_one_line.Goals as goal

pub returns-clause-wrong_picture : goal.returns-clause-wrong_picture
unfolding digits
returns-clause-wrong_picture c =
    tells_breach two_values two_values_words two_values_plain two_values_read two_values_spelled
    (λ h. cc) two_values_tree
    WrongPicture 2 _ (record {
      parentheses = omega arith;
      ifs = omega arith;
      phrases = omega arith;
      parameters = omega arith;
      sections = omega arith;
    }) two_values_spells refl refl

pub returns-clause-empty_text : goal.returns-clause-empty_text
unfolding digits
returns-clause-empty_text c =
    tells_breach (codes "") [] [] empty_read refl (λ h. cc) [] WrongMain 1 _
    (record {
      parentheses = omega arith;
      ifs = omega arith;
      phrases = omega arith;
      parameters = omega arith;
      sections = omega arith;
    }) refl refl refl

pub returns-clause-word_behind_end : goal.returns-clause-word_behind_end
unfolding digits bind pure refuse look skip end_of_words whole many many_from expect eat a_name a_number a_picture
    pair behind before made if_mark if_word either star by_table eat_open if_open eat_allowed if_allowed several
    either_of made_of must branch_with one_with statement_with block_with controlled_with loop_in branch_at
    block_at no_name others_at names_at given_at yielded_at saving routine_at event_at head_at as_variables
    a_define locals section_at sections_upto factor_with term_with expr_with expr_at rest_with list_behind
    listing_with an_article subscript_at reference_at called_at equation_at moved_at assign_at named_at
    making_at file_place_at file_at remove_at filing_at call_at transfer_at details_at when_at schedule_at
    timing_at print_at exchange_at simple_at
returns-clause-word_behind_end c =
    tells_refused word_behind word_behind_words word_behind_plain word_behind_read word_behind_spelled (λ h. cc)
    UnexpectedWord 3 _ (at_word word_behind_plain _ _ 3 refl refl) refl

pub returns-clause-texts_end : goal.returns-clause-texts_end
unfolding digits bind pure refuse look skip end_of_words whole many many_from expect eat a_name a_number a_picture
    pair behind before made if_mark if_word either star by_table eat_open if_open eat_allowed if_allowed several
    either_of made_of must branch_with one_with statement_with block_with controlled_with loop_in branch_at
    block_at no_name others_at names_at given_at yielded_at saving routine_at event_at head_at as_variables
    a_define locals section_at sections_upto factor_with term_with expr_with expr_at rest_with list_behind
    listing_with an_article subscript_at reference_at called_at equation_at moved_at assign_at named_at
    making_at file_place_at file_at remove_at filing_at call_at transfer_at details_at when_at schedule_at
    timing_at print_at exchange_at simple_at
returns-clause-texts_end c =
    tells_refused half_statement half_statement_words half_statement_plain half_statement_read
    half_statement_spelled (λ h. cc) UnexpectedEnd 2 _
    (at_end half_statement_plain 2 refl refl) refl

pub returns-clause-large_number : goal.returns-clause-large_number
unfolding digits
returns-clause-large_number c = tells_no_words too_large BadNumber 2 _ too_large_read refl
