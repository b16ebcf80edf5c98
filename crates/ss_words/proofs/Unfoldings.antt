-- Definitions that laws and functions unfold together: those of a text's words, and the steps of a cursor.
use Rattle.std.specs.Prelude.{⊤}
use Rattle.ss_words.specs.TextBytes.{is_allowed, is_blank, in_run, one_byte_sign, sign_from, is_joined, is_stray}
use Rattle.ss_words.specs.TextLines.{without_return, without_empty_last, text_lines, with_blank_comments, comment_count}
use Rattle.ss_words.specs.TextLines.{is_blank_rest}
use Rattle.ss_words.specs.TextRuns.{without_stops, number_of, is_bad_number, word_of_run, is_name, calls_picture}
use Rattle.ss_words.specs.TextRuns.{behind_print, line_count, lacks_picture}
use Rattle.ss_words.specs.TextWords.{run_found, begun_at, found_at, found_from_place, found_in_picture, picture_size}
use Rattle.ss_words.specs.TextWords.{found_from_line, found_in_text, answer_of, words_of}
use Rattle.ss_words.specs.Lists.{names, names_behind}
use Rattle.ss_words.specs.Reading.{bind, look, skip, pure, refuse}
use Rattle.ss_words.specs.Marks.{expect, eat, a_name, a_number, a_picture}

-- the kinds of a byte
unfoldable pub bytes_together : ⊤
unfolding is_allowed is_blank in_run one_byte_sign sign_from
bytes_together = tt

-- lines and their comments
unfoldable pub lines_together : ⊤
unfolding without_return without_empty_last text_lines with_blank_comments comment_count is_blank_rest
lines_together = tt

-- runs
unfoldable pub runs_together : ⊤
unfolding without_stops number_of is_bad_number word_of_run is_name calls_picture behind_print line_count lacks_picture
runs_together = tt

-- the words of a text
unfoldable pub text_together : ⊤
unfolding bytes_together lines_together runs_together is_joined is_stray run_found begun_at found_at
    found_from_place found_in_picture picture_size found_from_line found_in_text answer_of words_of
text_together = tt

-- the words that a cursor reads
unfoldable pub cursor_together : ⊤
unfolding look skip pure refuse expect eat a_name a_number a_picture
cursor_together = tt

-- the names with commas between that a cursor reads
unfoldable pub names_together : ⊤
unfolding bind pure names names_behind
names_together = tt
