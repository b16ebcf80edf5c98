-- The words of the examples' models, computed.
use Rattle.std.proofs.Common.{◌≡◌, List, [], ◌∷◌, Ok, Err, codes, refl}
use Rattle.ss_words.specs.declared.fault.TextRule.TheVariants.{BadNumber}
use Rattle.ss_words.specs.declared.fault.TextFault.TheVariants.{Refused}
use Rattle.ss_words.specs.declared.word.Sign.TheVariants.{Equal, Comma}
use Rattle.ss_words.specs.Words.{WordAt, name, number, sign, picture}
use Rattle.ss_words.specs.TextWords.{on_line, words_of}
use Rattle.ss_words.proofs.Unfoldings.{text_together}
use Rattle.ss_session.specs.Examples.{stop, five, overflow, two_values, word_behind, half_statement, too_large}

abbrev pub stop_words : List WordAt
stop_words = on_line 1 (name (codes "MAIN")) ∷ on_line 2 (name (codes "STOP")) ∷ on_line 3 (name (codes "END")) ∷ []

pub stop_read : words_of stop ≡ Ok stop_words
unfolding text_together
stop_read = refl

abbrev pub five_words : List WordAt
five_words =
    on_line 1 (name (codes "MAIN")) ∷ on_line 2 (name (codes "LET")) ∷ on_line 2 (name (codes "X"))
    ∷ on_line 2 (sign Equal) ∷ on_line 2 (number 5) ∷ on_line 3 (name (codes "PRINT")) ∷ on_line 3 (number 1)
    ∷ on_line 3 (name (codes "LINE")) ∷ on_line 3 (name (codes "WITH")) ∷ on_line 3 (name (codes "X"))
    ∷ on_line 3 (name (codes "THUS")) ∷ on_line 4 (picture (codes "X = ***" ∷ [])) ∷ on_line 5 (name (codes "STOP"))
    ∷ on_line 6 (name (codes "END")) ∷ []

pub five_read : words_of five ≡ Ok five_words
unfolding text_together
five_read = refl

abbrev pub overflow_words : List WordAt
overflow_words =
    on_line 1 (name (codes "MAIN")) ∷ on_line 2 (name (codes "LET")) ∷ on_line 2 (name (codes "X"))
    ∷ on_line 2 (sign Equal) ∷ on_line 2 (number 9223372036854775807) ∷ on_line 3 (name (codes "ADD"))
    ∷ on_line 3 (number 1) ∷ on_line 3 (name (codes "TO")) ∷ on_line 3 (name (codes "X"))
    ∷ on_line 4 (name (codes "END")) ∷ []

pub overflow_read : words_of overflow ≡ Ok overflow_words
unfolding text_together
overflow_read = refl

abbrev pub two_values_words : List WordAt
two_values_words =
    on_line 1 (name (codes "MAIN")) ∷ on_line 2 (name (codes "PRINT")) ∷ on_line 2 (number 1)
    ∷ on_line 2 (name (codes "LINE")) ∷ on_line 2 (name (codes "WITH")) ∷ on_line 2 (name (codes "X"))
    ∷ on_line 2 (sign Comma) ∷ on_line 2 (name (codes "Y")) ∷ on_line 2 (name (codes "THUS"))
    ∷ on_line 3 (picture (codes "*.**" ∷ [])) ∷ on_line 4 (name (codes "END")) ∷ []

pub two_values_read : words_of two_values ≡ Ok two_values_words
unfolding text_together
two_values_read = refl

abbrev pub word_behind_words : List WordAt
word_behind_words =
    on_line 1 (name (codes "MAIN")) ∷ on_line 2 (name (codes "END")) ∷ on_line 3 (name (codes "LOOP")) ∷ []

pub word_behind_read : words_of word_behind ≡ Ok word_behind_words
unfolding text_together
word_behind_read = refl

abbrev pub half_statement_words : List WordAt
half_statement_words =
    on_line 1 (name (codes "MAIN")) ∷ on_line 2 (name (codes "LET")) ∷ on_line 2 (name (codes "X"))
    ∷ on_line 2 (sign Equal) ∷ []

pub half_statement_read : words_of half_statement ≡ Ok half_statement_words
unfolding text_together
half_statement_read = refl

pub too_large_read : words_of too_large ≡ Err (Refused BadNumber 2)
unfolding text_together
too_large_read = refl

pub empty_read : words_of (codes "") ≡ Ok []
unfolding text_together
empty_read = refl
