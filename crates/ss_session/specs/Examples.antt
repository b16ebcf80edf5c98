-- Whole models, the commands that they are run under, and their transcripts.
use Rattle.std.specs.Prelude.{◌≡◌, ◌++◌, ℕ, List, codes}
use Rattle.ss_session.specs.Model.{Outcome, IsOutcome}
use Rattle.ss_session.specs.Texts.{Texts}
use Rattle.ss_session.specs.Transcript.{transcript}

-- the transcript of these texts
abbrev pub IsTranscriptOf : Texts → List ℕ → Type 0
IsTranscriptOf texts text = (outcome : Outcome) × IsOutcome texts.model outcome × (transcript outcome texts ≡ text)

-- a model without data has this transcript under the commands
abbrev pub HasTranscript : List ℕ → List ℕ → List ℕ → Type 0
HasTranscript model commands text =
    IsTranscriptOf (record { model = model; data_text = codes ""; commands = commands }) text

-- and so over all data under all commands, as that of a refused model
abbrev pub AlwaysHasTranscript : List ℕ → List ℕ → Type 0
AlwaysHasTranscript model text =
    (data_text commands : List ℕ) →
    IsTranscriptOf (record { model = model; data_text = data_text; commands = commands }) text

-- a program that does nothing but stop
abbrev pub stop : List ℕ
stop = codes "MAIN\nSTOP\nEND\n"

-- a program that prints the 5 that it assigned
abbrev pub five : List ℕ
five = codes "MAIN\nLET X = 5\nPRINT 1 LINE WITH X THUS\nX = ***\nSTOP\nEND\n"

-- a program whose second statement leaves the range of integers
abbrev pub overflow : List ℕ
overflow = codes "MAIN\nLET X = 9223372036854775807\nADD 1 TO X\nEND\n"

-- a PRINT of two values in a picture without a whole field
abbrev pub two_values : List ℕ
two_values = codes "MAIN\nPRINT 1 LINE WITH X, Y THUS\n*.**\nEND\n"

-- a word after the last END
abbrev pub word_behind : List ℕ
word_behind = codes "MAIN\nEND\nLOOP\n"

-- a text that ends in a statement
abbrev pub half_statement : List ℕ
half_statement = codes "MAIN\nLET X ="

-- a number past the greatest
abbrev pub too_large : List ℕ
too_large = codes "MAIN\nLET X = 9223372036854775808\nEND\n"

-- without commands, a program that was not run has an empty report
abbrev pub EmptyProgramStops : Type 0
EmptyProgramStops = HasTranscript stop (codes "") (codes "REPORT\n")

-- a line that is no command, and a command in lower case without a line end
abbrev pub BadCommandIsAnswered : Type 0
BadCommandIsAnswered = HasTranscript stop (codes "FOO\nstep")
    (codes "BAD COMMAND\nHALTED: STATE 1 CLOCK 0 STOPPED IN MAIN LINE 2\nREPORT\n")

-- a step back takes the line out of the report, and the step made again prints it again
abbrev pub FiveIsPrintedAgain : Type 0
FiveIsPrintedAgain = HasTranscript five (codes "STEP 2\nBACK\nSHOW REPORT\nSTEP\nSHOW REPORT\n")
    (codes "DONE: STATE 2 CLOCK 0 READY IN MAIN LINE 5\n"
    ++ codes "DONE: STATE 1 CLOCK 0 READY IN MAIN LINE 3\nREPORT\n"
    ++ codes "DONE: STATE 2 CLOCK 0 READY IN MAIN LINE 5\nREPORT\nX =   5\nREPORT\nX =   5\n")

-- steps back end at the start, one or ten, and there X is 0
abbrev pub BackEndsAtStart : Type 0
BackEndsAtStart = HasTranscript five (codes "BACK\nSTEP 3\nBACK 10\nSHOW VAR X\n")
    (codes "START: STATE 0 CLOCK 0 READY IN MAIN LINE 2\n"
    ++ codes "HALTED: STATE 3 CLOCK 0 STOPPED IN MAIN LINE 5\n"
    ++ codes "START: STATE 0 CLOCK 0 READY IN MAIN LINE 2\nX = 0\nREPORT\n")

-- FORGET 1 leaves one step back, and the steps made later are kept
abbrev pub OldStepsAreForgotten : Type 0
OldStepsAreForgotten = HasTranscript five
    (codes "STEP 2\nFORGET 1\nBACK\nBACK\nSTEP 5\nBACK 2\nFORGET 5\nSHOW VAR X\n")
    (codes "DONE: STATE 2 CLOCK 0 READY IN MAIN LINE 5\nKEPT 1\n"
    ++ codes "DONE: STATE 1 CLOCK 0 READY IN MAIN LINE 3\n"
    ++ codes "NOTHING KEPT: STATE 1 CLOCK 0 READY IN MAIN LINE 3\n"
    ++ codes "HALTED: STATE 3 CLOCK 0 STOPPED IN MAIN LINE 5\n"
    ++ codes "DONE: STATE 1 CLOCK 0 READY IN MAIN LINE 3\nKEPT 0\nX = 5\nREPORT\n")

-- a fault is at its statement and assigns nothing
abbrev pub OverflowStands : Type 0
OverflowStands = HasTranscript overflow (codes "STEP 5\nSHOW VAR X\nBACK 2\nSHOW VAR X\n")
    (codes "HALTED: STATE 2 CLOCK 0 FAULT F1 IN MAIN LINE 3\nX = 9223372036854775807\n"
    ++ codes "DONE: STATE 0 CLOCK 0 READY IN MAIN LINE 2\nX = 0\nREPORT\n")

-- a picture without a field for each value is refused by C10, at its PRINT
abbrev pub WrongPictureIsRefused : Type 0
WrongPictureIsRefused = AlwaysHasTranscript two_values (codes "MODEL REFUSED C10 LINE 2\n")

-- a text without words is refused by C11, at line 1
abbrev pub EmptyTextIsRefused : Type 0
EmptyTextIsRefused = AlwaysHasTranscript (codes "") (codes "MODEL REFUSED C11 LINE 1\n")

-- a word that begins no section is refused by P1, after the last END
abbrev pub WordBehindEndIsRefused : Type 0
WordBehindEndIsRefused = AlwaysHasTranscript word_behind (codes "MODEL REFUSED P1 LINE 3\n")

-- a text that ends in a statement is refused by P2, at its last word
abbrev pub TextsEndIsRefused : Type 0
TextsEndIsRefused = AlwaysHasTranscript half_statement (codes "MODEL REFUSED P2 LINE 2\n")

-- a number past the greatest is refused by L2, at its line
abbrev pub LargeNumberIsRefused : Type 0
LargeNumberIsRefused = AlwaysHasTranscript too_large (codes "MODEL REFUSED L2 LINE 2\n")
