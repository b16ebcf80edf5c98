-- The command that a command line says.
use Rattle.std.specs.Prelude.{ℕ, ℤ, pos, List, [], ◌∷◌, length, map, Option, Some, None, option_map, if◌then◌else◌}
use Rattle.std.specs.Prelude.{nat_lt, codes}
use Rattle.std.specs.Char.{to_ascii_uppercase}
use Rattle.std.specs.Str.{bytes_eq}
use Rattle.ss_debug.specs.CommandLines.{command_words, number_within, name_of}
use Rattle.ss_debug.specs.declared.limits.TheConstants.{LONGEST_LINE, GREATEST_BOUND, GREATEST_KEPT, GREATEST_LINE}
use Rattle.ss_debug.specs.declared.limits.TheConstants.{GREATEST_TIME, GREATEST_ENTITY}
use Rattle.ss_debug.specs.declared.commands.Command.{Command}
use Rattle.ss_debug.specs.declared.commands.Command.TheVariants.{Blank, Bad, Move, Break, Clear, Forget, Show, Quit}
use Rattle.ss_debug.specs.declared.commands.Movement.{Movement}
use Rattle.ss_debug.specs.declared.commands.Movement.TheVariants.{Step, Run, RunTo, Next, Back, BackEvent, BackBreak}
use Rattle.ss_debug.specs.declared.commands.Question.TheVariants.{Clock, Where, Variable, Entity, Set, Events, Taken}
use Rattle.ss_debug.specs.declared.commands.Question.TheVariants.{Entry, Report}

-- the command that is made of a value that was read, or a bad one if there is none
abbrev pub or_bad : {A : Type 0} → (A → Command) → Option A → Command
or_bad make None = Bad
or_bad make (Some x) = make x

-- the number from low to high that is the only word
abbrev pub only_number_of : ℕ → ℕ → List (List ℕ) → Option ℕ
only_number_of low high [] = None
only_number_of low high (word ∷ []) = number_within low high word
only_number_of low high (word ∷ next ∷ more) = None

-- the bound of a movement: the number in the only word after it, or another if there is no word
abbrev pub bound_of : ℕ → List (List ℕ) → Option ℕ
bound_of otherwise [] = Some otherwise
bound_of otherwise (word ∷ more) = only_number_of 1 GREATEST_BOUND (word ∷ more)

-- the line that is the only word
abbrev pub only_line_of : List (List ℕ) → Option ℕ
only_line_of words = only_number_of 1 GREATEST_LINE words

-- a movement, or a bad command
abbrev pub movement_of : {A : Type 0} → (A → Movement) → Option A → Command
movement_of make x = or_bad (λ y. Move (make y)) x

-- a command that no word may follow
abbrev pub command_alone : Command → List (List ℕ) → Command
command_alone command [] = command
command_alone command (word ∷ more) = Bad

-- the command of the words after RUN: TO and a time, or a bound
abbrev pub run_command : List (List ℕ) → Command
run_command [] = Move (Run GREATEST_BOUND)
run_command (word ∷ rest) =
    if bytes_eq word (codes "TO") then movement_of RunTo (only_number_of 0 GREATEST_TIME rest)
    else movement_of Run (bound_of GREATEST_BOUND (word ∷ rest))

-- the command of the words after BACK: EVENT, BREAK, or a bound
abbrev pub back_command : List (List ℕ) → Command
back_command [] = Move (Back 1)
back_command (word ∷ rest) =
    if bytes_eq word (codes "EVENT") then command_alone (Move BackEvent) rest else
    if bytes_eq word (codes "BREAK") then command_alone (Move BackBreak) rest
    else movement_of Back (bound_of 1 (word ∷ rest))

-- the question that is one word
abbrev pub question_alone : List ℕ → Command
question_alone what =
    if bytes_eq what (codes "CLOCK") then Show Clock else
    if bytes_eq what (codes "WHERE") then Show Where else
    if bytes_eq what (codes "EVENTS") then Show Events else
    if bytes_eq what (codes "TAKEN") then Show Taken else
    if bytes_eq what (codes "ENTRY") then Show Entry else
    if bytes_eq what (codes "REPORT") then Show Report else Bad

-- the number by which a word names an entity
abbrev pub entity_number : List ℕ → Option ℤ
entity_number word = option_map pos (number_within 0 GREATEST_ENTITY word)

-- the question that is two words, the second of which is perhaps the number of an entity of the class that the first
-- names
abbrev pub question_of_two : List ℕ → List ℕ → Option ℤ → Command
question_of_two what word (Some x) = or_bad (λ name. Show (Entity name x)) (name_of what)
question_of_two what word None =
    if bytes_eq what (codes "VAR") then or_bad (λ name. Show (Variable name)) (name_of word) else
    if bytes_eq what (codes "SET") then or_bad (λ name. Show (Set name None)) (name_of word) else Bad

-- the question on a set of this name for this owner
abbrev pub question_of_owner : Option (List ℕ) → Option ℤ → Command
question_of_owner None owner = Bad
question_of_owner (Some name) None = Bad
question_of_owner (Some name) (Some x) = Show (Set name (Some x))

-- the question that is three words: SET, a set and the number of an owner
abbrev pub question_of_three : List ℕ → List ℕ → List ℕ → Command
question_of_three what word last =
    if bytes_eq what (codes "SET") then question_of_owner (name_of word) (entity_number last) else Bad

-- the command of the words after SHOW
abbrev pub show_command : List (List ℕ) → Command
show_command [] = Bad
show_command (what ∷ []) = question_alone what
show_command (what ∷ word ∷ []) = question_of_two what word (entity_number word)
show_command (what ∷ word ∷ last ∷ []) = question_of_three what word last
show_command (what ∷ word ∷ last ∷ more ∷ rest) = Bad

-- the command that the words of a line say, in upper case
unfoldable pub command_in_words : List (List ℕ) → Command
command_in_words [] = Blank
command_in_words (verb ∷ rest) =
    if bytes_eq verb (codes "STEP") then movement_of Step (bound_of 1 rest) else
    if bytes_eq verb (codes "RUN") then run_command rest else
    if bytes_eq verb (codes "NEXT") then command_alone (Move Next) rest else
    if bytes_eq verb (codes "BACK") then back_command rest else
    if bytes_eq verb (codes "BREAK") then or_bad Break (only_line_of rest) else
    if bytes_eq verb (codes "CLEAR") then or_bad Clear (only_line_of rest) else
    if bytes_eq verb (codes "FORGET") then or_bad Forget (only_number_of 1 GREATEST_KEPT rest) else
    if bytes_eq verb (codes "SHOW") then show_command rest else
    if bytes_eq verb (codes "QUIT") then command_alone Quit rest else Bad

-- the command of a line that is too long for a command, by its words
abbrev pub command_of_long_line : List (List ℕ) → Command
command_of_long_line [] = Blank
command_of_long_line (word ∷ more) = Bad

-- the command that a line says; a line that is too long is bad, unless it has no words
unfoldable pub command_of : List ℕ → Command
command_of line =
    if nat_lt LONGEST_LINE (length line) then command_of_long_line (command_words line)
    else command_in_words (command_words (map to_ascii_uppercase line))
