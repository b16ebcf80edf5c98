-- The command that a line of the prompt gives.
use Rattle.std.specs.Prelude.{ℕ, Bool, false, not, List, [], ◌∷◌, length, map, drop, Option, Some, None}
use Rattle.std.specs.Prelude.{if◌then◌else◌, nat_lt, codes}
use Rattle.std.specs.Prelude.{nat_eq, nat_le, is_some, option_map, Result, Ok, Err}
use Rattle.std.specs.Char.{to_ascii_uppercase}
use Rattle.std.specs.Str.{bytes_eq}
use Rattle.ss_console.specs.declared.lines.TheConstants.{LONGEST_LINE}
use Rattle.ss_debug.specs.CommandLines.{command_words}
use Rattle.ss_debug.specs.Command.{command_of}
use Rattle.ss_debug.specs.declared.commands.Command.{Command}
use Rattle.ss_debug.specs.declared.commands.Command.TheVariants.{Bad, Move, Break}
use Rattle.ss_debug.specs.declared.commands.Question.TheVariants.{Entity}
use Rattle.ss_debug.specs.Entities.{class_named}
use Rattle.ss_debug.specs.declared.commands.Movement.TheVariants.{Step, RunTo}
use Rattle.ss_trace.specs.declared.movement.Movement.TheVariants.{Over, Out, BackOver, BackOut, BackTo, Go, GoEnd}
use Rattle.ss_trace.specs.declared.movement.Movement.TheVariants.{RunChange, BackChange}
use Rattle.ss_trace.specs.declared.question.Question.{Question as AskedQuestion}
use Rattle.ss_trace.specs.declared.question.Question.TheVariants.{Shown}
use Rattle.ss_program.specs.Program.{ProgramTable}
use Rattle.ss_prompt.specs.declared.histories.TheConstants.{ROWS_UNLESS_SAID}
use Rattle.ss_prompt.specs.declared.missing.Missing.{Missing as Unknown}
use Rattle.ss_prompt.specs.declared.sight.Sight.{Sight}
use Rattle.ss_prompt.specs.declared.sight.Sight.TheVariants.{Living}
use Rattle.ss_prompt.specs.Missing.{asked_of_program, bare_asked, is_declared}
use Rattle.ss_prompt.specs.Advice.{verb_of, has_number}
use Rattle.ss_prompt.specs.Places.{next_line}
use Rattle.ss_prompt.specs.Words.{command_or_bad, command_behind, line_behind, only_name_of, after_words}
use Rattle.ss_prompt.specs.Table.{Form, forms, form_words}
use Rattle.ss_prompt.specs.Asked.{first_there, own_asked, asked_of, question_in}
use Rattle.ss_prompt.specs.Histories.{with_rows}
use Rattle.ss_prompt.specs.declared.causes.CauseCommand.TheVariants as causes
use Rattle.ss_prompt.specs.Sections.{line_of_section, taken_line}
use Rattle.ss_prompt.specs.Sights.{sight_of, places_of}
use Rattle.ss_prompt.specs.RowsAsked.{rows_command}
use Rattle.ss_prompt.specs.Cuts.{whole_line, first_whole_line}
use Rattle.ss_prompt.specs.Manners.{words_before}
use Rattle.ss_prompt.specs.declared.manner.Manner.{Manner}
use Rattle.ss_prompt.specs.declared.manner.Manner.TheVariants as manners
use Rattle.ss_prompt.specs.declared.makes.Makes.{Makes}
use Rattle.ss_prompt.specs.declared.makes.Makes.TheVariants as makes
use Rattle.ss_prompt.specs.declared.makes.Single.{Single}
use Rattle.ss_prompt.specs.declared.makes.Single.TheVariants as singles
use Rattle.ss_prompt.specs.declared.sight.Sight.TheVariants as sights
use Rattle.ss_prompt.specs.declared.break_place.BreakPlace.{BreakPlace}
use Rattle.ss_prompt.specs.declared.break_place.BreakPlace.TheVariants as place
use Rattle.ss_prompt.specs.declared.until.Until.{Until as Way}
use Rattle.ss_prompt.specs.declared.commands.PromptCommand.{PromptCommand}
use Rattle.ss_prompt.specs.declared.commands.PromptCommand.TheVariants.{Plain, Travel, Lines, SectionLines}
use Rattle.ss_prompt.specs.declared.commands.PromptCommand.TheVariants.{BreakSection, BreakWhen, ClearSection, ClearAll}
use Rattle.ss_prompt.specs.declared.commands.PromptCommand.TheVariants.{Breaks, Once, Cause}
use Rattle.ss_prompt.specs.declared.commands.PromptCommand.TheVariants.{Changed, Missing, NoPlace}
use Rattle.ss_prompt.specs.declared.commands.PromptCommand.TheVariants.{LinesBetween, UndisplayOne, Unread}
use Rattle.ss_prompt.specs.declared.commands.PromptCommand.TheVariants.{Value, Until, Meant}
use Rattle.ss_prompt.specs.declared.commands.PromptCommand.TheVariants.{Ask, See, Why, History, Display, Undisplay}
use Rattle.ss_prompt.specs.declared.commands.PromptCommand.TheVariants.{Names, Warnings, Help}
use Rattle.ss_prompt.specs.declared.commands.PromptCommand.TheVariants.{Reads}

-- no command
abbrev pub bad : PromptCommand
bad = Plain Bad

-- a command after which no word may come
abbrev pub alone : PromptCommand → List (List ℕ) → Option PromptCommand
alone command [] = Some command
alone command (word ∷ more) = None

-- a number of steps, as STEP takes it
abbrev pub steps_in : Command → Option ℕ
steps_in (Move (Step n)) = Some n
steps_in _ = None

-- a time or a position, as RUN TO takes it
abbrev pub time_in : Command → Option ℕ
time_in (Move (RunTo time)) = Some time
time_in _ = None

-- a movement to a state in which a condition holds; the words of the condition may be none
abbrev pub until_command : Way → List (List ℕ) → Option PromptCommand
until_command way words = option_map (λ text. Until way text (has_number words)) (line_behind [] words)

-- a command on a question as a program has its names, or which of them it hasn't
abbrev pub asked_command : (AskedQuestion → PromptCommand) → Result AskedQuestion Unknown → PromptCommand
asked_command make (Ok x) = make x
asked_command make (Err m) = Missing m

-- a command on a question, by its manner
abbrev pub made_by : Manner → AskedQuestion → PromptCommand
made_by manners.Why x = Why x
made_by manners.History x = History x ROWS_UNLESS_SAID
made_by manners.RunChange x = Travel (RunChange x)
made_by manners.BackChange x = Travel (BackChange x)
made_by manners.Display x = Display x
made_by manners.Undisplay x = UndisplayOne x

-- a command on what a text of some words asks
abbrev pub text_command : Manner → List (List ℕ) → Option PromptCommand
text_command manner words = option_map (λ text. Meant manner text (has_number words)) (line_behind [] words)

-- a command on a question, if there is one, or else on a text
abbrev pub question_or_text : Manner → List (List ℕ) → Option (Result AskedQuestion Unknown) → Option PromptCommand
question_or_text manner words (Some asked) = Some (asked_command (made_by manner) asked)
question_or_text manner words None = text_command manner words

-- a command on the question that some words ask, or else on a text
abbrev pub manner_command : ProgramTable → Manner → List (List ℕ) → Option PromptCommand
manner_command program manner words = question_or_text manner words (question_in program words)

-- HISTORY of the longest question whose names the program has, else the longest's missing name, else
-- another command
abbrev pub history_by : Option (Result AskedQuestion Unknown) → Option (Result AskedQuestion Unknown × ℕ) →
    Option PromptCommand → Option PromptCommand
history_by (Some (Ok x)) shorter other = Some (History x ROWS_UNLESS_SAID)
history_by longest (Some (Ok x, rows)) other = Some (History x rows)
history_by (Some (Err m)) shorter other = Some (Missing m)
history_by None (Some (Err m, rows)) other = Some (Missing m)
history_by None None other = other

-- whether a question is on an entity of no class: then its number is one of rows
abbrev pub is_rows_of : ProgramTable → Option AskedQuestion → Bool
is_rows_of program (Some (Shown (Entity name x))) = not (is_some (class_named program name))
is_rows_of program _ = false

-- the longest question after HISTORY
abbrev pub longest_in : ProgramTable → List (List ℕ) → Option (Result AskedQuestion Unknown)
longest_in program words = if is_rows_of program (asked_of words) then None else question_in program words

-- the words after HISTORY: a question, and perhaps a number of rows, or else a text
unfoldable pub history_command : ProgramTable → List (List ℕ) → Option PromptCommand
history_command program words =
    history_by (longest_in program words) (with_rows program words) (text_command manners.History words)

-- a bare name: the entities of a class, or else a set or a variable; another may be an attribute
abbrev pub bare_command : ProgramTable → List ℕ → Option PromptCommand
bare_command program name =
    if is_some (class_named program name) then Some (See (Living name)) else
    if is_declared program name then Some (Ask (bare_asked program name)) else None

-- a sight; a bare name is read by its declaration
abbrev pub seen_command : ProgramTable → Option Sight → Option PromptCommand
seen_command program None = None
seen_command program (Some (Living name)) = bare_command program name
seen_command program (Some sight) = Some (See sight)

-- the rows that the words after SHOW ask for, or else another sight
abbrev pub rows_or_sight : ProgramTable → Option PromptCommand → List (List ℕ) → Option PromptCommand
rows_or_sight program (Some rows) words = Some rows
rows_or_sight program None words = seen_command program (sight_of words)

-- the words after SHOW: a question, rows or another sight
abbrev pub show_command : ProgramTable → Option AskedQuestion → List (List ℕ) → Option PromptCommand
show_command program (Some x) words = Some (asked_command Ask (asked_of_program program x))
show_command program None words = rows_or_sight program (rows_command program words) words

-- LIST: a line as BREAK takes it, or the name of a section
abbrev pub lines_of : Command → Option (List ℕ) → Option PromptCommand
lines_of (Break line) name = Some (Lines (Some line))
lines_of _ name = option_map SectionLines name

-- the lines from one to another, each as BREAK takes it
abbrev pub lines_between : Command → Command → Option PromptCommand
lines_between (Break from) (Break to) = if nat_le from to then Some (LinesBetween from to) else None
lines_between _ _ = None

-- the words after LIST
abbrev pub list_command : List (List ℕ) → Option PromptCommand
list_command [] = Some (Lines None)
list_command (word ∷ []) = lines_of (command_behind (codes "BREAK") (word ∷ [])) (only_name_of (word ∷ []))
list_command (word ∷ next ∷ rest) =
    lines_between (command_behind (codes "BREAK") (word ∷ [])) (command_behind (codes "BREAK") (next ∷ rest))

-- the words after NAMES
abbrev pub names_command : List (List ℕ) → Option PromptCommand
names_command [] = Some (Names None)
names_command (word ∷ rest) = option_map (λ name. Names (Some name)) (only_name_of (word ∷ rest))

-- the words after HELP: the first word counts
abbrev pub help_command : List (List ℕ) → Option PromptCommand
help_command [] = Some (Help None)
help_command (word ∷ rest) = option_map (λ name. Help (Some name)) (only_name_of (word ∷ []))

-- the words after CLEAR: none, or the name of a section
abbrev pub clear_command : List (List ℕ) → Option PromptCommand
clear_command [] = Some ClearAll
clear_command (word ∷ rest) = option_map ClearSection (only_name_of (word ∷ rest))

-- the words after UNDISPLAY: none, or a question
abbrev pub undisplay_command : ProgramTable → List (List ℕ) → Option PromptCommand
undisplay_command program [] = Some Undisplay
undisplay_command program (word ∷ rest) = manner_command program manners.Undisplay (word ∷ rest)

-- a command on a line with a place, or the next one that has one
abbrev pub placed : PromptCommand → ℕ → Option ℕ → PromptCommand
placed command line None = NoPlace line None
placed command line (Some next) = if nat_eq next line then command else NoPlace line (Some next)

-- TBREAK r: the line of the first place of a section; if it takes none, it is BREAK r
abbrev pub once_in : Option ℕ → List ℕ → PromptCommand
once_in (Some line) name = Once line
once_in None name = BreakSection name

-- TBREAK: a line as BREAK takes it, or the name of a section
abbrev pub once_of : ProgramTable → Command → Option (List ℕ) → Option PromptCommand
once_of program (Break line) name = Some (placed (Once line) line (next_line program line))
once_of program _ name = option_map (λ n. once_in (taken_line (line_of_section program n)) n) name

-- BREAK of a place, with a condition that some words may be
abbrev pub when_at : BreakPlace → List (List ℕ) → Bool → Option PromptCommand
when_at place words numbered = option_map (λ text. BreakWhen place text numbered) (line_behind [] words)

-- BREAK with a condition, of a line as BREAK takes it, or else of the section of a name
abbrev pub when_by : ProgramTable → Command → Option (List ℕ) → List (List ℕ) → Bool → Option PromptCommand
when_by program (Break line) name words numbered =
    option_map (λ command. placed command line (next_line program line)) (when_at (place.Line line) words numbered)
when_by program _ None words numbered = None
when_by program _ (Some name) words numbered = when_at (place.Section name) words numbered

-- BREAK of the line or the section that a word is, with a condition
abbrev pub when_command : ProgramTable → List ℕ → List (List ℕ) → Bool → Option PromptCommand
when_command program word words numbered =
    when_by program (command_behind (codes "BREAK") (word ∷ [])) (only_name_of (word ∷ [])) words numbered

-- the words after BREAK that is none of docs/DEBUGGER.md: a section, or a place, WHEN and a condition
abbrev pub break_words_command : ProgramTable → List (List ℕ) → Option PromptCommand
break_words_command program [] = None
break_words_command program (word ∷ []) = option_map BreakSection (only_name_of (word ∷ []))
break_words_command program (word ∷ when ∷ words) =
    if bytes_eq when (codes "WHEN") then when_command program word words (has_number (word ∷ when ∷ words))
    else option_map BreakSection (only_name_of (word ∷ when ∷ words))

-- a command of one or two words
abbrev pub single : Single → PromptCommand
single singles.Out = Travel Out
single singles.BackOut = Travel BackOut
single singles.GoEnd = Travel GoEnd
single singles.WhyCause = Cause causes.Why
single singles.BackCause = Cause causes.Back
single singles.Breaks = Breaks
single singles.Reads = Reads
single singles.Warnings = Warnings
single singles.Changed = Changed
single (singles.Overview overview) = See (sights.Overview overview)

-- what a row makes of the words after its own
abbrev pub made_of : ProgramTable → Makes → List (List ℕ) → Option PromptCommand
made_of program makes.Elsewhere words = None
made_of program makes.Asked words = None
made_of program makes.Also words = None
made_of program (makes.Alone command) words = alone (single command) words
made_of program makes.Over words = option_map (λ n. Travel (Over n)) (steps_in (command_behind (codes "STEP") words))
made_of program makes.BackOver words =
    option_map (λ n. Travel (BackOver n)) (steps_in (command_behind (codes "STEP") words))
made_of program makes.BackTo words =
    option_map (λ time. Travel (BackTo time)) (time_in (command_behind (codes "RUN TO") words))
made_of program makes.Go words = option_map (λ p. Travel (Go p)) (time_in (command_behind (codes "RUN TO") words))
made_of program (makes.Until way) words = until_command way words
made_of program (makes.Question manner) words = manner_command program manner words
made_of program makes.History words = history_command program words
made_of program makes.Undisplay words = undisplay_command program words
made_of program makes.Show words = show_command program (own_asked words) words
made_of program makes.Places words = option_map See (places_of (command_behind (codes "SHOW") words))
made_of program makes.List words = list_command words
made_of program makes.Break words = break_words_command program words
made_of program makes.Clear words = clear_command words
made_of program makes.Once words = once_of program (command_behind (codes "BREAK") words) (only_name_of words)
made_of program makes.Names words = names_command words
made_of program makes.Help words = help_command words

-- that, if a line begins with the words of the row
abbrev pub made_after : ProgramTable → Makes → Option (List (List ℕ)) → Option PromptCommand
made_after program what None = None
made_after program what (Some words) = made_of program what words

-- the command that the last of some rows makes that makes one of the words of a line, or else another one
abbrev pub own_by : ProgramTable → List (List ℕ) → List Form → Option PromptCommand → Option PromptCommand
own_by program words [] other = other
own_by program words (form ∷ rows) other =
    own_by program words rows (first_there (made_after program form.1 (after_words (form_words form) words)) other)

-- the command in the words of a line that is none of docs/DEBUGGER.md
unfoldable pub own_in_words : ProgramTable → List (List ℕ) → Option PromptCommand
own_in_words program words = own_by program words forms None

-- BREAK of a line with a place, or the next one that has one
abbrev pub break_command : ℕ → Option ℕ → PromptCommand
break_command line next = placed (Plain (Break line)) line next

-- a command of docs/DEBUGGER.md as it is meant at the prompt: BREAK needs a line with a place
unfoldable pub plain_meant : ProgramTable → Command → PromptCommand
plain_meant program (Break line) = break_command line (next_line program line)
plain_meant program command = Plain command

-- a command of docs/DEBUGGER.md stays one; else another is tried
abbrev pub or_own : ProgramTable → Command → PromptCommand → PromptCommand
or_own program Bad own = own
or_own program command own = plain_meant program command

-- a command, or the advice on words that are none
abbrev pub advised : List (List ℕ) → Option PromptCommand → PromptCommand
advised words None = Unread (verb_of words) (has_number words)
advised words (Some command) = command

-- the command in a line whose words are whole, if it is not too long
abbrev pub own_of_whole : ProgramTable → Option (List ℕ) → PromptCommand
own_of_whole program None = bad
own_of_whole program (Some line) =
    or_own program (command_of line) (advised (command_words line) (own_in_words program (command_words line)))

-- the words of a line after the first, with a blank between them
abbrev pub text_asked : List ℕ → Option (List ℕ)
text_asked line = line_behind [] (drop 1 (command_words line))

-- SHOW of a text, if it is no longer than a line may be
abbrev pub show_value : List ℕ → Bool → Option (List ℕ) → PromptCommand
show_value verb numbered None = Unread (Some verb) numbered
show_value verb numbered (Some text) = Value text numbered

-- a line in upper case that is no command, with its first word; if that is SHOW, it may ask for the value
-- of an expression or a condition
abbrev pub unread_or_value : List ℕ → Option (List ℕ) → Bool → PromptCommand
unread_or_value line None numbered = Unread None numbered
unread_or_value line (Some verb) numbered =
    if bytes_eq verb (codes "SHOW") then show_value verb numbered (text_asked line) else Unread (Some verb) numbered

-- a command on the words of a line after the first ones, as they are written, if they are not too long
abbrev pub written_command : Manner → Bool → Option (List ℕ) → PromptCommand
written_command manner numbered None = bad
written_command manner numbered (Some text) = Meant manner text numbered

-- the command of a line in upper case, if it is one; else what the line may ask for
abbrev pub or_value : List ℕ → PromptCommand → PromptCommand
or_value line (Unread verb numbered) = unread_or_value line verb numbered
or_value line (Meant manner text numbered) =
    written_command manner numbered (line_behind [] (drop (words_before manner) (command_words line)))
or_value line command = command

-- the command in a line that is none of docs/DEBUGGER.md as written: in upper case, its words whole
unfoldable pub own_command_of : ProgramTable → List ℕ → PromptCommand
own_command_of program line =
    if nat_lt LONGEST_LINE (length line) then bad
    else or_value (map to_ascii_uppercase line)
    (own_of_whole program (whole_line program (map to_ascii_uppercase line)))

-- a command of docs/DEBUGGER.md, or else another
abbrev pub or_else : Command → Command → Command
or_else Bad other = other
or_else command other = command

-- the command of docs/DEBUGGER.md in a line with its first word made whole
unfoldable pub first_whole_command_of : List ℕ → Command
first_whole_command_of line =
    if nat_lt LONGEST_LINE (length line) then Bad
    else command_or_bad (first_whole_line (map to_ascii_uppercase line))

-- the command of docs/DEBUGGER.md in a line as written, or else with its first word made whole
unfoldable pub plain_command_of : List ℕ → Command
plain_command_of line = or_else (command_of line) (first_whole_command_of line)

-- the command in a line about a program
unfoldable pub prompt_command_of : ProgramTable → List ℕ → PromptCommand
prompt_command_of program line = or_own program (plain_command_of line) (own_command_of program line)
