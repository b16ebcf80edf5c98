-- The lines that ask for rows of entities: SHOW SET s [k] a .. and SHOW c a ..; before any run.
use Rattle.std.specs.Prelude.{ℕ, ℤ, Bool, true, false, not, ◌&&◌, List, [], ◌∷◌, codes, is_some, if◌then◌else◌}
use Rattle.std.specs.Prelude.{Option, Some, None, option_map, Result, Ok, Err}
use Rattle.std.specs.Str.{bytes_eq}
use Rattle.ss_program.specs.Program.{ProgramTable, set_of}
use Rattle.ss_debug.specs.Entities.{class_named, set_named}
use Rattle.ss_debug.specs.declared.commands.Command.{Command}
use Rattle.ss_debug.specs.declared.commands.Command.TheVariants.{Show}
use Rattle.ss_debug.specs.declared.commands.Question.TheVariants.{Set}
use Rattle.ss_prompt.specs.Words.{command_behind, line_behind, only_name_of}
use Rattle.ss_prompt.specs.Asked.{first_there}
use Rattle.ss_prompt.specs.Missing.{is_variable, has_attribute, listed}
use Rattle.ss_prompt.specs.Sights.{free_name_of}
use Rattle.ss_prompt.specs.declared.missing.Missing.{Missing as Unknown}
use Rattle.ss_prompt.specs.declared.missing.Missing.TheVariants as missing
use Rattle.ss_prompt.specs.declared.sight.Sight.{Sight}
use Rattle.ss_prompt.specs.declared.sight.Sight.TheVariants.{MemberRows, LivingRows}
use Rattle.ss_prompt.specs.declared.commands.PromptCommand.{PromptCommand}
use Rattle.ss_prompt.specs.declared.commands.PromptCommand.TheVariants.{See, Missing}

-- ---- names of attributes

-- whether each word is a name, and no reserved word
abbrev pub are_names : List (List ℕ) → Bool
are_names [] = true
are_names (word ∷ more) = is_some (free_name_of (word ∷ [])) && are_names more

-- the line of some names, if there is one at least
abbrev pub names_line : List (List ℕ) → Option (List ℕ)
names_line [] = None
names_line (word ∷ more) = if are_names (word ∷ more) then line_behind [] (word ∷ more) else None

-- the first of some names that the entities of class c have no attribute of
abbrev pub unknown_of : ProgramTable → ℕ → List (List ℕ) → Option (List ℕ)
unknown_of program c [] = None
unknown_of program c (a ∷ more) = if has_attribute program c a then unknown_of program c more else only_name_of (a ∷ [])

-- rows, or the name that is no attribute
abbrev pub rows_unless : Sight → Option (List ℕ) → PromptCommand
rows_unless sight None = See sight
rows_unless sight (Some name) = Missing (missing.Attribute name)

-- ---- SET s [k] a ..

-- the first of some names that the members of a set have no attribute of, by the number of the set
abbrev pub unknown_of_members : ProgramTable → Option ℕ → List (List ℕ) → Option (List ℕ)
unknown_of_members program None words = None
unknown_of_members program (Some s) words = unknown_of program (set_of program s).member words

-- rows of the members of a list that a program has, or what it hasn't
abbrev pub member_rows_in : ProgramTable → Option ℤ → List (List ℕ) → List ℕ → Result (List ℕ) Unknown → PromptCommand
member_rows_in program owner words line (Err m) = Missing m
member_rows_in program owner words line (Ok set) =
    rows_unless (MemberRows set owner line) (unknown_of_members program (set_named program set) words)

-- rows of the list that SHOW SET asks for
abbrev pub member_rows_of : ProgramTable → Command → List (List ℕ) → Option PromptCommand
member_rows_of program (Show (Set set owner)) words =
    option_map (λ line. member_rows_in program owner words line (listed program set owner)) (names_line words)
member_rows_of program _ words = None

-- the words after SET and the name of a set: the number of an owner as SHOW SET takes it, or none, and names
abbrev pub member_rows_command : ProgramTable → List ℕ → List (List ℕ) → Option PromptCommand
member_rows_command program set [] = None
member_rows_command program set (word ∷ more) =
    first_there (member_rows_of program (command_behind (codes "SHOW SET") (set ∷ word ∷ [])) more)
    (member_rows_of program (command_behind (codes "SHOW SET") (set ∷ [])) (word ∷ more))

-- ---- c a ..

-- whether the first of some words is an attribute of the entities of class c, and no variable
abbrev pub begins_rows : ProgramTable → ℕ → List (List ℕ) → Bool
begins_rows program c [] = false
begins_rows program c (word ∷ more) = has_attribute program c word && not (is_variable program word)

-- rows of the entities of class c
abbrev pub living_rows_in : ProgramTable → List ℕ → ℕ → List (List ℕ) → Option PromptCommand
living_rows_in program class c words =
    if begins_rows program c words
    then option_map (λ line. rows_unless (LivingRows class line) (unknown_of program c words)) (names_line words)
    else None

-- those of the class with a number, if there is one
abbrev pub living_rows_by : ProgramTable → List ℕ → Option ℕ → List (List ℕ) → Option PromptCommand
living_rows_by program class None words = None
living_rows_by program class (Some c) words = living_rows_in program class c words

-- those of the class with a name, if there is one
abbrev pub living_rows_command : ProgramTable → Option (List ℕ) → List (List ℕ) → Option PromptCommand
living_rows_command program None words = None
living_rows_command program (Some class) words = living_rows_by program class (class_named program class) words

-- ---- the words after SHOW

-- the rows that some words after SHOW ask for
abbrev pub rows_command : ProgramTable → List (List ℕ) → Option PromptCommand
rows_command program [] = None
rows_command program (what ∷ []) = None
rows_command program (what ∷ word ∷ rest) =
    if bytes_eq what (codes "SET") then member_rows_command program word rest
    else living_rows_command program (free_name_of (what ∷ [])) (word ∷ rest)
