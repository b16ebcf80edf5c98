-- The sights that SHOW gives, next to its answers to questions.
use Rattle.std.specs.Prelude.{ℕ, Bool, ◌||◌, List, [], ◌∷◌, codes, Option, Some, None, if◌then◌else◌}
use Rattle.std.specs.Str.{bytes_eq}
use Rattle.ss_words.specs.Spellings.{is_reserved_name}
use Rattle.ss_state.specs.Run.{Input}
use Rattle.ss_inspect.specs.Overviews.{overview_text}
use Rattle.ss_inspect.specs.Living.{living_text}
use Rattle.ss_inspect.specs.Lists.{places_text}
use Rattle.ss_inspect.specs.Attribute.{by_variable_text}
use Rattle.ss_debug.specs.CommandLines.{command_words}
use Rattle.ss_debug.specs.declared.commands.Command.{Command}
use Rattle.ss_debug.specs.declared.commands.Command.TheVariants.{Show}
use Rattle.ss_debug.specs.declared.commands.Question.TheVariants.{Entity}
use Rattle.ss_prompt.specs.Words.{only_name_of}
use Rattle.ss_prompt.specs.Rows.{member_rows_text, living_rows_text}
use Rattle.ss_prompt.specs.declared.sight.Sight.{Sight}
use Rattle.ss_prompt.specs.declared.sight.Sight.TheVariants.{Overview, Living, ByVariable, Places}
use Rattle.ss_prompt.specs.declared.sight.Sight.TheVariants.{MemberRows, LivingRows}

-- the entities of a class, if a name is there
abbrev pub living_of : Option (List ℕ) → Option Sight
living_of None = None
living_of (Some name) = Some (Living name)

-- IN c k: an entity as SHOW takes it
abbrev pub places_of : Command → Option Sight
places_of (Show (Entity class x)) = Some (Places class x)
places_of _ = None

-- a name that is no reserved word of the language
abbrev pub unless_reserved : Option (List ℕ) → Option (List ℕ)
unless_reserved None = None
unless_reserved (Some name) = if is_reserved_name name then None else Some name

-- the name that the only word is, if it is no reserved word
abbrev pub free_name_of : List (List ℕ) → Option (List ℕ)
free_name_of words = unless_reserved (only_name_of words)

-- c v, if both are names
abbrev pub entity_by : Option (List ℕ) → Option (List ℕ) → Option (List ℕ) → Option Sight
entity_by (Some class) (Some variable) attribute = Some (ByVariable class variable attribute)
entity_by _ _ _ = None

-- c v a, if all are names
abbrev pub attribute_by : Option (List ℕ) → Option (List ℕ) → Option (List ℕ) → Option Sight
attribute_by class variable None = None
attribute_by class variable (Some name) = entity_by class variable (Some name)

-- c v or c v a, which are no reserved words
abbrev pub by_variable : List ℕ → List ℕ → List (List ℕ) → Option Sight
by_variable what word [] = entity_by (free_name_of (what ∷ [])) (free_name_of (word ∷ [])) None
by_variable what word (name ∷ more) =
    attribute_by (free_name_of (what ∷ [])) (free_name_of (word ∷ [])) (free_name_of (name ∷ more))

-- whether a word begins other lines than those on a class
abbrev pub is_question_word : List ℕ → Bool
is_question_word what =
    bytes_eq what (codes "VAR") || bytes_eq what (codes "SET") || bytes_eq what (codes "COUNT")
    || bytes_eq what (codes "IN") || bytes_eq what (codes "CHANGED")

-- the sight of the entities of a class that some words after SHOW ask for
abbrev pub sight_of : List (List ℕ) → Option Sight
sight_of [] = None
sight_of (what ∷ []) = living_of (only_name_of (what ∷ []))
sight_of (what ∷ word ∷ rest) = if is_question_word what then None else by_variable what word rest

-- the text of a sight in state p
abbrev pub sight_said : Sight → Input → ℕ → List ℕ
sight_said (Overview overview) input p = overview_text overview input p
sight_said (Living name) input p = living_text name input p
sight_said (ByVariable class variable attribute) input p = by_variable_text class variable attribute input p
sight_said (Places class x) input p = places_text class x input p
sight_said (MemberRows set owner names) input p = member_rows_text set owner (command_words names) input p
sight_said (LivingRows class names) input p = living_rows_text class (command_words names) input p
