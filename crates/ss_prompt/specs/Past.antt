-- The text of the history on a fault at which a movement stops: the state in which the missing
-- entity ended, or in which the list that a loop names changed last.
use Rattle.std.specs.Prelude.{ℕ, Bool, true, false, ◌≡◌, nat_lt, ◌⊎◌, List, [], ◌++◌, codes, decimal}
use Rattle.std.specs.Prelude.{if◌then◌else◌, Option, Some, None}
use Rattle.ss_state.specs.Run.{Input, run}
use Rattle.ss_debug.specs.declared.commands.Question.TheVariants.{Entity, Set}
use Rattle.ss_debug.specs.Answer.{state_line}
use Rattle.ss_debug.specs.CommandLines.{command_words}
use Rattle.ss_trace.specs.declared.question.Question.{Question}
use Rattle.ss_trace.specs.declared.question.Question.TheVariants.{Shown}
use Rattle.ss_trace.specs.History.{newest_change}
use Rattle.ss_faults.specs.Asked.{state_asked}
use Rattle.ss_prompt.specs.Asked.{asked_of}
use Rattle.ss_prompt.specs.Histories.{HasLookedBack}
use Rattle.ss_prompt.specs.PromptState.{PromptState}

-- a number between two texts
unfoldable pub number_phrase : List ℕ → ℕ → List ℕ → List ℕ
number_phrase head n tail = head ++ decimal n ++ tail

-- what is told of the last change: of a list, or of an entity that is missing
abbrev pub change_words : Bool → List ℕ
change_words true = codes " changed last in "
change_words false = codes " ended in "

-- that a list changed in no step that is kept, or that an entity was in no state that is kept; if all
-- steps are kept, that it was never made
unfoldable pub no_change_text : Bool → ℕ → List ℕ
no_change_text true earliest = number_phrase (codes " has not changed since STATE ") earliest (codes ".\n")
no_change_text false earliest =
    if nat_lt 0 earliest then number_phrase (codes " has not lived since STATE ") earliest (codes ".\n")
    else codes " was never made.\n"

-- the state of the last step at which a list or a missing entity changed, if there is one
abbrev pub last_change_text : Input → List ℕ → Bool → ℕ → Option ℕ → List ℕ
last_change_text input words is_list earliest None = words ++ no_change_text is_list earliest
last_change_text input words is_list earliest (Some q) = words ++ change_words is_list ++ state_line input q

-- whether a question is on a list; none if it is neither on one nor on an entity
abbrev pub asks_list : Question → Option Bool
asks_list (Shown (Entity name x)) = Some false
asks_list (Shown (Set name owner)) = Some true
asks_list _ = None

-- that text, if it is known whether a list or an entity is asked for
abbrev pub change_told : Input → List ℕ → Option Bool → ℕ → Option ℕ → List ℕ
change_told input words None earliest step = []
change_told input words (Some is_list) earliest step = last_change_text input words is_list earliest step

-- that text for an entity or a list asked with these words, by its last change; else nothing
abbrev pub change_text : Input → List ℕ → Question → ℕ → Option ℕ → List ℕ
change_text input words question earliest step = change_told input words (asks_list question) earliest step

-- the text of the history on a question, if there is one
abbrev pub question_text : PromptState → List ℕ → Option Question → List ℕ
question_text state words None = []
question_text state words (Some x) =
    change_text state.input words x state.debugger.earliest
    (newest_change state.input x state.debugger.earliest state.debugger.position)

-- the words with which the history is asked of the state's fault
abbrev pub words_asked : PromptState → List ℕ
words_asked s =
    let state = run s.input s.debugger.position in state_asked s.input.program state state.status

-- the question of these words
abbrev pub question_asked : PromptState → Option Question
question_asked state = asked_of (command_words (words_asked state))

-- the text of the history on the state's fault
abbrev pub past_told : PromptState → List ℕ
past_told state = question_text state (words_asked state) (question_asked state)

-- if memory was refused for that text: the history is asked something, and the debugger is between
-- the earliest kept position and its own; or the state is as it was
unfoldable pub HasSearchedPast : PromptState → PromptState → Type 0
HasSearchedPast state after = (after ≡ state) ⊎ ((question_asked state ≡ None → ⊥) × HasLookedBack state after)
