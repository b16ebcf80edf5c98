-- Questions that are answered at each stop.
use Rattle.std.specs.Prelude.{ℕ, Bool, Option, Some, None, is_some, position, List}
use Rattle.std.specs.Prelude.{[], ◌∷◌, ◌++◌, length, codes, decimal, if◌then◌else◌, nat_le}
use Rattle.std.specs.List.{remove}
use Rattle.std.specs.Str.{bytes_eq}
use Rattle.ss_prompt.specs.declared.shown.Shown.{Shown}
use Rattle.ss_prompt.specs.declared.shown.Shown.TheVariants.{Asked, Text}
use Rattle.ss_trace.specs.Question.{question_text}
use Rattle.ss_prompt.specs.declared.desk.displays.TheConstants.{MOST_DISPLAYS}
use Rattle.ss_prompt.specs.PromptState.{PromptState, with_displays}

-- what is printed at each stop, as it is asked
abbrev pub shown_text : Shown → List ℕ
shown_text (Asked question) = question_text question
shown_text (Text text section) = text

-- the place among some of a question that is asked so
abbrev pub place_among : List Shown → List ℕ → Option ℕ
place_among displays text = position (λ d. bytes_eq (shown_text d) text) displays

-- whether a question that is asked so is among some
abbrev pub is_among : List Shown → List ℕ → Bool
is_among displays text = is_some (place_among displays text)

-- whether there is no room for one more
abbrev pub is_full : List Shown → Bool
is_full displays = nat_le MOST_DISPLAYS (length displays)

-- the questions after DISPLAY
abbrev pub displays_with : List Shown → Shown → List Shown
displays_with displays question =
    if is_among displays (shown_text question) then displays else
    if is_full displays then displays else displays ++ question ∷ []

-- that a question is answered at each stop
abbrev pub display_set : List ℕ → List ℕ
display_set text = codes "DISPLAY " ++ text ++ codes " SET\n"

-- the answer to DISPLAY
abbrev pub display_text : List Shown → List ℕ → List ℕ
display_text displays text =
    if is_among displays text then display_set text else
    if is_full displays then codes "TOO MANY DISPLAYS\n" else display_set text

-- the answer to DISPLAY in a state of the prompt
abbrev pub display_said : PromptState → Shown → List ℕ
display_said state question = display_text state.displays (shown_text question)

-- the state after DISPLAY
abbrev pub display_next : PromptState → Shown → PromptState
display_next state question = with_displays state (displays_with state.displays question)

-- that no question is answered at stops any more, and how many were
abbrev pub cleared_text : List Shown → List ℕ
cleared_text displays = codes "DISPLAYS CLEARED: " ++ decimal (length displays) ++ 10 ∷ []

-- the answer to UNDISPLAY
abbrev pub undisplay_said : PromptState → List ℕ
undisplay_said state = cleared_text state.displays

-- the state after UNDISPLAY
abbrev pub undisplay_next : PromptState → PromptState
undisplay_next state = with_displays state []

-- the questions but the one in this place
abbrev pub without_place : List Shown → Option ℕ → List Shown
without_place displays None = displays
without_place displays (Some i) = remove displays i

-- the questions but the one that is asked so
abbrev pub displays_without : List Shown → List ℕ → List Shown
displays_without displays text = without_place displays (place_among displays text)

-- that a question is not answered at stops any more, or that it was not
abbrev pub undisplay_text : List Shown → List ℕ → List ℕ
undisplay_text displays text =
    if is_among displays text then codes "DISPLAY " ++ text ++ codes " CLEARED\n"
    else codes "NO DISPLAY " ++ text ++ 10 ∷ []

-- the answer to UNDISPLAY x
abbrev pub undisplay_one_said : PromptState → List ℕ → List ℕ
undisplay_one_said state text = undisplay_text state.displays text

-- the state after UNDISPLAY x
abbrev pub undisplay_one_next : PromptState → List ℕ → PromptState
undisplay_one_next state text = with_displays state (displays_without state.displays text)
