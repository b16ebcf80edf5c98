-- Laws of dialogues, in other words than those of their definition.
use Rattle.std.specs.Prelude.{ℕ, ◌≡◌, ◌+◌, ◌<◌, ◌≤◌, Bool, true, false, not, List, [], ◌∷◌, ◌++◌, length}
use Rattle.std.specs.Prelude.{if◌then◌else◌}
use Rattle.std.specs.Prelude.{Option, Some}
use Rattle.std.specs.List.{list_any, list_all}
use Rattle.ss_console.specs.Event.{Event, read, wrote, write_events}
use Rattle.ss_console.specs.Lines.{is_stop, kept_part}
use Rattle.ss_console.specs.Meaning.{Meaning}
use Rattle.ss_console.specs.Dialogue.{Turn, answered, refused, prompt, events, state_after_all, EndsByInput}
use Rattle.ss_console.specs.Dialogue.{EndsByLine}
use Rattle.ss_console.specs.declared.lines.TheConstants.{LONGEST_LINE}

-- ---- the batch

-- the answers to the lines of a batch, each in the state after the lines before it; after a line
-- that ends the batch no line counts
unfoldable pub answers : (m : Meaning) → m.State → List (List ℕ) → List ℕ
answers m state [] = []
answers m state (line ∷ lines) = m.said state line ++ (if m.ends line then [] else answers m (m.next state line) lines)

-- the bytes that were written
unfoldable pub bytes_of : List Event → List ℕ
bytes_of [] = []
bytes_of (read line ∷ events) = bytes_of events
bytes_of (wrote b ∷ events) = b ∷ bytes_of events

-- whether the line of a turn has its answer, and memory was not refused
abbrev pub is_answered : {S : Type 0} → Turn S → Bool
is_answered (answered line) = true
is_answered (refused line after) = false

-- the bytes that a log gained are the answers to all lines that were there
abbrev pub GainsAnswers : (m : Meaning) → m.State → Option (List (List ℕ)) → Option (List Event) → Option (List Event) →
    Type 0
GainsAnswers m state before old new =
    (lines : List (List ℕ)) (first last : List Event) → before ≡ Some lines → old ≡ Some first →
    new ≡ Some last → bytes_of last ≡ bytes_of first ++ answers m state lines

-- without a terminal, with memory for each answer, a dialogue to the input's end writes the batch
abbrev pub BatchByInput : Meaning → Type 0
BatchByInput m =
    (from to : m.State) (before after : Option (List (List ℕ))) (old new : Option (List Event))
    (e : EndsByInput m false from to before after old new) → list_all is_answered e.turns ≡ true →
    GainsAnswers m from before old new

-- and so does one up to a line that ends it
abbrev pub BatchByLine : Meaning → Type 0
BatchByLine m =
    (from to : m.State) (before after : Option (List (List ℕ))) (old new : Option (List Event))
    (e : EndsByLine m false from to before after old new) → list_all is_answered e.turns ≡ true →
    GainsAnswers m from before old new

-- ---- answers come before the next line

-- before each line that is read there are whole turns, and the prompt
abbrev pub AnswersComeFirst : Meaning → Type 0
AnswersComeFirst m =
    (terminal : Bool) (s : m.State) (turns : List (Turn m.State)) (before after : List Event) (line : List ℕ) →
    events m terminal s turns ≡ before ++ read line ∷ after →
    (done left : List (Turn m.State)) × (turns ≡ done ++ left)
    × (before ≡ events m terminal s done ++ write_events (prompt terminal (m.position (state_after_all m s done))))

-- ---- the kept part of a line

-- a line within the limit is kept whole
abbrev pub ShortLinesAreKept : Type 0
ShortLinesAreKept = (line : List ℕ) → length line ≤ LONGEST_LINE → kept_part line ≡ line

-- a longer line is kept up to one byte more than the limit
abbrev pub LongLinesAreCut : Type 0
LongLinesAreCut = (line : List ℕ) → LONGEST_LINE < length line → length (kept_part line) ≡ LONGEST_LINE + 1

-- the kept part has a word if the line has one
abbrev pub WordsAreKept : Type 0
WordsAreKept = (line : List ℕ) → list_any (λ b. not (is_stop b)) (kept_part line) ≡ list_any (λ b. not (is_stop b)) line
