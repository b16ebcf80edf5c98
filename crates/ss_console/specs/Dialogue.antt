-- The turns of a dialogue, the events that they make, and how a dialogue ends.
use Rattle.std.specs.Prelude.{ℕ, ◌≡◌, ◌-◌, ◌^◌, ◌≤◌, Bool, true, false, List, [], ◌∷◌, ◌++◌, length, take, map, codes}
use Rattle.std.specs.Prelude.{decimal}
use Rattle.std.specs.Prelude.{if◌then◌else◌, Option}
use Rattle.std.specs.List.{list_any}
use Rattle.ss_console.specs.Event.{Event, read, write_events, Adds}
use Rattle.ss_console.specs.Lines.{Gives, IsAtEnd}
use Rattle.ss_console.specs.Meaning.{Meaning}

-- a line that was read, and whether memory for its answer was refused; then the state in which that left the answerer
pub data Turn (S : Type 0) : Type 0 where
  answered : List ℕ → Turn S
  refused : List ℕ → S → Turn S

-- the line of a turn
abbrev pub line_of : {S : Type 0} → Turn S → List ℕ
line_of (answered line) = line
line_of (refused line after) = line

-- the text that is written after the line
abbrev pub answer_of : (m : Meaning) → m.State → Turn m.State → List ℕ
answer_of m state (answered line) = m.said state line
answer_of m state (refused line after) = m.refusal after

-- the state after a turn
abbrev pub state_after : (m : Meaning) → m.State → Turn m.State → m.State
state_after m state (answered line) = m.next state line
state_after m state (refused line after) = after

-- whether the dialogue ends with it
abbrev pub is_last : (m : Meaning) → Turn m.State → Bool
is_last m (answered line) = m.ends line
is_last m (refused line after) = false

-- the answerer may be left so; a line that ends the dialogue is never refused
abbrev pub IsAllowed : (m : Meaning) → m.State → Turn m.State → Type 0
IsAllowed m state (answered line) = Unit {0}
IsAllowed m state (refused line after) = m.MayBeLeft state line after × (m.ends line ≡ false)

-- the text that is written before a line is read: at a terminal the position in parentheses
abbrev pub prompt : Bool → ℕ → List ℕ
prompt terminal position = if terminal then codes "(" ++ decimal position ++ codes ") " else []

-- the events of a turn: the prompt, the line, the answer
abbrev pub turn_events : (m : Meaning) → Bool → m.State → Turn m.State → List Event
turn_events m terminal state turn =
    write_events (prompt terminal (m.position state)) ++ read (line_of turn) ∷ write_events (answer_of m state turn)

-- some turns, one after the other
unfoldable pub events : (m : Meaning) → Bool → m.State → List (Turn m.State) → List Event
events m terminal state [] = []
events m terminal state (turn ∷ turns) =
    turn_events m terminal state turn ++ events m terminal (state_after m state turn) turns

-- the state after some turns
unfoldable pub state_after_all : (m : Meaning) → m.State → List (Turn m.State) → m.State
state_after_all m state [] = state
state_after_all m state (turn ∷ turns) = state_after_all m (state_after m state turn) turns

-- each of some turns is allowed in the state in which it is made
unfoldable pub AreAllowed : (m : Meaning) → m.State → List (Turn m.State) → Type 0
AreAllowed m state [] = Unit {0}
AreAllowed m state (turn ∷ turns) = IsAllowed m state turn × AreAllowed m (state_after m state turn) turns

-- whether one of them ends the dialogue
abbrev pub has_last : (m : Meaning) → List (Turn m.State) → Bool
has_last m turns = list_any (is_last m) turns

-- the turns lead from state to state, over the lines that were read, in order
pub record Lead (m : Meaning) (from to : m.State) (before after : Option (List (List ℕ)))
    (turns : List (Turn m.State)) : Type 0 where
  -- each was allowed in the state in which it was made
  pub allowed : AreAllowed m from turns
  -- they lead to the last state
  pub state : to ≡ state_after_all m from turns
  -- their lines are those that were given, in order
  pub lines : Gives before after (map line_of turns)

-- the input ended: all turns, and the prompt after them
pub record EndsByInput (m : Meaning) (terminal : Bool) (from to : m.State) (before after : Option (List (List ℕ)))
    (old new : Option (List Event)) : Type 0 where
  -- the turns
  pub turns : List (Turn m.State)
  -- they lead from the first state to the last
  pub led : Lead m from to before after turns
  -- none of them ends the dialogue
  pub goes_on : has_last m turns ≡ false
  -- the input is at its end
  pub input : IsAtEnd after
  -- the events are those of the turns and of this prompt
  pub told : Adds old new (events m terminal from turns ++ write_events (prompt terminal (m.position to)))

-- a line ended it: all turns, the last with that line
pub record EndsByLine (m : Meaning) (terminal : Bool) (from to : m.State) (before after : Option (List (List ℕ)))
    (old new : Option (List Event)) : Type 0 where
  -- the turns
  pub turns : List (Turn m.State)
  -- the line that ends it
  pub line : List ℕ
  -- they lead from the first state to the last
  pub led : Lead m from to before after (turns ++ answered line ∷ [])
  -- none of them ends the dialogue
  pub goes_on : has_last m turns ≡ false
  -- it ends the dialogue
  pub ends : m.ends line ≡ true
  -- the events are those of the turns, the last with this line
  pub told : Adds old new (events m terminal from (turns ++ answered line ∷ []))

-- a reading failed: all turns, and the prompt after them; it says nothing of the lines left
pub record EndsByRead (m : Meaning) (terminal : Bool) (from to : m.State) (before : Option (List (List ℕ)))
    (old new : Option (List Event)) : Type 0 where
  -- the turns
  pub turns : List (Turn m.State)
  -- the lines that were left
  pub left : Option (List (List ℕ))
  -- they lead from the first state to the last
  pub led : Lead m from to before left turns
  -- none of them ends the dialogue
  pub goes_on : has_last m turns ≡ false
  -- the events are those of the turns and of this prompt
  pub told : Adds old new (events m terminal from turns ++ write_events (prompt terminal (m.position to)))

-- a put of the prompt failed: all turns, and a prefix of the prompt
pub record EndsInPrompt (m : Meaning) (terminal : Bool) (from to : m.State) (before after : Option (List (List ℕ)))
    (old new : Option (List Event)) : Type 0 where
  -- the turns
  pub turns : List (Turn m.State)
  -- how many bytes were taken
  pub count : ℕ
  -- they lead from the first state to the last
  pub led : Lead m from to before after turns
  -- none of them ends the dialogue
  pub goes_on : has_last m turns ≡ false
  -- no more than there are
  pub within : count ≤ length (prompt terminal (m.position to))
  -- the events are those of the turns and of this prefix of the prompt
  pub told :
      Adds old new (events m terminal from turns ++ write_events (take count (prompt terminal (m.position to))))

-- a put of an answer failed: all turns but the last, its prompt and its line, and a prefix of its answer
pub record EndsInAnswer (m : Meaning) (terminal : Bool) (from to : m.State) (before after : Option (List (List ℕ)))
    (old new : Option (List Event)) : Type 0 where
  -- the turns
  pub turns : List (Turn m.State)
  -- the last turn
  pub last : Turn m.State
  -- they lead to this state, before the last turn
  pub state : m.State
  -- how many bytes were taken
  pub count : ℕ
  -- they lead from the first state to the last
  pub led : Lead m from to before after (turns ++ last ∷ [])
  -- none of them ends the dialogue
  pub goes_on : has_last m turns ≡ false
  -- the state before the last turn
  pub reached : state ≡ state_after_all m from turns
  -- no more than there are
  pub within : count ≤ length (answer_of m state last)
  -- the events are those of the turns, then the last turn's prompt, line and prefix of the answer
  pub told :
      Adds old new
      (events m terminal from turns
      ++ (write_events (prompt terminal (m.position state)) ++ read (line_of last)
      ∷ write_events (take count (answer_of m state last))))

-- 2^64 - 1 lines were answered
pub record EndsByCount (m : Meaning) (terminal : Bool) (from to : m.State) (before after : Option (List (List ℕ)))
    (old new : Option (List Event)) : Type 0 where
  -- the turns
  pub turns : List (Turn m.State)
  -- they lead from the first state to the last
  pub led : Lead m from to before after turns
  -- none of them ends the dialogue
  pub goes_on : has_last m turns ≡ false
  -- they are that many
  pub many : length turns ≡ 2 ^ 64 - 1
  -- the events are those of the turns
  pub told : Adds old new (events m terminal from turns)
