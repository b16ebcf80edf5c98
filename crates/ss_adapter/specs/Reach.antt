-- The nearest of the changes of some questions, each looked for by the movement to it.
use Rattle.std.specs.Prelude.{ℕ, ◌≡◌, ◌≤◌, ◌+◌, ◌-◌, Bool, not, ◌&&◌, List, [], ◌∷◌, map, slice_get}
use Rattle.std.specs.Prelude.{Option, Some, None, option_map, false, nat_eq, nat_lt, if◌then◌else◌}
use Rattle.ss_state.specs.Run.{Input}
use Rattle.ss_debug.specs.declared.limits.TheConstants.{GREATEST_BOUND}
use Rattle.ss_debug.specs.Turn.{DebuggerState}
use Rattle.ss_trace.specs.Turn as trace
use Rattle.ss_trace.specs.declared.movement.Movement.{Movement}
use Rattle.ss_trace.specs.declared.movement.Movement.TheVariants.{RunChange, BackChange}
use Rattle.ss_trace.specs.declared.question.Question.{Question}
use Rattle.ss_adapter.specs.declared.reach.Way.{Way}
use Rattle.ss_adapter.specs.declared.reach.Way.TheVariants.{Forward, Back}
use Rattle.ss_adapter.specs.declared.reach.Reach.{Reach}
use Rattle.ss_adapter.specs.declared.reach.Found.{Found}
use Rattle.ss_adapter.specs.Looking.{question_of}

-- the movement to a change of a question: RUN CHANGE, BACK CHANGE
abbrev pub change_movement : Way → Question → Movement
change_movement Forward question = RunChange question
change_movement Back question = BackChange question

-- how many steps lie between two positions
abbrev pub steps_between : ℕ → ℕ → ℕ
steps_between p q = if nat_lt q p then p - q else q - p

-- how far a movement leads, and whether it ends at a change
abbrev pub movement_reach : Input → DebuggerState → Movement → Reach
movement_reach input debugger movement = record {
  steps = steps_between debugger.position (trace.state_after input debugger movement).position;
  met = trace.ends_at_change input debugger movement;
}

-- the reach of the movement to a change of a question; without one, further than any movement leads
abbrev pub reach_of : Input → DebuggerState → Way → Option Question → Reach
reach_of input debugger way None = record { steps = GREATEST_BOUND + 1; met = false }
reach_of input debugger way (Some x) = movement_reach input debugger (change_movement way x)

-- those of the questions of some texts
abbrev pub reaches : Input → DebuggerState → Way → List (List ℕ) → List Reach
reaches input debugger way texts = map (λ text. reach_of input debugger way (question_of input.program text)) texts

-- ---- the nearest

-- whether a is nearer than b: it has fewer steps, or as many if only a ends at a change
abbrev pub is_nearer : Reach → Reach → Bool
is_nearer a b = if nat_eq a.steps b.steps then a.met && not b.met else nat_lt a.steps b.steps

-- the nearest so far, if one more is in this place
abbrev pub nearer : Option Found → ℕ → Reach → Found
nearer None place reach = record { place = place; reach = reach }
nearer (Some f) place reach = if is_nearer reach f.reach then record { place = place; reach = reach } else f

-- the nearest, if these are left, the first of them in this place
abbrev pub nearest_from : Option Found → ℕ → List Reach → Option Found
nearest_from found place [] = found
nearest_from found place (r ∷ rs) = nearest_from (Some (nearer found place r)) (place + 1) rs

-- the nearest of some, the first of those that are as near
abbrev pub nearest : List Reach → Option Found
nearest rs = nearest_from None 0 rs

-- the place of the text whose question changes nearest
unfoldable pub nearest_place : Input → DebuggerState → Way → List (List ℕ) → Option ℕ
nearest_place input debugger way texts = option_map (λ f. f.place) (nearest (reaches input debugger way texts))

-- ---- laws

-- the nearest is no further than any
abbrev pub NearestIsLeast : Type 0
NearestIsLeast =
    (rs : List Reach) (f : Found) (i : ℕ) (r : Reach) → nearest rs ≡ Some f → slice_get rs i ≡ Some r →
    f.reach.steps ≤ r.steps

-- and is one of them, the one in its place
abbrev pub NearestIsOne : Type 0
NearestIsOne = (rs : List Reach) (f : Found) → nearest rs ≡ Some f → slice_get rs f.place ≡ Some f.reach
