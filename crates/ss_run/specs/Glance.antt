-- Private: a glance at a state, for the answers that may be long. If the glance is the same on both
-- sides of a quiet step, so is the answer.
use Rattle.std.specs.Prelude.{ℕ, ◌==◌, ◌&&◌, ℤ, pos, Bool, true, false, List, length, Option, Some, None}
use Rattle.std.specs.Ordering.{int_eq}
use Rattle.ss_program.specs.declared.kinds.Owner.{Owner}
use Rattle.ss_program.specs.declared.kinds.Owner.TheVariants.{System, OwnedBy}
use Rattle.ss_program.specs.declared.place.Place.{Place}
use Rattle.ss_program.specs.Program.{ProgramTable, set_of}
use Rattle.ss_store.specs.Store.{Store, number_of}
use Rattle.ss_state.specs.State.{State}
use Rattle.ss_state.specs.Run.{Input, run}
use Rattle.ss_debug.specs.declared.commands.Question.TheVariants as shown
use Rattle.ss_debug.specs.Entities.{set_named, shape_of, owner_or_variable}
use Rattle.ss_trace.specs.declared.question.Question.{Question}
use Rattle.ss_trace.specs.declared.question.Question.TheVariants.{Shown}
use Rattle.ss_trace.specs.declared.touches.Touch.{Touch}
use Rattle.ss_trace.specs.declared.touches.Touch.TheVariants as touches
use Rattle.ss_trace.specs.Sight.{members_counted}
use Rattle.ss_trace.specs.Touches.{touched_lists, touched_notices}
use Rattle.ss_run.specs.declared.glance.Glance.{Glance}
use Rattle.ss_run.specs.declared.glance.Glance.TheVariants.{Nothing, Length, Members}

-- ---- glances

-- the owner whose list of a set is asked for: none if a set of the system is asked for by a number
abbrev pub owner_asked : ProgramTable → State → Option ℤ → Owner → Option ℤ
owner_asked program state None System = Some (pos 0)
owner_asked program state (Some x) System = None
owner_asked program state owner (OwnedBy c) = Some (owner_or_variable owner program state c)

-- the owner that x names, and the number of members of its list of set number s, if it exists
abbrev pub members_seen : ProgramTable → Store → ℕ → ℤ → Glance
members_seen program store s x = Members x (members_counted (shape_of program s) store (number_of x))

-- that glance for the owner that is asked for, if one is
abbrev pub owned_seen : ProgramTable → State → ℕ → Option ℤ → Glance
owned_seen program state s None = Nothing
owned_seen program state s (Some x) = members_seen program state.store s x

-- that glance for a set, if there is one of this name
abbrev pub set_seen : ProgramTable → State → Option ℤ → Option ℕ → Glance
set_seen program state owner None = Nothing
set_seen program state owner (Some s) =
    owned_seen program state s (owner_asked program state owner (set_of program s).owner)

-- that glance for the set of this name
abbrev pub list_seen : ProgramTable → State → List ℕ → Option ℤ → Glance
list_seen program state name owner = set_seen program state owner (set_named program name)

-- the glance at state p: the length of the report, or the number of members of the list asked for
abbrev pub glance_at : Input → Question → ℕ → Glance
glance_at input (Shown shown.Report) p = Length (length (run input p).report)
glance_at input (Shown (shown.Set name owner)) p = list_seen input.program (run input p) name owner
glance_at input question p = Nothing

-- ---- two of them

-- the same count, or none in both
abbrev pub is_same_count : Option ℕ → Option ℕ → Bool
is_same_count None None = true
is_same_count (Some n) (Some m) = n == m
is_same_count _ _ = false

-- whether two glances are the same
abbrev pub is_same : Glance → Glance → Bool
is_same Nothing Nothing = true
is_same (Length n) (Length m) = n == m
is_same (Members x n) (Members y m) = int_eq x y && is_same_count n m
is_same _ _ = false

-- ---- steps

-- whether nothing is touched
abbrev pub leaves : Touch → Bool
leaves touches.Nothing = true
leaves _ = false

-- whether the step of a place leaves the answer to a question as it is, with the same glance after
abbrev pub is_quiet : Question → Place → Bool
is_quiet (Shown shown.Report) place = true
is_quiet (Shown (shown.Set name owner)) place = leaves (touched_lists place)
is_quiet (Shown shown.Events) place = leaves (touched_notices place)
is_quiet question place = false
