-- The laws of the changes that are shown.
use Rattle.std.specs.Prelude.{ℕ, ◌≡◌, ◌≢◌, ◌<◌, ◌⊎◌, true, List, [], ◌∷◌, length, All, Any}
use Rattle.ss_program.specs.declared.kinds.Owner.{Owner}
use Rattle.ss_program.specs.declared.kinds.Owner.TheVariants.{System, OwnedBy}
use Rattle.ss_program.specs.Program.{ProgramTable, class_of, set_of}
use Rattle.ss_events.specs.Agenda.{Pending}
use Rattle.ss_state.specs.State.{State}
use Rattle.ss_changes.specs.declared.part.Part.{Part}
use Rattle.ss_changes.specs.declared.part.Part.TheVariants as parts
use Rattle.ss_changes.specs.declared.value.PartValue.TheVariants.{Absent}
use Rattle.ss_changes.specs.Values.{value_in, needs_both}
use Rattle.ss_changes.specs.Parts.{frames_below, local_names, parts_of}
use Rattle.ss_changes.specs.Changes.{told_of, changes_between}

-- a part belongs to an entity that lives in only one of two states
abbrev pub BelongsToOne : ProgramTable → State → State → Part → Type 0
BelongsToOne program state u part =
    (needs_both part ≡ true) × ((value_in program state part ≡ Absent) ⊎ (value_in program u part ≡ Absent))

-- the changes that are shown between two states are the differences
pub record AreExact (program : ProgramTable) (state u : State) : Type 0 where
  -- each part that is shown has its values before and after, which differ
  pub told : All (λ c. (c ≡ told_of program state u c.part)
      × (value_in program state c.part ≢ value_in program u c.part)) (changes_between program state u)
  -- each part is shown, or its values are equal, or it belongs to an entity of only one state
  pub untold :
      All (λ x. Any (λ c. c ≡ told_of program state u x) (changes_between program state u)
      ⊎ ((value_in program state x ≡ value_in program u x) ⊎ BelongsToOne program state u x)) (parts_of program state u)

-- this holds between any two states
abbrev pub ChangesAreExact : Type 0
ChangesAreExact = (p : ProgramTable) (s u : State) → AreExact p s u

-- ---- all that changed

-- the notices with this number are of class c
abbrev pub AreOfClass : ℕ → ℕ → List Pending → Type 0
AreOfClass c k [] = Unit {0}
AreOfClass c k (m ∷ ms) = (m.notice ≡ k → m.class ≡ c) × AreOfClass c k ms

-- the system's list has the number 0
abbrev pub IsNumberOf : Owner → ℕ → Type 0
IsNumberOf System k = k ≡ 0
IsNumberOf (OwnedBy c) k = Unit {0}

-- a part that two states may have, by the program's tables; a local is of the last frame both have
abbrev pub IsPartOf : ProgramTable → State → State → Part → Type 0
IsPartOf program state u (parts.Global i) = i < length program.globals
IsPartOf program state u (parts.Local n i) = (n ≡ frames_below state u) × (i < length (local_names program u n))
IsPartOf program state u (parts.Attribute c k a) =
    (c < length program.classes) × (a < length (class_of program c).attributes)
IsPartOf program state u (parts.Entity c k) = c < length program.classes
IsPartOf program state u (parts.List n k) = (n < length program.sets) × IsNumberOf (set_of program n).owner k
IsPartOf program state u (parts.Notice c k) = AreOfClass c k state.agenda.pending × AreOfClass c k u.agenda.pending
IsPartOf program state u parts.Taken = Unit {0}
IsPartOf program state u parts.Entry = Unit {0}
IsPartOf program state u parts.Clock = Unit {0}
IsPartOf program state u parts.Report = Unit {0}

-- each part whose values differ between two states is shown, with both, or it belongs to an entity
-- that lives in only one of them
abbrev pub ChangesAreAll : Type 0
ChangesAreAll =
    (p : ProgramTable) (s u : State) (x : Part) → IsPartOf p s u x → value_in p s x ≢ value_in p u x →
    Any (λ c. c ≡ told_of p s u x) (changes_between p s u) ⊎ BelongsToOne p s u x
