-- undoing: for any changes C of any states S; `fits` says that a change can be taken back, and
-- `unapply` takes it back
use Rattle.std.specs.Prelude.{◌≡◌, ℕ, ◌+◌, ◌≤◌, List, [], ◌∷◌, ◌++◌, length}
use Rattle.ss_journal.specs.Log.{Log}

-- the state before a list of changes, which is in the order newest first
abbrev pub unapply_all : {S C : Type 0} → (C → S → S) → List C → S → S
unapply_all unapply [] s = s
unapply_all unapply (c ∷ cs) s = unapply_all unapply cs (unapply c s)

-- each change of a list fits in its turn
abbrev pub FitsAll : {S C : Type 0} → (C → S → Type 0) → (C → S → S) → List C → S → Type 0
FitsAll fits unapply [] s = Unit {0}
FitsAll fits unapply (c ∷ cs) s = fits c s × FitsAll fits unapply cs (unapply c s)

-- each change of each step fits in its turn
abbrev pub FitsSteps : {S C : Type 0} → (C → S → Type 0) → (C → S → S) → List (List C) → S → Type 0
FitsSteps fits unapply [] s = Unit {0}
FitsSteps fits unapply (step ∷ earlier) s =
    FitsAll fits unapply step s × FitsSteps fits unapply earlier (unapply_all unapply step s)

-- the states before each step, the earliest first, got by unapplying the steps from the last to the first
abbrev pub past : {S C : Type 0} → (C → S → S) → S → List (List C) → List S
past unapply s [] = []
past unapply s (step ∷ earlier) = past unapply (unapply_all unapply step s) earlier ++ unapply_all unapply step s ∷ []

-- each step fits and leads back to a state that shows as `state_at` of the number of earlier steps
abbrev pub StepsLeadBack : {S T C : Type 0} → (C → S → Type 0) → (C → S → S) → (S → T) → (ℕ → T) → List (List C) → S
    → Type 0
StepsLeadBack fits unapply shown state_at [] s = Unit {0}
StepsLeadBack fits unapply shown state_at (step ∷ earlier) s =
    FitsAll fits unapply step s
    × (shown (unapply_all unapply step s) ≡ state_at (length earlier))
    × StepsLeadBack fits unapply shown state_at earlier (unapply_all unapply step s)

-- a piece of work on a state and its journal, which notes at most n changes: these fit, and lead back to the state
-- before
pub record WorkKeepsOrigin {S C : Type 0} (fits : C → S → Type 0) (unapply : C → S → S) (n : ℕ) (s : S) (j : Log C)
    (s' : S) (j' : Log C) : Type 0 where
  -- undone, it leads to the state to which undoing led before the work
  pub origin : unapply_all unapply j'.current s' ≡ unapply_all unapply j.current s
  -- if the open changes fitted, they still do
  pub fitting : FitsAll fits unapply j.current s → FitsAll fits unapply j'.current s'
  -- no step was closed or taken back
  pub steps : j'.steps ≡ j.steps
  -- no room for a step was used
  pub closes : j.closes ≤ j'.closes
  -- at most n changes were noted
  pub noted : length j'.current ≤ n + length j.current
  -- and at most the room of n
  pub room : j.notes ≤ n + j'.notes
