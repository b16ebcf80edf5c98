-- facts that follow from the definitions of undoing, for any changes and any states
use Rattle.std.proofs.Common.{ℕ, List, [], ◌∷◌}
use Rattle.std.proofs.Common.{zero, suc}
use Rattle.ss_journal.specs.Log.{newest}
use Rattle.ss_journal.specs.Undoing.{unapply_all, FitsSteps}

-- the newest steps of those that fit
pub FitsSteps-newest : {S C : Type 0} (fits : C → S → Type 0) (unapply : C → S → S) (n : ℕ) (steps : List (List C))
    (s : S) →
    FitsSteps fits unapply steps s → FitsSteps fits unapply (newest n steps) s
FitsSteps-newest fits unapply zero steps s fit = tt
FitsSteps-newest fits unapply (suc n) [] s fit = tt
FitsSteps-newest fits unapply (suc n) (step ∷ earlier) s fit =
    (fit.0, FitsSteps-newest fits unapply n earlier (unapply_all unapply step s) fit.1)
