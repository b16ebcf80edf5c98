-- Private: steps as changes that have the numbers of their steps, the newest first.
use Rattle.std.specs.Prelude.{ℕ, zero, suc, ◌+◌, ◌≤◌, nat_le, List, [], ◌∷◌, if◌then◌else◌}
use Rattle.ss_byte_journal.specs.declared.sparse_journal.Numbered.{Numbered}

-- the changes of the step with this number, if none is of a later one
abbrev pub changes_of_step : {C : Type 0} → ℕ → List (Numbered C) → List C
changes_of_step k [] = []
changes_of_step k (c ∷ cs) = if nat_le k c.step then c.change ∷ changes_of_step k cs else []

-- the changes of the steps before this one
abbrev pub changes_before : {C : Type 0} → ℕ → List (Numbered C) → List (Numbered C)
changes_before k [] = []
changes_before k (c ∷ cs) = if nat_le k c.step then changes_before k cs else c ∷ cs

-- n steps, the newest first, of which the oldest has this number
abbrev pub steps_from : {C : Type 0} → ℕ → ℕ → List (Numbered C) → List (List C)
steps_from zero oldest cs = []
steps_from (suc n) oldest cs =
    changes_of_step (oldest + n) cs ∷ steps_from n oldest (changes_before (oldest + n) cs)

-- no step is later than the one before it in the list, nor than this number
abbrev pub AreOrdered : {C : Type 0} → ℕ → List (Numbered C) → Type 0
AreOrdered latest [] = Unit {0}
AreOrdered latest (c ∷ cs) = (c.step ≤ latest) × AreOrdered c.step cs
