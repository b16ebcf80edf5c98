-- The place of the END of a section.
use Rattle.std.specs.Prelude.{◌≡◌, Bool, true, false, List, [], ◌∷◌}
use Rattle.ss_routines.specs.Places.{Place, EndOfSection, Spot, Section}

-- whether a place is the END of its section
abbrev pub is_end : Place → Bool
is_end EndOfSection = true
is_end _ = false

-- the last place is END, and no other is
abbrev pub IsEnded : List Spot → Type 0
IsEnded [] = ⊥
IsEnded (s ∷ []) = is_end s.place ≡ true
IsEnded (s ∷ t ∷ ts) = (is_end s.place ≡ false) × IsEnded (t ∷ ts)

-- so in each section
abbrev pub AreEnded : List Section → Type 0
AreEnded [] = Unit {0}
AreEnded (s ∷ ss) = IsEnded s.places × AreEnded ss
