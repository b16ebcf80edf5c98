-- Private: the known facts about the sections of a program that was read.
use Rattle.std.specs.Prelude.{◌≡◌, ℕ, ◌<◌, ◌^◌, List, length}
use Rattle.std.specs.List.{All}
use Rattle.ss_routines.specs.Places.{Section}
use Rattle.ss_routines.specs.Refused.{IsWithin}
use Rattle.ss_routines.specs.Tree.{Tree}
use Rattle.ss_routines.specs.Written.{written}

-- they are those of a tree within the limits, with these lines of its words
abbrev pub AreOfTree : List Section → Type 0
AreOfTree qs = (t : Tree) × (lines : List ℕ) × IsWithin t × (qs ≡ written lines t)

-- no section has more places than memory
abbrev pub AreFew : List Section → Type 0
AreFew qs = All (λ q. length q.places < 2 ^ 63) qs
