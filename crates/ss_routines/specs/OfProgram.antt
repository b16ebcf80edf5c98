-- The sections of a program.
use Rattle.std.specs.Prelude.{◌≡◌, ℕ, List}
use Rattle.ss_routines.specs.Places.{Section}
use Rattle.ss_routines.specs.Tree.{Tree}
use Rattle.ss_routines.specs.Written.{written}
use Rattle.ss_routines.specs.Refused.{IsWithin}

-- a program within the limits writes them out, with the lines of its words
abbrev pub AreOfProgram : List Section → Type 0
AreOfProgram sections = (t : Tree) × (ls : List ℕ) × IsWithin t × (sections ≡ written ls t)
