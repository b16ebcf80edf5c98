-- What the statement that runs next, or that faulted, looks at.
use Rattle.std.specs.Prelude.{List, [], ◌∷◌, ◌++◌, Option, Some, None, if◌then◌else◌}
use Rattle.ss_program.specs.declared.place.Spot.{Spot}
use Rattle.ss_program.specs.Program.{ProgramTable, spot_at}
use Rattle.ss_state.specs.State.{State}
use Rattle.ss_reads.specs.declared.read.Read.{Read}
use Rattle.ss_reads.specs.Same.{is_among}
use Rattle.ss_reads.specs.Scenes.{Scene}
use Rattle.ss_reads.specs.Places.{place_reads}

-- those of some that are not among others before them, each once
abbrev pub first_ones : List Read → List Read → List Read
first_ones earlier [] = []
first_ones earlier (r ∷ rs) =
    if is_among earlier r then first_ones (earlier ++ r ∷ []) rs else r ∷ first_ones (earlier ++ r ∷ []) rs

-- what the text of a place names, as it is written
abbrev pub named_reads : ProgramTable → State → Option Spot → List Read
named_reads program state None = []
named_reads program state (Some spot) =
    place_reads (record { program = program; state = state; given = None }) spot.place

-- what the statement of a state looks at, as it is written
abbrev pub written_reads : ProgramTable → State → List Read
written_reads program state =
    named_reads program state (spot_at program state.frame.section state.frame.place)

-- and each once
unfoldable pub reads_of : ProgramTable → State → List Read
reads_of program state = first_ones [] (written_reads program state)
