-- Private: how the matching places are looked for.
use Rattle.std.specs.Prelude.{Bool}
use Rattle.ss_program.specs.declared.place.Place.{Place}
use Rattle.ss_program.specs.declared.ways.Pairing.{Pairing}
use Rattle.ss_program.specs.declared.ways.Pairing.TheVariants.{BranchEnd, EndOfIf, StartOfIf, EndOfDo, StartOfDo}
use Rattle.ss_program.specs.Match.{is_if, is_always, is_branch_end, is_loop, is_do}

-- the places that the search wants
abbrev pub is_wanted : Pairing → Place → Bool
is_wanted BranchEnd = is_branch_end
is_wanted EndOfIf = is_always
is_wanted StartOfIf = is_if
is_wanted EndOfDo = is_loop
is_wanted StartOfDo = is_do

-- the places that go one level deeper
abbrev pub goes_deeper : Pairing → Place → Bool
goes_deeper BranchEnd = is_if
goes_deeper EndOfIf = is_if
goes_deeper StartOfIf = is_always
goes_deeper EndOfDo = is_do
goes_deeper StartOfDo = is_loop

-- the places that come back up one level
abbrev pub comes_back : Pairing → Place → Bool
comes_back BranchEnd = is_always
comes_back EndOfIf = is_always
comes_back StartOfIf = is_if
comes_back EndOfDo = is_loop
comes_back StartOfDo = is_do
