-- Whether a dialogue goes on.
use Rattle.std.specs.Prelude.{Bool, if◌then◌else◌}
use Rattle.ss_console.specs.declared.answerer.Go.{Go}
use Rattle.ss_console.specs.declared.answerer.Go.TheVariants.{On, Quit}

-- it goes on unless its line ends it
abbrev pub go_of : Bool → Go
go_of ends = if ends then Quit else On
