-- What the code has of an aim, as pure data.
use Rattle.ss_expressions.specs.declared.aim.Aimed.{Aimed as Code}
use Rattle.ss_expressions.specs.declared.aim.Aimed.TheVariants as code
use Rattle.ss_expressions.specs.Aims.{Aimed, aimed, refused}

-- an aim, or the answer that says why there is none
abbrev pub aimed_view : Code → Aimed
aimed_view (code.At aim) = aimed aim
aimed_view (code.Refused answer) = refused answer.items
