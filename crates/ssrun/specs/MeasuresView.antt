-- What the code has of what a text asks for, as pure data.
use Rattle.ssrun.specs.declared.measures.Sought.{Sought as Code}
use Rattle.ssrun.specs.declared.measures.Sought.TheVariants as code
use Rattle.ssrun.specs.Measures.{Sought, measured, refused, nothing}

-- a measure, or why there is none
abbrev pub sought_view : Code → Sought
sought_view (code.Measure m) = measured m
sought_view (code.Refused lines) = refused lines.items
sought_view code.Nothing = nothing
