-- What the code has of what is asked in a section, as pure data.
use Rattle.std.specs.Prelude.{Result, Ok, Err}
use Rattle.ss_check.specs.declared.asked.AskedFault.{AskedFault as CodeFault}
use Rattle.ss_check.specs.Asked.{AskedFault}
use Rattle.ss_check.specs.AskedView.{asked_fault_view}
use Rattle.ss_expressions.specs.declared.sense.Sense.{Sense as Code}
use Rattle.ss_expressions.specs.declared.sense.Sense.TheVariants as code
use Rattle.ss_expressions.specs.Senses.{Sense, expression, condition, list, living}

-- what is asked
abbrev pub sense_view : Code → Sense
sense_view (code.Expression e) = expression e
sense_view (code.Condition c) = condition c
sense_view (code.List c) = list c
sense_view (code.Living class) = living class

-- what is asked, or its fault
abbrev pub judged_view : Result Code CodeFault → Result Sense AskedFault
judged_view (Ok sense) = Ok (sense_view sense)
judged_view (Err fault) = Err (asked_fault_view fault)
