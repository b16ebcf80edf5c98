-- What the code has of a question, as pure data.
use Rattle.ss_routines.specs.View.{expr_view, condition_view}
use Rattle.ss_expressions.specs.declared.asked.Asked.{Asked as Code}
use Rattle.ss_expressions.specs.declared.asked.Asked.TheVariants as code
use Rattle.ss_expressions.specs.Asked.{Asked, value, truth}

-- what is asked
abbrev pub asked_view : Code → Asked
asked_view (code.Value e) = value (expr_view e)
asked_view (code.Truth c) = truth (condition_view c)
