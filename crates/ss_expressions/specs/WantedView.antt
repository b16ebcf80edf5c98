-- What the code has of what is asked, as pure data.
use Rattle.ss_routines.specs.View.{expr_view, condition_view}
use Rattle.ss_expressions.specs.declared.wanted.Wanted.{Wanted as Code}
use Rattle.ss_expressions.specs.declared.wanted.Wanted.TheVariants as code
use Rattle.ss_expressions.specs.Wanted.{Wanted, of_value, of_truth, of_list, of_class}

-- what is asked
abbrev pub wanted_view : Code → Wanted
wanted_view (code.Value e) = of_value (expr_view e)
wanted_view (code.Truth c) = of_truth (condition_view c)
wanted_view (code.List c) = of_list (condition_view c)
wanted_view (code.Class c) = of_class c
