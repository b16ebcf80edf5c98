-- Arguments that a request needs.
use Rattle.std.specs.Prelude.{ℕ, List, codes}
use Rattle.ss_messages.specs.declared.missing.Argument.{Argument}
use Rattle.ss_messages.specs.declared.missing.Argument.TheVariants.{Model, Expression, Name, Typed, Column}
use Rattle.ss_messages.specs.declared.missing.Argument.TheVariants.{Line, Target}

-- the name of the missing argument, and the kind of value that it must be
abbrev pub wanted_text : Argument → List ℕ
wanted_text Model = codes "model: a path is wanted"
wanted_text Expression = codes "expression: a text is wanted"
wanted_text Name = codes "name: a text is wanted"
wanted_text Typed = codes "text: a text is wanted"
wanted_text Column = codes "column: a number is wanted"
wanted_text Line = codes "line: a number is wanted"
wanted_text Target = codes "targetId: a number is wanted"
