-- What the code has of a meaning, as pure data.
use Rattle.ss_expressions.specs.declared.meaning.Meant.{Meant as Code}
use Rattle.ss_expressions.specs.declared.meaning.Meant.TheVariants as code
use Rattle.ss_expressions.specs.Meanings.{Meant, meant, refused}

-- a meaning, or the answer that says why there is none
abbrev pub meant_view : Code → Meant
meant_view (code.As meaning) = meant meaning
meant_view (code.Refused answer) = refused answer.items
