-- What the code has of a judgement, as pure data.
use Rattle.ss_expressions.specs.declared.valued.Judgement.{Judgement as Code}
use Rattle.ss_expressions.specs.declared.valued.Judgement.TheVariants as code
use Rattle.ss_expressions.specs.Valued.{Judgement, meant, refused}

-- a meaning, or the answer that says why there is none
abbrev pub judgement_view : Code → Judgement
judgement_view code.Meant = meant
judgement_view (code.Refused answer) = refused answer.items
