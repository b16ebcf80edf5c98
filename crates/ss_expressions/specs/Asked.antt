-- A text as it is asked: an expression or a condition of the language, read as after IF.
use Rattle.std.specs.Prelude.{ℕ, List, ◌++◌, codes, Option, Some, None, Result, Ok, Err}
use Rattle.ss_words.specs.declared.fault.TextFault.{TextFault}
use Rattle.ss_words.specs.Words.{WordAt}
use Rattle.ss_words.specs.TextWords.{words_of}
use Rattle.ss_words.specs.PlainRules.{plain_words_of}
use Rattle.ss_words.specs.Plain.{Plain, plains}
use Rattle.ss_words.specs.Reading.{rest_of}
use Rattle.ss_routines.specs.Expr.{Expr}
use Rattle.ss_routines.specs.Condition.{Condition}
use Rattle.ss_routines.specs.Asked.{expression_in, condition_in}

-- what is asked
pub data Asked : Type 0 where
  -- the value of an expression
  value : Expr → Asked
  -- whether a condition holds
  truth : Condition → Asked

-- the plain words after the first one, which is IF
abbrev pub after_if : Result (List WordAt) TextFault → Option (List Plain)
after_if (Ok words) = Some (rest_of (plains (plain_words_of words)))
after_if (Err fault) = None

-- the plain words of a text, as they are after IF; none if its text is refused
abbrev pub plain_after_if : List ℕ → Option (List Plain)
plain_after_if text = after_if (words_of (codes "IF " ++ text))

-- a condition, if there is one
abbrev pub truth_asked : Option Condition → Option Asked
truth_asked None = None
truth_asked (Some c) = Some (truth c)

-- an expression if there is one, or else a condition if there is one
abbrev pub value_or_truth : Option Expr → Option Condition → Option Asked
value_or_truth (Some e) other = Some (value e)
value_or_truth None other = truth_asked other

-- what plain words ask
abbrev pub asked_by : Option (List Plain) → Option Asked
asked_by None = None
asked_by (Some words) = value_or_truth (expression_in words) (condition_in words)

-- what a text asks, if it is an expression or a condition
abbrev pub asked_in : List ℕ → Option Asked
asked_in text = asked_by (plain_after_if text)
