-- The expression and the condition that plain words are, and laws on their spelling.
use Rattle.std.specs.Prelude.{◌≡◌, ◌≤◌, List, Option, Some}
use Rattle.std.specs.Result.{result_ok}
use Rattle.ss_words.specs.declared.limits.TheConstants.{MOST_PARENTHESES}
use Rattle.ss_words.specs.Plain.{Plain}
use Rattle.ss_words.specs.Reading.{Reading, whole}
use Rattle.ss_routines.specs.Expr.{Expr, spell_expr, depth_expr}
use Rattle.ss_routines.specs.Condition.{Condition, spell_condition, depth_condition}
use Rattle.ss_routines.specs.ExprReading.{expr_at}
use Rattle.ss_routines.specs.ConditionReading.{condition_at}

-- the part that is read of all the words, if they are one
abbrev pub read_of : {A : Type 0} → Reading A → List Plain → Option A
read_of p ws = result_ok (whole p ws).0

-- the expression that plain words are, if they are one within the limit on parentheses
abbrev pub expression_in : List Plain → Option Expr
expression_in ws = read_of (expr_at MOST_PARENTHESES) ws

-- the condition that plain words are, if they are one within the limit on parentheses
abbrev pub condition_in : List Plain → Option Condition
condition_in ws = read_of (condition_at MOST_PARENTHESES) ws

-- words that are an expression spell it, and it is within the limit
abbrev pub ExpressionIsSpelled : Type 0
ExpressionIsSpelled =
    (ws : List Plain) (e : Expr) → expression_in ws ≡ Some e → (ws ≡ spell_expr e) × (depth_expr e ≤ MOST_PARENTHESES)

-- the words of an expression within the limit are that expression
abbrev pub SpelledIsExpression : Type 0
SpelledIsExpression = (e : Expr) → depth_expr e ≤ MOST_PARENTHESES → expression_in (spell_expr e) ≡ Some e

-- words that are a condition spell it, and it is within the limit
abbrev pub ConditionIsSpelled : Type 0
ConditionIsSpelled =
    (ws : List Plain) (c : Condition) → condition_in ws ≡ Some c
    → (ws ≡ spell_condition c) × (depth_condition c ≤ MOST_PARENTHESES)

-- the words of a condition within the limit are that condition
abbrev pub SpelledIsCondition : Type 0
SpelledIsCondition = (c : Condition) → depth_condition c ≤ MOST_PARENTHESES → condition_in (spell_condition c) ≡ Some c
