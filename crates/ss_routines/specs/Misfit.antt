-- Why plain words are no condition: the rule of the grammar, and the word at which they are refused.
use Rattle.std.specs.Prelude.{◌≡◌, ◌≤◌, ◌<◌, ℕ, ◌+◌, ◌-◌, nat_lt, List, ◌++◌, length, take, Option, Some, None}
use Rattle.std.specs.Prelude.{Result, Ok, Err, if◌then◌else◌}
use Rattle.ss_words.specs.declared.fault.TextRule.{TextRule}
use Rattle.ss_words.specs.declared.fault.TextRule.TheVariants as rule
use Rattle.ss_words.specs.declared.limits.TheConstants.{MOST_PARENTHESES}
use Rattle.ss_words.specs.declared.refusal.Refusal.{Refusal}
use Rattle.ss_words.specs.declared.refusal.Refusal.TheVariants.{Unexpected, PastLimit, Memory}
use Rattle.ss_words.specs.Plain.{Plain}
use Rattle.ss_words.specs.Reading.{whole}
use Rattle.ss_words.specs.Farthest.{IsFarthest}
use Rattle.ss_routines.specs.declared.misfit.Misfit.{Misfit}
use Rattle.ss_routines.specs.Expr.{Expr, spell_expr}
use Rattle.ss_routines.specs.Condition.{Condition, spell_condition, depth_condition}
use Rattle.ss_routines.specs.ConditionReading.{condition_at}
use Rattle.ss_routines.specs.Asked.{condition_in}

-- ---- the word at which words are refused

-- a rule at a word
abbrev pub told_at : TextRule → ℕ → Misfit
told_at rule word = record { rule = rule; word = word }

-- the misfit of a refusal that leaves `left` of `count` words. The end is told at the last word, and so is a limit that
-- the last word passes, since no condition ends with it
abbrev pub misfit_at : ℕ → Refusal → ℕ → Option Misfit
misfit_at count Unexpected left =
    Some (if nat_lt 0 left then told_at rule.UnexpectedWord (count - left) else told_at rule.UnexpectedEnd (count - 1))
misfit_at count PastLimit left =
    Some (if nat_lt 1 left then told_at rule.PastLimit (count - left) else told_at rule.UnexpectedEnd (count - 1))
misfit_at count Memory left = None

-- the misfit of a reading of `count` words, if it refuses them
abbrev pub misfit_by : ℕ → Result Condition Refusal → List Plain → Option Misfit
misfit_by count (Ok c) rest = None
misfit_by count (Err e) rest = misfit_at count e (length rest)

-- the misfit of plain words that are no condition
abbrev pub condition_misfit : List Plain → Option Misfit
condition_misfit ws =
    misfit_by (length ws) (whole (condition_at MOST_PARENTHESES) ws).0 (whole (condition_at MOST_PARENTHESES) ws).1

-- ---- what it is

-- some condition begins with these words
abbrev pub Begins : List Plain → Type 0
Begins ws = (c : Condition) × (x : List Plain) × (spell_condition c ≡ ws ++ x)

-- some condition within the limit on parentheses begins with these words
abbrev pub BeginsWithin : List Plain → Type 0
BeginsWithin ws =
    (c : Condition) × (depth_condition c ≤ MOST_PARENTHESES) × (x : List Plain) × (spell_condition c ≡ ws ++ x)

-- P1: word k is the farthest word, and no word before it passes the limit.
pub record IsUnexpectedWord (ws : List Plain) (k : ℕ) : Type 0 where
  -- there is such a word
  pub is_word : k < length ws
  -- with it no condition goes on
  pub farthest : IsFarthest spell_condition ws k
  -- no word before it passes the limit
  pub in_room : BeginsWithin (take k ws)

-- P2: the end is the farthest word, and no word before the last passes the limit.
pub record IsUnexpectedEnd (ws : List Plain) : Type 0 where
  -- conditions go on after the last word, and none ends there
  pub farthest : IsFarthest spell_condition ws (length ws)
  -- no word before the last passes the limit
  pub in_room : BeginsWithin (take (length ws - 1) ws)

-- P3: word k passes the limit, and it is not the last word.
pub record IsPastLimit (ws : List Plain) (k : ℕ) : Type 0 where
  -- there is a word after it
  pub goes_on : k + 1 < length ws
  -- no word before it passes the limit
  pub before : BeginsWithin (take k ws)
  -- with it conditions go on
  pub with_it : Begins (take (k + 1) ws)
  -- but none within the limit
  pub no_room : BeginsWithin (take (k + 1) ws) → ⊥

-- the words are refused by this rule at word k
abbrev pub IsMisfit : TextRule → ℕ → List Plain → Type 0
IsMisfit rule.UnexpectedWord k ws = IsUnexpectedWord ws k
IsMisfit rule.UnexpectedEnd k ws = IsUnexpectedEnd ws × (k ≡ length ws - 1)
IsMisfit rule.PastLimit k ws = IsPastLimit ws k
IsMisfit _ k ws = ⊥

-- ---- laws

-- words that are refused are so by the definition of the rule
abbrev pub MisfitIsRefused : Type 0
MisfitIsRefused = (ws : List Plain) (m : Misfit) → condition_misfit ws ≡ Some m → IsMisfit m.rule m.word ws

-- words that are not refused are a condition
abbrev pub FittingIsCondition : Type 0
FittingIsCondition =
    (ws : List Plain) → condition_misfit ws ≡ None → (c : Condition) × (condition_in ws ≡ Some c)

-- words that are a condition are not refused
abbrev pub ConditionFits : Type 0
ConditionFits = (ws : List Plain) (c : Condition) → condition_in ws ≡ Some c → condition_misfit ws ≡ None

-- some condition begins with each expression
abbrev pub ExpressionBegins : Type 0
ExpressionBegins = (e : Expr) → Begins (spell_expr e)
