-- Statements with the rules that they break and what is wrong with them, and the first breach of a
-- list of them.
use Rattle.std.specs.Prelude.{◌≡◌, ℕ, Bool, List, [], ◌∷◌, Option, Some, None, option_map, if◌then◌else◌}
use Rattle.std.specs.Option.{option_or}
use Rattle.ss_words.specs.Lists.{Name}
use Rattle.ss_check.specs.declared.fault.CheckRule.{CheckRule}
use Rattle.ss_check.specs.declared.fault.CheckFault.{CheckFault}
use Rattle.ss_check.specs.declared.fault.CheckFault.TheVariants.{Broken, Memory}
use Rattle.ss_check.specs.declared.wrong.Reason.{Reason}
use Rattle.ss_check.specs.declared.wrong.Wrong.{Wrong}

-- a statement, as the rules see it
pub record Statement : Type 0 where
  -- its line
  pub line : ℕ
  -- the rules that it breaks, the lowest number first
  pub breaks : List CheckRule
  -- what is wrong with it, by a rule that it breaks
  pub wrong : CheckRule → Wrong

-- a rule, if it is broken
abbrev pub rule_where : CheckRule → Bool → List CheckRule
rule_where rule b = if b then rule ∷ [] else []

-- the lowest of the rules that a statement breaks
abbrev pub lowest : List CheckRule → Option CheckRule
lowest [] = None
lowest (r ∷ rs) = Some r

-- the lowest rule that a statement breaks, and its line
abbrev pub breach_of : Statement → Option (CheckRule × ℕ)
breach_of statement = option_map (λ r. (r, statement.line)) (lowest statement.breaks)

-- the breach of the first statement that has one
abbrev pub first_breach : List Statement → Option (CheckRule × ℕ)
first_breach [] = None
first_breach (s ∷ ss) = option_or (breach_of s) (first_breach ss)

-- a fault gives the first breach, unless memory was refused
abbrev pub IsBreach : CheckFault → Option (CheckRule × ℕ) → Type 0
IsBreach (Broken r l w) b = b ≡ Some (r, l)
IsBreach Memory b = Unit {0}

-- ---- what is wrong

-- this reason, about this name, if it is about one
abbrev pub about : Reason → Option Name → Wrong
about reason name = record { reason = reason; name = name }

-- this reason about this name, if there is one; else what else is wrong
abbrev pub about_or : Reason → Option Name → Wrong → Wrong
about_or reason (Some n) other = about reason (Some n)
about_or reason None other = other

-- a breach with what is wrong
pub record Refusal : Type 0 where
  -- the rule that is broken
  pub rule : CheckRule
  -- the line of the statement
  pub line : ℕ
  -- what is wrong with it
  pub wrong : Wrong

-- a breach on this line by a rule, with what is wrong by it
abbrev pub refused : ℕ → (CheckRule → Wrong) → CheckRule → Refusal
refused line wrong rule = record { rule = rule; line = line; wrong = wrong rule }

-- the breach of a statement by its lowest rule, with what is wrong
abbrev pub refusal_of : Statement → Option Refusal
refusal_of statement = option_map (refused statement.line statement.wrong) (lowest statement.breaks)

-- the breach of the first statement that has one, with what is wrong
abbrev pub first_refusal : List Statement → Option Refusal
first_refusal [] = None
first_refusal (s ∷ ss) = option_or (refusal_of s) (first_refusal ss)

-- a fault gives the first breach and what is wrong, unless memory was refused
abbrev pub IsRefusal : CheckFault → Option Refusal → Type 0
IsRefusal (Broken r l w) x = x ≡ Some (record { rule = r; line = l; wrong = w })
IsRefusal Memory x = Unit {0}
