-- The names of the rules of the checker in a refusal.
use Rattle.std.specs.Prelude.{ℕ, List, codes}
use Rattle.ss_check.specs.declared.fault.CheckRule.{CheckRule}
use Rattle.ss_check.specs.declared.fault.CheckRule.TheVariants as rule

-- the code of a rule
abbrev pub check_rule_code : CheckRule → List ℕ
check_rule_code rule.DeclaredTwice = codes "C1"
check_rule_code rule.WrongClass = codes "C2"
check_rule_code rule.WrongUse = codes "C3"
check_rule_code rule.WrongOwner = codes "C4"
check_rule_code rule.WrongMember = codes "C5"
check_rule_code rule.WrongKey = codes "C6"
check_rule_code rule.WrongCount = codes "C7"
check_rule_code rule.WrongEvent = codes "C8"
check_rule_code rule.FixedTarget = codes "C9"
check_rule_code rule.WrongPicture = codes "C10"
check_rule_code rule.WrongMain = codes "C11"
check_rule_code rule.WrongPriority = codes "C12"
check_rule_code rule.StartOutsideMain = codes "C13"
check_rule_code rule.WithoutFind = codes "C14"
