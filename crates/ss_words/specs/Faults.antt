-- The names of refusals and faults in the answers.
use Rattle.std.specs.Prelude.{ℕ, List, codes}
use Rattle.ss_words.specs.declared.fault.TextRule.{TextRule}
use Rattle.ss_words.specs.declared.fault.TextRule.TheVariants as t
use Rattle.ss_words.specs.declared.fault.RunFault.{RunFault}
use Rattle.ss_words.specs.declared.fault.RunFault.TheVariants as f

-- the code of a rule on the text
abbrev pub text_rule_code : TextRule → List ℕ
text_rule_code t.StrayByte = codes "L1"
text_rule_code t.BadNumber = codes "L2"
text_rule_code t.LongRun = codes "L3"
text_rule_code t.NoPicture = codes "L4"
text_rule_code t.LongPictureLine = codes "L5"
text_rule_code t.UnexpectedWord = codes "P1"
text_rule_code t.UnexpectedEnd = codes "P2"
text_rule_code t.PastLimit = codes "P3"

-- the number after the F of a run fault
abbrev pub run_fault_number : RunFault → ℕ
run_fault_number f.OutOfRange = 1
run_fault_number f.ZeroDivisor = 2
run_fault_number f.NoEntity = 3
run_fault_number f.AlreadyInSet = 4
run_fault_number f.NotInList = 5
run_fault_number f.EmptySet = 6
run_fault_number f.EndedInUse = 7
run_fault_number f.EndedOwner = 8
run_fault_number f.TimeBeforeClock = 9
run_fault_number f.AlreadyScheduled = 10
run_fault_number f.NotScheduled = 11
run_fault_number f.AlreadyCreated = 12
run_fault_number f.CountOutOfRange = 13
run_fault_number f.MemberLeft = 14
run_fault_number f.StepBelowOne = 15
run_fault_number f.NoMoreData = 16
run_fault_number f.NotANumber = 17
run_fault_number f.TooManyFrames = 18
run_fault_number f.ReportFull = 19
run_fault_number f.TooManyReferences = 20
run_fault_number f.NotExternal = 21
run_fault_number f.OutsideEntry = 22
