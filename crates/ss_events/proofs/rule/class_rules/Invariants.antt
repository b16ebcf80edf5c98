use Rattle.std.proofs.Common.{◌≡◌, map}
use Rattle.std.specs.List.{range_with_len}
use Rattle.ss_events.specs.Rules.{program_rule}
use Rattle.ss_events.specs.Views.{rule_of}
use Rattle.ss_events.proofs.rule.class_rules.Given as goal

abbrev pub invariant-loop-class : goal.invariant-loop-class
invariant-loop-class l = map rule_of l.rules.items ≡ map (program_rule l.program) (range_with_len 0 l.class)
