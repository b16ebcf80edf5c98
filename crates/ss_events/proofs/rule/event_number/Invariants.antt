use Rattle.std.proofs.Common.{◌≡◌, map}
use Rattle.ss_events.specs.Rules.{event_number}
use Rattle.ss_events.specs.Views.{rule_of}
use Rattle.ss_events.proofs.rule.event_number.Given as goal

abbrev pub invariant-loop-other : goal.invariant-loop-other
invariant-loop-other l = l.number ≡ event_number (map rule_of l.rules) l.other
