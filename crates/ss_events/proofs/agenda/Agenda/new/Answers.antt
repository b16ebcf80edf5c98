use Rattle.std.proofs.Common.{arith}
use Rattle.ss_events.proofs.RuleLaws.{length-kept, AreRanked-kept}
use Rattle.ss_events.proofs.agenda.Agenda.new.Goals as goal

pub with_rules-requires-clause-ranked : goal.with_rules-requires-clause-ranked
with_rules-requires-clause-ranked g c = AreRanked-kept _ c.args.program.now c.in_ok-rules.ensures

pub with_rules-requires-clause-few : goal.with_rules-requires-clause-few
with_rules-requires-clause-few g c = omega (
  arith,
  length-kept _ c.args.program.now c.in_ok-rules.ensures,
  c.known.ensures.tables.few_classes,
)
