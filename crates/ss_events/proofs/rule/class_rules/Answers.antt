use Rattle.ss_events.proofs.RuleLaws.{rules-more}
use Rattle.ss_events.proofs.rule.class_rules.Goals as goal

pub loop-class-preserved : goal.loop-class-preserved
loop-class-preserved c = rw c.in_ok-push.ensures.items (rules-more _ c.args.program.now _ _ c.loop-class.invariant
    c.in_ok-rule.ensures)
