use Rattle.std.proofs.Common.{◌++◌}
use Rattle.std.specs.Prelude.{map}
use Rattle.ss_check.specs.Resolved.{class_table}
use Rattle.ss_check.proofs.TableTurns.{map_turn}
use Rattle.ss_check.proofs.resolved.class_tables.add_classes.Goals as goal

pub loop-name-preserved : goal.loop-name-preserved
loop-name-preserved c =
    let one = class_table c.args.tables.now c.args.names.now c.args.rankings.now in
    rw (c.in_ok-push.ensures.items, c.in_ok-class_table.ensures, c.deref.ensures.value, c.name.view_is)
    (map_turn one c.loop-name.classes.items c.classes-name-items.result.now c.loop-name.name-index c.name-item.result
    (c.args.classes.now.items ++ map one c.args.names.now.classes) c.loop-name-test.true c.name-item.is
    c.loop-name.invariant)
