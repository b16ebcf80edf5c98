use Rattle.std.proofs.Common.{◌++◌}
use Rattle.std.specs.Prelude.{map}
use Rattle.ss_check.specs.Resolved.{set_table}
use Rattle.ss_check.proofs.TableTurns.{map_turn}
use Rattle.ss_check.proofs.resolved.set_tables.add_sets.Goals as goal

pub loop-name-preserved : goal.loop-name-preserved
loop-name-preserved c =
    let one = set_table c.args.tables.now c.args.names.now c.args.rankings.now in
    rw (c.in_ok-push.ensures.items, c.in_ok-set_table.ensures, c.deref.ensures.value, c.name.view_is)
    (map_turn one c.loop-name.sets.items c.sets-name-items.result.now c.loop-name.name-index c.name-item.result
    (c.args.sets.now.items ++ map one c.args.names.now.sets) c.loop-name-test.true c.name-item.is
    c.loop-name.invariant)
