use Rattle.std.proofs.Common.{None}
use Rattle.ss_store.specs.Writing.{with_values}
use Rattle.ss_store.proofs.Room.{table_set}
use Rattle.ss_store.proofs.rows.Entities.take_values.Goals as goal

pub returns-then-permanent-clause-rows : goal.returns-then-permanent-clause-rows
returns-then-permanent-clause-rows c = table_set _ _ c.args.permanent c.args.class _ _ (with_values c.args.index None)
    c.self.view_is c.if-permanent.true (c.requires.there c.if-permanent.true) c.index_mut-rows.ensures.value
    c.take_values.ensures.rows
