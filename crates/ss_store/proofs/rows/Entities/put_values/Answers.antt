use Rattle.std.proofs.Common.{Some}
use Rattle.ss_store.specs.Writing.{with_values}
use Rattle.ss_store.proofs.Room.{table_set}
use Rattle.ss_store.proofs.rows.Entities.put_values.Goals as goal

pub returns-then-permanent : goal.returns-then-permanent
returns-then-permanent c = table_set _ _ c.args.permanent c.args.class _ _
    (with_values c.args.index (Some c.args.values.items)) c.self.view_is c.if-permanent.true
    (c.requires.there c.if-permanent.true) c.index_mut-rows.ensures.value c.put_values.ensures
