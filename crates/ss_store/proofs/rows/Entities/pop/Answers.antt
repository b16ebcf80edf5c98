use Rattle.ss_store.specs.Making.{without_last_row}
use Rattle.ss_store.proofs.Room.{table_set}
use Rattle.ss_store.proofs.rows.Entities.pop.Goals as goal

pub returns-then-permanent-clause-rows : goal.returns-then-permanent-clause-rows
returns-then-permanent-clause-rows c = table_set _ _ c.args.permanent c.args.class _ _ without_last_row c.self.view_is
    c.if-permanent.true (c.requires.there c.if-permanent.true) c.index_mut-rows.ensures.value c.pop.ensures.rows
