use Rattle.ss_store.specs.Making.{with_row}
use Rattle.ss_store.proofs.Room.{if_ok_map, table_set}
use Rattle.ss_store.proofs.rows.Entities.push.Goals as goal

pub returns-then-permanent-clause-ok : goal.returns-then-permanent-clause-ok
returns-then-permanent-clause-ok c = if_ok_map c.push.result _ _
    (λ x e. table_set _ _ c.args.permanent c.args.row.class _ _ (with_row c.args.row c.args.values.items) c.self.view_is
    c.if-permanent.true (c.requires c.if-permanent.true) c.index_mut-rows.ensures.value e) c.push.ensures.ok
