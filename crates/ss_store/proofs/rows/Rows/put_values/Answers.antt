use Rattle.std.proofs.Common.{Some}
use Rattle.ss_store.proofs.Room.{rows_put}
use Rattle.ss_store.proofs.rows.Rows.put_values.Goals as goal

pub returns : goal.returns
returns c = rows_put _ c.self.inside.rows.items c.self.inside.values.items c.args.index (Some c.args.values)
    c.args.self.now c.self.view_is
