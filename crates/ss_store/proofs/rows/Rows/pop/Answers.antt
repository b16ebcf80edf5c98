use Rattle.std.proofs.Common.{◌-◌, arith}
use Rattle.ss_store.proofs.Room.{rows_cut}
use Rattle.ss_store.proofs.rows.Rows.pop.Goals as goal

pub returns-clause-rows : goal.returns-clause-rows
returns-clause-rows c = rows_cut _ c.self.inside.rows.items _ c.self.inside.values.items _ (c.len-last.result - 1)
    c.args.self.now c.self.view_is (omega (arith, c.len-last.ensures, c.self.inside.rows.ok)) c.truncate.ensures.items
    c.truncate-2.ensures.items
