use Rattle.std.proofs.Common.{None, refl}
use Rattle.ss_store.proofs.Room.{rows_take}
use Rattle.ss_store.proofs.rows.Rows.take_values.Goals as goal

pub returns-clause-rows : goal.returns-clause-rows
returns-clause-rows c = rows_take _ c.self.inside.rows.items c.self.inside.values.items c.args.index c.take.new.self
    None c.args.self.now refl c.self.view_is c.take.ensures.after
