use Rattle.std.proofs.Common.{rules}
use Rattle.ss_data.proofs.PackedLemmas.{length-cut}
use Rattle.ss_data.proofs.pieces.Pieces.len.Goals as goal

pub returns : goal.returns
returns c = rw (← c.self.view_is) (rw length-cut (search rules))
