use Rattle.std.proofs.Common.{rules}
use Rattle.std.proofs.lemmas.List.{length-reverse}
use Rattle.ss_journal.proofs.Bytes.{length-sizes}
use Rattle.ss_journal.proofs.sizes.Sizes.len.Goals as goal

pub returns : goal.returns
returns c = rw (← c.self.view_is) (rw (length-sizes, length-reverse) (search rules))
