use Rattle.std.proofs.Common.{length, ap, arith, length-drop}
use Rattle.std.specs.Prelude.{reverse, drop}
use Rattle.std.proofs.lemmas.List.{length-reverse}
use Rattle.ss_journal.specs.Pieces.{SizeList}
use Rattle.ss_journal.proofs.Bytes.{length-sizes}
use Rattle.ss_byte_journal.proofs.step_sizes.StepSizes.len.Goals as goal

pub returns : goal.returns
returns c =
    let live = drop c.self.inside.forgotten c.self.inside.bytes.items in
    omega (
      arith,
      c.len.ensures,
      c.self.inside.bytes.ok.0,
      ap (λ (v : SizeList). length v.sizes) c.self.view_is,
      length-sizes (reverse live) (reverse c.self.inside.longs.items),
      length-reverse live,
      length-drop c.self.inside.forgotten c.self.inside.bytes.items,
    )
