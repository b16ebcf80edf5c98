use Rattle.std.proofs.Common.{sym, arith}
use Rattle.std.proofs.lemmas.List.{length-take-le}
use Rattle.ss_changes.proofs.texts.push_cut.Goals as goal

pub slice_bounds-extend_from_slice-length : goal.slice_bounds-extend_from_slice-length
slice_bounds-extend_from_slice-length c = sym (length-take-le 117 c.args.line.now (omega arith))
