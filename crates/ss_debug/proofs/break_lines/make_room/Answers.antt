use Rattle.std.proofs.Common.{◌≡◌, ◌+◌, take, arith}
use Rattle.std.proofs.lemmas.Grind.{common_steps}
use Rattle.ss_debug.proofs.LineTables.{longer}
use Rattle.ss_debug.proofs.break_lines.make_room.Goals as goal

pub returns-in_ok-resize-clause-lines : goal.returns-in_ok-resize-clause-lines
returns-in_ok-resize-clause-lines c =
    let whole : take (c.args.line + 1) c.args.is_set.now.items ≡ c.args.is_set.now.items =
    grind (arith, common_steps) in
    rw (c.in_ok-resize.ensures.items, whole) (longer c.args.is_set.now.items _)
