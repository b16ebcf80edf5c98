use Rattle.std.proofs.Common.{◌≡◌, ◌++◌, ◌<◌, arith}
use Rattle.ss_reads.specs.Places.{locals_reads}
use Rattle.ss_reads.proofs.Notices.{more_locals}
use Rattle.ss_reads.proofs.control_flow.see_locals.Goals as goal

pub loop-local-preserved : goal.loop-local-preserved
loop-local-preserved c =
    let i = c.loop-local.local in
    let below : i < c.args.end = omega arith in
    let more : c.see_local.new.reads.items ≡ c.loop-local.reads.items ++ locals_reads i 1 = c.in_ok-see_local.ensures in
    more_locals i c.args.end _ _ _ below more c.loop-local.invariant
