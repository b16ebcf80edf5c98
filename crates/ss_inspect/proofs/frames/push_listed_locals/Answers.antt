use Rattle.std.proofs.Common.{refl}
use Rattle.ss_inspect.specs.Frames.{listed_local}
use Rattle.ss_inspect.proofs.TextSequences.{text_more}
use Rattle.ss_inspect.proofs.frames.push_listed_locals.Goals as goal

pub loop-number-preserved : goal.loop-number-preserved
loop-number-preserved g c =
    let m = c.args.machine.now in
    text_more (listed_local m.input.program m.state c.args.depth c.args.section)
    c.loop-number.number _ c.args.text.now.items c.loop-number.text.items _ refl c.loop-number.invariant c.in_ok-push_listed_local.ensures
