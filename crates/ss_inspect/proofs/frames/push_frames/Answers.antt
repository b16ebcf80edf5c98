use Rattle.std.proofs.Common.{refl}
use Rattle.ss_inspect.specs.Frames.{frame_line}
use Rattle.ss_inspect.proofs.TextSequences.{text_more}
use Rattle.ss_inspect.proofs.frames.push_frames.Goals as goal

pub loop-depth-preserved : goal.loop-depth-preserved
loop-depth-preserved g c =
    let m = c.args.machine.now in
    text_more (frame_line m.input.program m.state)
    c.loop-depth.depth _ c.args.text.now.items c.loop-depth.text.items _ refl c.loop-depth.invariant c.in_ok-push_frame.ensures
