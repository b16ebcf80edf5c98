use Rattle.std.proofs.Common.{refl}
use Rattle.ss_inspect.specs.Frames.{global_line}
use Rattle.ss_inspect.proofs.TextSequences.{text_more}
use Rattle.ss_inspect.proofs.frames.push_all_globals.Goals as goal

pub loop-number-preserved : goal.loop-number-preserved
loop-number-preserved g c =
    text_more (global_line c.args.machine.now.input.program c.args.machine.now.state) c.loop-number.number _ c.args.text.now.items c.loop-number.text.items _ refl
    c.loop-number.invariant c.in_ok-push_global.ensures
