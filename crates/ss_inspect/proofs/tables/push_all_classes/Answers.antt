use Rattle.std.proofs.Common.{refl}
use Rattle.ss_inspect.specs.Tables.{class_line}
use Rattle.ss_inspect.proofs.TextSequences.{text_more}
use Rattle.ss_inspect.proofs.tables.push_all_classes.Goals as goal

pub loop-class-preserved : goal.loop-class-preserved
loop-class-preserved g c =
    text_more (class_line c.args.machine.now.input.program c.args.machine.now.state.store) c.loop-class.class _ c.args.text.now.items c.loop-class.text.items _ refl
    c.loop-class.invariant c.in_ok-push_class.ensures
