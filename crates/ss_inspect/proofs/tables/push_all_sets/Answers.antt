use Rattle.std.proofs.Common.{refl}
use Rattle.ss_inspect.specs.Tables.{set_line}
use Rattle.ss_inspect.proofs.TextSequences.{text_more}
use Rattle.ss_inspect.proofs.tables.push_all_sets.Goals as goal

pub loop-set-preserved : goal.loop-set-preserved
loop-set-preserved c =
    text_more (set_line c.args.program.now) c.loop-set.set _ c.args.text.now.items c.loop-set.text.items _ refl
    c.loop-set.invariant c.in_ok-push_set.ensures
