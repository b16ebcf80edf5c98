use Rattle.std.proofs.Common.{refl}
use Rattle.ss_inspect.specs.Tables.{section_line}
use Rattle.ss_inspect.proofs.TextSequences.{text_more}
use Rattle.ss_inspect.proofs.tables.push_all_sections.Goals as goal

pub loop-number-preserved : goal.loop-number-preserved
loop-number-preserved c =
    text_more (section_line c.args.program.now) c.loop-number.number _ c.args.text.now.items c.loop-number.text.items _ refl
    c.loop-number.invariant c.in_ok-push_section.ensures
