use Rattle.std.proofs.Common.{◌≡◌, ◌∙◌, true, sym, ap}
use Rattle.std.proofs.lemmas.List.{with_items_is}
use Rattle.std.specs.Prelude.{slice_set, false}
use Rattle.ss_debug.specs.BreakLines.{is_break_line, without_break}
use Rattle.ss_debug.specs.BreakTable.{breaks_of}
use Rattle.ss_debug.specs.LineTable.{lines_of}
use Rattle.ss_debug.proofs.BreakTables.{SameBut, within, cleared}
use Rattle.ss_debug.proofs.break_lines.BreakLines.clear.Goals as goal

pub returns-then-contains : goal.returns-then-contains
returns-then-contains c =
    let bs = c.self.inside.is_set.items in
    let cs = c.self.inside.conditions.items in
    let ds = c.put_condition.new.conditions in
    let here : is_break_line c.args.self.now c.args.line ≡ true = sym c.if-contains.ensures in
    let there = within bs cs c.args.line (rw (← c.self.view_is) at here) in
    let same : SameBut c.args.line cs ds = rw c.deref_mut.ensures.value at c.put_condition.ensures.others in
    let long = c.put_condition.auto.conditions ∙ c.deref_mut.ensures.len in
    ap (λ x. breaks_of x (lines_of (slice_set bs c.args.line false))) (with_items_is c.self.inside.conditions ds long)
    ∙ (cleared bs cs ds c.args.line there same ∙ ap (without_break c.args.line) c.self.view_is)
