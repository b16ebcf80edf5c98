use Rattle.std.proofs.Common.{◌∙◌, sym, ap}
use Rattle.std.proofs.lemmas.List.{with_items_is}
use Rattle.std.specs.Prelude.{slice_set, true}
use Rattle.ss_debug.specs.BreakLines.{with_break}
use Rattle.ss_debug.specs.BreakTable.{breaks_of}
use Rattle.ss_debug.specs.LineTable.{lines_of}
use Rattle.ss_debug.proofs.BreakTables.{SameBut, set_new, set_again}
use Rattle.ss_debug.proofs.break_lines.BreakLines.set.Goals as goal

pub returns-then-index-clause-ok : goal.returns-then-index-clause-ok
returns-then-index-clause-ok c =
    let xs = c.self.inside.is_set.items in
    let bs = c.make_room.new.is_set.items in
    let cs = c.self.inside.conditions.items in
    let ds = c.put_condition.new.conditions in
    let others : SameBut c.args.line c.make_condition_room.new.conditions.items ds =
    rw c.deref_mut.ensures.value at c.put_condition.ensures.others in
    let same : SameBut c.args.line cs ds = λ k d. others k d ∙ c.in_ok-make_condition_room.ensures.same k in
    let long = c.put_condition.auto.conditions ∙ c.deref_mut.ensures.len in
    ap (λ x. breaks_of x (lines_of bs)) (with_items_is c.make_condition_room.new.conditions ds long)
    ∙ (set_again xs bs cs ds c.args.line c.args.when c.index.result.now c.in_ok-make_room.ensures.lines
    c.in_ok-make_room.ensures.room (sym c.index.ensures ∙ c.if-index.true) c.put_condition.ensures.put same
    ∙ ap (with_break (record { line = c.args.line; when = c.args.when })) c.self.view_is)

pub returns-clause-ok : goal.returns-clause-ok
returns-clause-ok c =
    let xs = c.self.inside.is_set.items in
    let bs = c.make_room.new.is_set.items in
    let cs = c.self.inside.conditions.items in
    let ds = c.put_condition.new.conditions in
    let others : SameBut c.args.line c.make_condition_room.new.conditions.items ds =
    rw c.deref_mut.ensures.value at c.put_condition.ensures.others in
    let same : SameBut c.args.line cs ds = λ k d. others k d ∙ c.in_ok-make_condition_room.ensures.same k in
    let long = c.put_condition.auto.conditions ∙ c.deref_mut.ensures.len in
    ap (λ x. breaks_of x (lines_of (slice_set bs c.args.line true)))
    (with_items_is c.make_condition_room.new.conditions ds long)
    ∙ (set_new xs bs cs ds c.args.line c.args.when c.in_ok-make_room.ensures.lines c.in_ok-make_room.ensures.room
    c.put_condition.ensures.put same
    ∙ ap (with_break (record { line = c.args.line; when = c.args.when })) c.self.view_is)
