use Rattle.std.proofs.Common.{sym, ◌∙◌}
use Rattle.ss_preamble.specs.View.{item_at_view, items_view}
use Rattle.ss_check.specs.Increments.{headed_item, items_refusal, with_items}
use Rattle.ss_check.specs.Declarations.{headed_items}
use Rattle.ss_check.proofs.ItemRules.{once_behind_item}
use Rattle.ss_check.proofs.Turns.{filled_end, filled_turn, item_passed, item_told, items_end}
use Rattle.ss_check.proofs.Wrongs.{item_wrong_is}
use Rattle.ss_check.proofs.rules.breach.check_items.Goals as goal

pub returns-in-Some-clause-err : goal.returns-in-Some-clause-err
returns-in-Some-clause-err c =
    rw (
      c.in_ok-wrong.ensures,
      item_wrong_is c.args.whole.now c.loop-one.before c.item_rule.new.before
          (headed_item c.heading_at-heading.result (item_at_view c.one-item.result)) c.in-Some.rule
          c.loop-one.invariant.once c.in_ok-rule.ensures.tables,
    )
    (item_told c.args.whole.now c.loop-one.before c.loop-one.heading c.heading_at-heading.result c.args.items.now
    c.loop-one.one-index
    c.one-item.result (items_refusal c.args.whole.now c.args.before.now
    (headed_items (items_view c.args.items.now))) c.in-Some.rule
    c.loop-one-test.true c.one-item.is c.loop-one.invariant.sound c.heading_at-heading.ensures
    (sym c.in_ok-rule.ensures.rule ∙ c.in-Some.is))

pub loop-one-preserved : goal.loop-one-preserved
loop-one-preserved c =
    let none = sym c.in_ok-rule.ensures.rule ∙ c.in_default.is in
    record {
      once = rw c.in_ok-rule.ensures.tables
          (once_behind_item c.args.whole.now c.loop-one.before
          (headed_item c.heading_at-heading.result (item_at_view c.one-item.result))
          c.loop-one.invariant.once none);
      sound = rw c.in_ok-rule.ensures.tables
          (item_passed c.args.whole.now c.loop-one.before c.loop-one.heading c.heading_at-heading.result
          c.args.items.now
          c.loop-one.one-index c.one-item.result
          (items_refusal c.args.whole.now c.args.before.now (headed_items (items_view c.args.items.now)))
          c.loop-one-test.true c.one-item.is c.loop-one.invariant.sound c.heading_at-heading.ensures none);
      tables = rw (c.in_ok-rule.ensures.tables, c.heading_at-heading.ensures)
          (filled_turn c.loop-one.before c.loop-one.heading c.args.items.now c.loop-one.one-index c.one-item.result
          (with_items c.args.before.now (headed_items (items_view c.args.items.now))) c.loop-one-test.true c.one-item.is
          c.loop-one.invariant.tables);
    }

pub returns-clause-sound : goal.returns-clause-sound
returns-clause-sound c =
    items_end c.args.whole.now c.loop-one.before c.loop-one.heading c.args.items.now c.loop-one.one-index
    (items_refusal c.args.whole.now c.args.before.now (headed_items (items_view c.args.items.now))) c.loop-one-test.false
    c.loop-one.invariant.sound

pub returns-clause-tables : goal.returns-clause-tables
returns-clause-tables c =
    filled_end c.loop-one.before c.loop-one.heading c.args.items.now c.loop-one.one-index
    (with_items c.args.before.now
    (headed_items (items_view c.args.items.now))) c.loop-one-test.false c.loop-one.invariant.tables
