use Rattle.std.proofs.Common.{◌∙◌}
use Rattle.ss_preamble.specs.View.{item_at_view}
use Rattle.ss_check.specs.Increments.{headed_item}
use Rattle.ss_check.proofs.ItemRules.{item_rule_is}
use Rattle.ss_check.proofs.rules.items.item_rule.Goals as goal

pub returns-clause-rule : goal.returns-clause-rule
returns-clause-rule c =
    c.lowest.ensures
    ∙ rw (c.repeats_owner.ensures, c.repeats_member.ensures, c.joins_system.ensures)
    (item_rule_is c.args.whole.now c.args.before.now c.add_item.new.self
    (headed_item c.args.heading (item_at_view c.args.item_at.now))
    c.says_twice-declares_twice.result c.names_wrong_class.result c.names_ownerless_set-is_ownerless.result
    c.names_memberless_set-is_memberless.result
    c.has_wrong_keys_unless.result c.names_without_section-lacks_section.result
    c.in_ok-has_wrong_priority.has_wrong_priority
    c.requires
    c.in_ok-add_item.ensures c.says_twice-declares_twice.ensures c.names_wrong_class.ensures
    c.names_ownerless_set-is_ownerless.ensures c.names_memberless_set-is_memberless.ensures
    c.has_wrong_keys_unless.ensures c.names_without_section-lacks_section.ensures
    c.in_ok-has_wrong_priority.ensures)
