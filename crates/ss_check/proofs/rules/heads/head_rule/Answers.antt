use Rattle.std.proofs.Common.{◌&&◌, refl, ◌∙◌}
use Rattle.ss_routines.specs.View.{section_view}
use Rattle.ss_check.specs.Declarations.{is_declared, parameters}
use Rattle.ss_check.proofs.Finds.{found_any}
use Rattle.ss_check.proofs.ItemRules.{head_rule_is}
use Rattle.ss_check.proofs.rules.heads.head_rule.Goals as goal

pub returns-clause-rule : goal.returns-clause-rule
returns-clause-rule c =
    c.lowest.ensures
    ∙ head_rule_is c.args.whole.now c.args.before.now c.add_head.new.self
    (section_view c.args.section.now) c.says_twice.result
    c.in_ok-repeats_parameter.repeats_parameter c.is_some.result c.has_too_many.result c.lacks_class.result
    (c.is_main.result && c.has_main.result) c.requires c.in_ok-add_head.ensures c.says_twice.ensures
    c.in_ok-repeats_parameter.ensures
    (c.is_some.ensures
    ∙ found_any (λ n. n.now) c.declared_parameter.result (is_declared c.args.whole.now)
    (parameters (section_view c.args.section.now).head) c.declared_parameter.ensures)
    c.has_too_many.ensures
    c.lacks_class.ensures
    (rw (c.is_main.ensures, c.has_main.ensures) refl)
