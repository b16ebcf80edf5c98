use Rattle.std.proofs.Common.{ap, ◌∙◌}
use Rattle.std.specs.Prelude.{map}
use Rattle.ss_check.specs.FactsView.{facts_view}
use Rattle.ss_check.specs.KindView.{kind_view}
use Rattle.ss_check.specs.NameKinds.{is_attribute_of}
use Rattle.ss_check.specs.ResolvedNames.{names_where}
use Rattle.ss_check.proofs.TableTurns.{shown_end, shown_turn}
use Rattle.ss_check.proofs.declared.name_tables.attributes_of_classes.Goals as goal

pub loop-class-preserved : goal.loop-class-preserved
loop-class-preserved c =
    rw c.in_ok-push.ensures.items
    (shown_turn (λ n. names_where (is_attribute_of n) (facts_view kind_view c.args.kinds.now)) (λ t. t.items)
    c.loop-class.tables.items
    c.in_ok-attributes_of.field-0 c.args.classes.now c.loop-class.class-index c.class-item.result
    (map (λ n. names_where (is_attribute_of n) (facts_view kind_view c.args.kinds.now)) c.args.classes.now)
    c.loop-class-test.true
    c.class-item.is
    (c.in_ok-attributes_of.ensures
    ∙ ap (λ n. names_where (is_attribute_of n) (facts_view kind_view c.args.kinds.now))
    (c.deref.ensures.value ∙ c.class.view_is))
    c.loop-class.invariant)

pub returns : goal.returns
returns c =
    shown_end (λ n. names_where (is_attribute_of n) (facts_view kind_view c.args.kinds.now))
    (map (λ t. t.items) c.loop-class.tables.items)
    c.args.classes.now c.loop-class.class-index
    (map (λ n. names_where (is_attribute_of n) (facts_view kind_view c.args.kinds.now)) c.args.classes.now)
    c.loop-class-test.false
    c.loop-class.invariant
