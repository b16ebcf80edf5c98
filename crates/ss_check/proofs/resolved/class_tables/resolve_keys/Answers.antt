use Rattle.std.proofs.Common.{refl}
use Rattle.std.specs.Prelude.{map}
use Rattle.ss_words.specs.Lists.{all_of, several_view}
use Rattle.ss_preamble.specs.View.{key_view}
use Rattle.ss_check.specs.Resolved.{resolved_key}
use Rattle.ss_check.specs.ResolvedNames.{attribute_names}
use Rattle.ss_check.proofs.TableTurns.{seen_end, seen_turn}
use Rattle.ss_check.proofs.resolved.class_tables.resolve_keys.Goals as goal

pub loop-key-init : goal.loop-key-init
loop-key-init c =
    rw (
      c.in_ok-push.ensures.items,
      c.in_ok-list.ensures.items,
      c.resolve_key.ensures,
      c.class-number.ensures,
      c.deref-key-items.ensures.value,
    )
    refl

pub loop-key-preserved : goal.loop-key-preserved
loop-key-preserved c =
    rw (c.in_ok-push-2.ensures.items, c.resolve_key-in-loop-key.ensures, c.class-number.ensures)
    (seen_turn (resolved_key (attribute_names c.args.names.now c.args.class.now)) key_view c.loop-key.list.items
    c.deref-key-items.result.now c.loop-key.key-index c.key-item.result
    (map (resolved_key (attribute_names c.args.names.now c.args.class.now))
    (all_of (several_view key_view c.args.keys.now))) c.loop-key-test.true c.key-item.is c.loop-key.invariant)

pub returns : goal.returns
returns c =
    seen_end (resolved_key (attribute_names c.args.names.now c.args.class.now)) key_view c.loop-key.list.items
    c.deref-key-items.result.now c.loop-key.key-index
    (map (resolved_key (attribute_names c.args.names.now c.args.class.now))
    (all_of (several_view key_view c.args.keys.now))) c.loop-key-test.false c.loop-key.invariant
