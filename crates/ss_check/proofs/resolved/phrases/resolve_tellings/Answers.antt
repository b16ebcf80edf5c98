use Rattle.std.proofs.Common.{refl}
use Rattle.std.specs.Prelude.{map}
use Rattle.ss_words.specs.Lists.{all_of, several_view}
use Rattle.ss_routines.specs.View.{computed_view}
use Rattle.ss_check.specs.Resolved.{resolved_telling}
use Rattle.ss_check.specs.Scope.{in_scope}
use Rattle.ss_check.proofs.TableTurns.{seen_end, seen_turn}
use Rattle.ss_check.proofs.resolved.phrases.resolve_tellings.Goals as goal

pub loop-other-init : goal.loop-other-init
loop-other-init c =
    rw (
      c.in_ok-push.ensures.items,
      c.in_ok-list.ensures.items,
      c.in_ok-resolve_telling.ensures,
      c.deref-other-items.ensures.value,
    )
    refl

pub loop-other-preserved : goal.loop-other-preserved
loop-other-preserved c =
    rw (c.in_ok-push-2.ensures.items, c.in_ok-resolve_telling-2.ensures)
    (seen_turn (in_scope c.args.scope resolved_telling) computed_view c.loop-other.list.items
    c.deref-other-items.result.now c.loop-other.other-index c.other-item.result
    (map (in_scope c.args.scope resolved_telling) (all_of (several_view computed_view c.args.computed.now)))
    c.loop-other-test.true c.other-item.is c.loop-other.invariant)

pub returns : goal.returns
returns c =
    seen_end (in_scope c.args.scope resolved_telling) computed_view c.loop-other.list.items
    c.deref-other-items.result.now c.loop-other.other-index
    (map (in_scope c.args.scope resolved_telling) (all_of (several_view computed_view c.args.computed.now)))
    c.loop-other-test.false c.loop-other.invariant
