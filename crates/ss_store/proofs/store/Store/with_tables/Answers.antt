use Rattle.std.proofs.Common.{arith}
use Rattle.ss_store.specs.Tables.{Tables}
use Rattle.ss_store.proofs.EmptyStores.{begins, begins_pair, begins_value}
use Rattle.std.proofs.Common.{ap}
use Rattle.ss_store.specs.Order.{known_at}
use Rattle.ss_store.proofs.ListOrders.{none_known, fewer_known}
use Rattle.ss_store.proofs.store.Store.with_tables.Goals as goal

pub invariant_of-result : goal.invariant_of-result
invariant_of-result g c =
    let t : Tables = record { classes = c.args.classes.items; sets = c.args.sets.items; system = c.args.system } in
    let p = begins_pair t _ _ _ c.requires.tables (begins t c.len.result _ _ _ (g.S.SetBoard.board c.args.board)
    c.in_ok-entities.ensures (omega (arith, c.len.ensures, c.args.classes.ok)) c.new-2.ensures.items
    c.in_ok-add_heads.ensures.ok c.requires.board c.add_heads.ensures.sound) in (
      p.0,
      p.1,
      p.2,
      fewer_known _ _ _ c.try_grow.ensures
          (none_known _ _ (λ h. ap (λ z. known_at z h) c.new-search.ensures)),
    )

pub returns : goal.returns
returns g c =
    let t : Tables = record { classes = c.args.classes.items; sets = c.args.sets.items; system = c.args.system } in
    begins_value t _ _ _ (begins t c.len.result _ _ _ (g.S.SetBoard.board c.args.board)
    c.in_ok-entities.ensures (omega (arith, c.len.ensures, c.args.classes.ok)) c.new-2.ensures.items
    c.in_ok-add_heads.ensures.ok c.requires.board c.add_heads.ensures.sound)
