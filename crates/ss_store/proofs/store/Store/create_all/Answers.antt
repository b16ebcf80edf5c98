use Rattle.std.proofs.Common.{rules, arith}
use Rattle.ss_store.proofs.MakingChains.{all_made, none_made}
use Rattle.ss_store.proofs.store.Store.create_all.Goals as goal

pub returns-in-Ok : goal.returns-in-Ok
returns-in-Ok g c = all_made c.args.class _ c.args.n c.count_heads-heads.result c.count_seats-seats.result
    c.args.self.now _ c.in-Ok.ensures.ok c.requires.kind
    (none_made _ _ (c.count_made.ensures.made c.requires.kind) (omega (arith, c.if-count_made-gt0.false)))
    (none_made _ _ c.count_made.ensures.kept (omega (arith, c.if-count_made-gt0.false)))
    c.count_heads-heads.ensures c.count_seats-seats.ensures (search rules) (search rules) (search rules)
