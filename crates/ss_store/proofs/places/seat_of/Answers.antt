use Rattle.std.proofs.Common.{ap, sym, ◌+◌, arith}
use Rattle.std.specs.Option.{option_map}
use Rattle.ss_store.specs.declared.rows.Row.{Row}
use Rattle.ss_store.proofs.places.seat_of.Goals as goal

pub overflow_add-result : goal.overflow_add-result
overflow_add-result c = let w = c.requires _
    (ap (option_map (λ (r : Row). r.seat + c.args.set.now.slot)) (sym c.in_ok-row.ensures)) in omega (arith, w)
