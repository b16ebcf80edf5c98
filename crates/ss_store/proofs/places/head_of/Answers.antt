use Rattle.std.proofs.Common.{ap, sym, ◌∙◌, ◌+◌, arith}
use Rattle.std.specs.Option.{option_map}
use Rattle.ss_program.specs.declared.kinds.Owner.{Owner}
use Rattle.ss_store.specs.declared.rows.Row.{Row}
use Rattle.ss_store.specs.Parts.{head_by}
use Rattle.ss_store.proofs.places.head_of.Goals as goal

pub overflow_add-result : goal.overflow_add-result
overflow_add-result c = let w = c.requires _
    (ap (λ (z : Owner). head_by z c.args.entities.now c.args.set.now c.args.owner) c.in-OwnedBy.is
    ∙ ap (option_map (λ (r : Row). r.head + c.args.set.now.list)) (sym c.row_of.ensures ∙ c.in-Some.is)) in
    omega (arith, w)
