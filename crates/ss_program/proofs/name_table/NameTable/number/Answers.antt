use Rattle.std.proofs.Common.{◌∙◌, ap, List, ℕ}
use Rattle.std.specs.Prelude.{bytes_eq, position}
use Rattle.ss_program.proofs.NameIndex.{index_at, place_within}
use Rattle.ss_program.proofs.name_table.NameTable.number.Goals as goal

pub returns-clause-value : goal.returns-clause-value
returns-clause-value c =
    c.copied.ensures ∙ c.get.ensures.value
    ∙ index_at c.self.inside.names.items c.self.inside.places c.args.name.now c.self.invariant
    ∙ ap (λ (t : List (List ℕ)). position (bytes_eq c.args.name.now) t) c.self.view_is

pub returns-clause-within : goal.returns-clause-within
returns-clause-within c = rw (returns-clause-value c) (place_within c.args.self.now c.args.name.now)
