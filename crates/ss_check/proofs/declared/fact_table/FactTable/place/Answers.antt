use Rattle.std.proofs.Common.{sym, ◌∙◌}
use Rattle.ss_check.specs.Facts.{names_of}
use Rattle.ss_check.proofs.FactTables.{names_length, place_some, place_none}
use Rattle.ss_check.proofs.declared.fact_table.FactTable.place.Goals as goal

pub returns-in-Some : goal.returns-in-Some
returns-in-Some g c =
    rw (sym c.self.view_is)
    (place_some (names_of c.self.inside.facts.items) c.self.inside.first c.args.name.now c.in-Some.place.now
    c.self.invariant.0 c.in-Some.ensures.value)

pub returns-in-None : goal.returns-in-None
returns-in-None g c =
    rw (c.len.ensures, sym c.self.view_is)
    (sym (names_length c.self.inside.facts.items)
    ∙ place_none (names_of c.self.inside.facts.items) c.self.inside.first c.args.name.now c.self.invariant.0
    c.in-None.ensures.value)
