use Rattle.std.proofs.Common.{◌≡◌, ◌∙◌, ap, arith, false, length}
use Rattle.ss_program.proofs.NameIndex.{index_same}
use Rattle.ss_check.specs.Facts.{is_among, names_of}
use Rattle.ss_check.proofs.FactTables.{index_first, repeat_first}
use Rattle.ss_check.proofs.declared.fact_table.FactTable.add_first.Goals as goal

pub invariant_of-self-in_err-insert : goal.invariant_of-self-in_err-insert
invariant_of-self-in_err-insert g c =
    rw c.reserve.ensures.items (
      index_same (names_of c.self.inside.facts.items) c.self.inside.first c.insert.new.self
          c.in_err-insert.ensures.err c.self.invariant.0,
      c.self.invariant.1,
    )

pub invariant_of-self-2 : goal.invariant_of-self-2
invariant_of-self-2 g c =
    let absent : is_among c.args.fact.name (names_of c.self.inside.facts.items)
    ≡ false = rw c.self.view_is c.requires.new in
    let size : c.len.result ≡ length c.self.inside.facts.items =
    omega (arith, c.len.ensures, c.reserve.new.self.ok, ap length c.reserve.ensures.items) in
    rw (c.push_reserved.ensures.items, c.reserve.ensures.items) (
      index_first c.self.inside.facts.items c.args.fact c.self.inside.first c.insert.new.self c.args.key
          c.len.result c.requires.same size c.in_ok-insert.ensures.updates absent c.self.invariant.0,
      c.self.invariant.1 ∙ repeat_first c.self.inside.facts.items c.args.fact absent,
    )
