use Rattle.std.proofs.Common.{◌≡◌, true}
use Rattle.ss_check.specs.Facts.{is_among, names_of}
use Rattle.ss_check.proofs.FactTables.{index_again, repeat_kept, repeat_new}
use Rattle.ss_check.proofs.declared.fact_table.FactTable.add_again.Goals as goal

pub invariant_of-self-then-is_none-2 : goal.invariant_of-self-then-is_none-2
invariant_of-self-then-is_none-2 g c =
    let fs = c.self.inside.facts.items in
    let there : is_among c.args.fact.name (names_of fs) ≡ true = rw c.self.view_is c.requires.there in
    rw (c.push_reserved.ensures.items, c.reserve.ensures.items) (
      index_again fs c.args.fact c.self.inside.first there c.self.invariant.0,
      repeat_new (λ n. n.items) c.self.inside.repeat fs c.args.fact c.args.key.items there c.self.invariant.1
          (rw c.if-is_none.true at c.is_none.ensures) c.requires.same,
    )

pub invariant_of-self-else-is_none : goal.invariant_of-self-else-is_none
invariant_of-self-else-is_none g c =
    let fs = c.self.inside.facts.items in
    let there : is_among c.args.fact.name (names_of fs) ≡ true = rw c.self.view_is c.requires.there in
    rw (c.push_reserved.ensures.items, c.reserve.ensures.items) (
      index_again fs c.args.fact c.self.inside.first there c.self.invariant.0,
      repeat_kept (λ n. n.items) c.self.inside.repeat fs c.args.fact there c.self.invariant.1
          (rw c.if-is_none.false at c.is_none.ensures),
    )
