use Rattle.std.proofs.Common.{◌≡◌, ap, arith, subst}
use Rattle.std.specs.Prelude.{IfOk}
use Rattle.ss_program.specs.Program.{ProgramTable}
use Rattle.ss_store.specs.Tables.{Tables}
use Rattle.ss_store.specs.Value.{empty_value}
use Rattle.ss_store.proofs.EmptyStores.{program_tables, program_fits}
use Rattle.ss_store.proofs.store.Store.new.Goals as goal

pub with_tables-requires-clause-tables : goal.with_tables-requires-clause-tables
with_tables-requires-clause-tables g c = program_fits c.args.program.now _ c.known.ensures.tables
    (program_tables c.args.program.now c.in_ok-classes.classes.items c.in_ok-sets.sets.items c.program.inside.sets.items
    _ c.count_owned-system.result c.len.result c.in_ok-classes.ensures c.in_ok-sets.ensures
    c.count_owned-system.ensures.value c.deref.ensures.value (ap (λ (z : ProgramTable). z.sets) c.program.view_is)
    (omega (arith, c.len.ensures, c.program.inside.sets.ok)))

pub returns : goal.returns
returns g c =
    let same = program_tables c.args.program.now c.in_ok-classes.classes.items c.in_ok-sets.sets.items
    c.program.inside.sets.items _ c.count_owned-system.result c.len.result c.in_ok-classes.ensures
    c.in_ok-sets.ensures c.count_owned-system.ensures.value c.deref.ensures.value
    (ap (λ (z : ProgramTable). z.sets) c.program.view_is) (omega (arith, c.len.ensures, c.program.inside.sets.ok)) in
    subst (λ (t : Tables). IfOk c.with_tables.result (λ store. store ≡ empty_value t)) same c.with_tables.ensures
