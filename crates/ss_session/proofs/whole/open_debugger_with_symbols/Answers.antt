use Rattle.std.proofs.Common.{◌≡◌, sym, subst, rules}
use Rattle.ss_program.specs.Program.{ProgramTable}
use Rattle.ss_session.specs.Model.{IsOfModel}
use Rattle.ss_session.proofs.whole.open_debugger_with_symbols.Goals as goal

pub returns-in-Ok-clause-symbols : goal.returns-in-Ok-clause-symbols
returns-in-Ok-clause-symbols c =
    let same : c.new.result.machine.input.program ≡ c.in_ok-loaded.loaded.program = search rules in
    subst (λ (program : ProgramTable). IsOfModel c.args.model.now program c.in_ok-loaded.loaded.symbols) (sym same)
    c.in_ok-loaded.ensures.symbols
