use Rattle.std.proofs.Common.{◌≡◌, ◌++◌}
use Rattle.ss_scopes.specs.Pages.{items_from}
use Rattle.ss_scopes.specs.Frames.{global_item}
use Rattle.ss_scopes.proofs.frames.push_globals.Given as goal

abbrev pub invariant-loop-k : goal.invariant-loop-k
invariant-loop-k g l =
    l.out.items ≡ l.fn.out.items
    ++ items_from (global_item l.machine.input.program l.machine.state) l.page.start l.k
