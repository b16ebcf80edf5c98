use Rattle.std.proofs.Common.{◌≡◌, ◌++◌}
use Rattle.ss_scopes.specs.Pages.{items_from}
use Rattle.ss_scopes.specs.Frames.{local_item}
use Rattle.ss_scopes.proofs.frames.push_section_locals.Given as goal

abbrev pub invariant-loop-k : goal.invariant-loop-k
invariant-loop-k g l =
    l.out.items ≡ l.fn.out.items
    ++ items_from (local_item l.machine.input.program l.machine.state l.depth l.section) l.page.start l.k
