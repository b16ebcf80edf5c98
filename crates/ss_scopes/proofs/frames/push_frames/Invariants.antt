use Rattle.std.proofs.Common.{◌≡◌, ◌++◌}
use Rattle.ss_scopes.specs.Pages.{items_from}
use Rattle.ss_scopes.specs.Frames.{frame_text}
use Rattle.ss_scopes.proofs.frames.push_frames.Given as goal

abbrev pub invariant-loop-k : goal.invariant-loop-k
invariant-loop-k g l =
    l.out.items ≡ l.fn.out.items
    ++ items_from (frame_text l.machine.input.program l.machine.state l.source.path.now l.source.counting)
    l.page.start l.k
