use Rattle.std.proofs.Common.{◌≡◌, ◌++◌}
use Rattle.ss_program.specs.Program.{set_of}
use Rattle.ss_changes.specs.Parts.{below_of, each_of, list_part}
use Rattle.ss_changes.specs.View.{owners_among}
use Rattle.ss_changes.proofs.listing.push_all_lists.Given as goal

abbrev pub invariant-loop-set : goal.invariant-loop-set
invariant-loop-set l =
    l.parts.items ≡ l.initial.parts.items
    ++ below_of (λ s. each_of (list_part s) (owners_among l.living (set_of l.program s).owner)) l.set
