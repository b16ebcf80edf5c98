use Rattle.std.proofs.Common.{◌≡◌, length}
use Rattle.ss_messages.specs.Bodies.{file_name, name_within}
use Rattle.ss_messages.proofs.sources.file_name.Given as goal

-- the name so far and the rest of the path have the path's name
abbrev pub invariant-loop-rest : goal.invariant-loop-rest
invariant-loop-rest l = name_within l.name l.rest ≡ file_name l.fn.path

abbrev pub decreases-loop-rest : goal.decreases-loop-rest
decreases-loop-rest l = length l.rest
