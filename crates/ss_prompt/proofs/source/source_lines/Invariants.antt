use Rattle.std.proofs.Common.{◌≡◌, ◌++◌, length, map}
use Rattle.ss_prompt.specs.Source.{source_lines}
use Rattle.ss_prompt.proofs.source.source_lines.Given as goal

abbrev pub invariant-loop-rest : goal.invariant-loop-rest
invariant-loop-rest l =
    map (λ line. line.now) l.lines.items ++ source_lines l.rest ≡ source_lines l.model

abbrev pub decreases-loop-rest : goal.decreases-loop-rest
decreases-loop-rest l = length l.rest
