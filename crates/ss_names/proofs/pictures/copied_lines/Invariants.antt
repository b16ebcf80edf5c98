use Rattle.std.proofs.Common.{◌≡◌, take}
use Rattle.std.specs.Prelude.{map}
use Rattle.ss_names.proofs.pictures.copied_lines.Given as goal

-- the lines so far
abbrev pub invariant-loop-line : goal.invariant-loop-line
invariant-loop-line l = map (λ x. x.items) l.copies.items ≡ map (λ x. x.items) (take l.line-index l.lines)
