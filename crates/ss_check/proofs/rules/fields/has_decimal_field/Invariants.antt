use Rattle.std.proofs.Common.{◌≡◌, drop}
use Rattle.std.specs.Prelude.{map}
use Rattle.ss_report.specs.Pictures as pictures
use Rattle.ss_check.proofs.rules.fields.has_decimal_field.Given as goal

-- no line so far has one
abbrev pub invariant-loop-line : goal.invariant-loop-line
invariant-loop-line l =
    pictures.has_decimal_field (map (λ v. v.items) (drop l.line-index l.lines))
    ≡ pictures.has_decimal_field (map (λ v. v.items) l.lines)
