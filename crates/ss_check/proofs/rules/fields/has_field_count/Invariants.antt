use Rattle.std.proofs.Common.{◌≡◌, ◌+◌, drop}
use Rattle.std.specs.Prelude.{map}
use Rattle.ss_report.specs.Pictures.{field_count}
use Rattle.ss_check.proofs.rules.fields.has_field_count.Given as goal

-- the missing count is the wanted count without the fields so far
abbrev pub invariant-loop-line : goal.invariant-loop-line
invariant-loop-line l =
    l.missing + field_count (map (λ v. v.items) l.lines)
    ≡ l.wanted + field_count (map (λ v. v.items) (drop l.line-index l.lines))
