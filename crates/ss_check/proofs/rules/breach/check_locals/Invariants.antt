use Rattle.std.proofs.Common.{◌≡◌, drop}
use Rattle.std.specs.Prelude.{map}
use Rattle.ss_routines.specs.View.{local_view}
use Rattle.ss_check.specs.Increments.{locals_refusal}
use Rattle.ss_check.proofs.rules.breach.check_locals.Given as goal

-- the local DEFINEs so far break no rule
abbrev pub invariant-loop-local : goal.invariant-loop-local
invariant-loop-local l =
    locals_refusal l.whole (map local_view (drop l.local-index l.locals))
    ≡ locals_refusal l.whole (map local_view l.locals)
