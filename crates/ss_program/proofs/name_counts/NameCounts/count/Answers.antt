use Rattle.std.proofs.Common.{sym}
use Rattle.ss_program.proofs.CountMaps.{counts_some, counts_zero}
use Rattle.ss_program.proofs.name_counts.NameCounts.count.Goals as goal

pub returns-in-Some : goal.returns-in-Some
returns-in-Some c =
    rw (sym c.self.view_is)
    (counts_some c.self.inside.names.items c.self.inside.counts c.args.name.now c.in-Some.count.now c.self.invariant
    c.in-Some.ensures.value)

pub returns-in-None : goal.returns-in-None
returns-in-None c =
    rw (sym c.self.view_is)
    (counts_zero c.self.inside.names.items c.self.inside.counts c.args.name.now c.self.invariant
    c.in-None.ensures.value)
