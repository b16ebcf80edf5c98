use Rattle.std.proofs.Common.{◌≡◌}
use Rattle.std.specs.Prelude.{bytes_eq, count_by}
use Rattle.ss_program.proofs.CountMaps.{counts_more, counts_same}
use Rattle.ss_program.proofs.name_counts.NameCounts.put.Goals as goal

pub invariant_of-self-in_err-insert : goal.invariant_of-self-in_err-insert
invariant_of-self-in_err-insert c =
    rw c.reserve.ensures.items
    (counts_same c.self.inside.names.items c.self.inside.counts c.insert.new.self c.in_err-insert.ensures.err
    c.self.invariant)

pub invariant_of-self-2 : goal.invariant_of-self-2
invariant_of-self-2 c =
    let count : c.args.count ≡ count_by (bytes_eq c.args.name) c.self.inside.names.items =
    rw c.self.view_is c.requires.count in
    rw (c.push_reserved.ensures.items, c.reserve.ensures.items)
    (counts_more c.self.inside.names.items c.self.inside.counts c.insert.new.self c.args.key c.args.count c.args.name
    c.requires.same c.in_ok-insert.ensures.updates count c.self.invariant)
