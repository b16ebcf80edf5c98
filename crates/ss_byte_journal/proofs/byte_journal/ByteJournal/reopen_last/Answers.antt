use Rattle.std.proofs.Common.{◌≡◌, ◌-◌, ◌+◌, length, sum, reverse, drop, take, ap, sym, ◌∙◌, arith}
use Rattle.std.proofs.lemmas.List.Sums.{sum_by-cons}
use Rattle.ss_journal.specs.Log.{Log}
use Rattle.ss_journal.specs.Pieces.{cut_by_lengths}
use Rattle.ss_byte_journal.proofs.Stretches.{closed_cut, none_open}
use Rattle.ss_byte_journal.proofs.byte_journal.ByteJournal.reopen_last.Goals as goal

pub returns-in-Some-clause-steps : goal.returns-in-Some-clause-steps
returns-in-Some-clause-steps c =
    let i = c.self.inside in
    let size = c.in-Some.size in
    let sizes = c.pop.new.self.sizes in
    let none = ap (λ (v : Log _). v.current) c.self.view_is ∙ c.requires in
    let end : i.closed ≡ length i.bytes.items =
    none_open i.bytes.items i.closed (omega (arith, c.self.invariant.1, i.bytes.ok.0)) none in
    let all : size + sum sizes ≡ sum i.sizes.sizes =
    omega (arith, ap sum c.in-Some.ensures.sizes, sum_by-cons (λ n. n) size sizes) in
    sym (ap (λ (v : Log _). v.steps) c.self.view_is)
    ∙ ap (λ l. cut_by_lengths l (reverse (drop i.forgotten (take i.closed i.bytes.items)))) c.in-Some.ensures.sizes
    ∙ closed_cut i.bytes.items i.forgotten (i.closed - size) size i.closed sizes
    (omega (arith, all, c.self.invariant.0)) (omega (arith, all, c.self.invariant.0)) end
