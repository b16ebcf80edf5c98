use Rattle.std.proofs.Common.{ap, ◌∙◌, ◌-◌, ◌∷◌, arith}
use Rattle.ss_journal.specs.Log.{Log}
use Rattle.ss_byte_journal.proofs.Stretches.{closed_cut}
use Rattle.ss_byte_journal.proofs.byte_journal.ByteJournal.close.Goals as goal

pub returns-clause-steps : goal.returns-clause-steps
returns-clause-steps c =
    let i = c.self.inside in
    let cut =
    closed_cut i.bytes.items i.forgotten i.closed (c.len.result - i.closed) c.len-self-inside.result i.sizes.sizes
    (omega (arith, c.self.invariant.0))
    (omega (arith, c.self.invariant.1, c.len.ensures, c.len-self-inside.ensures))
    (c.len-self-inside.ensures ∙ i.bytes.ok.0) in
    rw (c.push.ensures.sizes)
    (cut ∙ ap (λ (v : Log _). v.current ∷ v.steps) c.self.view_is)
