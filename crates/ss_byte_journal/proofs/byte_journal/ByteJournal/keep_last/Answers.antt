use Rattle.std.proofs.Common.{◌≡◌, ◌-◌, length, reverse, take, drop, ap, ◌∙◌, arith}
use Rattle.ss_journal.specs.Log.{Log}
use Rattle.ss_journal.proofs.Cuts.{step-count, kept_of}
use Rattle.ss_byte_journal.proofs.Stretches.{kept_cut}
use Rattle.ss_byte_journal.proofs.byte_journal.ByteJournal.keep_last.Goals as goal

pub forget-requires-clause-steps : goal.forget-requires-clause-steps
forget-requires-clause-steps c =
    let i = c.self.inside in
    let many =
    step-count c.args.self.now.steps i.sizes.sizes (reverse (drop i.forgotten (take i.closed i.bytes.items)))
    (ap (λ (v : Log _). v.steps) c.self.view_is) in
    omega (arith, c.saturating_sub-steps.ensures, c.steps.ensures, many)

pub returns-clause-steps : goal.returns-clause-steps
returns-clause-steps c =
    let i = c.self.inside in
    let many =
    step-count c.args.self.now.steps i.sizes.sizes (reverse (drop i.forgotten (take i.closed i.bytes.items)))
    (ap (λ (v : Log _). v.steps) c.self.view_is) in
    let many_less : c.saturating_sub-steps.result ≡ length i.sizes.sizes - c.args.n =
    c.saturating_sub-steps.ensures ∙ ap (λ k. k - c.args.n) (c.steps.ensures ∙ many) in
    let kept : c.forget.new.self.sizes ≡ kept_of c.args.n i.sizes.sizes =
    c.forget.ensures.sizes ∙ ap (λ k. take (length i.sizes.sizes - k) i.sizes.sizes) many_less in
    kept_cut c.args.n c.forget.result i.forgotten i.closed i.sizes.sizes c.forget.new.self.sizes i.bytes.items
    c.self.invariant.0 (omega (arith, c.self.invariant.1, i.bytes.ok.0)) kept c.forget.ensures.bytes
    ∙ ap (λ (v : Log _). take c.args.n v.steps) c.self.view_is
