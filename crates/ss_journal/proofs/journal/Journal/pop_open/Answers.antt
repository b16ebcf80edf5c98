use Rattle.std.proofs.Common.{◌-◌, ap, sym, ◌∙◌, arith}
use Rattle.ss_journal.specs.Log.{Log}
use Rattle.ss_journal.specs.Pieces.{cut_by_lengths}
use Rattle.ss_journal.proofs.Cuts.{open_taken, open_left}
use Rattle.ss_journal.proofs.journal.Journal.pop_open.Goals as goal

-- src/journal.rt:104:5
pub returns-clause-steps : goal.returns-clause-steps
returns-clause-steps g c =
    let left =
    open_left c.self.inside.unclosed (c.self.inside.unclosed - 1) c.self.inside.changes.items
    c.pop_back.new.self.items c.in_ok-change.change (omega (arith, c.if-self-eq0.false))
    c.in_ok-change.ensures.items in
    ap (cut_by_lengths c.self.inside.sizes.sizes) (sym left) ∙ ap (λ (v : Log _). v.steps) c.self.view_is

-- src/journal.rt:104:5
pub returns-clause-current : goal.returns-clause-current
returns-clause-current g c =
    sym (ap (λ (v : Log _). v.current) c.self.view_is)
    ∙ open_taken c.self.inside.unclosed (c.self.inside.unclosed - 1) c.self.inside.changes.items
    c.pop_back.new.self.items c.in_ok-change.change (omega (arith, c.if-self-eq0.false))
    c.in_ok-change.ensures.items
