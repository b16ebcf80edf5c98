use Rattle.std.proofs.Common.{◌≡◌, ◌∷◌, List, refl, sym, ap, length, arith, ◌∙◌}
use Rattle.ss_journal.specs.Log.{Log}
use Rattle.ss_state.specs.Change.{Change}
use Rattle.ss_machine.specs.ChangeView.{as_change}
use Rattle.ss_machine.specs.History.{changes_of}
use Rattle.ss_machine.proofs.Histories.{changes_read}
use Rattle.ss_machine.proofs.history.History.undo_newest.Goals as goal

pub returns-else-is_small_frame-clause-current : goal.returns-else-is_small_frame-clause-current
returns-else-is_small_frame-clause-current g c =
    let read = rw c.of_number-kind.ensures at c.read-change.ensures in
    let first : changes_of c.self.inside.tape.numbers.current c.self.inside.tape.kept.current
    ≡ as_change c.read-change.result
    ∷ changes_of c.read-change.new.self.numbers.current c.read-change.new.self.kept.current =
    changes_read c.in-Some.number c.pop_open.new.self.current c.self.inside.tape.numbers.current
    c.read-change.new.self.numbers.current c.self.inside.tape.kept.current c.read-change.new.self.kept.current
    (as_change c.read-change.result) c.in-Some.ensures.current read.value read.numbers_left read.kept_left in
    let head : c.args.self.now.current
    ≡ as_change c.read-change.result
    ∷ changes_of c.read-change.new.self.numbers.current c.read-change.new.self.kept.current =
    ap (λ (l : Log Change). l.current) (sym c.self.view_is) ∙ first in
    let long = ap (λ (cs : List Change). length cs) head in
    omega (arith, long)

pub returns-else-is_small_frame-clause-leads : goal.returns-else-is_small_frame-clause-leads
returns-else-is_small_frame-clause-leads g c =
    let read = rw c.of_number-kind.ensures at c.read-change.ensures in
    let first : changes_of c.self.inside.tape.numbers.current c.self.inside.tape.kept.current
    ≡ as_change c.read-change.result
    ∷ changes_of c.read-change.new.self.numbers.current c.read-change.new.self.kept.current =
    changes_read c.in-Some.number c.pop_open.new.self.current c.self.inside.tape.numbers.current
    c.read-change.new.self.numbers.current c.self.inside.tape.kept.current c.read-change.new.self.kept.current
    (as_change c.read-change.result) c.in-Some.ensures.current read.value read.numbers_left read.kept_left in
    let head : c.args.self.now.current
    ≡ as_change c.read-change.result
    ∷ changes_of c.read-change.new.self.numbers.current c.read-change.new.self.kept.current =
    ap (λ (l : Log Change). l.current) (sym c.self.view_is) ∙ first in
    rw (head, c.undo.ensures) refl

pub returns-else-is_small_frame-clause-fit : goal.returns-else-is_small_frame-clause-fit
returns-else-is_small_frame-clause-fit g c =
    let read = rw c.of_number-kind.ensures at c.read-change.ensures in
    let first : changes_of c.self.inside.tape.numbers.current c.self.inside.tape.kept.current
    ≡ as_change c.read-change.result
    ∷ changes_of c.read-change.new.self.numbers.current c.read-change.new.self.kept.current =
    changes_read c.in-Some.number c.pop_open.new.self.current c.self.inside.tape.numbers.current
    c.read-change.new.self.numbers.current c.self.inside.tape.kept.current c.read-change.new.self.kept.current
    (as_change c.read-change.result) c.in-Some.ensures.current read.value read.numbers_left read.kept_left in
    let head : c.args.self.now.current
    ≡ as_change c.read-change.result
    ∷ changes_of c.read-change.new.self.numbers.current c.read-change.new.self.kept.current =
    ap (λ (l : Log Change). l.current) (sym c.self.view_is) ∙ first in
    let fits = rw head at c.requires in
    rw c.undo.ensures fits.1
