use Rattle.std.proofs.Common.{◌-◌, sym, reverse}
use Rattle.ss_byte_journal.specs.Numbered.{changes_before}
use Rattle.ss_byte_journal.proofs.Numbers.{steps_length}
use Rattle.ss_byte_journal.proofs.sparse_journal.SparseJournal.steps.Goals as goal

pub returns : goal.returns
returns g c =
    let k = c.self.inside.open_step in
    rw (← c.self.view_is)
    (sym (steps_length (k - c.self.inside.forgotten) c.self.inside.forgotten
    (changes_before k (reverse c.self.inside.changes.items))))
