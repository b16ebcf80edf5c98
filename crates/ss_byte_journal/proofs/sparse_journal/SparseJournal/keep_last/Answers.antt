use Rattle.std.proofs.Common.{◌≡◌, ◌++◌, ◌<◌, ◌-◌, All, take, drop, reverse, ap, sym, subst, ◌∙◌, arith}
use Rattle.ss_journal.specs.Log.{Log}
use Rattle.ss_byte_journal.specs.Numbered.{changes_before, steps_from, AreOrdered}
use Rattle.ss_byte_journal.proofs.Numbers.{all_reversed, all_later, ordered_without, of_step_without, before_without}
use Rattle.ss_byte_journal.proofs.Numbers.{steps_without, kept_steps, parted}
use Rattle.ss_byte_journal.proofs.sparse_journal.SparseJournal.keep_last.Given as given
use Rattle.ss_byte_journal.proofs.sparse_journal.SparseJournal.keep_last.Goals as goal

changes_left : (g : given.Over) (c : goal.After-drop-drain g)
    → c.drop-drain.new.self.0.items ≡ drop c.count_before-past.result c.self.inside.changes.items
changes_left g c = c.drop-drain.ensures.items ∙ c.drain.ensures.kept

-- the changes that are kept, and after them those that are not
all_parted : (g : given.Over) (c : goal.After-drop-drain g)
    → reverse c.self.inside.changes.items
    ≡ reverse c.drop-drain.new.self.0.items ++ reverse (take c.count_before-past.result c.self.inside.changes.items)
all_parted g c =
    parted c.count_before-past.result c.self.inside.changes.items
    ∙ ap (λ xs. reverse xs ++ reverse (take c.count_before-past.result c.self.inside.changes.items)) (sym (changes_left g c))

pub invariant_of-self : goal.invariant_of-self
invariant_of-self g c =
    let new = reverse c.drop-drain.new.self.0.items in
    let past = reverse (take c.count_before-past.result c.self.inside.changes.items) in (
      omega (arith, c.self.invariant.0),
      ordered_without c.self.inside.open_step new past
          (subst (AreOrdered c.self.inside.open_step) (all_parted g c) c.self.invariant.1),
    )

-- those that are not kept are of steps before the first one kept
all_past : (g : given.Over) (c : goal.After-drop-drain g)
    → All (λ d. d.step < c.max-first.result) (reverse (take c.count_before-past.result c.self.inside.changes.items))
all_past g c =
    all_reversed c.max-first.result (take c.count_before-past.result c.self.inside.changes.items) c.count_before-past.ensures.before

pub returns-clause-current : goal.returns-clause-current
returns-clause-current g c =
    let k = c.self.inside.open_step in
    let new = reverse c.drop-drain.new.self.0.items in
    let past = reverse (take c.count_before-past.result c.self.inside.changes.items) in
    rw (← c.self.view_is, all_parted g c)
    (sym (of_step_without k new past (all_later c.max-first.result k past (omega (arith, c.self.invariant.0)) (all_past g c))))

pub returns-clause-steps : goal.returns-clause-steps
returns-clause-steps g c =
    let k = c.self.inside.open_step in
    let first = c.max-first.result in
    let new = reverse c.drop-drain.new.self.0.items in
    let past = reverse (take c.count_before-past.result c.self.inside.changes.items) in
    let later = all_later first k past (omega (arith, c.self.invariant.0)) (all_past g c) in
    sym (steps_without (k - first) first (changes_before k new) past (all_past g c))
    ∙ ap (steps_from (k - first) first) (sym (before_without k new past later))
    ∙ ap (λ cs. steps_from (k - first) first (changes_before k cs)) (sym (all_parted g c))
    ∙ kept_steps c.args.n k c.self.inside.forgotten first (changes_before k (reverse c.self.inside.changes.items))
    c.self.invariant.0 (omega arith)
    ∙ ap (λ (v : Log _). take c.args.n v.steps) c.self.view_is
