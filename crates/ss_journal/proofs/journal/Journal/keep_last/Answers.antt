use Rattle.std.proofs.Common.{rules, ◌≡◌, ◌-◌, ◌≤◌, [], length, take, drop, refl, ap, sym, ◌∙◌, arith, length-take}
use Rattle.std.specs.Prelude.{reverse}
use Rattle.std.specs.VecDeque.{deque_len, deque_capacity}
use Rattle.ss_journal.specs.Log.{Log, change_count}
use Rattle.ss_journal.specs.Pieces.{cut_by_lengths}
use Rattle.ss_journal.proofs.Cuts.{step-count, rest_of_kept, none_kept, count_all, pieces_newest, kept_of}
use Rattle.ss_journal.proofs.journal.Journal.keep_last.Given as given
use Rattle.ss_journal.proofs.journal.Journal.keep_last.Goals as goal

pub forget-changes-requires-clause-steps : goal.forget-changes-requires-clause-steps
forget-changes-requires-clause-steps g c =
    let many =
    step-count c.args.self.now.steps c.self.inside.sizes.sizes
    (drop c.self.inside.unclosed (reverse c.self.inside.changes.items))
    (ap (λ (v : Log _). v.steps) c.self.view_is) in
    omega (arith, c.saturating_sub-forgotten.ensures, c.steps.ensures, many)

-- the sizes that are kept
sizes_kept : (g : given.Over) (c : goal.After-drop-drain g)
    → c.forget-changes.new.self.sizes ≡ kept_of c.args.n c.self.inside.sizes.sizes
sizes_kept g c =
    let many =
    step-count c.args.self.now.steps c.self.inside.sizes.sizes
    (drop c.self.inside.unclosed (reverse c.self.inside.changes.items))
    (ap (λ (v : Log _). v.steps) c.self.view_is) in
    let forgotten : c.saturating_sub-forgotten.result ≡ length c.self.inside.sizes.sizes - c.args.n =
    c.saturating_sub-forgotten.ensures ∙ ap (λ k. k - c.args.n) (c.steps.ensures ∙ many) in
    c.forget-changes.ensures.sizes
    ∙ ap (λ k. take (length c.self.inside.sizes.sizes - k) c.self.inside.sizes.sizes) forgotten

changes_kept : (g : given.Over) (c : goal.After-drop-drain g)
    → c.drop-drain.new.self.0.items ≡ drop c.forget-changes.result c.self.inside.changes.items
changes_kept g c = c.drop-drain.ensures.items ∙ c.drain.ensures.kept

full : (g : given.Over) (c : goal.After-drop-drain g)
    → deque_len c.self.inside.changes ≡ length c.self.inside.changes.items
full g c = search rules

full_new : (g : given.Over) (c : goal.After-drop-drain g)
    → deque_len c.drop-drain.new.self.0 ≡ length c.drop-drain.new.self.0.items
full_new g c = search rules

none : (g : given.Over) (c : goal.After-drop-drain g)
    → take c.self.inside.unclosed (reverse c.self.inside.changes.items) ≡ []
none g c = ap (λ (v : Log _). v.current) c.self.view_is ∙ c.requires

pub invariant_of-self : goal.invariant_of-self
invariant_of-self g c =
    let left =
    rest_of_kept c.self.inside.unclosed c.forget-changes.result (deque_len c.self.inside.changes)
    c.self.inside.sizes.sizes c.forget-changes.new.self.sizes c.self.inside.changes.items c.self.invariant.0
    (full g c) (none g c) c.forget-changes.ensures.changes in
    let all = left ∙ ap length (sym (changes_kept g c)) ∙ sym (full_new g c) in (
      all,
      omega (
        arith,
        all,
        c.self.invariant.0,
        c.self.invariant.1,
        c.forget-changes.ensures.changes,
        c.forget-changes.ensures.most,
      ),
    )

pub returns-clause-steps : goal.returns-clause-steps
returns-clause-steps g c =
    rw (changes_kept g c)
    (pieces_newest c.args.n c.self.inside.unclosed c.forget-changes.result (deque_len c.self.inside.changes)
    c.self.inside.sizes.sizes c.forget-changes.new.self.sizes c.self.inside.changes.items c.self.invariant.0
    (full g c) (none g c) (sizes_kept g c) c.forget-changes.ensures.changes
    ∙ ap (λ (v : Log _). take c.args.n v.steps) c.self.view_is)

pub returns-clause-current : goal.returns-clause-current
returns-clause-current g c =
    rw (changes_kept g c) (none_kept c.self.inside.unclosed c.forget-changes.result
    (deque_len c.self.inside.changes) c.self.inside.sizes.sizes c.self.inside.changes.items c.self.invariant.0
    (full g c) (none g c))

pub returns-clause-notes : goal.returns-clause-notes
returns-clause-notes g c =
    let old =
    count_all c.self.inside.unclosed (deque_len c.self.inside.changes) c.self.inside.sizes.sizes
    c.self.inside.changes.items c.self.invariant.0 (full g c) (none g c) in
    let kept = invariant_of-self g c in
    let new =
    count_all c.self.inside.unclosed (deque_len c.drop-drain.new.self.0) c.forget-changes.new.self.sizes
    c.drop-drain.new.self.0.items kept.0 (full_new g c) (returns-clause-current g c) in
    let capacity = c.drop-drain.ensures.capacity ∙ c.drain.ensures.capacity in
    let room : deque_len c.self.inside.changes ≤ deque_capacity c.self.inside.changes = search rules in
    let room_new : deque_len c.drop-drain.new.self.0 ≤ deque_capacity c.drop-drain.new.self.0 = search rules in
    omega (
      arith,
      old,
      new,
      capacity,
      room,
      room_new,
      kept.1,
      c.self.invariant.1,
      c.forget-changes.ensures.most,
      ap (λ (v : Log _). v.notes) c.self.view_is,
      ap (λ (v : Log _). change_count v.steps) c.self.view_is,
    )

pub returns-clause-closes : goal.returns-clause-closes
returns-clause-closes g c =
    let old =
    step-count c.args.self.now.steps c.self.inside.sizes.sizes
    (drop c.self.inside.unclosed (reverse c.self.inside.changes.items))
    (ap (λ (v : Log _). v.steps) c.self.view_is) in
    let new =
    step-count (cut_by_lengths c.forget-changes.new.self.sizes
    (drop c.self.inside.unclosed (reverse c.drop-drain.new.self.0.items))) c.forget-changes.new.self.sizes
    (drop c.self.inside.unclosed (reverse c.drop-drain.new.self.0.items)) refl in
    omega (
      arith,
      old,
      new,
      c.saturating_sub-forgotten.ensures,
      c.steps.ensures,
      ap length (sizes_kept g c),
      length-take (length c.self.inside.sizes.sizes - (length c.self.inside.sizes.sizes - c.args.n))
          c.self.inside.sizes.sizes,
      c.forget-changes.ensures.closes,
      ap (λ (v : Log _). v.closes) c.self.view_is,
    )
