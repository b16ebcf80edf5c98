use Rattle.std.proofs.Common.{◌≡◌, ◌∙◌, ap, sym, subst, length, List, ℕ, Some, false, arith}
use Rattle.std.specs.Prelude.{bytes_eq, position, is_some}
use Rattle.std.specs.BTreeMap.{UpdatesBy}
use Rattle.std.specs.Cmp.Lexicographic.{slice_cmp}
use Rattle.std.specs.Ordering.{nat_cmp}
use Rattle.ss_program.proofs.NameIndex.{index_same, index_more, none_is, with_name-there, with_name-none}
use Rattle.ss_program.proofs.name_table.NameTable.add.Goals as goal

pub returns-then-is_some-clause-ok : goal.returns-then-is_some-clause-ok
returns-then-is_some-clause-ok c =
    sym (with_name-there c.args.self.now c.args.name.now
    (ap is_some (sym c.number.ensures.value) ∙ sym c.is_some.ensures ∙ c.if-is_some.true))

pub invariant_of-self-in_err-insert : goal.invariant_of-self-in_err-insert
invariant_of-self-in_err-insert c =
    rw c.reserve.ensures.items
    (index_same c.self.inside.names.items c.self.inside.places c.insert.new.self c.in_err-insert.ensures.err
    c.self.invariant)

pub invariant_of-self-2 : goal.invariant_of-self-2
invariant_of-self-2 c =
    let table = c.self.inside.names.items in
    let key = c.in_ok-key.key in
    let absent : is_some (position (bytes_eq c.args.name.now) c.args.self.now) ≡ false =
    ap is_some (sym c.number.ensures.value) ∙ sym c.is_some.ensures ∙ c.if-is_some.false in
    let none = ap (λ (t : List (List ℕ)). position (bytes_eq c.args.name.now) t) c.self.view_is ∙ none_is _ absent in
    let size : c.len.result ≡ length c.self.inside.names.items =
    omega (arith, c.len.ensures, c.reserve.new.self.ok, ap length c.reserve.ensures.items) in
    let updates =
    subst (λ (i : ℕ). UpdatesBy (λ x y. slice_cmp nat_cmp x.items y.items)
    (λ y. slice_cmp nat_cmp key.items y.items) c.self.inside.places c.insert.new.self (Some i))
    size c.in_ok-insert.ensures.updates in
    rw (
      c.push_reserved.ensures.items,
      c.reserve.ensures.items,
      c.in_ok-bytes.ensures.items,
      sym c.in_ok-key.ensures.items,
    )
    (index_more table c.self.inside.places c.insert.new.self key updates
    (rw c.in_ok-key.ensures.items none) c.self.invariant)

pub returns-clause-ok : goal.returns-clause-ok
returns-clause-ok c =
    let absent : is_some (position (bytes_eq c.args.name.now) c.args.self.now) ≡ false =
    ap is_some (sym c.number.ensures.value) ∙ sym c.is_some.ensures ∙ c.if-is_some.false in
    rw (c.push_reserved.ensures.items, c.reserve.ensures.items, c.in_ok-bytes.ensures.items, c.self.view_is)
    (sym (with_name-none c.args.self.now c.args.name.now absent))
