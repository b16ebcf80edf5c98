use Rattle.std.proofs.Common.{◌≡◌, ◌≤◌, ◌∷◌, length, get_or, ap, sym, arith}
use Rattle.ss_data.proofs.PackedLemmas.{get-past, get-at, bounds-at, length-view}
use Rattle.ss_data.proofs.pieces.Pieces.get.Goals as goal

pub returns-in_err-end-clause-piece : goal.returns-in_err-end-clause-piece
returns-in_err-end-clause-piece c =
    rw c.from_residual.ensures (sym
    (get-past _ _ _ _ _ c.self.view_is c.deref.ensures.value c.in_err-end.ensures.lookup.3))

pub returns-in_err-end-clause-size : goal.returns-in_err-end-clause-size
returns-in_err-end-clause-size c =
    rw (length-view _ _ _ _ c.self.view_is c.deref.ensures.value) (omega (arith, c.deref.type_inv.0))

starts : (c : goal.After-deref-3) → c.start_of-start.result ≡ get_or (0 ∷ c.deref.result.now) c.args.index 0
starts c = rw (c.deref.ensures.value, ← c.deref-2.ensures.value) c.start_of-start.ensures

-- the piece lies within the bytes
span : (c : goal.After-deref-3)
    → (c.start_of-start.result ≤ c.in_ok-end.field-0.now) × (c.in_ok-end.field-0.now ≤ length c.self.inside.bytes.items)
span c =
    bounds-at c.self.inside.ends.items c.deref.result.now c.self.inside.bytes.items c.args.index c.start_of-start.result
    c.in_ok-end.field-0.now c.self.invariant c.deref.ensures.value c.in_ok-end.ensures.lookup.3.0
    (c.in_ok-end.ensures.lookup.3.1 0) (starts c)

pub slice_bounds-result-count : goal.slice_bounds-result-count
slice_bounds-result-count c = (span c).0

pub slice_bounds-result-start : goal.slice_bounds-result-start
slice_bounds-result-start c = let s = span c in omega arith

pub slice_bounds-result-end : goal.slice_bounds-result-end
slice_bounds-result-end c = let s = span c in omega (arith, ap length c.deref-3.ensures.value)

pub returns-clause-piece : goal.returns-clause-piece
returns-clause-piece c =
    rw c.deref-3.ensures.value
    (get-at c.args.self.now c.self.inside.ends.items c.deref.result.now c.self.inside.bytes.items c.args.index
    c.start_of-start.result c.in_ok-end.field-0.now c.self.view_is c.deref.ensures.value
    c.in_ok-end.ensures.lookup.3.0 (c.in_ok-end.ensures.lookup.3.1 0)
    (rw (c.deref.ensures.value, ← c.deref-2.ensures.value) c.start_of-start.ensures))

pub returns-clause-within : goal.returns-clause-within
returns-clause-within c =
    rw (length-view _ _ _ _ c.self.view_is c.deref.ensures.value) c.in_ok-end.ensures.lookup.3.0

pub returns-clause-size : goal.returns-clause-size
returns-clause-size c =
    rw (length-view _ _ _ _ c.self.view_is c.deref.ensures.value) (omega (arith, c.deref.type_inv.0))
