-- The first piece that gives no value, found piece by piece.
use Rattle.std.proofs.Common.{◌≡◌, ℕ, ◌+◌, ◌-◌, ◌<◌, ◌≤◌, true, false, List, drop, Some, None, suc, refl, arith}
use Rattle.std.specs.List.{slice_get}
use Rattle.ss_faults.specs.DataPieces.{PlacedPiece}
use Rattle.ss_faults.specs.Refusal.{gives_value, refusal}

pub found_here : (k n : ℕ) (ps : List PlacedPiece) → k < n → gives_value (slice_get ps 0) ≡ false
    → Some (record { index = k; piece = slice_get ps 0 }) ≡ refusal k (n - k) ps
unfolding refusal
found_here k n ps h e = let m : n - k ≡ suc (n - (k + 1)) = omega (arith, h) in rw (m, e) refl

pub looked_on : (k n : ℕ) (ps : List PlacedPiece) → k < n → gives_value (slice_get ps 0) ≡ true
    → refusal (k + 1) (n - (k + 1)) (drop 1 ps) ≡ refusal k (n - k) ps
unfolding refusal
looked_on k n ps h e = let m : n - k ≡ suc (n - (k + 1)) = omega (arith, h) in rw (m, e) refl

pub found_none : (k n : ℕ) (ps : List PlacedPiece) → n ≤ k → refusal k (n - k) ps ≡ None
unfolding refusal
found_none k n ps h = let m : n - k ≡ 0 = omega (arith, h) in rw m refl

pub ruleset refusals = (found_here, looked_on, found_none)
