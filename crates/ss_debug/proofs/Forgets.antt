-- The steps that are left after old steps are forgotten.
use Rattle.std.proofs.Common.{◌≡◌, ℕ, ◌-◌, min, length, ap, arith, ◌∙◌}
use Rattle.std.proofs.lemmas.List.{length-take}
use Rattle.ss_machine.specs.Moment.{Moment, position, steps_kept, HasForgotten}
use Rattle.ss_debug.specs.Move.{back_end}

-- the earliest kept position is the one to which n steps back lead
pub earliest_after : (n : ℕ) (old new : Moment) → HasForgotten n old new →
    new.forgotten ≡ back_end old.forgotten (position old) n
earliest_after n old new h =
    let left : length new.steps ≡ min n (length old.steps) = ap length h.steps ∙ length-take n old.steps in
    let same : position new ≡ position old = h.position in
    omega (arith, left, same)

-- and the steps from there on are counted
pub kept_after : (n : ℕ) (m : Moment) → position m - back_end m.forgotten (position m) n ≡ min n (steps_kept m)
kept_after n m = omega arith
