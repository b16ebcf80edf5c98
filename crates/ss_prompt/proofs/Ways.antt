-- The state that the last movement left: the way there and back, and refusals of memory.
use Rattle.std.proofs.Common.{◌≡◌, ◌+◌, ◌-◌, ◌<◌, ◌≤◌, ◌⊎◌, inl, inr, ℕ, Bool, true, false, cond, nat_lt, Option, Some, None}
use Rattle.std.proofs.Common.{Result, Ok, Err, OnOk, OnErr, refl, sym, ap, ◌∙◌, subst, arith}
use Rattle.std.specs.Prelude.{min, max}
use borrow.Author.Tests.{ltb-true, ltb-false}
use Rattle.ss_state.specs.declared.limits.TheConstants.{LAST_POSITION}
use Rattle.ss_state.specs.Run.{Input}
use Rattle.ss_machine.specs.Moment.{position}
use Rattle.ss_debug.specs.AfterRefusal.{IsStateAfterRefusedMovement}
use Rattle.ss_debug.specs.Move.{is_ready_at, step_condition, forward, back, forward_end}
use Rattle.ss_debug.specs.Turn.{DebuggerState, debugger_state_at, end_of}
use Rattle.ss_debug.specs.View.{DebuggerView, debugger_state_of}
use Rattle.ss_debug.proofs.Moves.{forward_ends}
use Rattle.ss_trace.specs.Movements.{shape_of, go_shape}
use Rattle.ss_trace.specs.Turn.{state_after, IsStateAfterRefusal}
use Rattle.ss_trace.specs.declared.movement.Movement.TheVariants.{Go}
use Rattle.ss_trace.specs.Laws.{AreReadyBefore}
use Rattle.ss_changes.specs.View.{IsBehind}
use Rattle.ss_prompt.specs.Laws.{LeftStatesAreFound}
use Rattle.ss_prompt.specs.Left.{IsOnTheWay, IsAskedRefused, IsChangedRefused}
use Rattle.ss_prompt.specs.PromptState.{PromptDeskView, state_at}
use Rattle.ss_prompt.specs.Stops.{HasLookedBeside}
use Rattle.ss_prompt.proofs.NeighbourStates.{behind}

-- ---- GO

-- the end of GO q is between the position and q
ends : (b : Bool) (t : Input) (d : DebuggerState) (q : ℕ) → d.earliest ≤ d.position → d.position ≤ LAST_POSITION →
    nat_lt q d.position ≡ b →
    (min q d.position ≤ end_of t d (cond b (back (d.position - q)) (forward step_condition (q - d.position))))
    × (end_of t d (cond b (back (d.position - q)) (forward step_condition (q - d.position))) ≤ max q d.position)
ends true t d q k l e = (omega (arith, ltb-true _ _ e), omega (arith, k, ltb-true _ _ e))
ends false t d q k l e =
    let f = forward_ends t step_condition d.position (q - d.position) l in
    (omega (arith, f.no_earlier), omega (arith, f.within, ltb-false _ _ e))

-- a debugger that was left at a position between the two
between : (d new : DebuggerState) (q e : ℕ) → new ≡ debugger_state_at d e → min q d.position ≤ e →
    e ≤ max q d.position → IsOnTheWay d q new
between d new q e h low high =
    let at : new.position ≡ e = ap (λ (v : DebuggerState). v.position) h in (
      h ∙ ap (λ (n : ℕ). debugger_state_at d n) (sym at),
      subst (λ (n : ℕ). min q d.position ≤ n) (sym at) low,
      subst (λ (n : ℕ). n ≤ max q d.position) (sym at) high,
    )

-- GO was made
made : (t : Input) (d new : DebuggerState) (q : ℕ) → d.earliest ≤ d.position → d.position ≤ LAST_POSITION →
    new ≡ state_after t d (Go q) → IsOnTheWay d q new
unfolding shape_of
made t d new q k l h =
    let w = ends (nat_lt q d.position) t d q k l refl in
    between d new q (end_of t d (go_shape d.position q)) h w.0 w.1

part : (b : Bool) (t : Input) (d new : DebuggerState) (q : ℕ) → d.earliest ≤ d.position →
    d.position ≤ LAST_POSITION → nat_lt q d.position ≡ b →
    IsStateAfterRefusedMovement t d (cond b (back (d.position - q)) (forward step_condition (q - d.position))) new →
    IsOnTheWay d q new
part true t d new q k l e h =
    let w = ends true t d q k l e in between d new q (end_of t d (back (d.position - q))) h w.0 w.1
part false t d new q k l e h =
    let w = ends false t d q k l e in (h.0, omega (arith, h.1), omega (arith, h.2, w.1))

-- it was made in part
cut : (t : Input) (d new : DebuggerState) (q : ℕ) → d.earliest ≤ d.position → d.position ≤ LAST_POSITION →
    IsStateAfterRefusal t d (Go q) new → IsOnTheWay d q new
unfolding shape_of
cut t d new q k l h = part (nat_lt q d.position) t d new q k l refl h

-- or the one or the other
pub gone : {T E : Type 0} (A : Type 0) (result : Result T E) (t : Input) (d new : DebuggerState) (q : ℕ) →
    d.earliest ≤ d.position → d.position ≤ LAST_POSITION → OnOk result (new ≡ state_after t d (Go q)) →
    OnErr result (A × IsStateAfterRefusal t d (Go q) new) → IsOnTheWay d q new
gone A (Ok value) t d new q k l ok err = made t d new q k l ok
gone A (Err error) t d new q k l ok err = cut t d new q k l err.1

-- ---- there and back

-- on the way back to the old position it is on the way there
pub onward : (d a b : DebuggerState) (p q : ℕ) → q ≡ d.position → IsOnTheWay d p a → IsOnTheWay a q b →
    IsOnTheWay d p b
onward d a b p q e h g = (
  g.0 ∙ ap (λ (v : DebuggerState). debugger_state_at v b.position) h.0,
  omega (arith, e, h.1, h.2, g.1, g.2),
  omega (arith, e, h.1, h.2, g.1, g.2),
)

-- it is at the old position again
pub returned : (old new : DebuggerView) (p : ℕ) → IsOnTheWay (debugger_state_of old) p (debugger_state_of new) →
    position new.machine ≡ position old.machine → debugger_state_of new ≡ debugger_state_of old
returned old new p h e = h.0 ∙ ap (λ (n : ℕ). debugger_state_at (debugger_state_of old) n) e

-- ---- GO leads to each kept position after states that are ready

ended : (b : Bool) (t : Input) (p q : ℕ) → nat_lt q p ≡ b → q ≤ p → AreReadyBefore t p → is_ready_at t q ≡ false →
    q ≡ p
ended true t p q e w f h =
    let r : is_ready_at t q ≡ true = f q (omega (arith, ltb-true _ _ e)) in absurd (cc)
ended false t p q e w f h = omega (arith, w, ltb-false _ _ e)

for_reason : (t : Input) (n p q : ℕ) → n ≤ p → p ≤ LAST_POSITION → AreReadyBefore t p → q ≤ n + (p - n) →
    (q ≡ n + (p - n)) ⊎ ((q ≡ LAST_POSITION) ⊎ ((is_ready_at t q ≡ false) ⊎ ((false ≡ true)
    ⊎ ((n < q) × (false ≡ true))))) →
    q ≡ p
for_reason t n p q h l f w (inl e) = omega (arith, h, e)
for_reason t n p q h l f w (inr (inl e)) = omega (arith, h, l, w, e)
for_reason t n p q h l f w (inr (inr (inl e))) = ended (nat_lt q p) t p q refl (omega (arith, h, w)) f e
for_reason t n p q h l f w (inr (inr (inr (inl e)))) = absurd (cc)
for_reason t n p q h l f w (inr (inr (inr (inr e)))) = let never = e.1 in absurd (cc)

near : (b : Bool) (t : Input) (d : DebuggerState) (p : ℕ) → d.earliest ≤ p → p ≤ LAST_POSITION → AreReadyBefore t p →
    nat_lt p d.position ≡ b →
    end_of t d (cond b (back (d.position - p)) (forward step_condition (p - d.position))) ≡ p
near true t d p k l f e = omega (arith, k, ltb-true _ _ e)
near false t d p k l f e =
    let h : d.position ≤ p = ltb-false _ _ e in
    let a = forward_ends t step_condition d.position (p - d.position) (omega (arith, h, l)) in
    for_reason t d.position p _ h l f a.within a.for_a_reason

pub found : LeftStatesAreFound
unfolding shape_of
found s p k l f = near (nat_lt p s.debugger.position) s.input s.debugger p k l f refl

-- ---- refusals of memory

-- for the changes of the last step
pub for_step : (old new : DebuggerView) (k : PromptDeskView) → k.left ≡ None → IsBehind old new →
    IsChangedRefused (state_at old k) (state_at new k)
unfolding IsChangedRefused HasLookedBeside
for_step old new k none h =
    let b = behind old new h in
    subst (λ (o : Option ℕ). IsAskedRefused (state_at old k) o (state_at new k)) (sym none)
    ((refl, refl, b.input, refl, refl, refl, refl, refl), b.state, b.no_earlier, b.no_later)

-- for those since a position
pub for_way : (old new : DebuggerView) (k : PromptDeskView) (p : ℕ) → k.left ≡ Some p →
    new.machine.input ≡ old.machine.input → IsOnTheWay (debugger_state_of old) p (debugger_state_of new) →
    IsChangedRefused (state_at old k) (state_at new k)
unfolding IsChangedRefused
for_way old new k p some i h =
    subst (λ (o : Option ℕ). IsAskedRefused (state_at old k) o (state_at new k)) (sym some)
    ((refl, refl, i, refl, refl, refl, refl, refl), h)

-- for SHOW CHANGED
pub ruleset refusals = (for_step, for_way)
