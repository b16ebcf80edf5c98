use Rattle.std.proofs.Common.{◌≡◌, ◌≢◌, ℕ, ◌+◌, ◌<◌, ◌≤◌, ◌∙◌, ◌⊎◌, inl, inr, Bool, true, false, nat_lt, refl, arith}
use Rattle.std.proofs.Common.{List, [], ◌++◌}
use borrow.Author.Tests.{ltb-true, ltb-false}
use Rattle.ss_state.specs.declared.limits.TheConstants.{LAST_POSITION}
use Rattle.ss_state.specs.declared.status.Status.{Status}
use Rattle.ss_state.specs.declared.status.Status.TheVariants.{Ready, Stopped, Finished, Faulted}
use Rattle.ss_state.specs.declared.stepped.Stepped.{Stepped}
use Rattle.ss_state.specs.declared.stepped.Stepped.TheVariants.{Moved, AtEnd}
use Rattle.ss_machine.specs.Moment.{Moment, position, HasMoved, Steps}
use Rattle.ss_state.specs.State.{is_ready}
use Rattle.ss_state.specs.Run.{run}
use Rattle.ss_debug.specs.Move.{is_ready_at}
use Rattle.ss_debug.specs.declared.commands.Command.TheVariants.{Show}
use Rattle.ss_debug.specs.declared.commands.Question.TheVariants.{Where}
use Rattle.ss_debug.specs.Answer.{state_line}
use Rattle.ss_debug.specs.Turn.{answer}
use Rattle.ss_debug.specs.View.{DebuggerView, debugger_state_of}
use Rattle.ss_run.specs.Report.{IsRunEnd}
use Rattle.ss_run.specs.Advance.{EndsBy, HasAdvanced}

-- no step leads back to the position at which it begins
pub none_advanced : (a : Moment) → position a ≤ LAST_POSITION → HasAdvanced Moved 0 a a
none_advanced a h = record {
  input = refl;
  on = omega arith;
  within = h;
  ready = λ k o g. absurd (omega arith);
  reason = omega arith;
}

ready_on : (x : Bool) (s : Stepped) (n k j : ℕ) (a b c : Moment) → nat_lt j (position b) ≡ x →
    HasAdvanced Moved n a b → HasAdvanced s k b c → position a ≤ j → j < position c → is_ready_at a.input j ≡ true
ready_on true s n k j a b c e p q h g = p.ready j h (omega (arith, ltb-true _ _ e))
ready_on false s n k j a b c e p q h g = rw p.input at (q.ready j (omega (arith, ltb-false _ _ e)) g)

reason_on : (s : Stepped) (n k : ℕ) (a b c : Moment) → HasAdvanced Moved n a b → HasAdvanced s k b c →
    EndsBy s (n + k) a c
reason_on Moved n k a b c p q = omega (arith, p.reason, q.reason)
reason_on AtEnd n k a b c p q = rw p.input at q.reason

-- some steps after others
pub advanced_on : (s : Stepped) (n k : ℕ) (a b c : Moment) → HasAdvanced Moved n a b → HasAdvanced s k b c →
    HasAdvanced s (n + k) a c
advanced_on s n k a b c p q = record {
  input = q.input ∙ p.input;
  on = omega (arith, p.on, q.on);
  within = q.within;
  ready = λ j h g. ready_on _ s n k j a b c refl p q h g;
  reason = reason_on s n k a b c p q;
}

-- an end has no number of steps
pub ended : (n k : ℕ) (a b : Moment) → HasAdvanced AtEnd n a b → HasAdvanced AtEnd k a b
ended n k a b p = record {
  input = p.input;
  on = p.on;
  within = p.within;
  ready = p.ready;
  reason = p.reason;
}

reason_same : (s : Stepped) (n : ℕ) (a b c : Moment) → position c ≡ position b → EndsBy s n a b → EndsBy s n a c
reason_same Moved n a b c e r = e ∙ r
reason_same AtEnd n a b c e r = rw e r

-- the number of kept steps does not count
pub advanced_same : (s : Stepped) (n : ℕ) (a b c : Moment) → c.input ≡ b.input → position c ≡ position b →
    HasAdvanced s n a b → HasAdvanced s n a c
advanced_same s n a b c i e p = record {
  input = i ∙ p.input;
  on = omega (arith, p.on, e);
  within = omega (arith, p.within, e);
  ready = λ k h g. p.ready k h (omega (arith, e, g));
  reason = reason_same s n a b c e p.reason;
}

not_ready : (s : Status) → s ≢ Ready → is_ready s ≡ false
not_ready Ready h = absurd (h refl)
not_ready Stopped h = refl
not_ready Finished h = refl
not_ready (Faulted f) h = refl

pub moved_once : (a b : Moment) → a.state ≡ run a.input (position a) → position b ≤ LAST_POSITION → HasMoved a b →
    HasAdvanced Moved 1 a b
moved_once a b known within moved = record {
  input = moved.input;
  on = omega (arith, moved.position);
  within = within;
  ready = λ j h g. let e : j ≡ position a = omega (arith, moved.position) in rw (e, ← known, moved.ready) refl;
  reason = moved.position;
}

end_reason : (a : Moment) → a.state ≡ run a.input (position a) →
    (a.state.status ≢ Ready) ⊎ (position a ≡ LAST_POSITION) →
    (is_ready_at a.input (position a) ≡ false) ⊎ (position a ≡ LAST_POSITION)
end_reason a known (inl h) = inl (rw (← known) (not_ready _ h))
end_reason a known (inr h) = inr h

pub ended_once : (a b : Moment) → a.state ≡ run a.input (position a) → position a ≤ LAST_POSITION → Steps AtEnd a b →
    HasAdvanced AtEnd 1 a b
ended_once a b known within s = rw s.1 (record {
  input = refl;
  on = omega arith;
  within = within;
  ready = λ k h g. absurd (omega arith);
  reason = end_reason a known s.0;
})

-- one step, whatever it says
pub stepped_once : (s : Stepped) (a b c : Moment) → a.state ≡ run a.input (position a) → position a ≤ LAST_POSITION →
    position b ≤ LAST_POSITION → Steps s a b → c.input ≡ b.input → position c ≡ position b → HasAdvanced s 1 a c
stepped_once Moved a b c known low high s i e = advanced_same Moved 1 a b c i e (moved_once a b known high s)
stepped_once AtEnd a b c known low high s i e = advanced_same AtEnd 1 a b c i e (ended_once a b known low s)

-- a run that begins has made no step
pub begun : (a : Moment) → position a ≡ 0 → position a ≤ LAST_POSITION → HasAdvanced Moved (position a) a a
begun a e h = rw e (none_advanced a h)

-- it has made as many steps as its position says
pub further : (k : ℕ) (a b c : Moment) → position a ≡ 0 → HasAdvanced Moved (position b) a b →
    HasAdvanced Moved k b c → HasAdvanced Moved (position c) a c
further k a b c e p q =
    let on = advanced_on Moved (position b) k a b c p q in
    record { input = on.input; on = on.on; within = on.within; ready = on.ready; reason = omega (arith, e) }

-- a change of the kept steps leaves that as it is
pub advanced_here : (a b c : Moment) → HasAdvanced Moved (position b) a b → c.input ≡ b.input →
    position c ≡ position b → HasAdvanced Moved (position c) a c
advanced_here a b c p i e =
    let same = advanced_same Moved (position b) a b c i e p in
    record { input = same.input; on = same.on; within = same.within; ready = same.ready; reason = omega (arith, e, same.reason) }

-- and at last it is at its end
pub at_the_end : (k : ℕ) (a b c : Moment) → position a ≡ 0 → HasAdvanced Moved (position b) a b →
    HasAdvanced AtEnd k b c → IsRunEnd a.input (position c)
at_the_end k a b c e p q =
    let on = advanced_on AtEnd (position b) k a b c p q in
    record { within = on.within; ready = λ j g. on.ready j (omega (arith, e)) g; ended = on.reason }

-- the text that SHOW WHERE appends to an empty one
pub where_said : (h : DebuggerView) (text : List ℕ) →
    text ≡ [] ++ answer h.machine.input (debugger_state_of h) (Show Where) →
    text ≡ state_line h.machine.input (position h.machine)
unfolding answer
where_said h text s = s

pub ruleset one_step = (stepped_once)

pub ruleset to_the_end = (begun, further, at_the_end)
