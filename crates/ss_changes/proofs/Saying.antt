-- The texts about the changes of a step.
use Rattle.std.proofs.Common.{◌≡◌, ◌≢◌, ℕ, ◌+◌, ◌-◌, ◌<◌, Bool, true, false, List, [], ◌∷◌, ◌++◌, map, refl, sym, ap}
use Rattle.std.proofs.Common.{◌∙◌, ◌⊎◌, inl, inr, arith, rules, nat_lt, append_assoc}
use Rattle.std.proofs.Common.{Result, Ok, Err, OnOk}
use Rattle.std.specs.Prelude.{IfOk}
use Rattle.std.specs.Prelude.{codes, ◌&&◌}
use Rattle.std.proofs.lemmas.Bool.{lt-ltb}
use Rattle.std.proofs.lemmas.Bool.Decides.{nat_tests}
use Rattle.ss_program.specs.Program.{ProgramTable}
use Rattle.ss_state.specs.declared.status.Status.{Status}
use Rattle.ss_state.specs.declared.status.Status.TheVariants.{Ready, Stopped, Finished, Faulted}
use Rattle.ss_state.specs.declared.limits.TheConstants.{LAST_POSITION}
use Rattle.ss_state.specs.State.{State, is_ready}
use Rattle.ss_machine.specs.Moment.{Moment, position, HasMoved}
use Rattle.ss_state.specs.Run.{Input, run}
use Rattle.ss_debug.specs.Answer.{earliest_word}
use Rattle.ss_debug.specs.View.{DebuggerView}
use Rattle.ss_changes.specs.declared.change.Change.{Change}
use Rattle.ss_changes.specs.Changes.{changes_between, changed_at, changes_across, movement_changes, turned}
use Rattle.ss_changes.specs.Texts.{first_changes, all_changes, changed_text, stop_changes, stop_changes_ahead}
use Rattle.ss_changes.specs.Texts.{movement_word}
use Rattle.ss_changes.specs.View.{IsAt, HasReturned, program_of, state_of, state_before}

-- a consequence of a result that holds if a call succeeded
pub on_ok : {A B P Q : Type 0} (r : Result A B) → OnOk r P → (P → Q) → OnOk r Q
on_ok (Ok x) h f = f h
on_ok (Err e) h f = tt

-- the same of the value of a result
pub if_ok : {A B : Type 0} (r : Result A B) (P Q : A → Type 0) → IfOk r P → ((x : A) → P x → Q x) → IfOk r Q
if_ok (Ok x) P Q h f = f x h
if_ok (Err e) P Q h f = tt

-- ---- a debugger that goes one step back and forward again

-- a machine of one that is at a position of the run has the run's program, and the state there
pub there : (a b : DebuggerView) (q : ℕ) (m : Moment) → IsAt a q b → m ≡ b.machine → b.machine.state ≡ state_of b →
    (m.input.program ≡ program_of a) × (m.state ≡ run a.machine.input q)
there a b q m h e k = (
  rw (e, h.input) refl,
  ap (λ (n : Moment). n.state) e ∙ k ∙ rw (h.input, h.position) refl,
)

-- it is where it was
pub returned : (a b c : DebuggerView) → a.machine.forgotten < position a.machine →
    IsAt a (position a.machine - 1) b → IsAt b (position b.machine + 1) c → HasReturned a c
returned a b c kept h k = record {
  input = k.input ∙ h.input;
  forgotten = k.forgotten ∙ h.forgotten;
  breaks = k.breaks ∙ h.breaks;
  position = omega (arith, kept, h.position, k.position);
}

-- ---- the last step

not_below : (n : ℕ) → nat_lt n n ≡ false
not_below n = search rules

-- if no step is kept
pub said_earliest : (t : Input) (e p : ℕ) → p ≡ e → changed_text t e p ≡ earliest_word p ++ 10 ∷ []
unfolding changed_text
said_earliest t e p h = rw (h, not_below e) refl

-- that text after the text before it
pub said_first : (t : Input) (e p q : ℕ) (old new : List ℕ) → q ≡ p → p ≡ e →
    new ≡ old ++ earliest_word q ++ 10 ∷ [] → new ≡ old ++ changed_text t e p
said_first t e p q old new k h w =
    w ∙ append_assoc old _ _ ∙ ap (λ (n : ℕ). old ++ (earliest_word n ++ 10 ∷ [])) k
    ∙ ap (λ (l : List ℕ). old ++ l) (sym (said_earliest t e p h))

pub stop_earliest : (t : Input) (e p : ℕ) → p ≡ e → stop_changes t e p ≡ []
unfolding stop_changes
stop_earliest t e p h = rw (h, not_below e) refl

again : (p e : ℕ) → e < p → p - 1 + 1 ≡ p
again p e h = omega (arith, h)

-- if one is kept
pub said_later : (t : Input) (e p : ℕ) → e < p →
    changed_text t e p
    ≡ all_changes (codes "CHANGED") t.program (run t p) (changes_between t.program (run t (p - 1)) (run t p))
unfolding changed_text changed_at
said_later t e p h = rw (lt-ltb e p h, again p e h) refl

pub stop_later : (t : Input) (e p : ℕ) → e < p →
    stop_changes t e p
    ≡ first_changes (codes "CHANGED") t.program (run t p) (changes_between t.program (run t (p - 1)) (run t p))
unfolding stop_changes changed_at
stop_later t e p h = rw (lt-ltb e p h, again p e h) refl

-- the text about the changes if a debugger is back at its position
pub said_there : (a b : DebuggerView) (m : Moment) (cs : List Change)
    (say : ProgramTable → State → List Change → List ℕ) → HasReturned a b → m ≡ b.machine →
    b.machine.state ≡ state_of b → cs ≡ changes_between (program_of a) (state_before a) (state_of a) →
    say m.input.program m.state cs
    ≡ say (program_of a) (state_of a) (changes_between (program_of a) (state_before a) (state_of a))
said_there a b m cs say h e k v =
    let seen = there a b (position a.machine) m h e k in rw (seen.0, seen.1, v) refl

-- ---- the next step

ready_is : (s : Status) → s ≡ Ready → is_ready s ≡ true
ready_is s e = rw e refl

not_ready : (s : Status) → s ≢ Ready → is_ready s ≡ false
not_ready Ready h = absurd (h refl)
not_ready Stopped h = refl
not_ready Finished h = refl
not_ready (Faulted f) h = refl

-- if there is one
pub ahead_told : (t : Input) (p : ℕ) → (run t p).status ≡ Ready → p < LAST_POSITION →
    stop_changes_ahead t p
    ≡ first_changes (codes "WILL CHANGE") t.program (run t (p + 1))
    (changes_between t.program (run t p) (run t (p + 1)))
unfolding stop_changes_ahead changed_at
ahead_told t p h l = rw (ready_is (run t p).status h, lt-ltb p LAST_POSITION l) refl

neither : (b : Bool) → (b && false) ≡ false
neither true = refl
neither false = refl

-- if there is none
pub ahead_nothing : (t : Input) (p : ℕ) → ((run t p).status ≢ Ready) ⊎ (p ≡ LAST_POSITION) → stop_changes_ahead t p ≡ []
unfolding stop_changes_ahead
ahead_nothing t p (inl h) = rw (not_ready (run t p).status h) refl
ahead_nothing t p (inr e) =
    let past : nat_lt p LAST_POSITION ≡ false = rw e (not_below LAST_POSITION) in
    rw (past, neither (is_ready (run t p).status)) refl

-- from the position of a machine that made no step
pub ahead_nothing_at : (m : Moment) → m.state ≡ run m.input (position m) →
    (m.state.status ≢ Ready) ⊎ (position m ≡ LAST_POSITION) → stop_changes_ahead m.input (position m) ≡ []
ahead_nothing_at m k (inl h) = ahead_nothing m.input (position m) (inl (rw k at h))
ahead_nothing_at m k (inr h) = ahead_nothing m.input (position m) (inr h)

-- and from that of one that made a step
pub ahead_told_at : (m n : Moment) → m.state ≡ run m.input (position m) → HasMoved m n →
    stop_changes_ahead m.input (position m)
    ≡ first_changes (codes "WILL CHANGE") n.input.program (run n.input (position n))
    (changes_between n.input.program (run n.input (position n - 1)) (run n.input (position n)))
ahead_told_at m n k h =
    let back : position m + 1 - 1 ≡ position m = omega arith in
    rw (h.input, h.position, back) (ahead_told m.input (position m) (rw k at h.ready) h.before_last)

-- ---- a movement

-- one of no step
pub moved_nowhere : (t : Input) (p q : ℕ) → p ≡ q → movement_changes t p q ≡ []
unfolding movement_changes
moved_nowhere t p q h = rw (h, not_below q) refl

-- one that went forward
pub moved_on : (t : Input) (p q : ℕ) → p < q →
    movement_changes t p q ≡ changes_across t.program (run t p) (run t q)
unfolding movement_changes
moved_on t p q h = rw (lt-ltb p q h) refl

not_less : (p q : ℕ) → q < p → nat_lt p q ≡ false
not_less p q h = grind (arith, nat_tests, h)

-- one that went back
pub moved_back : (t : Input) (p q : ℕ) → q < p →
    movement_changes t p q ≡ map turned (changes_across t.program (run t p) (run t q))
unfolding movement_changes
moved_back t p q h = rw (not_less p q h, lt-ltb q p h) refl

-- the text about its changes, by the state at a machine's position
pub said_since : (m : Moment) (p at q : ℕ) (word : List ℕ) (cs : List Change)
    (say : List ℕ → ProgramTable → State → List Change → List ℕ) (old new : List ℕ) → m.state ≡ run m.input (position m) →
    at ≡ p → q ≡ position m → word ≡ movement_word at q → cs ≡ movement_changes m.input p (position m) →
    new ≡ old ++ say word m.input.program m.state cs →
    new ≡ old ++ say (movement_word p (position m)) m.input.program (run m.input (position m))
    (movement_changes m.input p (position m))
said_since m p at q word cs say old new here a h w e said =
    said ∙ ap (λ (l : List Change). old ++ say word m.input.program m.state l) e
    ∙ ap (λ (l : List ℕ). old ++ say l m.input.program m.state (movement_changes m.input p (position m)))
    (w ∙ ap (λ (n : ℕ). movement_word n q) a ∙ ap (λ (n : ℕ). movement_word p n) h)
    ∙ ap (λ (s : State). old ++ say (movement_word p (position m)) m.input.program s
    (movement_changes m.input p (position m))) here
