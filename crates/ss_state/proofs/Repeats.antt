-- the rest of a loop over targets when one of them is assigned
use Rattle.std.proofs.Common.{◌≡◌, ℕ, ℤ, pos, ◌+◌, List, ◌∷◌, drop, Result, Ok, Err, refl, ap, sym, subst, ◌∙◌}
use Rattle.std.specs.Prelude.{slice_index_or}
use Rattle.ss_words.specs.declared.fault.RunFault.{RunFault}
use Rattle.ss_program.specs.declared.target.Target.{Target}
use Rattle.ss_program.specs.declared.looping.Telling.{Telling}
use Rattle.ss_program.specs.ProgramSound.{Scope, IsTarget, AreTargets, AreSoundTellings}
use Rattle.ss_store.specs.Tables.{Tables}
use Rattle.ss_store.specs.Store.{Store, with_attribute}
use Rattle.ss_state.specs.State.{State, Statistics}
use Rattle.ss_state.specs.Statements.{state_with_value, state_with_values, state_with_store}
use Rattle.ss_state.specs.Statements.Looping.{state_after_telling, statistic_value}
use Rattle.ss_state.specs.Statements.Timing.{state_with_attributes}

value_there : (t u : Tables) (s : State) (x : Target) (y z : ℤ) (q : Result State RunFault) → u ≡ t → z ≡ y →
    state_with_value u s x z ≡ q → state_with_value t s x y ≡ q
value_there t u s x y z q e f w =
    ap (λ (v : Tables). state_with_value v s x y) (sym e) ∙ ap (λ (v : ℤ). state_with_value u s x v) (sym f) ∙ w

-- ---- statistics

pub telling_sound : (sc new : Scope) (xs : List Telling) (i : ℕ) (x : Telling) → drop i xs ≡ x ∷ drop (i + 1) xs →
    AreSoundTellings sc (drop i xs) → new ≡ sc → AreSoundTellings new (drop (i + 1) xs)
telling_sound sc new xs i x d s e =
    let both : AreSoundTellings sc (x ∷ drop (i + 1) xs) = rw d at s in
    subst (λ (z : Scope). AreSoundTellings z (drop (i + 1) xs)) (sym e) both.1

pub telling_target : (sc : Scope) (xs : List Telling) (i : ℕ) (x : Telling) → drop i xs ≡ x ∷ drop (i + 1) xs →
    AreSoundTellings sc (drop i xs) → IsTarget sc x.target
telling_target sc xs i x d s =
    let both : AreSoundTellings sc (x ∷ drop (i + 1) xs) = rw d at s in
    both.0

pub telling_more : (t u : Tables) (g : Statistics) (s r : State) (xs : List Telling) (i : ℕ) (x : Telling) (z : ℤ)
    (q : Result State RunFault) → drop i xs ≡ x ∷ drop (i + 1) xs → u ≡ t → z ≡ statistic_value g x.statistic →
    state_with_value u s x.target z ≡ Ok r → state_after_telling t g s (drop i xs) ≡ q →
    state_after_telling t g r (drop (i + 1) xs) ≡ q
telling_more t u g s r xs i x z q d e f w k =
    let v = value_there t u s x.target (statistic_value g x.statistic) z (Ok r) e f w in
    let step : state_after_telling t g s (drop i xs) ≡ state_after_telling t g r (drop (i + 1) xs) =
    rw (d, v) refl in
    sym step ∙ k

pub telling_fails : (t u : Tables) (g : Statistics) (s : State) (xs : List Telling) (i : ℕ) (x : Telling) (z : ℤ)
    (e : RunFault) (q : Result State RunFault) → drop i xs ≡ x ∷ drop (i + 1) xs → u ≡ t →
    z ≡ statistic_value g x.statistic → state_with_value u s x.target z ≡ Err e →
    state_after_telling t g s (drop i xs) ≡ q → q ≡ Err e
telling_fails t u g s xs i x z e q d a f w k =
    let v = value_there t u s x.target (statistic_value g x.statistic) z (Err e) a f w in
    let step : state_after_telling t g s (drop i xs) ≡ Err e = rw (d, v) refl in
    sym k ∙ step

-- ---- values kept

pub targets_sound : (sc new : Scope) (xs : List Target) (i : ℕ) (x : Target) → drop i xs ≡ x ∷ drop (i + 1) xs →
    AreTargets sc (drop i xs) → new ≡ sc → AreTargets new (drop (i + 1) xs)
targets_sound sc new xs i x d s e =
    let both : AreTargets sc (x ∷ drop (i + 1) xs) = rw d at s in
    subst (λ (z : Scope). AreTargets z (drop (i + 1) xs)) (sym e) both.1

pub targets_first : (sc : Scope) (xs : List Target) (i : ℕ) (x : Target) → drop i xs ≡ x ∷ drop (i + 1) xs →
    AreTargets sc (drop i xs) → IsTarget sc x
targets_first sc xs i x d s =
    let both : AreTargets sc (x ∷ drop (i + 1) xs) = rw d at s in
    both.0

pub targets_more : (t u : Tables) (vs : List ℤ) (s r : State) (xs : List Target) (i k : ℕ) (x : Target) (z : ℤ)
    (q : Result State RunFault) → drop i xs ≡ x ∷ drop (i + 1) xs → u ≡ t → z ≡ slice_index_or vs k (pos 0) →
    state_with_value u s x z ≡ Ok r → state_with_values t vs s k (drop i xs) ≡ q →
    state_with_values t vs r (k + 1) (drop (i + 1) xs) ≡ q
targets_more t u vs s r xs i k x z q d e f w h =
    let v = value_there t u s x (slice_index_or vs k (pos 0)) z (Ok r) e f w in
    let step : state_with_values t vs s k (drop i xs) ≡ state_with_values t vs r (k + 1) (drop (i + 1) xs) =
    rw (d, v) refl in
    sym step ∙ h

pub targets_fail : (t u : Tables) (vs : List ℤ) (s : State) (xs : List Target) (i k : ℕ) (x : Target) (z : ℤ)
    (e : RunFault) (q : Result State RunFault) → drop i xs ≡ x ∷ drop (i + 1) xs → u ≡ t →
    z ≡ slice_index_or vs k (pos 0) → state_with_value u s x z ≡ Err e →
    state_with_values t vs s k (drop i xs) ≡ q → q ≡ Err e
targets_fail t u vs s xs i k x z e q d a f w h =
    let v = value_there t u s x (slice_index_or vs k (pos 0)) z (Err e) a f w in
    let step : state_with_values t vs s k (drop i xs) ≡ Err e = rw (d, v) refl in
    sym h ∙ step

-- ---- attributes

pub attribute_more : (s m : State) (class k n : ℕ) (x : ℤ) (st : Store) (xs : List ℤ) (q : Result State RunFault) →
    drop n xs ≡ x ∷ drop (n + 1) xs → with_attribute s.store class n k x ≡ Ok st → m ≡ state_with_store s st →
    state_with_attributes s class k n (drop n xs) ≡ q → state_with_attributes m class k (n + 1) (drop (n + 1) xs) ≡ q
attribute_more s m class k n x st xs q d w e f =
    let step : state_with_attributes s class k n (drop n xs)
    ≡ state_with_attributes (state_with_store s st) class k (n + 1) (drop (n + 1) xs) = rw (d, w) refl in
    ap (λ (r : State). state_with_attributes r class k (n + 1) (drop (n + 1) xs)) e ∙ sym step ∙ f

pub attribute_missing : (s : State) (class k n : ℕ) (x : ℤ) (e : RunFault) (xs : List ℤ) (q : Result State RunFault) →
    drop n xs ≡ x ∷ drop (n + 1) xs → with_attribute s.store class n k x ≡ Err e →
    state_with_attributes s class k n (drop n xs) ≡ q → q ≡ Err e
attribute_missing s class k n x e xs q d w f =
    let step : state_with_attributes s class k n (drop n xs) ≡ Err e = rw (d, w) refl in
    sym f ∙ step
