-- the values of targets are taken one by one
use Rattle.std.proofs.Common.{◌≡◌, ◌<◌, ◌+◌, ℕ, ℤ, Bool, List, [], ◌∷◌, ◌++◌, length, drop, Result, Ok, Err, arith}
use Rattle.std.proofs.Common.{refl, ap, sym}
use Rattle.std.specs.Prelude.{slice_get}
use Rattle.std.proofs.lemmas.List.{append_assoc, length-drop}
use Rattle.ss_words.specs.declared.fault.RunFault.{RunFault}
use Rattle.ss_program.specs.declared.target.Target.{Target}
use Rattle.ss_data.specs.Items.{Item, DataRead, with_taken}
use Rattle.ss_values.specs.Faults.{◌>>=◌}
use Rattle.ss_state.specs.Statements.Reading.{value_taken, values_taken}
use Rattle.ss_state.proofs.Parts.{drop_one_more}

after_first : (r : Result (List ℤ) RunFault) (vs : List ℤ) (x : ℤ) →
    ((r >>= λ xs. Ok (x ∷ xs)) >>= λ xs. Ok (vs ++ xs)) ≡ (r >>= λ xs. Ok ((vs ++ x ∷ []) ++ xs))
after_first (Ok xs) vs x = ap Ok (sym (append_assoc vs (x ∷ []) xs))
after_first (Err e) vs x = refl

take_first : (external : Bool) (items : List Item) (i : ℕ) (rest : List Target) (vs : List ℤ) (x : ℤ) →
    0 < length rest →
    value_taken external (slice_get items i) ≡ Ok x →
    (values_taken external items i rest >>= λ xs. Ok (vs ++ xs))
    ≡ (values_taken external items (i + 1) (drop 1 rest) >>= λ xs. Ok ((vs ++ x ∷ []) ++ xs))
take_first external items i [] vs x h e = absurd (omega (arith, h))
take_first external items i (t ∷ ts) vs x h e = rw e (after_first (values_taken external items (i + 1) ts) vs x)

-- a value more is taken
pub take_more : (external : Bool) (feed new : DataRead) (k : ℕ) (ts : List Target) (vs ws : List ℤ) (x : ℤ) →
    k < length ts → value_taken external (slice_get feed.items feed.taken) ≡ Ok x →
    new ≡ with_taken feed (feed.taken + 1) → ws ≡ vs ++ x ∷ [] →
    (values_taken external new.items new.taken (drop (k + 1) ts) >>= λ xs. Ok (ws ++ xs))
    ≡ (values_taken external feed.items feed.taken (drop k ts) >>= λ xs. Ok (vs ++ xs))
take_more external feed new k ts vs ws x h e f g =
    let l : 0 < length (drop k ts) = omega (arith, length-drop k ts, h) in
    rw (f, g, ← drop_one_more k ts) (sym (take_first external feed.items feed.taken (drop k ts) vs x l e))

fault_first : (external : Bool) (items : List Item) (i : ℕ) (rest : List Target) (vs : List ℤ) (fault : RunFault) →
    0 < length rest →
    value_taken external (slice_get items i) ≡ Err fault →
    (values_taken external items i rest >>= λ xs. Ok (vs ++ xs)) ≡ Err fault
fault_first external items i [] vs fault h e = absurd (omega (arith, h))
fault_first external items i (t ∷ ts) vs fault h e = rw e refl

-- the next one can't be taken
pub take_none : (external : Bool) (feed : DataRead) (k : ℕ) (ts : List Target) (vs : List ℤ) (fault : RunFault) →
    k < length ts →
    value_taken external (slice_get feed.items feed.taken) ≡ Err fault →
    (values_taken external feed.items feed.taken (drop k ts) >>= λ xs. Ok (vs ++ xs)) ≡ Err fault
take_none external feed k ts vs fault h e =
    let l : 0 < length (drop k ts) = omega (arith, length-drop k ts, h) in
    fault_first external feed.items feed.taken (drop k ts) vs fault l e
