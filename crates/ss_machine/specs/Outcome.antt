-- Private: the result of a part of a statement, compared with the defined one.
use Rattle.std.specs.Prelude.{◌≡◌, Result, Ok, Err, OnOk}
use Rattle.ss_words.specs.declared.fault.RunFault.{RunFault}
use Rattle.ss_words.specs.declared.fault.StepFault.{StepFault}
use Rattle.ss_words.specs.declared.fault.StepFault.TheVariants.{Fault, Memory}
use Rattle.ss_values.specs.Values.{FaultIs}
use Rattle.ss_state.specs.declared.status.Status.TheVariants.{Faulted}
use Rattle.ss_state.specs.State.{State}

-- a call that may fault led to the wanted result, or gave the wanted fault
abbrev pub LeadsTo : {A B : Type 0} → Result A RunFault → Result B RunFault → B → Type 0
LeadsTo (Ok given) wanted left = wanted ≡ Ok left
LeadsTo (Err fault) wanted left = wanted ≡ Err fault

-- a call led to the wanted result, or gave the fault; refused memory says nothing of the result
abbrev pub LeadsToOrRefuses : {A B : Type 0} → Result A StepFault → Result B RunFault → B → Type 0
LeadsToOrRefuses (Ok given) wanted left = wanted ≡ Ok left
LeadsToOrRefuses (Err fault) wanted left = FaultIs fault wanted

-- a call that may fault gave the wanted result, which `says` makes of its answer, or the fault
abbrev pub Gives : {A B : Type 0} → Result A RunFault → Result B RunFault → (A → B) → Type 0
Gives (Ok given) wanted says = wanted ≡ Ok (says given)
Gives (Err fault) wanted says = wanted ≡ Err fault

-- a call gave the result that `says` makes, or the fault; refused memory says nothing of the result
abbrev pub GivesOrRefuses : {A B : Type 0} → Result A StepFault → Result B RunFault → (A → B) → Type 0
GivesOrRefuses (Ok given) wanted says = wanted ≡ Ok (says given)
GivesOrRefuses (Err fault) wanted says = FaultIs fault wanted

-- a fault was marked in a state; a want of memory is not
abbrev pub IsMarked : StepFault → State → State → Type 0
IsMarked (Fault e) state t = t ≡ record state { status = Faulted e }
IsMarked Memory state t = ⊥

-- a statement that was done led to the state `next`; for one that faulted, its fault was marked in the state `back`
abbrev pub IsSettled : {A : Type 0} → Result A RunFault → State → State → State → Type 0
IsSettled (Ok done) next back state = state ≡ next
IsSettled (Err fault) next back state = state ≡ record back { status = Faulted fault }

-- a statement was settled as IsSettled says, or memory was refused, which is passed on
abbrev pub IsSettledOrRefused : {A B E : Type 0} → Result A StepFault → Result B E → State → State → State → Type 0
IsSettledOrRefused (Ok done) result next back state = state ≡ next
IsSettledOrRefused (Err fault) result next back state = OnOk result (IsMarked fault back state)
