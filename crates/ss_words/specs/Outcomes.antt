-- The result of a call next to the result of its definition: answers as defined, and a fault that
-- changes nothing. The contracts of calls that change something and may fault (of the store and of
-- the agenda) are one line each over these. `says` is the relation of four values: the call's
-- answer, the definition's answer, and the value before and after the call.
use Rattle.std.specs.Prelude.{◌≡◌, Result, Ok, Err}
use Rattle.ss_words.specs.declared.fault.RunFault.{RunFault}
use Rattle.ss_words.specs.declared.fault.StepFault.{StepFault}
use Rattle.ss_words.specs.declared.fault.StepFault.TheVariants.{Fault, Memory}

-- both answer, and `says` holds of the answers; or both fault, with one fault, and nothing changed
abbrev pub AnswersAs : {A B V : Type 0} → (A → B → V → V → Type 0) → Result A RunFault → Result B RunFault
    → V → V → Type 0
AnswersAs says (Ok given) (Ok wanted) old new = says given wanted old new
AnswersAs says (Err fault) (Err wanted) old new = (fault ≡ wanted) × (new ≡ old)
AnswersAs says (Ok given) (Err wanted) old new = ⊥
AnswersAs says (Err fault) (Ok wanted) old new = ⊥

-- the refusal is the fault of the definition, or memory if that has none; nothing changed
abbrev pub RefusesAs : {B V : Type 0} → StepFault → Result B RunFault → V → V → Type 0
RefusesAs (Fault fault) (Err wanted) old new = (fault ≡ wanted) × (new ≡ old)
RefusesAs Memory (Ok wanted) old new = new ≡ old
RefusesAs (Fault fault) (Ok wanted) old new = ⊥
RefusesAs Memory (Err wanted) old new = ⊥

-- `AnswersAs` of a call that may want memory, too
abbrev pub AnswersOrRefusesAs : {A B V : Type 0} → (A → B → V → V → Type 0) → Result A StepFault → Result B RunFault
    → V → V → Type 0
AnswersOrRefusesAs says (Ok given) (Ok wanted) old new = says given wanted old new
AnswersOrRefusesAs says (Err refused) wanted old new = RefusesAs refused wanted old new
AnswersOrRefusesAs says (Ok given) (Err wanted) old new = ⊥
