-- The pure data for the faults of the code, and for its judgements. Public contracts cite it.
use Rattle.std.specs.Prelude.{Result, Ok, Err}
use Rattle.ss_check.specs.declared.asked.AskedFault.{AskedFault as CodeFault}
use Rattle.ss_check.specs.declared.asked.AskedFault.TheVariants as code
use Rattle.ss_check.specs.Asked.{AskedFault, Unknown, Broken}

-- a fault of the code
abbrev pub asked_fault_view : CodeFault → AskedFault
asked_fault_view (code.Unknown n) = Unknown n.now
asked_fault_view (code.Broken rule) = Broken rule

-- a judgement of the code
abbrev pub asked_view : {A : Type 0} → Result A CodeFault → Result A AskedFault
asked_view (Ok x) = Ok x
asked_view (Err fault) = Err (asked_fault_view fault)
