-- The steps after a value that was read or a test: the first fault stays.
use Rattle.std.specs.Prelude.{Bool, true, false, Result, Ok, Err}
use Rattle.ss_words.specs.declared.fault.RunFault.{RunFault}

infixl 10 ◌>>=◌
infixl 10 ◌>>◌
-- the next step after a value that was read; a fault stays
abbrev pub ◌>>=◌ : {A B : Type 0} → Result A RunFault → (A → Result B RunFault) → Result B RunFault
Ok x >>= f = f x
Err e >>= f = Err e

-- the next step after a test that was passed; a fault stays
abbrev pub ◌>>◌ : {A B : Type 0} → Result A RunFault → Result B RunFault → Result B RunFault
Ok x >> r = r
Err e >> r = Err e

-- the fault, if the test is true
abbrev pub refuse_if : Bool → RunFault → Result (Unit {0}) RunFault
refuse_if true fault = Err fault
refuse_if false fault = Ok tt
