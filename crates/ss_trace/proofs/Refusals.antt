-- Facts that hold when a call was refused memory.
use Rattle.std.proofs.Common.{Result, Ok, Err, OnErr, OnOk}

-- a fact that always holds also holds after a refusal
pub on_err : {A B P : Type 0} (r : Result A B) → P → OnErr r P
on_err (Ok x) h = tt
on_err (Err e) h = h

-- it also holds after a success
pub on_any : {A B P : Type 0} (r : Result A B) → P → OnOk r P
on_any (Ok x) h = h
on_any (Err e) h = tt

-- a consequence of a fact that holds when a call succeeded
pub on_ok : {A B P Q : Type 0} (r : Result A B) → OnOk r P → (P → Q) → OnOk r Q
on_ok (Ok x) h f = f h
on_ok (Err e) h f = tt
