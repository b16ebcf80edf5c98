-- Facts that hold when a call was refused memory.
use Rattle.std.proofs.Common.{Result, Ok, Err, OnErr}

-- a fact that always holds also holds after a refusal
pub on_err : {A B P : Type 0} (r : Result A B) → P → OnErr r P
on_err (Ok x) h = tt
on_err (Err e) h = h
