-- Texts that are appended one after the other.
use Rattle.std.proofs.Common.{◌≡◌, ◌++◌, ◌∙◌, List, ap, append_assoc, Result, Ok, Err, OnOk}

-- a consequence of a fact that holds when a call succeeded
pub on_ok : {A B P Q : Type 0} (r : Result A B) → OnOk r P → (P → Q) → OnOk r Q
on_ok (Ok x) h f = f h
on_ok (Err e) h f = tt

-- a text, one after it, and another after that
pub two_joined : {A : Type 0} (old one other new whole : List A) → new ≡ old ++ one → whole ≡ new ++ other →
    whole ≡ old ++ (one ++ other)
two_joined old one other new whole e f = f ∙ ap (λ xs. xs ++ other) e ∙ append_assoc old one other
