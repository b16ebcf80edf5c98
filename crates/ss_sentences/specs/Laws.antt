-- Laws of the explanation of a model.
use Rattle.std.specs.Prelude.{◌≡◌, ℕ, List}
use Rattle.ss_sentences.specs.Refusals.{IsSaid}

-- each text has an explanation
abbrev pub SomethingIsSaid : Type 0
SomethingIsSaid = (model : List ℕ) → (said : List ℕ) × IsSaid model said

-- and no other
abbrev pub NothingElseIsSaid : Type 0
NothingElseIsSaid = (model : List ℕ) (a b : List ℕ) → IsSaid model a → IsSaid model b → a ≡ b
