-- Private: facts seen by their contents.
use Rattle.std.specs.Prelude.{List, map}
use Rattle.ss_check.specs.Facts.{Fact, fact}

-- facts, their contents seen by f
abbrev pub facts_view : {X A : Type 0} → (X → A) → List (Fact X) → List (Fact A)
facts_view f table = map (λ x. fact x.name (f x.what)) table
