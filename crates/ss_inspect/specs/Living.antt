-- Which entities of a class live.
use Rattle.std.specs.Prelude.{ℕ, suc, List, [], ◌∷◌, ◌++◌, codes, Option, Some, None, if◌then◌else◌}
use Rattle.ss_store.specs.Store.{Store, exists, greatest_number}
use Rattle.ss_state.specs.Run.{Input, run}
use Rattle.ss_debug.specs.Entities.{class_named, members_text}
use Rattle.ss_inspect.specs.Texts.{texts_below, no_such_text}

-- number i + 1, if it is that of an entity of class c that lives
abbrev pub living_at : Store → ℕ → ℕ → List ℕ
living_at store c i = if exists store c (suc i) then suc i ∷ [] else []

-- the entities of class c that live, the least number first
abbrev pub living_numbers : Store → ℕ → List ℕ
living_numbers store c = texts_below (living_at store c) (greatest_number store c)

-- the entities of a class that live, or that there is no such class
abbrev pub class_living_text : List ℕ → Store → Option ℕ → List ℕ
class_living_text name store None = no_such_text (codes "CLASS") name
class_living_text name store (Some c) = name ++ codes ": " ++ members_text (living_numbers store c) ++ 10 ∷ []

-- the answer to SHOW c in state p
unfoldable pub living_text : List ℕ → Input → ℕ → List ℕ
living_text name input p = class_living_text name (run input p).store (class_named input.program name)
