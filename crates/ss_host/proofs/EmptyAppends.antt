use Rattle.std.proofs.Common.{ℕ, List, [], sym, ◌∙◌, append-nil, Option, Some, None}
use Rattle.std.specs.Io.KnownBytes.{Keeps, Appends}

-- bytes that stay as they were have nothing appended
pub kept_appends_none : (a b : Option (List ℕ)) → Keeps a b → Appends a b []
kept_appends_none None b h = tt
kept_appends_none (Some x) None h = absurd h
kept_appends_none (Some x) (Some y) h = h ∙ sym (append-nil x)
