-- The lines that a table holds which says of each line whether it is one.
use Rattle.std.specs.Prelude.{ℕ, suc, Bool, true, false, not, List, [], ◌∷◌, ◌++◌, nat_lt, nat_eq}
use Rattle.std.specs.List.{filter, list_any}

-- whether a line is among some lines
abbrev pub has_line : List ℕ → ℕ → Bool
has_line lines line = list_any (λ l. nat_eq l line) lines

-- with one more: the lines before it, the line, and the lines after it
unfoldable pub with_line : ℕ → List ℕ → List ℕ
with_line line lines = filter (λ l. nat_lt l line) lines ++ line ∷ filter (λ l. nat_lt line l) lines

-- without one
unfoldable pub without_line : ℕ → List ℕ → List ℕ
without_line line lines = filter (λ l. not (nat_eq l line)) lines

-- the lines from k on that a table holds whose first place is line k
abbrev pub lines_from : ℕ → List Bool → List ℕ
lines_from k [] = []
lines_from k (true ∷ bs) = k ∷ lines_from (suc k) bs
lines_from k (false ∷ bs) = lines_from (suc k) bs

-- the lines that a table holds
abbrev pub lines_of : List Bool → List ℕ
lines_of bs = lines_from 0 bs
