-- The files from which models and data are read.
use Rattle.std.specs.Prelude.{ℕ, ◌≡◌, ⊤, Bool, List, [], Option, Some, None}

-- the file at a path has these bytes, or can't be read, if the files are known
abbrev pub Stands : Option (List ℕ → Option (List ℕ)) → List ℕ → Option (List ℕ) → Type 0
Stands None path bytes = ⊤
Stands (Some files) path bytes = files path ≡ bytes

-- the data at a path are these bytes, or can't be read; they are empty if no path is named
abbrev pub Given : Option (List ℕ → Option (List ℕ)) → Option (List ℕ) → Option (List ℕ) → Type 0
Given files None bytes = bytes ≡ Some []
Given files (Some path) bytes = Stands files path bytes

-- whether the files at two paths are one, if that is known
abbrev pub IsSame : Option (List ℕ → List ℕ → Bool) → List ℕ → List ℕ → Bool → Type 0
IsSame None path other same = ⊤
IsSame (Some files) path other same = files path other ≡ same
