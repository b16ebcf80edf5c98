-- The list of the candidates that could be at a place, as it is printed.
use Rattle.std.specs.Prelude.{ℕ, ◌-◌, ◌&&◌, Bool, true, false, nat_lt, List, [], ◌∷◌, ◌++◌, length, codes, bytes_eq}
use Rattle.std.specs.Prelude.{if◌then◌else◌}
use Rattle.ss_sentences.specs.declared.candidate.Judgement.{Judgement}
use Rattle.ss_sentences.specs.declared.expected.TheConstants.{EXPECTED, FIRST_ROOM, FURTHER_ROOM}

-- before the first, and between others
abbrev pub separator : Bool → List ℕ
separator is_first = if is_first then codes " " else codes ", "

-- the candidates that fit; one without room in the `room` bytes left on a line is on a new line
abbrev pub fitting_list : Bool → ℕ → List Judgement → List ℕ
fitting_list is_first room [] = codes "\n"
fitting_list is_first room (j ∷ js) = elim j.fits [
  | false ↦ fitting_list is_first room js
  | true ↦ let told = j.told.now in elim (nat_lt (room - length told) 2) [
    | true ↦ codes ",\n  " ++ told ++ fitting_list false (FURTHER_ROOM - length told) js
    | false ↦ separator is_first ++ told ++ fitting_list false (room - length told - 2) js
  ]
]

-- the list of the candidates that could be at a place
unfoldable pub expected_text : List Judgement → List ℕ
expected_text js = EXPECTED.now ++ fitting_list true FIRST_ROOM js

-- a candidate that is printed so fits
abbrev pub fits : List Judgement → List ℕ → Bool
fits [] told = false
fits (j ∷ js) told = elim (j.fits && bytes_eq (j.told.now) told) [ true ↦ true | false ↦ fits js told ]
