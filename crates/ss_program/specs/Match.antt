-- The ways on from each place; counting openings and closings finds the places that match.
use Rattle.std.specs.Prelude.{ℕ, ◌+◌, ◌-◌, ◌==◌, Bool, true, false, ◌&&◌, ◌||◌, if◌then◌else◌, List, [], ◌∷◌, take}
use Rattle.std.specs.Prelude.{drop, reverse, slice_get, Option, Some, None}
use Rattle.ss_program.specs.declared.branch.Branch.TheVariants.{If, Else, Always}
use Rattle.ss_program.specs.declared.looping.Looping.TheVariants.{For, Loop, Find, Gather}
use Rattle.ss_program.specs.declared.place.Place.{Place}
use Rattle.ss_program.specs.declared.place.Place.TheVariants.{Branch, Looping}
use Rattle.ss_program.specs.declared.place.Spot.{Spot}
use Rattle.ss_program.specs.declared.ways.Resets.{Resets}
use Rattle.ss_program.specs.declared.ways.Resets.TheVariants as resets
use Rattle.ss_program.specs.declared.ways.Ways.{Ways}

-- ---- kinds of places

-- an IF
abbrev pub is_if : Place → Bool
is_if (Branch (If question)) = true
is_if _ = false

-- an ELSE
abbrev pub is_else : Place → Bool
is_else (Branch Else) = true
is_else _ = false

-- an ALWAYS
abbrev pub is_always : Place → Bool
is_always (Branch Always) = true
is_always _ = false

-- a place that continues or closes an IF
abbrev pub is_branch_end : Place → Bool
is_branch_end place = is_else place || is_always place

-- a LOOP
abbrev pub is_loop : Place → Bool
is_loop (Looping Loop) = true
is_loop _ = false

-- a phrase before DO
abbrev pub is_do : Place → Bool
is_do (Looping (For f)) = f.has_do
is_do _ = false

-- a phrase that controls the next place: a further phrase, one statement, FIND or COMPUTE
abbrev pub controls_next_place : Place → Bool
controls_next_place (Looping (For f)) = if f.has_do then false else true
controls_next_place _ = false

-- ---- counting

-- the depth after a place: one more after a place of `up`, one less after one of `down`
abbrev pub depth_behind : (Place → Bool) → (Place → Bool) → ℕ → Place → ℕ
depth_behind up down depth place = if up place then depth + 1 else (if down place then depth - 1 else depth)

-- the number of places before the first wanted one at depth 0
abbrev pub distance : (Place → Bool) → (Place → Bool) → (Place → Bool) → ℕ → List Spot → ℕ
distance wanted up down depth [] = 0
distance wanted up down depth (x ∷ xs) =
    if wanted x.place && depth == 0 then 0 else 1 + distance wanted up down (depth_behind up down depth x.place) xs

-- the number of bare phrases at the head
abbrev pub bare_phrases : List Spot → ℕ
bare_phrases [] = 0
bare_phrases (x ∷ xs) = if controls_next_place x.place then 1 + bare_phrases xs else 0

-- whether there is a place and it passes a test
abbrev pub passes : (Place → Bool) → Option Spot → Bool
passes test None = false
passes test (Some x) = test x.place

-- the resets of the first phrase of a chain; the place that the chain controls decides them
abbrev pub resets_before : Place → Resets
resets_before (Looping Find) = resets.Found
resets_before (Looping (Gather value)) = resets.Statistics
resets_before other = resets.Nothing

-- the resets by an optional place; if there is none, nothing is reset
abbrev pub resets_by : Option Spot → Resets
resets_by None = resets.Nothing
resets_by (Some x) = resets_before x.place

module _ (places : List Spot) where
  -- whether the place at i passes a test
  abbrev pub is_at : (Place → Bool) → ℕ → Bool
  is_at test i = passes test (slice_get places i)

  -- whether the one directly before i does
  abbrev pub is_before : (Place → Bool) → ℕ → Bool
  is_before test i = if i == 0 then false else is_at test (i - 1)

  -- the first wanted place after i
  abbrev pub later : (Place → Bool) → (Place → Bool) → (Place → Bool) → ℕ → ℕ
  later wanted up down i = i + 1 + distance wanted up down 0 (drop (i + 1) places)

  -- the last wanted place before i
  abbrev pub earlier : (Place → Bool) → (Place → Bool) → (Place → Bool) → ℕ → ℕ
  earlier wanted up down i = i - 1 - distance wanted up down 0 (reverse (take i places))

  -- the ELSE or ALWAYS that continues or closes the IF or ELSE at i
  abbrev pub branch_end : ℕ → ℕ
  branch_end i = later is_branch_end is_if is_always i

  -- the IF that the ALWAYS at i closes
  abbrev pub if_of : ℕ → ℕ
  if_of i = earlier is_if is_always is_if i

  -- the innermost phrase that the LOOP at i closes
  abbrev pub phrase_of : ℕ → ℕ
  phrase_of i = earlier is_do is_loop is_do i

  -- the number of phrases before place i in its chain
  abbrev pub chain_before : ℕ → ℕ
  chain_before i = bare_phrases (reverse (take i places))

  -- the place that the chain of phrase i controls: the first from i on that is no bare phrase
  abbrev pub controlled_place : ℕ → ℕ
  controlled_place i = i + bare_phrases (drop i places)

  -- the last place of the block at i: for an IF its ALWAYS, for a phrase before DO its LOOP
  abbrev pub last_place : ℕ → ℕ
  last_place i =
      if is_at is_if i then later is_always is_if is_always i
      else (if is_at is_do i then later is_loop is_do is_loop i else i)

  -- the place after the body of the phrase at i; for COMPUTE the place that assigns the statistics
  abbrev pub behind_body : ℕ → ℕ
  behind_body i = last_place (controlled_place i) + 1

  -- the place after the statement at i: the phrase that controls only it, else the next place
  abbrev pub next_place : ℕ → ℕ
  next_place i = if is_before controls_next_place i then i - 1 else i + 1

  -- the place after the ALWAYS at i: as for a statement that its IF begins and it ends
  abbrev pub behind_always : ℕ → ℕ
  behind_always i = if is_before controls_next_place (if_of i) then if_of i - 1 else i + 1

  -- the place after a false IF: the one after its ELSE, or its ALWAYS
  abbrev pub behind_false : ℕ → ℕ
  behind_false i = if is_at is_else (branch_end i) then branch_end i + 1 else branch_end i

  -- the place after the loop of the phrase at i closes: the phrase directly before it in its chain,
  -- else the place after its body
  abbrev pub behind_loop : ℕ → ℕ
  behind_loop i = if is_before controls_next_place i then i - 1 else behind_body i

  -- ---- the ways on from a place

  -- the next place when the place is done
  abbrev pub next_of : ℕ → Place → ℕ
  next_of i (Branch (If question)) = i + 1
  next_of i (Branch Else) = branch_end i
  next_of i (Branch Always) = behind_always i
  next_of i (Looping (For f)) = i + 1
  next_of i (Looping Loop) = phrase_of i
  next_of i (Looping Find) = i + 1
  next_of i other = next_place i

  -- the exit of a false IF, and of a loop that closes
  abbrev pub exit_of : ℕ → Place → ℕ
  exit_of i (Branch (If question)) = behind_false i
  exit_of i (Looping (For f)) = behind_loop i
  exit_of i other = 0

  -- the number of loops that FIND closes
  abbrev pub chain_of : ℕ → Place → ℕ
  chain_of i (Looping Find) = chain_before i
  chain_of i other = 0

  -- the resets of the phrase at i at its entry
  abbrev pub phrase_resets : ℕ → Resets
  phrase_resets i =
      if is_before controls_next_place i then resets.Nothing else resets_by (slice_get places (controlled_place i))

  -- the resets of any place at its entry
  abbrev pub resets_of : ℕ → Place → Resets
  resets_of i (Looping (For f)) = phrase_resets i
  resets_of i other = resets.Nothing

  -- all four parts of the ways on from a place
  abbrev pub ways_of : ℕ → Place → Ways
  ways_of i x = record { next = next_of i x; exit = exit_of i x; chain = chain_of i x; resets = resets_of i x }

  -- the ways on from each place of a list that begins at place i
  abbrev pub ways_from : ℕ → List Spot → List Ways
  ways_from i [] = []
  ways_from i (x ∷ xs) = ways_of i x.place ∷ ways_from (i + 1) xs

-- the ways on from each place of a section
abbrev pub section_ways : List Spot → List Ways
section_ways places = ways_from places 0 places
