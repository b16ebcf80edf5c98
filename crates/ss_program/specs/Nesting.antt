-- The FOR phrases around a place; the places that it leads to while the loops of these are open.
use Rattle.std.specs.Prelude.{◌≡◌, ℕ, zero, suc, ◌+◌, ◌&&◌, ◌||◌, nat_lt, bytes_eq, Bool, true, false, if◌then◌else◌}
use Rattle.std.specs.Prelude.{List, [], ◌∷◌, drop}
use Rattle.ss_program.specs.declared.branch.Branch.TheVariants.{If}
use Rattle.ss_program.specs.declared.looping.Looping.TheVariants.{For, Find}
use Rattle.ss_program.specs.declared.place.Place.{Place}
use Rattle.ss_program.specs.declared.place.Place.TheVariants.{Control, Branch, Looping}
use Rattle.ss_program.specs.declared.place.Spot.{Spot}
use Rattle.ss_program.specs.declared.ways.Ways.{Ways}
use Rattle.ss_program.specs.Match.{is_at, behind_body, ways_of}

-- a FOR phrase
abbrev pub is_phrase : Place → Bool
is_phrase (Looping (For f)) = true
is_phrase _ = false

-- whether two lists name the same places in one order
abbrev pub are_same_places : List ℕ → List ℕ → Bool
are_same_places js ks = bytes_eq js ks

module _ (places : List Spot) where
  -- a phrase at j, before place i, is around it if its body ends after i
  abbrev pub is_around : ℕ → ℕ → Bool
  is_around i j = is_at places is_phrase j && nat_lt i (behind_body places j)

  -- the phrases around place i among the places before j, the innermost first
  abbrev pub phrases_before : ℕ → ℕ → List ℕ
  phrases_before i zero = []
  phrases_before i (suc j) = if is_around i j then j ∷ phrases_before i j else phrases_before i j

  -- all phrases around place i
  abbrev pub phrases_around : ℕ → List ℕ
  phrases_around i = phrases_before i i

  -- the loops of these phrases may be open at place n: those around it, with or without that of place n itself
  abbrev pub may_be_open : List ℕ → ℕ → Bool
  may_be_open js n =
      are_same_places js (phrases_around n)
      || (is_at places is_phrase n && are_same_places js (n ∷ phrases_around n))

  -- the loops that place i leaves open may be open at the places that its ways lead to. A phrase
  -- leaves its own and those around it open; FIND those around it except the ones that it closes;
  -- any other place those around it
  abbrev pub is_nested : ℕ → Ways → Place → Bool
  is_nested i w (Control c) = true
  is_nested i w (Branch (If q)) = may_be_open (phrases_around i) w.next && may_be_open (phrases_around i) w.exit
  is_nested i w (Looping (For f)) = may_be_open (i ∷ phrases_around i) w.next && may_be_open (phrases_around i) w.exit
  is_nested i w (Looping Find) = may_be_open (drop w.chain (phrases_around i)) w.next
  is_nested i w other = may_be_open (phrases_around i) w.next

  -- so do the places from number i on
  abbrev pub AreNestedPlaces : ℕ → List Spot → Type 0
  AreNestedPlaces i [] = Unit {0}
  AreNestedPlaces i (x ∷ xs) = (is_nested i (ways_of places i x.place) x.place ≡ true) × AreNestedPlaces (i + 1) xs
