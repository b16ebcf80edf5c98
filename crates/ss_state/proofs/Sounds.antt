-- the soundness of each place of a program
use Rattle.std.proofs.Common.{◌≡◌, ℕ, zero, suc, ◌+◌, ◌<◌, ◌≤◌, List, [], ◌∷◌, length, true, Option, Some, None}
use Rattle.std.proofs.Common.{arith, refl, ap, sym, subst, ◌∙◌}
use Rattle.std.specs.Prelude.{map, slice_get, unwrap_or}
use Rattle.std.proofs.lemmas.Option.{unwrap_or-slice_get}
use Rattle.ss_words.specs.declared.limits.TheConstants.{MOST_PHRASES, MOST_PARAMETERS, MOST_ATTRIBUTES}
use Rattle.ss_program.specs.declared.place.Spot.{Spot}
use Rattle.ss_program.specs.declared.place.Place.{Place}
use Rattle.ss_program.specs.declared.place.Place.TheVariants as places
use Rattle.ss_program.specs.declared.looping.Looping.TheVariants.{For, Loop, Find, Gather, Tell}
use Rattle.ss_program.specs.declared.call.Call.{Call}
use Rattle.ss_program.specs.declared.ways.Ways.{Ways}
use Rattle.ss_program.specs.declared.kinds.ClassKind.{ClassKind}
use Rattle.ss_program.specs.declared.kinds.ClassKind.TheVariants.{Permanent, Temporary, Event}
use Rattle.ss_program.specs.Match.{ways_of, ways_from, section_ways}
use Rattle.ss_program.specs.Nesting.{is_nested, AreNestedPlaces}
use Rattle.ss_program.specs.Program.{ClassTable, SectionTable, ProgramTable, class_of, event_of, event_of_kind}
use Rattle.ss_program.specs.Program.{is_event, places_of, locals_of, no_section, section_of, spot_at, is_permanent}
use Rattle.ss_program.specs.ProgramSound.{Scope, scope_in, IsSound, IsSoundSection, AreSoundSections, IsSoundPlace}
use Rattle.ss_program.specs.ProgramSound.{AreSoundPlaces, IsEnded, LeadsOn, IsCalledBy, IsLinkedPlace, AreLinkedPlaces}
use Rattle.ss_program.specs.ProgramSound.{AreLinkedSections, IsTimed, AreTimed, IsEventClass, IsSoundClass}
use Rattle.ss_program.specs.ProgramSound.{IsSoundEvent, IsSoundKind}
use Rattle.ss_state.specs.State.{FrameState}
use Rattle.ss_state.specs.ChangeCounts.{call_targets, call_targets_by, yield_count}

-- the element at a place of a list that is long enough
pub there : {A : Type 0} (xs : List A) (i : ℕ) → i < length xs → (x : A) × (slice_get xs i ≡ Some x)
there [] i h = absurd (omega (arith, h))
there (x ∷ xs) zero h = (x, refl)
there (x ∷ xs) (suc i) h = there xs i (omega (arith, h))

-- a place that has an element is in the list
pub within : {A : Type 0} (xs : List A) (i : ℕ) (x : A) → slice_get xs i ≡ Some x → i < length xs
within [] i x e = cc
within (y ∷ xs) zero x e = omega arith
within (y ∷ xs) (suc i) x e = omega (arith, within xs i x e)

pub section_sound : (n : ProgramTable) (ss : List SectionTable) (i : ℕ) (s : SectionTable) → AreSoundSections n ss →
    slice_get ss i ≡ Some s → IsSoundSection n s
section_sound n [] i s h e = cc
section_sound n (t ∷ ts) zero s h e = let f : t ≡ s = cc in subst (λ (u : SectionTable). IsSoundSection n u) f h.0
section_sound n (t ∷ ts) (suc i) s h e = section_sound n ts i s h.1 e

pub place_sound : (sc : Scope) (ps : List Spot) (i : ℕ) (s : Spot) → AreSoundPlaces sc ps → slice_get ps i ≡ Some s →
    IsSoundPlace sc s.place
place_sound sc [] i s h e = cc
place_sound sc (t ∷ ts) zero s h e = let f : t ≡ s = cc in subst (λ (u : Spot). IsSoundPlace sc u.place) f h.0
place_sound sc (t ∷ ts) (suc i) s h e = place_sound sc ts i s h.1 e

pub ended_some : (ps : List Spot) → IsEnded ps → 0 < length ps
ended_some [] h = absurd h
ended_some (p ∷ ps) h = omega arith

-- the tables that the places of a section may name rows of, if there is one
abbrev scope_by : ProgramTable → Option SectionTable → Scope
scope_by p o = record {
  globals = length p.globals;
  locals = length (locals_of o);
  permanent = map (λ c. is_permanent c.kind) p.classes;
  sets = length p.sets;
}

-- the places of a program are sound
spot_sound_of : (p : ProgramTable) (i j : ℕ) (spot : Spot) (o : Option SectionTable) → IsSound p →
    slice_get p.sections i ≡ o → slice_get (places_of o) j ≡ Some spot →
    IsSoundPlace (scope_by p o) spot.place
spot_sound_of p i j spot None h e f = cc
spot_sound_of p i j spot (Some s) h e f =
    place_sound _ s.places j spot (section_sound _ p.sections i s h.sections e).places f

pub spot_sound : (p : ProgramTable) (i j : ℕ) (spot : Spot) → IsSound p → spot_at p i j ≡ Some spot →
    IsSoundPlace (scope_in p i) spot.place
spot_sound p i j spot h e = spot_sound_of p i j spot (slice_get p.sections i) h refl e

linked_section : (ss more : List SectionTable) (i : ℕ) (s : SectionTable) → AreLinkedSections ss more →
    slice_get more i ≡ Some s →
    AreLinkedPlaces ss s.places 0 s.places
linked_section ss [] i s h e = cc
linked_section ss (t ∷ ts) zero s h e =
    let f : t ≡ s = cc in subst (λ (u : SectionTable). AreLinkedPlaces ss u.places 0 u.places) f h.0
linked_section ss (t ∷ ts) (suc i) s h e = linked_section ss ts i s h.1 e

linked_place : (ss : List SectionTable) (ps xs : List Spot) (k i : ℕ) (s : Spot) → AreLinkedPlaces ss ps k xs →
    slice_get xs i ≡ Some s →
    IsLinkedPlace ss (length ps) (ways_of ps (k + i) s.place) s.place
linked_place ss ps [] k i s h e = cc
linked_place ss ps (t ∷ ts) k zero s h e =
    let f : t ≡ s = cc in
    let z : k + 0 ≡ k = omega arith in
    rw z (subst (λ (u : Spot). IsLinkedPlace ss (length ps) (ways_of ps k u.place) u.place) f h.0)
linked_place ss ps (t ∷ ts) k (suc i) s h e =
    let z : k + suc i ≡ (k + 1) + i = omega arith in
    rw z (linked_place ss ps ts (k + 1) i s h.1 e)

spot_linked_of : (p : ProgramTable) (i j : ℕ) (spot : Spot) (o : Option SectionTable) → IsSound p →
    slice_get p.sections i ≡ o →
    slice_get (places_of o) j ≡ Some spot →
    IsLinkedPlace p.sections (length (places_of o)) (ways_of (places_of o) j spot.place) spot.place
spot_linked_of p i j spot None h e f = cc
spot_linked_of p i j spot (Some s) h e f =
    let z : 0 + j ≡ j = omega arith in
    subst (λ (n : ℕ). IsLinkedPlace p.sections (length s.places) (ways_of s.places n spot.place) spot.place) z
    (linked_place p.sections s.places s.places 0 j spot (linked_section p.sections p.sections i s h.linked e) f)

-- the ways on from a place of a program are in its section
pub spot_linked : (p : ProgramTable) (i j : ℕ) (spot : Spot) → IsSound p → spot_at p i j ≡ Some spot →
    IsLinkedPlace p.sections (length (places_of (slice_get p.sections i)))
    (ways_of (places_of (slice_get p.sections i)) j spot.place) spot.place
spot_linked p i j spot h e = spot_linked_of p i j spot (slice_get p.sections i) h refl e

-- FIND closes few loops
pub chain_few : (ss : List SectionTable) (ps : List Spot) (n i : ℕ) (x : Place) → LeadsOn ss n (ways_of ps i x) x →
    (ways_of ps i x).chain ≤ MOST_PHRASES
chain_few ss ps n i (places.Assign a) h = omega arith
chain_few ss ps n i (places.Making m) h = omega arith
chain_few ss ps n i (places.Filing f) h = omega arith
chain_few ss ps n i (places.Output o) h = omega arith
chain_few ss ps n i (places.Control c) h = omega arith
chain_few ss ps n i (places.Branch b) h = omega arith
chain_few ss ps n i (places.Looping (For f)) h = omega arith
chain_few ss ps n i (places.Looping Loop) h = omega arith
chain_few ss ps n i (places.Looping Find) h = h
chain_few ss ps n i (places.Looping (Gather e)) h = omega arith
chain_few ss ps n i (places.Looping (Tell ts)) h = omega arith
chain_few ss ps n i (places.Call c) h = omega arith
chain_few ss ps n i (places.Timing x) h = omega arith
chain_few ss ps n i (places.Read ts) h = omega arith

ways_at : (ps xs : List Spot) (k i : ℕ) (s : Spot) (w : Ways) → slice_get (ways_from ps k xs) i ≡ Some w →
    slice_get xs i ≡ Some s →
    w ≡ ways_of ps (k + i) s.place
ways_at ps [] k i s w e f = cc
ways_at ps (t ∷ ts) k zero s w e f =
    let g : t ≡ s = cc in
    let h : ways_of ps k t.place ≡ w = cc in
    let z : k + 0 ≡ k = omega arith in
    rw z (sym h ∙ ap (λ (u : Spot). ways_of ps k u.place) g)
ways_at ps (t ∷ ts) k (suc i) s w e f =
    let z : k + suc i ≡ (k + 1) + i = omega arith in
    rw z (ways_at ps ts (k + 1) i s w e f)

-- the ways that are kept for a place are those counted
pub ways_found : (ps : List Spot) (i : ℕ) (s : Spot) (w : Ways) → slice_get (section_ways ps) i ≡ Some w →
    slice_get ps i ≡ Some s → w ≡ ways_of ps i s.place
ways_found ps i s w e f =
    let z : 0 + i ≡ i = omega arith in
    subst (λ (n : ℕ). w ≡ ways_of ps n s.place) z (ways_at ps ps 0 i s w e f)

called_there_by : (ss : List SectionTable) (c : Call) (o : Option SectionTable) → slice_get ss c.section ≡ o →
    IsCalledBy c o → c.section < length ss
called_there_by ss c None e h = absurd h
called_there_by ss c (Some t) e h = within ss c.section t e

-- a CALL is of a section that is there
pub called_there : (ss : List SectionTable) (c : Call) → IsCalledBy c (slice_get ss c.section) → c.section < length ss
called_there ss c h = called_there_by ss c (slice_get ss c.section) refl h

called_few_by : (p : ProgramTable) (c : Call) (o : Option SectionTable) → IsSound p →
    slice_get p.sections c.section ≡ o → IsCalledBy c o →
    length c.given ≤ length (locals_of o)
called_few_by p c None sound e h = absurd h
called_few_by p c (Some t) sound e h =
    omega (arith, h.1, (section_sound _ p.sections c.section t sound.sections e).parameters)

-- and its values have room in the locals of that section
pub called_few : (p : ProgramTable) (c : Call) → IsSound p → IsCalledBy c (slice_get p.sections c.section) →
    length c.given ≤ length (locals_of (slice_get p.sections c.section))
called_few p c sound h = called_few_by p c (slice_get p.sections c.section) sound refl h

-- the section with a number
pub section_found : (p : ProgramTable) (i : ℕ) (t : SectionTable) → slice_get p.sections i ≡ Some t → section_of p i ≡ t
section_found p i t e = rw e refl

-- a section has few parameters
pub few_parameters : (p : ProgramTable) (i : ℕ) (t : SectionTable) → IsSound p → slice_get p.sections i ≡ Some t →
    t.given ≤ MOST_PARAMETERS
few_parameters p i t h e = omega (arith, (section_sound _ p.sections i t h.sections e).few_parameters)

few_yielded_by : (p : ProgramTable) (c : Call) (o : Option SectionTable) → IsSound p →
    slice_get p.sections c.section ≡ o → IsCalledBy c o →
    length c.targets ≤ MOST_PARAMETERS
few_yielded_by p c None sound e h = absurd h
few_yielded_by p c (Some t) sound e h =
    omega (arith, h.2, (section_sound _ p.sections c.section t sound.sections e).few_parameters)

few_targets_of : (p : ProgramTable) (n : ℕ) (w : Ways) (x : Place) → IsSound p → LeadsOn p.sections n w x →
    call_targets x ≤ MOST_PARAMETERS
few_targets_of p n w (places.Assign a) sound h = omega arith
few_targets_of p n w (places.Making m) sound h = omega arith
few_targets_of p n w (places.Filing f) sound h = omega arith
few_targets_of p n w (places.Output o) sound h = omega arith
few_targets_of p n w (places.Control c) sound h = omega arith
few_targets_of p n w (places.Branch b) sound h = omega arith
few_targets_of p n w (places.Looping l) sound h = omega arith
few_targets_of p n w (places.Timing x) sound h = omega arith
few_targets_of p n w (places.Read ts) sound h = omega arith
few_targets_of p n w (places.Call c) sound h = few_yielded_by p c (slice_get p.sections c.section) sound refl h

-- a CALL has few targets
pub few_targets : (p : ProgramTable) (i j : ℕ) (spot : Spot) → IsSound p → spot_at p i j ≡ Some spot →
    call_targets spot.place ≤ MOST_PARAMETERS
few_targets p i j spot sound e =
    few_targets_of p (length (places_of (slice_get p.sections i)))
    (ways_of (places_of (slice_get p.sections i)) j spot.place) spot.place sound
    (spot_linked p i j spot sound e).leads

few_targets_by : (p : ProgramTable) (i j : ℕ) (o : Option Spot) → IsSound p → spot_at p i j ≡ o →
    call_targets_by o ≤ MOST_PARAMETERS
few_targets_by p i j None sound e = omega arith
few_targets_by p i j (Some spot) sound e = few_targets p i j spot sound e

-- few values come back to the frame below
pub few_yielded : (p : ProgramTable) (fs : List FrameState) → IsSound p → yield_count p fs ≤ MOST_PARAMETERS
few_yielded p [] sound = omega arith
few_yielded p (f ∷ fs) sound = few_targets_by p f.section f.place (spot_at p f.section f.place) sound refl

-- and FIND closes few loops
pub chain_at : (p : ProgramTable) (i j : ℕ) (spot : Spot) → IsSound p → spot_at p i j ≡ Some spot →
    (ways_of (places_of (slice_get p.sections i)) j spot.place).chain ≤ MOST_PHRASES
chain_at p i j spot sound e =
    chain_few p.sections (places_of (slice_get p.sections i)) (length (places_of (slice_get p.sections i))) j spot.place
    (spot_linked p i j spot sound e).leads

nested_place : (ps xs : List Spot) (k i : ℕ) (s : Spot) → AreNestedPlaces ps k xs → slice_get xs i ≡ Some s →
    is_nested ps (k + i) (ways_of ps (k + i) s.place) s.place ≡ true
nested_place ps [] k i s h e = cc
nested_place ps (t ∷ ts) k zero s h e =
    let f : t ≡ s = cc in
    let z : k + 0 ≡ k = omega arith in
    rw z (subst (λ (u : Spot). is_nested ps k (ways_of ps k u.place) u.place ≡ true) f h.0)
nested_place ps (t ∷ ts) k (suc i) s h e =
    let z : k + suc i ≡ (k + 1) + i = omega arith in
    rw z (nested_place ps ts (k + 1) i s h.1 e)

spot_nested_of : (p : ProgramTable) (i j : ℕ) (spot : Spot) (o : Option SectionTable) → IsSound p →
    slice_get p.sections i ≡ o →
    slice_get (places_of o) j ≡ Some spot →
    is_nested (places_of o) j (ways_of (places_of o) j spot.place) spot.place ≡ true
spot_nested_of p i j spot None h e f = cc
spot_nested_of p i j spot (Some s) h e f =
    let z : 0 + j ≡ j = omega arith in
    subst (λ (n : ℕ). is_nested s.places n (ways_of s.places n spot.place) spot.place ≡ true) z
    (nested_place s.places s.places 0 j spot (section_sound _ p.sections i s h.sections e).nested f)

-- a place of a program leads to places at which the loops that it leaves open may be open
pub spot_nested : (p : ProgramTable) (i j : ℕ) (spot : Spot) → IsSound p → spot_at p i j ≡ Some spot →
    is_nested (places_of (slice_get p.sections i)) j (ways_of (places_of (slice_get p.sections i)) j spot.place)
    spot.place ≡ true
spot_nested p i j spot h e = spot_nested_of p i j spot (slice_get p.sections i) h refl e

timed_place : (p : ProgramTable) (t : SectionTable) (xs : List Spot) (i : ℕ) (s : Spot) → AreTimed p t xs →
    slice_get xs i ≡ Some s → IsTimed p t s.place
timed_place p t [] i s h e = cc
timed_place p t (x ∷ xs) zero s h e = let f : x ≡ s = cc in subst (λ (u : Spot). IsTimed p t u.place) f h.0
timed_place p t (x ∷ xs) (suc i) s h e = timed_place p t xs i s h.1 e

spot_timed_of : (p : ProgramTable) (i j : ℕ) (spot : Spot) (o : Option SectionTable) → IsSound p →
    slice_get p.sections i ≡ o →
    slice_get (places_of o) j ≡ Some spot →
    IsTimed p (unwrap_or o no_section) spot.place
spot_timed_of p i j spot None h e f = cc
spot_timed_of p i j spot (Some s) h e f =
    timed_place p s s.places j spot (section_sound _ p.sections i s h.sections e).timed f

-- scheduled notices are of the program's event classes, and events start in MAIN
pub spot_timed : (p : ProgramTable) (i j : ℕ) (spot : Spot) → IsSound p → spot_at p i j ≡ Some spot →
    IsTimed p (section_of p i) spot.place
spot_timed p i j spot h e = spot_timed_of p i j spot (slice_get p.sections i) h refl e

-- a class of the table is sound
pub class_there : (p : ProgramTable) (i : ℕ) → IsSound p → i < length p.classes → IsSoundClass p (class_of p i)
class_there p i sound h =
    let none : ClassTable = record { name = []; kind = Temporary; variable = 0; attributes = [] } in
    subst (λ (c : ClassTable). IsSoundClass p c) (sym (unwrap_or-slice_get p.classes i none))
    (sound.tables.classes i none h)

-- notices have few arguments
pub few_arguments : (p : ProgramTable) (c n : ℕ) → IsSound p → IsEventClass p c n → n ≤ MOST_ATTRIBUTES
few_arguments p c n sound h = omega (arith, h.attributes, (class_there p c sound h.class).few)

event_of_sound : (p : ProgramTable) (n : ℕ) (k : ClassKind) → IsSoundKind p n k → is_event k ≡ true →
    IsSoundEvent p n (event_of_kind k)
event_of_sound p n (Permanent count) h e = cc
event_of_sound p n Temporary h e = cc
event_of_sound p n (Event x) h e = h

-- an event class is in the table
pub event_within : (p : ProgramTable) (c : ℕ) → is_event (class_of p c).kind ≡ true → c < length p.classes
event_within p c e = found (slice_get p.classes c) refl e
  where
    found : (o : Option ClassTable) → slice_get p.classes c ≡ o →
        is_event (unwrap_or o (record { name = []; kind = Temporary; variable = 0; attributes = [] })).kind ≡ true →
        c < length p.classes
    found None f g = cc
    found (Some t) f g = within p.classes c t f

-- the further parts of an event class are sound
pub event_there : (p : ProgramTable) (c : ℕ) → IsSound p → is_event (class_of p c).kind ≡ true →
    IsSoundEvent p (length (class_of p c).attributes) (event_of p c)
event_there p c sound e =
    event_of_sound p (length (class_of p c).attributes) (class_of p c).kind
    (class_there p c sound (event_within p c e)).kind e

-- the given parameters of a section are among its locals
pub given_few : (p : ProgramTable) (i : ℕ) → IsSound p → i < length p.sections →
    (section_of p i).given ≤ length (locals_of (slice_get p.sections i))
given_few p i sound h =
    let t = there p.sections i h in
    let e : slice_get p.sections i ≡ Some t.0 = t.1 in
    rw e (omega (arith, (section_sound _ p.sections i t.0 sound.sections e).parameters))
