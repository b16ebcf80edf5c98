-- the things that places may name, by the tables of the store and by the program
use Rattle.std.proofs.Common.{◌≡◌, ℕ, zero, suc, ◌+◌, ◌<◌, List, [], ◌∷◌, length, Bool, Option, Some}
use Rattle.std.proofs.Common.{arith, refl, ap, sym, subst, ◌∙◌}
use Rattle.std.specs.Prelude.{map, slice_get, unwrap_or}
use Rattle.std.specs.List.{range_with_len}
use Rattle.std.proofs.lemmas.List.{length-map}
use Rattle.std.proofs.lemmas.List.FromFn.{length-map-range_with_len}
use Rattle.ss_program.specs.declared.kinds.ClassKind.{ClassKind}
use Rattle.ss_program.specs.declared.kinds.ClassKind.TheVariants.{Permanent, Temporary, Event}
use Rattle.ss_program.specs.declared.place.Spot.{Spot}
use Rattle.ss_program.specs.Program.{ClassTable, ProgramTable, is_permanent, locals_of, spot_at}
use Rattle.ss_program.specs.Program as program
use Rattle.ss_program.specs.ProgramSound.{Scope, scope_in, IsSound, IsSoundPlace}
use Rattle.ss_store.specs.declared.shape.ClassShape.{ClassShape}
use Rattle.ss_store.specs.Tables.{tables_of, class_shape, set_shape, class_in}
use Rattle.ss_store.specs.Tables as shapes
use Rattle.ss_values.specs.Seen.{scope_of}
use Rattle.ss_state.specs.Held.{Held}
use Rattle.ss_state.specs.Readings.{readings}
use Rattle.ss_machine.specs.Seen.{InHeld}
use Rattle.ss_state.specs.Loops.{AreSoundWalks}
use Rattle.ss_state.specs.Well.{IsInBounds}
use Rattle.ss_state.proofs.Sounds.{spot_sound}

-- ---- tables

map_twice : {A B C : Type 0} (g : B → C) (f : A → B) (xs : List A) → map g (map f xs) ≡ map (λ x. g (f x)) xs
map_twice g f [] = refl
map_twice g f (x ∷ xs) = ap (λ ys. g (f x) ∷ ys) (map_twice g f xs)

-- a function of the numbers of a table's rows, as a function of the rows
by_rows : {A B : Type 0} (f : ℕ → B) (g : A → B) (xs : List A) (k : ℕ) →
    ((i : ℕ) (x : A) → slice_get xs i ≡ Some x → f (k + i) ≡ g x) →
    map f (range_with_len k (length xs)) ≡ map g xs
by_rows f g [] k h = refl
by_rows f g (x ∷ xs) k h =
    let z : k + 0 ≡ k = omega arith in
    let first : f k ≡ g x = subst (λ (n : ℕ). f n ≡ g x) z (h 0 x refl) in
    let rest : map f (range_with_len (k + 1) (length xs)) ≡ map g xs =
    by_rows f g xs (k + 1) (λ i y e. let m : k + suc i ≡ (k + 1) + i = omega arith in subst (λ (n : ℕ). f n ≡ g y) m
    (h (suc i) y e)) in
    λ j. first j ∷ rest j

same_kind : (k : ClassKind) → shapes.is_permanent k ≡ is_permanent k
same_kind (Permanent n) = refl
same_kind Temporary = refl
same_kind (Event e) = refl

shape_kind : (p : ProgramTable) (i : ℕ) (c : ClassTable) → slice_get p.classes i ≡ Some c →
    (class_shape p i).permanent ≡ is_permanent c.kind
shape_kind p i c e =
    let f : program.class_of p i ≡ c =
    ap (λ (o : Option ClassTable). unwrap_or o (program.class_of (record p { classes = [] }) 0)) e in
    ap (λ (d : ClassTable). shapes.is_permanent d.kind) f ∙ same_kind c.kind

pub permanent_classes : (p : ProgramTable) →
    map (λ (s : ClassShape). s.permanent) (tables_of p).classes
    ≡ map (λ (c : ClassTable). is_permanent c.kind) p.classes
permanent_classes p =
    map_twice (λ (s : ClassShape). s.permanent) (class_shape p) (range_with_len 0 (length p.classes))
    ∙ by_rows (λ i. (class_shape p i).permanent) (λ (c : ClassTable). is_permanent c.kind) p.classes 0
    (λ i c e. let z : 0 + i ≡ i = omega arith in subst (λ (n : ℕ). (class_shape p n).permanent ≡ is_permanent c.kind)
    (sym z) (shape_kind p i c e))

pub set_count : (p : ProgramTable) → length (tables_of p).sets ≡ length p.sets
set_count p = length-map-range_with_len (set_shape p) 0 (length p.sets)

-- ---- scopes

abbrev with_parts : ℕ → ℕ → List Bool → ℕ → Scope
with_parts g l b s = record { globals = g; locals = l; permanent = b; sets = s }

scopes : (g h l m : ℕ) (b c : List Bool) (s t : ℕ) → g ≡ h → l ≡ m → b ≡ c → s ≡ t →
    with_parts g l b s ≡ with_parts h m c t
scopes g h l m b c s t e f i j = λ k. with_parts (e k) (f k) (i k) (j k)

-- the current place of a state with these variables and locals is sound for the held parts
pub sound_with : (p : ProgramTable) (h : Held) (spot : Spot) → IsSound p → length h.state.variables ≡ length p.globals →
    length h.state.frame.locals ≡ length (locals_of (slice_get p.sections h.state.frame.section)) →
    h.beside.tables ≡ tables_of p →
    spot_at p h.state.frame.section h.state.frame.place ≡ Some spot → InHeld h IsSoundPlace spot.place
sound_with p h spot sound v l e f =
    let here : scope_of (readings (tables_of p) h.state) ≡ scope_in p h.state.frame.section =
    scopes _ _ _ _ _ _ _ _ v l (permanent_classes p) (set_count p) in
    rw e (subst (λ (sc : Scope). IsSoundPlace sc spot.place) (sym here)
    (spot_sound p h.state.frame.section h.state.frame.place spot sound f))

pub sound_here : (p : ProgramTable) (h : Held) (spot : Spot) → IsSound p → IsInBounds p h.state →
    h.beside.tables ≡ tables_of p →
    spot_at p h.state.frame.section h.state.frame.place ≡ Some spot → InHeld h IsSoundPlace spot.place
sound_here p h spot sound w e f = sound_with p h spot sound w.variables w.frame.locals e f

-- the open loops of a state go through sets of the tables
pub walks_here : (p : ProgramTable) (h : Held) → IsInBounds p h.state → h.beside.tables ≡ tables_of p →
    AreSoundWalks (length h.beside.tables.sets) h.state.frame.loops
walks_here p h w e = rw (e, set_count p) w.frame.walks

-- ---- classes of the scope are those of the tables

pub class_there : (cs : List ClassShape) (c : ℕ) → c < length (map (λ (s : ClassShape). s.permanent) cs) → c < length cs
class_there cs c h = omega (arith, h, length-map cs (λ (s : ClassShape). s.permanent))

pub kind_there : (cs : List ClassShape) (c : ℕ) (b : Bool) →
    slice_get (map (λ (s : ClassShape). s.permanent) cs) c ≡ Some b → c < length cs
kind_there [] c b e = cc
kind_there (s ∷ ss) zero b e = omega arith
kind_there (s ∷ ss) (suc c) b e = omega (arith, kind_there ss c b e)

pub kind_is : (cs : List ClassShape) (c : ℕ) (b : Bool) →
    slice_get (map (λ (s : ClassShape). s.permanent) cs) c ≡ Some b → (class_in cs c).permanent ≡ b
kind_is [] c b e = cc
kind_is (s ∷ ss) zero b e = cc
kind_is (s ∷ ss) (suc c) b e = kind_is ss c b e
