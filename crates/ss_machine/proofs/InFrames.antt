-- what is read in a frame of a state: the parts that a view of it has, and what may be named there
use Rattle.std.proofs.Common.{◌≡◌, ℕ, zero, suc, List, [], ◌∷◌, length, Option, Some, None, Bool, Result}
use Rattle.std.proofs.Common.{refl, ap, sym, subst, ◌∙◌}
use Rattle.std.specs.Prelude.{ℤ, slice_get}
use Rattle.std.specs.Option.{option_map}
use Rattle.ss_words.specs.declared.fault.RunFault.{RunFault}
use Rattle.ss_program.specs.Program.{ProgramTable}
use Rattle.ss_program.specs.ProgramExpr.{Expr, Subscript}
use Rattle.ss_program.specs.ProgramCondition.{Condition}
use Rattle.ss_program.specs.ProgramSound.{Scope, scope_in, IsSoundExpr, IsSoundCondition, IsSoundSubscript}
use Rattle.ss_store.specs.Tables.{Tables, tables_of}
use Rattle.ss_values.specs.Values.{Readings, value_of, subscript_value}
use Rattle.ss_values.specs.Conditions.{holds}
use Rattle.ss_values.specs.Seen.{scope_of}
use Rattle.ss_state.specs.State.{State, FrameState}
use Rattle.ss_state.specs.Frames.{frame_at}
use Rattle.ss_state.specs.Readings.{readings_in, IsSoundIn, value_in, truth_in, subscript_in}
use Rattle.ss_state.specs.Well.{IsWell, IsWellFrame, AreWellFrames}
use Rattle.ss_machine.proofs.Scopes.{permanent_classes, set_count}

-- each frame of a list of well-formed ones is well-formed
well_frame : (p : ProgramTable) (fs : List FrameState) (k : ℕ) (f : FrameState) → AreWellFrames p fs →
    slice_get fs k ≡ Some f → IsWellFrame p f
well_frame p [] k f h e = cc
well_frame p (g ∷ gs) zero f h e = let d : g ≡ f = cc in subst (λ (x : FrameState). IsWellFrame p x) d h.0
well_frame p (g ∷ gs) (suc k) f h e = well_frame p gs k f h.1 e

-- the scope of a frame is that of its section
scope_there : (p : ProgramTable) (s : State) (depth : ℕ) (f : FrameState) → IsWell p s →
    frame_at s depth ≡ Some f → scope_of (readings_in (tables_of p) s f) ≡ scope_in p f.section
scope_there p s depth f w e =
    let frame : IsWellFrame p f =
    well_frame p (s.frame ∷ s.below) depth f (w.bounds.frame, w.bounds.below) e in
    λ j. record {
      globals = w.bounds.variables j;
      locals = frame.locals j;
      permanent = permanent_classes p j;
      sets = set_count p j;
    }

sound_there : {A : Type 0} (P : Scope → A → Type 0) (p : ProgramTable) (t : Tables) (s : State) (depth : ℕ)
    (o : Option FrameState) (x : A) (r : Readings) → IsWell p s → t ≡ tables_of p → frame_at s depth ≡ o →
    Some r ≡ option_map (readings_in t s) o → IsSoundIn P p o x → P (scope_of r) x
sound_there P p t s depth None x r w e f h i = cc
sound_there P p t s depth (Some frame) x r w e f h i =
    let is : r ≡ readings_in (tables_of p) s frame =
    subst (λ (u : Tables). r ≡ readings_in u s frame) e cc in
    subst (λ (z : Readings). P (scope_of z) x) (sym is)
    (subst (λ (sc : Scope). P sc x) (sym (scope_there p s depth frame w f)) i)

-- an expression of the frame's section
pub expression_there : (p : ProgramTable) (t : Tables) (s : State) (depth : ℕ) (x : Expr) (r : Readings) → IsWell p s →
    t ≡ tables_of p → Some r ≡ option_map (readings_in t s) (frame_at s depth) →
    IsSoundIn IsSoundExpr p (frame_at s depth) x → IsSoundExpr (scope_of r) x
expression_there p t s depth x r w e h i = sound_there IsSoundExpr p t s depth (frame_at s depth) x r w e refl h i

-- a condition of it
pub condition_there : (p : ProgramTable) (t : Tables) (s : State) (depth : ℕ) (x : Condition) (r : Readings) →
    IsWell p s → t ≡ tables_of p → Some r ≡ option_map (readings_in t s) (frame_at s depth) →
    IsSoundIn IsSoundCondition p (frame_at s depth) x → IsSoundCondition (scope_of r) x
condition_there p t s depth x r w e h i = sound_there IsSoundCondition p t s depth (frame_at s depth) x r w e refl h i

-- a subscript of it
pub subscript_there : (p : ProgramTable) (t : Tables) (s : State) (depth : ℕ) (x : Subscript) (r : Readings) →
    IsWell p s → t ≡ tables_of p → Some r ≡ option_map (readings_in t s) (frame_at s depth) →
    IsSoundIn IsSoundSubscript p (frame_at s depth) x → IsSoundSubscript (scope_of r) x
subscript_there p t s depth x r w e h i = sound_there IsSoundSubscript p t s depth (frame_at s depth) x r w e refl h i

read_there : {B : Type 0} (g : Readings → B) (t u : Tables) (s : State) (o : Option FrameState) (r : Readings) (v : B) →
    t ≡ u → Some r ≡ option_map (readings_in t s) o → v ≡ g r → Some v ≡ option_map (λ f. g (readings_in u s f)) o
read_there g t u s None r v e h i = cc
read_there g t u s (Some frame) r v e h i =
    let is : r ≡ readings_in u s frame = subst (λ (w : Tables). r ≡ readings_in w s frame) e cc in
    ap (λ y. Some y) (i ∙ ap g is)

-- the value of an expression is read there
pub value_there : (p : ProgramTable) (t : Tables) (s : State) (depth : ℕ) (x : Expr) (r : Readings)
    (v : Result ℤ RunFault) → t ≡ tables_of p → Some r ≡ option_map (readings_in t s) (frame_at s depth) →
    v ≡ value_of r x → Some v ≡ value_in p s depth x
value_there p t s depth x r v e h i =
    read_there (λ z. value_of z x) t (tables_of p) s (frame_at s depth) r v e h i

-- the truth of a condition
pub truth_there : (p : ProgramTable) (t : Tables) (s : State) (depth : ℕ) (x : Condition) (r : Readings)
    (v : Result Bool RunFault) → t ≡ tables_of p → Some r ≡ option_map (readings_in t s) (frame_at s depth) →
    v ≡ holds r x → Some v ≡ truth_in p s depth x
truth_there p t s depth x r v e h i = read_there (λ z. holds z x) t (tables_of p) s (frame_at s depth) r v e h i

-- the number of a subscript
pub number_there : (p : ProgramTable) (t : Tables) (s : State) (depth : ℕ) (x : Subscript) (r : Readings)
    (v : Result ℤ RunFault) → t ≡ tables_of p → Some r ≡ option_map (readings_in t s) (frame_at s depth) →
    v ≡ subscript_value r x → Some v ≡ subscript_in p s depth x
number_there p t s depth x r v e h i =
    read_there (λ z. subscript_value z x) t (tables_of p) s (frame_at s depth) r v e h i

-- nothing is read in a frame that is not there
pub nothing_there : {A B C : Type 0} (f : A → B) (g : A → C) (o : Option A) → None ≡ option_map f o →
    None ≡ option_map g o
nothing_there f g None h = refl
nothing_there f g (Some x) h = cc
