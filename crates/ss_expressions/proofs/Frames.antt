-- What is asked can be read in a frame of its section, and in every one if it names no local variable.
use Rattle.std.proofs.Common.{◌≡◌, ℕ, ◌<◌, length, Bool, true, false, ◌&&◌, nat_eq, cond, Option, Some, None, refl, sym, subst, arith}
use Rattle.std.proofs.lemmas.Bool.Decides.{nat_tests}
use Rattle.std.specs.Prelude.{not, ℤ, Result}
use Rattle.std.specs.Option.{option_map}
use Rattle.ss_words.specs.declared.fault.RunFault.{RunFault}
use Rattle.ss_program.specs.declared.target.SetRef.{SetRef}
use Rattle.ss_program.specs.Program.{ProgramTable}
use Rattle.ss_program.specs.ProgramExpr.{Expr, Subscript}
use Rattle.ss_program.specs.ProgramCondition.{Condition, any, all, compared, is_empty, is_in, nested}
use Rattle.ss_program.specs.ProgramSound.{Scope, IsSoundExpr, IsSoundCondition, IsSoundSubscript, IsSoundSetRef, scope_in}
use Rattle.ss_state.specs.State.{State, FrameState}
use Rattle.ss_state.specs.Readings.{IsSoundIn, subscript_in}
use Rattle.ss_state.specs.Frames.{frame_at}
use Rattle.ss_expressions.specs.Senses.{Sense, expression, condition, list, living, set_in, sense_names_local}
use Rattle.ss_expressions.specs.Senses.{IsSoundSense}
use Rattle.ss_readings.specs.Value.{Value}
use Rattle.ss_expressions.specs.Meanings.{Meaning, is_read_in, sense_value, meaning_value, IsSoundMeaning}
use Rattle.ss_expressions.proofs.LocalNames.{elsewhere, expression_elsewhere}

-- ---- where it can be read

sense_elsewhere : (p : ProgramTable) (q r : ℕ) (s : Sense) → sense_names_local s ≡ false →
    IsSoundSense (scope_in p q) s → IsSoundSense (scope_in p r) s
sense_elsewhere p q r (expression e) l h = expression_elsewhere p q r e l h
sense_elsewhere p q r (condition c) l h = elsewhere p q r c l h
sense_elsewhere p q r (list c) l h = elsewhere p q r c l h
sense_elsewhere p q r (living class) l h = tt

same_section : (p : ProgramTable) (q r : ℕ) (s : Sense) (b : Bool) → nat_eq r q ≡ b → not (not b) ≡ true →
    IsSoundSense (scope_in p q) s → IsSoundSense (scope_in p r) s
same_section p q r s true e g h =
    let same : r ≡ q = grind (arith, nat_tests, e) in
    subst (λ (n : ℕ). IsSoundSense (scope_in p n) s) (sym same) h
same_section p q r s false e g h = absurd (cc)

sound_by : (p : ProgramTable) (q r : ℕ) (s : Sense) (b : Bool) → sense_names_local s ≡ b →
    not (b && not (nat_eq r q)) ≡ true → IsSoundSense (scope_in p q) s → IsSoundSense (scope_in p r) s
sound_by p q r s true l g h = same_section p q r s (nat_eq r q) refl g h
sound_by p q r s false l g h = sense_elsewhere p q r s l h

sound_in : (p : ProgramTable) (m : Meaning) (o : Option FrameState) → IsSoundMeaning p m → is_read_in m o ≡ true →
    IsSoundIn IsSoundSense p o m.sense
sound_in p m None h e = tt
sound_in p m (Some f) h e = sound_by p m.section f.section m.sense (sense_names_local m.sense) refl e h

pub sound_there : (p : ProgramTable) (m : Meaning) (state : State) (depth : ℕ) → IsSoundMeaning p m →
    true ≡ is_read_in m (frame_at state depth) → IsSoundIn IsSoundSense p (frame_at state depth) m.sense
sound_there p m state depth h e = sound_in p m (frame_at state depth) h (sym e)

-- ---- its parts

pub expression_in : (p : ProgramTable) (o : Option FrameState) (e : Expr) → IsSoundIn IsSoundSense p o (expression e) →
    IsSoundIn IsSoundExpr p o e
expression_in p None e h = tt
expression_in p (Some f) e h = h

pub condition_in : (p : ProgramTable) (o : Option FrameState) (c : Condition) →
    IsSoundIn IsSoundSense p o (condition c) → IsSoundIn IsSoundCondition p o c
condition_in p None c h = tt
condition_in p (Some f) c h = h

pub list_in : (p : ProgramTable) (o : Option FrameState) (c : Condition) →
    IsSoundIn IsSoundSense p o (list c) → IsSoundIn IsSoundCondition p o c
list_in p None c h = tt
list_in p (Some f) c h = h

-- the list of which a condition says that it IS EMPTY
pub set_sound : (sc : Scope) (c : Condition) (r : SetRef) → Some r ≡ set_in c → IsSoundCondition sc c →
    IsSoundSetRef sc r
set_sound sc (any (all (is_empty s is) rs) cs) r e h =
    let same : s ≡ r = cc in subst (λ (v : SetRef). IsSoundSetRef sc v) same h.0.0
set_sound sc (any (all (compared x how y) rs) cs) r e h = absurd (cc)
set_sound sc (any (all (is_in x is s) rs) cs) r e h = absurd (cc)
set_sound sc (any (all (nested c) rs) cs) r e h = absurd (cc)

-- its owner
pub owner_in : (p : ProgramTable) (o : Option FrameState) (c : Condition) (r : SetRef) → Some r ≡ set_in c →
    IsSoundIn IsSoundCondition p o c → IsSoundIn IsSoundSubscript p o r.owner
owner_in p None c r e h = tt
owner_in p (Some f) c r e h = (set_sound (scope_in p f.section) c r e h).1

set_by : (p : ProgramTable) (o : Option FrameState) (c : Condition) (r : SetRef) (A : Type 0) (f : FrameState → A)
    (x : A) → Some r ≡ set_in c → Some x ≡ option_map f o → IsSoundIn IsSoundCondition p o c → r.set < length p.sets
set_by p None c r A f x e g h = absurd (cc)
set_by p (Some s) c r A f x e g h = (set_sound (scope_in p s.section) c r e h).0

-- its set, if there is a frame
pub set_there : (p : ProgramTable) (state : State) (depth : ℕ) (c : Condition) (r : SetRef) (x : Result ℤ RunFault) →
    Some r ≡ set_in c → Some x ≡ subscript_in p state depth r.owner →
    IsSoundIn IsSoundCondition p (frame_at state depth) c → r.set < length p.sets
set_there p state depth c r x e g h = set_by p (frame_at state depth) c r _ _ x e g h

-- ---- what is displayed

read_by : (b : Bool) (o : Option Value) (v : Value) → Some v ≡ cond b o None → true ≡ b
read_by true o v e = refl
read_by false o v e = absurd (cc)

-- if it has a value in a state, it can be read in the section of the last frame
pub displayed_sound : (p : ProgramTable) (m : Meaning) (state : State) (v : Value) → IsSoundMeaning p m →
    Some v ≡ meaning_value p m state 0 → IsSoundSense (scope_in p state.frame.section) m.sense
unfolding meaning_value
displayed_sound p m state v h e =
    sound_there p m state 0 h (read_by (is_read_in m (frame_at state 0)) (sense_value p state 0 m.sense) v e)
