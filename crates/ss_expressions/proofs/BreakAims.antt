-- An aim as the condition of a break line: it is sound if the aim is, and holds in the states in which the aim holds.
use Rattle.std.proofs.Common.{◌≡◌, ℕ, Bool, true, false, not, ◌&&◌, List, nat_eq, refl, sym, subst, ◌∙◌}
use Rattle.ss_program.specs.Program.{ProgramTable}
use Rattle.ss_state.specs.State.{State}
use Rattle.ss_debug.specs.BreakCondition.{BreakCondition, is_met, IsSoundOf}
use Rattle.ss_expressions.specs.Aims.{Aim, holds_in, IsSoundAim}
use Rattle.ss_expressions.specs.BreakAims.{break_condition, section_of_locals}
use Rattle.ss_expressions.specs.LocalNames.{names_local}
use Rattle.ss_expressions.proofs.LocalNames.{elsewhere}

sound_by : (program : ProgramTable) (aim : Aim) (b : Bool) → names_local aim.condition ≡ b → IsSoundAim program aim →
    IsSoundOf program (section_of_locals aim) aim.condition
sound_by program aim true e h = rw e h
sound_by program aim false e h = rw e (λ q. elsewhere program aim.section q aim.condition e h)

-- it is one for the programs of which the aim is one
pub break_sound : (program : ProgramTable) (aim : Aim) (text : List ℕ) (c : BreakCondition) → c ≡ break_condition aim text →
    IsSoundAim program aim → IsSoundOf program c.section c.condition
break_sound program aim text c e h =
    subst (λ (x : BreakCondition). IsSoundOf program x.section x.condition) (sym e)
    (sound_by program aim (names_local aim.condition) refl h)

holds_by : (program : ProgramTable) (state : State) (aim : Aim) (text : List ℕ) (b here : Bool) →
    names_local aim.condition ≡ b → nat_eq state.frame.section aim.section ≡ here →
    is_met program state (break_condition aim text) ≡ holds_in program state aim
unfolding is_met holds_in
holds_by program state aim text true true e f = rw (e, f) refl
holds_by program state aim text true false e f = rw (e, f) refl
holds_by program state aim text false here e f = rw e refl

-- and holds in the same states
pub break_holds : (program : ProgramTable) (state : State) (aim : Aim) (text : List ℕ) (c : BreakCondition) →
    c ≡ break_condition aim text → is_met program state c ≡ holds_in program state aim
break_holds program state aim text c e =
    subst (λ (x : BreakCondition). is_met program state x ≡ holds_in program state aim) (sym e)
    (holds_by program state aim text (names_local aim.condition) (nat_eq state.frame.section aim.section) refl refl)

-- both
pub ruleset broken = (break_sound, break_holds)
