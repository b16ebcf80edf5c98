-- The statement of a state is one of its section.
use Rattle.std.proofs.Common.{◌≡◌, ℕ, List, ◌++◌, Option, Some, None, refl, ap, sym, subst, ◌∙◌, arith, ◌+◌, ◌<◌, ◌^◌, slice_get}
use Rattle.ss_program.specs.declared.place.Spot.{Spot}
use Rattle.ss_program.specs.declared.looping.Phrase.{Phrase}
use Rattle.ss_program.specs.declared.looping.Phrase.TheVariants.{Counting, Each, Walking}
use Rattle.ss_program.specs.Program.{ProgramTable, SectionTable, spot_at}
use Rattle.ss_program.specs.ProgramSound.{Scope, IsSound, IsSoundPlace, IsSoundPhrase, IsSettable, scope_in}
use Rattle.ss_state.specs.State.{State}
use Rattle.ss_state.specs.Loops.{loop_variable}
use Rattle.ss_state.specs.Well.{IsWell}
use Rattle.ss_state.proofs.Sounds.{spot_sound, section_sound}
use Rattle.ss_reads.specs.declared.scene.Given.{Given}
use Rattle.ss_reads.specs.Scenes.{Scene, scope_of, IsSoundGiven, IsSoundScene}

-- its place is sound
pub place_here : (p : ProgramTable) (st : State) (spot : Spot) → IsSound p →
    spot_at p st.frame.section st.frame.place ≡ Some spot → IsSoundPlace (scope_in p st.frame.section) spot.place
place_here p st spot h e = spot_sound p st.frame.section st.frame.place spot h e

-- a section has few parameters
pub few_parameters : (p : ProgramTable) (i : ℕ) (t : SectionTable) → IsSound p → slice_get p.sections i ≡ Some t →
    t.given + t.yielded < 2 ^ 64
few_parameters p i t h e = omega (arith, (section_sound _ p.sections i t h.sections e).few_parameters)

-- the variable of a loop is a target
pub phrase_settable : (sc : Scope) (phrase : Phrase) → IsSoundPhrase sc phrase → IsSettable sc (loop_variable phrase)
phrase_settable sc (Counting d x first last step) h = h.0
phrase_settable sc (Each class is_called x count) h = h.0
phrase_settable sc (Walking d x set begin) h = h.0
