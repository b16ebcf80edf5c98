-- What BREAK with a condition leaves as it is.
use Rattle.std.proofs.Common.{◌≡◌, ℕ, Bool, true, false, nat_le, List, Option, Some, None, option_map, refl}
use Rattle.ss_debug.specs.Turn.{DebuggerState}
use Rattle.ss_debug.specs.declared.limits.TheConstants.{GREATEST_LINE}
use Rattle.ss_expressions.specs.Aims.{Aim, Aimed, aimed, refused}
use Rattle.ss_prompt.specs.BreakPlaces.{point_at, line_at_place}
use Rattle.ss_prompt.specs.BreakWhen.{when_set, when_led, when_left, when_next, aim_on}
use Rattle.ss_prompt.specs.PromptState.{PromptState}
use Rattle.ss_prompt.specs.Sections.{section_named, first_line, taken_line}
use Rattle.ss_prompt.specs.declared.break_place.BreakPlace.{BreakPlace}
use Rattle.ss_prompt.specs.declared.break_place.BreakPlace.TheVariants as place
use Rattle.ss_prompt.specs.declared.break_place.BreakSpot.{BreakSpot}

-- ---- the position

set_stands : (d : DebuggerState) (line : ℕ) (aim : Aim) (text : List ℕ) (b : Bool) → nat_le line GREATEST_LINE ≡ b →
    (when_set d line aim text).position ≡ d.position
set_stands d line aim text true e = rw e refl
set_stands d line aim text false e = rw e refl

led_stands : (d : DebuggerState) (line : ℕ) (text : List ℕ) (o : Option Aimed) →
    (when_led d line text o).position ≡ d.position
led_stands d line text None = refl
led_stands d line text (Some (aimed aim)) = set_stands d line aim text (nat_le line GREATEST_LINE) refl
led_stands d line text (Some (refused answer)) = refl

-- the debugger stays at its position
pub when_stands : (s : PromptState) (text : List ℕ) (point : Option BreakSpot) →
    (when_left s text point).position ≡ s.debugger.position
when_stands s text None = refl
when_stands s text (Some point) = led_stands s.debugger point.line text (aim_on point.section text s.symbols)

-- ---- the break lines, at a line that BREAK does not take

set_nothing : (d : DebuggerState) (line : ℕ) (aim : Aim) (text : List ℕ) → nat_le line GREATEST_LINE ≡ false →
    (when_set d line aim text).breaks ≡ d.breaks
set_nothing d line aim text e = rw e refl

led_nothing : (d : DebuggerState) (line : ℕ) (text : List ℕ) (o : Option Aimed) → nat_le line GREATEST_LINE ≡ false →
    (when_led d line text o).breaks ≡ d.breaks
led_nothing d line text None e = refl
led_nothing d line text (Some (aimed aim)) e = set_nothing d line aim text e
led_nothing d line text (Some (refused answer)) e = refl

untaken : (line : ℕ) (b : Bool) → nat_le line GREATEST_LINE ≡ b → taken_line (Some line) ≡ None → b ≡ false
untaken line true e h = let some : Some line ≡ None = rw e at h in absurd (cc)
untaken line false e h = refl

by_section : (s : PromptState) (text : List ℕ) (n : Option ℕ) →
    taken_line (option_map (first_line s.input.program) n) ≡ None →
    (when_left s text (option_map (λ n. record { line = first_line s.input.program n; section = n }) n)).breaks
    ≡ s.debugger.breaks
by_section s text None h = refl
by_section s text (Some n) h =
    let line : ℕ = first_line s.input.program n in
    led_nothing s.debugger line text (aim_on n text s.symbols) (untaken line (nat_le line GREATEST_LINE) refl h)

-- the break lines stay, if BREAK takes no line there
pub when_breaks : (s : PromptState) (p : BreakPlace) (text : List ℕ) → line_at_place s.input.program p ≡ None →
    (when_next s p text).debugger.breaks ≡ s.debugger.breaks
when_breaks s (place.Line line) text h = absurd (cc)
when_breaks s (place.Section name) text h = by_section s text (section_named s.input.program name) h
