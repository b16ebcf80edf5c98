-- CLEAR without a line leaves no break line; the debugger if memory was refused on the way.
use Rattle.std.proofs.Common.{◌≡◌, ◌≤◌, ℕ, Bool, true, false, not, List, [], ◌∷◌, refl, ap, ◌∙◌, subst, inl, inr}
use Rattle.std.proofs.Common.{arith}
use Rattle.std.specs.Prelude.{nat_eq, nat_le}
use Rattle.std.specs.List.{filter}
use Rattle.std.proofs.lemmas.Bool.Decides.{nat_tests}
use Rattle.ss_state.specs.Run.{Input}
use Rattle.ss_debug.specs.BreakLines.{BreakPoint, break_lines, without_break}
use Rattle.ss_debug.specs.Turn.{DebuggerState, debugger_state_with, debugger_state_after}
use Rattle.ss_debug.specs.declared.commands.Command.TheVariants.{Clear}
use Rattle.ss_debug.specs.declared.limits.TheConstants.{GREATEST_LINE}
use Rattle.ss_prompt.specs.Cleared.{after_clear, IsPartCleared, IsClearRefused}
use Rattle.ss_prompt.specs.Laws.{AreTaken, ClearLeavesNoBreakLine}
use Rattle.ss_prompt.specs.Prompting.{prompt_state_after, state_led}
use Rattle.ss_prompt.specs.PromptState.{PromptState, IsSameBeside}
use Rattle.ss_prompt.specs.Sections.{command_on}

-- ---- no break line is left

-- a list without some lines, one after the other
abbrev without_all : List BreakPoint → List ℕ → List BreakPoint
without_all breaks [] = breaks
without_all breaks (line ∷ lines) = without_all (without_break line breaks) lines

-- a test, if another one keeps the break line or drops it
both_by : (p q : BreakPoint → Bool) (n : BreakPoint) (ns : List BreakPoint) (a b : Bool) → p n ≡ a → q n ≡ b →
    filter p (filter q ns) ≡ filter q (filter p ns) → filter p (filter q (n ∷ ns)) ≡ filter q (filter p (n ∷ ns))
both_by p q n ns true true e f h = rw (e, f, e) (ap (λ v. n ∷ v) h)
both_by p q n ns true false e f h = rw (e, f) h
both_by p q n ns false true e f h = rw (e, f, e) h
both_by p q n ns false false e f h = rw (e, f) h

-- two tests, in either order
both : (p q : BreakPoint → Bool) (ns : List BreakPoint) → filter p (filter q ns) ≡ filter q (filter p ns)
both p q [] = refl
both p q (n ∷ ns) = both_by p q n ns (p n) (q n) refl refl (both p q ns)

-- two lines are dropped, in either order
either_first : (k l : ℕ) (breaks : List BreakPoint) →
    without_break k (without_break l breaks) ≡ without_break l (without_break k breaks)
unfolding without_break
either_first k l breaks = both (λ b. not (nat_eq b.line k)) (λ b. not (nat_eq b.line l)) breaks

-- a line is dropped before others, or after them
first_or_last : (lines : List ℕ) (line : ℕ) (breaks : List BreakPoint) →
    without_all (without_break line breaks) lines ≡ without_break line (without_all breaks lines)
first_or_last [] line breaks = refl
first_or_last (k ∷ ks) line breaks =
    ap (λ v. without_all v ks) (either_first k line breaks) ∙ first_or_last ks line (without_break k breaks)

same_number : (n : ℕ) (b : Bool) → nat_eq n n ≡ b → b ≡ true
same_number n true e = refl
same_number n false e = absurd (grind (arith, nat_tests))

-- the first of some lines is dropped
first_dropped : (b : BreakPoint) (bs : List BreakPoint) → without_break b.line (b ∷ bs) ≡ without_break b.line bs
unfolding without_break
first_dropped b bs = let e : nat_eq b.line b.line ≡ true = same_number b.line (nat_eq b.line b.line) refl in rw e refl

none_without : (line : ℕ) → without_break line [] ≡ []
unfolding without_break
none_without line = refl

-- no line is left of some without each of them
none_of_all : (bs : List BreakPoint) → without_all bs (break_lines bs) ≡ []
none_of_all [] = refl
none_of_all (b ∷ bs) =
    ap (λ v. without_all v (break_lines bs)) (first_dropped b bs) ∙ first_or_last (break_lines bs) b.line bs
    ∙ ap (without_break b.line) (none_of_all bs) ∙ none_without b.line

taken_is : (line : ℕ) (b : Bool) → nat_le line GREATEST_LINE ≡ b → line ≤ GREATEST_LINE → b ≡ true
taken_is line true e h = refl
taken_is line false e h = absurd (grind (arith, nat_tests))

-- CLEAR of a line that it takes
one_cleared : (t : Input) (d : DebuggerState) (line : ℕ) → line ≤ GREATEST_LINE →
    debugger_state_after t d (command_on Clear line) ≡ debugger_state_with d (without_break line d.breaks)
unfolding debugger_state_after
one_cleared t d line h =
    let e : nat_le line GREATEST_LINE ≡ true = taken_is line (nat_le line GREATEST_LINE) refl h in rw e refl

-- CLEAR of some lines that it takes
all_cleared : (t : Input) (d : DebuggerState) (lines : List ℕ) → AreTaken lines →
    (after_clear t d lines).breaks ≡ without_all d.breaks lines
all_cleared t d [] h = refl
all_cleared t d (line ∷ lines) h =
    ap (λ (v : DebuggerState). (after_clear t v lines).breaks) (one_cleared t d line h.0)
    ∙ all_cleared t (debugger_state_with d (without_break line d.breaks)) lines h.1

pub none_left : ClearLeavesNoBreakLine
unfolding prompt_state_after state_led
none_left s h = all_cleared s.input s.debugger (break_lines s.debugger.breaks) h ∙ none_of_all s.debugger.breaks

-- ---- memory is refused

-- before the first line, or for it
pub at_first : (t : Input) (d after : DebuggerState) (lines : List ℕ) → after ≡ d → IsPartCleared t d lines after
unfolding IsPartCleared
at_first t d after [] e = e
at_first t d after (line ∷ lines) e = inl e

-- for a later one
pub at_later : (t u : Input) (d next after : DebuggerState) (line : ℕ) (lines : List ℕ) → u ≡ t →
    next ≡ debugger_state_after t d (command_on Clear line) → IsPartCleared u next lines after →
    IsPartCleared t d (line ∷ lines) after
unfolding IsPartCleared
at_later t u d next after line lines e f h =
    let there : IsPartCleared t next lines after = subst (λ (x : Input). IsPartCleared x next lines after) e h in
    inr (subst (λ (x : DebuggerState). IsPartCleared t x lines after) f there)

-- for one of some lines
pub ruleset parts = (at_first, at_later)

-- before CLEAR of the first break line
pub at_start : (s after : PromptState) → IsSameBeside s after → after.debugger ≡ s.debugger → IsClearRefused s after
unfolding IsClearRefused
at_start s after b e = (b, at_first s.input s.debugger after.debugger (break_lines s.debugger.breaks) e)

-- for CLEAR of the break lines
pub at_lines : (s after : PromptState) (t : Input) (d : DebuggerState) (lines : List ℕ) → IsSameBeside s after →
    t ≡ s.input → d ≡ s.debugger → lines ≡ break_lines s.debugger.breaks → IsPartCleared t d lines after.debugger →
    IsClearRefused s after
unfolding IsClearRefused
at_lines s after t d lines b e f g h =
    let by_input : IsPartCleared s.input d lines after.debugger =
    subst (λ (x : Input). IsPartCleared x d lines after.debugger) e h in
    let by_debugger : IsPartCleared s.input s.debugger lines after.debugger =
    subst (λ (x : DebuggerState). IsPartCleared s.input x lines after.debugger) f by_input in
    (b, subst (λ (x : List ℕ). IsPartCleared s.input s.debugger x after.debugger) g by_debugger)

-- for CLEAR without a line
pub ruleset refusals = (at_start, at_lines)
