-- The break lines of two tables: setting one, clearing one, and whether one stops.
use Rattle.std.proofs.Common.{◌≡◌, ℕ, zero, suc, ◌+◌, ◌<◌, ◌≤◌, ◌≢◌, Bool, true, false, not, ◌&&◌, ◌||◌, List, [], ◌∷◌, ◌++◌}
use Rattle.std.proofs.Common.{length, map, refl, sym, ap, ◌∙◌, arith, rules, nat_lt, nat_eq, slice_get, slice_set, slice_index_or, subst}
use Rattle.std.proofs.Common.{unwrap_or, Option, Some, None}
use Rattle.std.specs.List.{filter, list_any}
use Rattle.std.proofs.lemmas.List.{map-append}
use borrow.Author.Tests.{eqb-true, eqb-false, ltb-true}
use Rattle.ss_program.specs.Program.{ProgramTable}
use Rattle.ss_state.specs.State.{State}
use Rattle.ss_debug.specs.BreakCondition.{BreakCondition, is_met_if_any, IsSoundIfAny}
use Rattle.ss_debug.specs.BreakLines.{BreakPoint, is_break_line, break_lines, with_break, without_break, stops_on}
use Rattle.ss_debug.specs.BreakLines.{AreSoundBreaks}
use Rattle.ss_debug.specs.BreakTable.{condition_at, break_at, breaks_of}
use Rattle.ss_debug.specs.LineTable.{has_line, with_line, without_line, lines_of}
use Rattle.ss_debug.proofs.LineTables as table

-- the conditions of a table
abbrev Conditions : Type 0
Conditions = List (Option BreakCondition)

-- ---- how many there are, and whether a line is one

pub count : (cs : Conditions) (ls : List ℕ) → length (breaks_of cs ls) ≡ length ls
count cs [] = refl
count cs (l ∷ ls) = ap suc (count cs ls)

-- without lines there are no break lines
pub none : (cs : Conditions) (ls : List ℕ) → length ls ≡ 0 → breaks_of cs ls ≡ []
none cs [] h = refl
none cs (l ∷ ls) h = absurd (omega arith)

pub some : (cs : Conditions) (ls : List ℕ) → breaks_of cs ls ≡ [] → length ls ≡ 0
some cs [] h = refl
some cs (l ∷ ls) h = absurd (cc)

has : (cs : Conditions) (ls : List ℕ) (l : ℕ) → is_break_line (breaks_of cs ls) l ≡ has_line ls l
has cs [] l = refl
has cs (k ∷ ls) l = ap (λ b. nat_eq k l || b) (has cs ls l)

-- the lines are those of the table
pub lines_listed : (cs : Conditions) (ls : List ℕ) → break_lines (breaks_of cs ls) ≡ ls
lines_listed cs [] = refl
lines_listed cs (l ∷ ls) = ap (λ ks. l ∷ ks) (lines_listed cs ls)

-- a line is one if its place holds true
pub line_at : (bs : List Bool) (cs : Conditions) (l : ℕ) (d : Bool) → l < length bs →
    is_break_line (breaks_of cs (lines_of bs)) l ≡ slice_index_or bs l d
line_at bs cs l d h = has cs (lines_of bs) l ∙ table.line_at bs l d h

-- no line is one past the table's end
pub line_past : (bs : List Bool) (cs : Conditions) (l : ℕ) → length bs ≤ l →
    is_break_line (breaks_of cs (lines_of bs)) l ≡ false
line_past bs cs l h = has cs (lines_of bs) l ∙ table.line_past bs l h

-- ---- one less, one more

filtered_first : (cs : Conditions) (p : ℕ → Bool) (l : ℕ) (ls : List ℕ) (b : Bool) → p l ≡ b →
    filter (λ (b : BreakPoint). p b.line) (breaks_of cs ls) ≡ breaks_of cs (filter p ls) →
    filter (λ (b : BreakPoint). p b.line) (breaks_of cs (l ∷ ls)) ≡ breaks_of cs (filter p (l ∷ ls))
filtered_first cs p l ls true e h = rw (e, h) refl
filtered_first cs p l ls false e h = rw (e, h) refl

filtered : (cs : Conditions) (p : ℕ → Bool) (ls : List ℕ) →
    filter (λ (b : BreakPoint). p b.line) (breaks_of cs ls) ≡ breaks_of cs (filter p ls)
filtered cs p [] = refl
filtered cs p (l ∷ ls) = filtered_first cs p l ls (p l) refl (filtered cs p ls)

without : (cs : Conditions) (ls : List ℕ) (l : ℕ) → without_break l (breaks_of cs ls) ≡ breaks_of cs (without_line l ls)
unfolding without_break without_line
without cs ls l = filtered cs (λ k. not (nat_eq k l)) ls

-- there is one other line less, if the line is there
pub count_others : (bs : List Bool) (cs : Conditions) (l : ℕ) → is_break_line (breaks_of cs (lines_of bs)) l ≡ true →
    length (without_break l (breaks_of cs (lines_of bs))) + 1 ≡ length (lines_of bs)
count_others bs cs l e =
    let there : has_line (lines_of bs) l ≡ true = sym (has cs (lines_of bs) l) ∙ e in
    let n = table.count_others bs l there in
    rw (without cs (lines_of bs) l, count cs (without_line l (lines_of bs))) n

-- as many, if it is not
pub count_absent : (bs : List Bool) (cs : Conditions) (l : ℕ) → is_break_line (breaks_of cs (lines_of bs)) l ≡ false →
    length (without_break l (breaks_of cs (lines_of bs))) ≡ length (lines_of bs)
count_absent bs cs l e =
    let gone : has_line (lines_of bs) l ≡ false = sym (has cs (lines_of bs) l) ∙ e in
    rw (without cs (lines_of bs) l, count cs (without_line l (lines_of bs)), table.line_absent (lines_of bs) l gone) refl

-- two tables have the same conditions for all lines but one
abbrev pub SameBut : ℕ → Conditions → Conditions → Type 0
SameBut l cs ds = (k : ℕ) → k ≢ l → condition_at ds k ≡ condition_at cs k

same_first : (cs ds : Conditions) (l : ℕ) → SameBut l cs ds → (p : ℕ → Bool) →
    ((k : ℕ) → p k ≡ true → k ≢ l) → (k : ℕ) (ls : List ℕ) (b : Bool) → p k ≡ b →
    breaks_of ds (filter p ls) ≡ breaks_of cs (filter p ls) →
    breaks_of ds (filter p (k ∷ ls)) ≡ breaks_of cs (filter p (k ∷ ls))
same_first cs ds l same p others k ls true e h = rw (e, h, same k (others k e)) refl
same_first cs ds l same p others k ls false e h = rw e h

same_kept : (cs ds : Conditions) (l : ℕ) → SameBut l cs ds → (p : ℕ → Bool) →
    ((k : ℕ) → p k ≡ true → k ≢ l) → (ls : List ℕ) → breaks_of ds (filter p ls) ≡ breaks_of cs (filter p ls)
same_kept cs ds l same p others [] = refl
same_kept cs ds l same p others (k ∷ ls) =
    same_first cs ds l same p others k ls (p k) refl (same_kept cs ds l same p others ls)

below_is_other : (l k : ℕ) → nat_lt k l ≡ true → k ≢ l
below_is_other l k e f = absurd (omega (arith, ltb-true _ _ e))

above_is_other : (l k : ℕ) → nat_lt l k ≡ true → k ≢ l
above_is_other l k e f = absurd (omega (arith, ltb-true _ _ e))

not_true : (b : Bool) → not b ≡ true → b ≡ false
not_true false e = refl
not_true true e = absurd (cc)

unequal_is_other : (l k : ℕ) → not (nat_eq k l) ≡ true → k ≢ l
unequal_is_other l k e f = eqb-false k l (not_true _ e) f

-- the break lines after one is set
pub break_set : (cs ds : Conditions) (ls : List ℕ) (l : ℕ) (w : Option BreakCondition) → condition_at ds l ≡ w →
    SameBut l cs ds → breaks_of ds (with_line l ls) ≡ with_break (record { line = l; when = w }) (breaks_of cs ls)
unfolding with_line with_break
break_set cs ds ls l w here same =
    map-append (break_at ds) (filter (λ k. nat_lt k l) ls) (l ∷ filter (λ k. nat_lt l k) ls)
    ∙ rw (
      here,
      same_kept cs ds l same (λ k. nat_lt k l) (below_is_other l) ls,
      same_kept cs ds l same (λ k. nat_lt l k) (above_is_other l) ls,
      filtered cs (λ k. nat_lt k l) ls,
      filtered cs (λ k. nat_lt l k) ls,
    ) refl

-- the break lines after one is cleared
pub break_cleared : (cs ds : Conditions) (ls : List ℕ) (l : ℕ) → SameBut l cs ds →
    breaks_of ds (without_line l ls) ≡ without_break l (breaks_of cs ls)
unfolding without_line without_break
break_cleared cs ds ls l same =
    same_kept cs ds l same (λ k. not (nat_eq k l)) (unequal_is_other l) ls
    ∙ sym (filtered cs (λ k. not (nat_eq k l)) ls)

-- a line that is no break line has nothing to clear
pub break_absent : (cs : Conditions) (ls : List ℕ) (l : ℕ) → is_break_line (breaks_of cs ls) l ≡ false →
    without_break l (breaks_of cs ls) ≡ breaks_of cs ls
break_absent cs ls l e =
    let gone : has_line ls l ≡ false = sym (has cs ls l) ∙ e in
    without cs ls l ∙ ap (breaks_of cs) (table.line_absent ls l gone)

-- ---- whether one stops

stops_first : (program : ProgramTable) (state : State) (cs : Conditions) (k l : ℕ) (b : Bool) → nat_eq k l ≡ b → (rest : Bool) →
    ((b && is_met_if_any program state (condition_at cs k)) || (rest && is_met_if_any program state (condition_at cs l)))
    ≡ ((b || rest) && is_met_if_any program state (condition_at cs l))
stops_first program state cs k l true e rest =
    let same : k ≡ l = eqb-true k l e in
    rw same (both (is_met_if_any program state (condition_at cs l)) rest)
  where
    both : (m r : Bool) → (m || (r && m)) ≡ m
    both true r = refl
    both false true = refl
    both false false = refl
stops_first program state cs k l false e rest = refl

-- a break line stops if the line is one, and its condition, if it has one, holds
pub stops : (program : ProgramTable) (state : State) (cs : Conditions) (ls : List ℕ) (l : ℕ) →
    list_any (stops_on program state l) (breaks_of cs ls)
    ≡ (is_break_line (breaks_of cs ls) l && is_met_if_any program state (condition_at cs l))
stops program state cs [] l = refl
stops program state cs (k ∷ ls) l =
    rw (stops program state cs ls l)
    (stops_first program state cs k l (nat_eq k l) refl (is_break_line (breaks_of cs ls) l))

sound_first : (program : ProgramTable) (cs : Conditions) (k l : ℕ) (b r : Bool) → nat_eq k l ≡ b → (b || r) ≡ true →
    IsSoundIfAny program (condition_at cs k) → (r ≡ true → IsSoundIfAny program (condition_at cs l)) →
    IsSoundIfAny program (condition_at cs l)
sound_first program cs k l true r e t h g = let same : k ≡ l = eqb-true k l e in rw (sym same) h
sound_first program cs k l false r e t h g = g t

-- the condition of a break line is one for the program
pub sound_at : (program : ProgramTable) (cs : Conditions) (ls : List ℕ) (l : ℕ) → AreSoundBreaks program (breaks_of cs ls) →
    is_break_line (breaks_of cs ls) l ≡ true → IsSoundIfAny program (condition_at cs l)
sound_at program cs [] l h e = absurd (cc)
sound_at program cs (k ∷ ls) l h e =
    sound_first program cs k l (nat_eq k l) (is_break_line (breaks_of cs ls) l) refl e h.0
    (λ f. sound_at program cs ls l h.1 f)

-- the same, as seen from the fields
pub sound_here : (program : ProgramTable) (breaks : List BreakPoint) (cs ds : Conditions) (ls : List ℕ) (l : ℕ) →
    breaks ≡ breaks_of cs ls → ds ≡ cs → AreSoundBreaks program breaks → is_break_line breaks l ≡ true →
    IsSoundIfAny program (condition_at ds l)
sound_here program breaks cs ds ls l e f h g =
    subst (λ (x : Conditions). IsSoundIfAny program (condition_at x l)) (sym f)
    (sound_at program cs ls l (subst (AreSoundBreaks program) e h) (sym (ap (λ x. is_break_line x l) e) ∙ g))

pub stops_here : (program : ProgramTable) (state : State) (breaks : List BreakPoint) (cs ds : Conditions) (ls : List ℕ)
    (l : ℕ) → breaks ≡ breaks_of cs ls → ds ≡ cs → is_break_line breaks l ≡ true →
    list_any (stops_on program state l) breaks ≡ is_met_if_any program state (condition_at ds l)
stops_here program state breaks cs ds ls l e f g =
    let there : is_break_line (breaks_of cs ls) l ≡ true = sym (ap (λ x. is_break_line x l) e) ∙ g in
    rw (e, f, stops program state cs ls l, there) refl

pub stops_nowhere : (program : ProgramTable) (state : State) (breaks : List BreakPoint) (cs : Conditions) (ls : List ℕ)
    (l : ℕ) → breaks ≡ breaks_of cs ls → is_break_line breaks l ≡ false →
    list_any (stops_on program state l) breaks ≡ false
stops_nowhere program state breaks cs ls l e g =
    let gone : is_break_line (breaks_of cs ls) l ≡ false = sym (ap (λ x. is_break_line x l) e) ∙ g in
    rw (e, stops program state cs ls l, gone) refl

-- ---- break lines whose conditions are sound stay so

sound_first_of : (program : ProgramTable) (p : BreakPoint → Bool) (b : BreakPoint) (bs : List BreakPoint) (t : Bool) → p b ≡ t →
    IsSoundIfAny program b.when → AreSoundBreaks program (filter p bs) → AreSoundBreaks program (filter p (b ∷ bs))
sound_first_of program p b bs true e h g = rw e (h, g)
sound_first_of program p b bs false e h g = rw e g

sound_filtered : (program : ProgramTable) (p : BreakPoint → Bool) (bs : List BreakPoint) → AreSoundBreaks program bs →
    AreSoundBreaks program (filter p bs)
sound_filtered program p [] h = h
sound_filtered program p (b ∷ bs) h =
    sound_first_of program p b bs (p b) refl h.0 (sound_filtered program p bs h.1)

sound_joined : (program : ProgramTable) (bs cs : List BreakPoint) → AreSoundBreaks program bs → AreSoundBreaks program cs →
    AreSoundBreaks program (bs ++ cs)
sound_joined program [] cs h g = g
sound_joined program (b ∷ bs) cs h g = (h.0, sound_joined program bs cs h.1 g)

-- with one more
pub sound_with : (program : ProgramTable) (b : BreakPoint) (breaks : List BreakPoint) → AreSoundBreaks program breaks →
    IsSoundIfAny program b.when → AreSoundBreaks program (with_break b breaks)
unfolding with_break
sound_with program b breaks h g =
    sound_joined program (filter (λ a. nat_lt a.line b.line) breaks) (b ∷ filter (λ a. nat_lt b.line a.line) breaks)
    (sound_filtered program (λ a. nat_lt a.line b.line) breaks h)
    (g, sound_filtered program (λ a. nat_lt b.line a.line) breaks h)

-- without one
pub sound_without : (program : ProgramTable) (l : ℕ) (breaks : List BreakPoint) → AreSoundBreaks program breaks →
    AreSoundBreaks program (without_break l breaks)
unfolding without_break
sound_without program l breaks h = sound_filtered program (λ a. not (nat_eq a.line l)) breaks h

-- ---- setting and clearing a line of the tables

-- a line that is one has a place in the table
pub within : (bs : List Bool) (cs : Conditions) (l : ℕ) → is_break_line (breaks_of cs (lines_of bs)) l ≡ true → l < length bs
within bs cs l e = table.line_within bs l (sym (has cs (lines_of bs) l) ∙ e)

-- there is one less then, if it is cleared
pub count_cleared : (bs : List Bool) (cs : Conditions) (l : ℕ) → is_break_line (breaks_of cs (lines_of bs)) l ≡ true →
    length (lines_of (slice_set bs l false)) + 1 ≡ length (lines_of bs)
count_cleared bs cs l e = table.count_cleared bs l (sym (has cs (lines_of bs) l) ∙ e)

-- the break lines after it is cleared
pub cleared : (bs : List Bool) (cs ds : Conditions) (l : ℕ) → l < length bs → SameBut l cs ds →
    breaks_of ds (lines_of (slice_set bs l false)) ≡ without_break l (breaks_of cs (lines_of bs))
cleared bs cs ds l h same =
    ap (breaks_of ds) (table.line_cleared bs l h) ∙ break_cleared cs ds (lines_of bs) l same

-- the break lines after a line is set that was none
pub set_new : (xs bs : List Bool) (cs ds : Conditions) (l : ℕ) (w : Option BreakCondition) → lines_of bs ≡ lines_of xs →
    l < length bs → condition_at ds l ≡ w → SameBut l cs ds →
    breaks_of ds (lines_of (slice_set bs l true)) ≡ with_break (record { line = l; when = w }) (breaks_of cs (lines_of xs))
set_new xs bs cs ds l w e h here same =
    ap (breaks_of ds) (table.line_set bs l h ∙ ap (with_line l) e) ∙ break_set cs ds (lines_of xs) l w here same

-- the break lines after one is set again
pub set_again : (xs bs : List Bool) (cs ds : Conditions) (l : ℕ) (w : Option BreakCondition) (d : Bool) →
    lines_of bs ≡ lines_of xs → l < length bs → slice_index_or bs l d ≡ true → condition_at ds l ≡ w →
    SameBut l cs ds → breaks_of ds (lines_of bs) ≡ with_break (record { line = l; when = w }) (breaks_of cs (lines_of xs))
set_again xs bs cs ds l w d e h set here same =
    let there : has_line (lines_of bs) l ≡ true = table.line_at bs l d h ∙ set in
    ap (breaks_of ds) (sym (table.line_set_again bs l there) ∙ ap (with_line l) e)
    ∙ break_set cs ds (lines_of xs) l w here same

-- there is one line more, if it was none
pub count_set : (bs : List Bool) (l : ℕ) → l < length bs → slice_index_or bs l false ≡ false →
    length (lines_of (slice_set bs l true)) ≡ length (lines_of bs) + 1
count_set bs l h e = table.count_set bs l h (table.line_at bs l false h ∙ e)

-- ---- the table of conditions

-- a longer table has no more conditions
pub one_longer : (cs : Conditions) (k : ℕ) → condition_at (cs ++ None ∷ []) k ≡ condition_at cs k
one_longer [] zero = refl
one_longer [] (suc k) = refl
one_longer (c ∷ cs) zero = refl
one_longer (c ∷ cs) (suc k) = one_longer cs k

-- whether one stops
pub ruleset stopping = (sound_here, stops_here, stops_nowhere)

-- a line made a break line
pub ruleset setting = (set_new, set_again, count_set, table.no_more)

-- a line made none
pub ruleset clearing = (within, count_cleared, cleared, break_absent)
