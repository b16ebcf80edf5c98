-- The open loops of a frame, their candidates, and the verdict of a FOR phrase's qualifiers.
use Rattle.std.specs.Prelude.{ℕ, ◌<◌, ℤ, pos, ◌+ℤ◌, ◌-ℤ◌, int_lt, int_le, nat_eq, Bool, not, if◌then◌else◌, List, []}
use Rattle.std.specs.Prelude.{◌∷◌, Option, Some, None, Result, Ok, Err}
use Rattle.ss_words.specs.declared.fault.RunFault.{RunFault}
use Rattle.ss_words.specs.declared.fault.RunFault.TheVariants.{StepBelowOne, NotInList, MemberLeft}
use Rattle.ss_program.specs.declared.variable.Variable.{Variable}
use Rattle.ss_program.specs.declared.variable.Variable.TheVariants.{Global}
use Rattle.ss_words.specs.declared.terms.Direction.{Direction}
use Rattle.ss_words.specs.declared.terms.Direction.TheVariants.{Onward, Backward}
use Rattle.ss_program.specs.declared.looping.Phrase.{Phrase}
use Rattle.ss_program.specs.declared.looping.Phrase.TheVariants.{Counting, Each, Walking}
use Rattle.ss_program.specs.declared.looping.Begin.{Begin}
use Rattle.ss_program.specs.declared.looping.Begin.TheVariants.{AtTheEnd, From, After}
use Rattle.ss_program.specs.declared.looping.Qualifier.{Qualifier}
use Rattle.ss_words.specs.declared.terms.QualifierWord.{QualifierWord}
use Rattle.ss_words.specs.declared.terms.QualifierWord.TheVariants.{With, Unless, While, Until}
use Rattle.ss_program.specs.ProgramExpr.{Expr}
use Rattle.ss_store.specs.Tables.{set_of}
use Rattle.ss_store.specs.Store.{number_of}
use Rattle.ss_store.specs.Filing.{walk_first, walk_last, walk_next, walk_prev, is_in}
use Rattle.ss_values.specs.Faults.{◌>>=◌, ◌>>◌, refuse_if}
use Rattle.ss_values.specs.Values.{Readings, variable_value, value_of, subscript_value, number_value}
use Rattle.ss_words.specs.Ranges.{in_range}
use Rattle.ss_values.specs.Conditions.{holds}

-- ---- open loops

-- the range of an open loop: numbers in a direction up to the last one, each a step further than
-- the one before; or the members of the list of a set, by its number, for the owner that a value
-- names
pub data Walk : Type 0 where
  Numbers : Direction → ℤ → ℤ → Walk
  Members : Direction → ℕ → ℤ → Walk

-- an open loop
pub record OpenLoop : Type 0 where
  -- the place of its FOR phrase
  pub phrase : ℕ
  -- the candidate that comes next, if one is left
  pub candidate : Option ℤ
  -- its range
  pub walk : Walk

-- the innermost one
abbrev pub innermost : List OpenLoop → Option OpenLoop
innermost [] = None
innermost (l ∷ ls) = Some l

-- with another candidate of the innermost one
abbrev pub loops_with_candidate : Option ℤ → List OpenLoop → List OpenLoop
loops_with_candidate c [] = []
loops_with_candidate c (l ∷ ls) = record l { candidate = c } ∷ ls

-- the innermost loop, if it is that of the phrase at this place
abbrev pub loop_of_phrase : ℕ → Option OpenLoop → Option OpenLoop
loop_of_phrase place None = None
loop_of_phrase place (Some l) = if nat_eq l.phrase place then Some l else None

-- ---- candidates

-- a candidate is not above the last number; counting down, not below it
abbrev pub candidate_within : Direction → ℤ → ℤ → Option ℤ
candidate_within Onward last x = if int_le x last then Some x else None
candidate_within Backward last x = if int_le last x then Some x else None

-- the number a step further
abbrev pub number_behind : Direction → ℤ → ℤ → ℤ
number_behind Onward step x = x +ℤ step
number_behind Backward step x = x -ℤ step

-- the number after another one; past the integers' end there is none
abbrev pub next_number : Direction → ℤ → ℤ → ℤ → Option ℤ
next_number direction last step x =
    if in_range (number_behind direction step x) then candidate_within direction last (number_behind direction step x)
    else None

-- ---- members

-- the first member of a walk in a direction, or none; the set by its number, the owner by a value
abbrev pub end_member : Readings → Direction → ℕ → ℤ → Result (Option ℕ) RunFault
end_member readings Onward s o = walk_first (set_of readings.tables s) readings.store (number_of o)
end_member readings Backward s o = walk_last (set_of readings.tables s) readings.store (number_of o)

-- the member after another one in this direction, or none
abbrev pub member_behind : Readings → Direction → ℕ → ℤ → ℤ → Result (Option ℕ) RunFault
member_behind readings Onward s o x = walk_next (set_of readings.tables s) readings.store (number_of o) (number_of x)
member_behind readings Backward s o x = walk_prev (set_of readings.tables s) readings.store (number_of o) (number_of x)

-- a member, if there is one, as a candidate
abbrev pub as_candidate : Option ℕ → Result (Option ℤ) RunFault
as_candidate None = Ok None
as_candidate (Some k) = number_value k >>= λ x. Ok (Some x)

-- F14 if a member is no longer in its list
abbrev pub unless_left : Result (Option ℕ) RunFault → Result (Option ℤ) RunFault
unless_left (Ok k) = as_candidate k
unless_left (Err f) = Err MemberLeft

-- a walk through a list is of one of n sets
abbrev pub IsSoundWalk : ℕ → Walk → Type 0
IsSoundWalk n (Numbers d last step) = Unit {0}
IsSoundWalk n (Members d s o) = s < n

-- the walks of open loops are sound
abbrev pub AreSoundWalks : ℕ → List OpenLoop → Type 0
AreSoundWalks n [] = Unit {0}
AreSoundWalks n (l ∷ ls) = IsSoundWalk n l.walk × AreSoundWalks n ls

-- the candidate after another one, or none; F14 if that one is no longer in the list
abbrev pub next_candidate : Readings → Walk → ℤ → Result (Option ℤ) RunFault
next_candidate readings (Numbers d last step) x = Ok (next_number d last step x)
next_candidate readings (Members d s o) x =
    unless_left (member_behind readings d s o x)

-- the value of BY, 1 if it is not written
abbrev pub step_value : Readings → Option Expr → Result ℤ RunFault
step_value readings None = Ok (pos 1)
step_value readings (Some e) = value_of readings e

-- a loop over numbers, or F15 if its step is below 1
abbrev pub number_loop : ℕ → Direction → ℤ → ℤ → ℤ → Result OpenLoop RunFault
number_loop place direction first last step =
    refuse_if (int_lt step (pos 1)) StepBelowOne
    >> Ok (record {
      phrase = place;
      candidate = candidate_within direction last first;
      walk = Numbers direction last step;
    })

-- F5 if the member that FROM or AFTER names is not in the list
abbrev pub member_named : Readings → ℕ → ℤ → ℤ → Result ℤ RunFault
member_named readings s o y =
    is_in (set_of readings.tables s) readings.store (number_of o) (number_of y)
    >>= λ b. refuse_if (not b) NotInList >> Ok y

-- the first candidate of a walk through the list of a set for the owner that a value names
abbrev pub candidate_at_begin : Readings → Direction → ℕ → ℤ → Begin → Result (Option ℤ) RunFault
candidate_at_begin readings direction s o AtTheEnd = end_member readings direction s o >>= as_candidate
candidate_at_begin readings direction s o (From e) =
    value_of readings e >>= λ y. member_named readings s o y >>= λ z. Ok (Some z)
candidate_at_begin readings direction s o (After e) =
    value_of readings e >>= λ y. member_named readings s o y >>= λ z. member_behind readings direction s o z
    >>= as_candidate

-- a loop through the list of a set, for the owner that a value names
abbrev pub list_loop : ℕ → Direction → ℕ → ℤ → Option ℤ → OpenLoop
list_loop place direction s o c = record { phrase = place; candidate = c; walk = Members direction s o }

-- the loop that the entry of the phrase at a place opens: its bounds and its step are evaluated
-- once; EACH goes from 1 up to N.c by 1; a walk goes through the list of an owner that is evaluated
-- once
abbrev pub loop_at_entry : Readings → ℕ → Phrase → Result OpenLoop RunFault
loop_at_entry readings place (Counting d x first last step) =
    value_of readings first >>= λ a. value_of readings last >>= λ b. step_value readings step
    >>= λ c. number_loop place d a b c
loop_at_entry readings place (Each class is_called x count) =
    number_loop place Onward (pos 1) (variable_value readings (Global count)) (pos 1)
loop_at_entry readings place (Walking d x r begin) =
    subscript_value readings r.owner >>= λ o. candidate_at_begin readings d r.set o begin
    >>= λ c. Ok (list_loop place d r.set o c)

-- the variable to which a candidate goes
abbrev pub loop_variable : Phrase → Variable
loop_variable (Counting d x first last step) = x
loop_variable (Each class is_called x count) = x
loop_variable (Walking d x r begin) = x

-- ---- qualifiers

-- the verdict on a candidate: the next place follows, the candidate is passed over, the loop closes
pub data Verdict : Type 0 where
  Runs Passes Closes : Verdict

-- a false WITH or a true UNLESS passes the candidate over; a false WHILE or a true UNTIL closes the loop; else the rest
-- decides
abbrev pub verdict_by : QualifierWord → Bool → Result Verdict RunFault → Result Verdict RunFault
verdict_by With b rest = if b then rest else Ok Passes
verdict_by Unless b rest = if b then Ok Passes else rest
verdict_by While b rest = if b then rest else Ok Closes
verdict_by Until b rest = if b then Ok Closes else rest

-- the verdict of the qualifiers, in written order
abbrev pub verdict_of : Readings → List Qualifier → Result Verdict RunFault
verdict_of readings [] = Ok Runs
verdict_of readings (q ∷ qs) = holds readings q.condition >>= λ b. verdict_by q.word b (verdict_of readings qs)
