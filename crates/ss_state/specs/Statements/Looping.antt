-- One step of FOR, LOOP, FIND and COMPUTE.
use Rattle.std.specs.Prelude.{ℕ, ℤ, pos, ◌+ℤ◌, int_lt, Bool, true, false, if◌then◌else◌, List, [], ◌∷◌, drop, Option}
use Rattle.std.specs.Prelude.{Some, None, Result, Ok}
use Rattle.std.specs.Int.{int_min, int_max}
use Rattle.ss_words.specs.declared.fault.RunFault.{RunFault}
use Rattle.ss_program.specs.declared.looping.ForPhrase.{ForPhrase}
use Rattle.ss_words.specs.declared.terms.Statistic.{Statistic}
use Rattle.ss_words.specs.declared.terms.Statistic.TheVariants.{Number, Sum, Maximum, Minimum}
use Rattle.ss_program.specs.declared.looping.Telling.{Telling}
use Rattle.ss_program.specs.declared.looping.Looping.{Looping}
use Rattle.ss_program.specs.declared.looping.Looping.TheVariants.{For, Loop, Find, Gather, Tell}
use Rattle.ss_program.specs.declared.ways.Resets.{Resets}
use Rattle.ss_program.specs.declared.ways.Resets.TheVariants as resets
use Rattle.ss_program.specs.declared.ways.Ways.{Ways}
use Rattle.ss_store.specs.Tables.{Tables}
use Rattle.ss_state.specs.State.{State, Statistics, no_statistics}
use Rattle.ss_values.specs.Faults.{◌>>=◌}
use Rattle.ss_values.specs.Values.{result_in_range, value_of}
use Rattle.ss_state.specs.Readings.{readings}
use Rattle.ss_state.specs.Loops.{OpenLoop, Verdict, Runs, Passes, Closes, innermost, loops_with_candidate}
use Rattle.ss_state.specs.Loops.{loop_of_phrase, next_candidate, loop_at_entry, loop_variable, verdict_of}
use Rattle.ss_state.specs.Statements.{state_after_result, state_at_place, state_after_assignment, state_with_value}

-- ---- FOR phrases

-- the state with these loops open
abbrev pub state_with_loops : State → List OpenLoop → State
state_with_loops state ls = record state { frame = record state.frame { loops = ls } }

-- the state with this answer of FIND
abbrev pub state_with_found : State → Bool → State
state_with_found state found = record state { frame = record state.frame { found = found } }

-- the state with these statistics
abbrev pub state_with_statistics : State → Statistics → State
state_with_statistics state statistics = record state { frame = record state.frame { statistics = statistics } }

-- the state after the first phrase of a chain has reset the answer of FIND or COMPUTE's statistics
abbrev pub state_after_reset : State → Resets → State
state_after_reset state resets.Nothing = state
state_after_reset state resets.Found = state_with_found state false
state_after_reset state resets.Statistics = state_with_statistics state no_statistics

-- the state after an entry, which opens the loop and stays
abbrev pub state_after_entry : Tables → State → Ways → ForPhrase → State
state_after_entry tables state ways phrase =
    state_after_result state (loop_at_entry (readings tables state) state.frame.place phrase.phrase)
    (λ l. state_after_reset (state_with_loops state (l ∷ state.frame.loops)) ways.resets)

-- the state in which the innermost loop is closed and the last frame is at a place
abbrev pub state_after_closing : ℕ → State → State
state_after_closing place state = state_at_place place (state_with_loops state (drop 1 state.frame.loops))

-- the state in which the loop variable has the candidate x, and c is the following one
abbrev pub state_with_candidate : State → ForPhrase → Option ℤ → ℤ → State
state_with_candidate state phrase c x =
    state_after_assignment (state_with_loops state (loops_with_candidate c state.frame.loops))
    (loop_variable phrase.phrase) x

-- the state after the verdict of the qualifiers
abbrev pub state_after_verdict : Ways → State → Verdict → State
state_after_verdict ways state Runs = state_at_place ways.next state
state_after_verdict ways state Passes = state
state_after_verdict ways state Closes = state_after_closing ways.exit state

-- the state with the candidate x in its variable, and the verdict of the qualifiers in it; F14 if
-- the candidate has left its list
abbrev pub candidate_tried : Tables → State → ForPhrase → OpenLoop → ℤ → Result (State × Verdict) RunFault
candidate_tried tables state phrase loop x =
    next_candidate (readings tables state) loop.walk x
    >>= λ c. verdict_of (readings tables (state_with_candidate state phrase c x)) phrase.qualifiers
    >>= λ v. Ok (state_with_candidate state phrase c x, v)

-- the state after a turn of an open loop, by its candidate
abbrev pub state_after_turn : Tables → State → Ways → ForPhrase → OpenLoop → Option ℤ → State
state_after_turn tables state ways phrase loop None = state_after_closing ways.exit state
state_after_turn tables state ways phrase loop (Some x) =
    state_after_result state (candidate_tried tables state phrase loop x) (λ r. state_after_verdict ways r.0 r.1)

-- the state after a phrase, by its open loop, if it has one
abbrev pub state_after_phrase : Tables → State → Ways → ForPhrase → Option OpenLoop → State
state_after_phrase tables state ways phrase None = state_after_entry tables state ways phrase
state_after_phrase tables state ways phrase (Some l) = state_after_turn tables state ways phrase l l.candidate

-- one step of a phrase
abbrev pub step_phrase : Tables → State → Ways → ForPhrase → State
step_phrase tables state ways phrase =
    state_after_phrase tables state ways phrase (loop_of_phrase state.frame.place (innermost state.frame.loops))

-- ---- FIND and COMPUTE

-- the first value is the greatest
abbrev pub greatest_with : Statistics → ℤ → ℤ
greatest_with statistics x = if int_lt (pos 0) statistics.number then int_max statistics.greatest x else x

-- and the least
abbrev pub least_with : Statistics → ℤ → ℤ
least_with statistics x = if int_lt (pos 0) statistics.number then int_min statistics.least x else x

-- the statistics with one value more; F1 if their number or their sum is out of range
abbrev pub statistics_with : Statistics → ℤ → Result Statistics RunFault
statistics_with statistics x = do
  number ← result_in_range (statistics.number +ℤ pos 1)
  total ← result_in_range (statistics.sum +ℤ x)
  Ok (record { number = number; sum = total; greatest = greatest_with statistics x; least = least_with statistics x })

-- the statistics with the value that was read
abbrev pub statistics_after : Statistics → Result ℤ RunFault → Result Statistics RunFault
statistics_after statistics got = got >>= statistics_with statistics

-- one of the statistics
abbrev pub statistic_value : Statistics → Statistic → ℤ
statistic_value statistics Number = statistics.number
statistic_value statistics Sum = statistics.sum
statistic_value statistics Maximum = statistics.greatest
statistic_value statistics Minimum = statistics.least

-- the state in which the statistics are assigned, target by target
abbrev pub state_after_telling : Tables → Statistics → State → List Telling → Result State RunFault
state_after_telling tables statistics state [] = Ok state
state_after_telling tables statistics state (x ∷ xs) =
    state_with_value tables state x.target (statistic_value statistics x.statistic)
    >>= λ r. state_after_telling tables statistics r xs

-- one step of LOOP, FIND and the two places of COMPUTE: LOOP goes on to its phrase, FIND closes the loops of its chain
abbrev pub step_looping : Tables → State → Ways → Looping → State
step_looping tables state ways (For f) = step_phrase tables state ways f
step_looping tables state ways Loop = state_at_place ways.next state
step_looping tables state ways Find =
    state_at_place ways.next (state_with_loops (state_with_found state true) (drop ways.chain state.frame.loops))
step_looping tables state ways (Gather e) =
    state_after_result state (statistics_after state.frame.statistics (value_of (readings tables state) e))
    (λ g. state_at_place ways.next (state_with_statistics state g))
step_looping tables state ways (Tell xs) =
    state_after_result state (state_after_telling tables state.frame.statistics state xs) (state_at_place ways.next)
