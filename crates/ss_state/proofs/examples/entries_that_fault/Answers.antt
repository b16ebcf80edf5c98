use Rattle.std.proofs.Common.{refl}
use Rattle.ss_words.specs.TextBytes.{in_run}
use Rattle.ss_words.specs.TextRuns.{without_stops}
use Rattle.ss_state.proofs.examples.entries_that_fault.Goals as goal

pub returns-clause-name : goal.returns-clause-name
unfolding in_run without_stops
returns-clause-name c = refl

pub returns-clause-time : goal.returns-clause-time
unfolding in_run without_stops
returns-clause-time c = refl

pub returns-clause-none : goal.returns-clause-none
unfolding in_run without_stops
returns-clause-none c = refl

pub returns-clause-before : goal.returns-clause-before
unfolding in_run without_stops
returns-clause-before c = refl

pub returns-clause-mark : goal.returns-clause-mark
unfolding in_run without_stops
returns-clause-mark c = refl

pub returns-clause-no_mark : goal.returns-clause-no_mark
unfolding in_run without_stops
returns-clause-no_mark c = refl
