use Rattle.std.proofs.Common.{refl}
use Rattle.ss_words.specs.TextBytes.{in_run}
use Rattle.ss_words.specs.TextRuns.{without_stops}
use Rattle.ss_state.proofs.examples.an_entry_waits_and_runs.Goals as goal

pub returns-clause-waits : goal.returns-clause-waits
unfolding in_run without_stops
returns-clause-waits c = refl

pub returns-clause-taken : goal.returns-clause-taken
unfolding in_run without_stops
returns-clause-taken c = refl

pub returns-clause-runs : goal.returns-clause-runs
unfolding in_run without_stops
returns-clause-runs c = refl

pub returns-clause-clock : goal.returns-clause-clock
unfolding in_run without_stops
returns-clause-clock c = refl

pub returns-clause-passed : goal.returns-clause-passed
unfolding in_run without_stops
returns-clause-passed c = refl

pub returns-clause-end : goal.returns-clause-end
unfolding in_run without_stops
returns-clause-end c = refl
