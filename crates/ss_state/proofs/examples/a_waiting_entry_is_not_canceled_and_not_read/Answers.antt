use Rattle.std.proofs.Common.{refl}
use Rattle.ss_words.specs.TextBytes.{in_run}
use Rattle.ss_words.specs.TextRuns.{without_stops}
use Rattle.ss_state.proofs.examples.a_waiting_entry_is_not_canceled_and_not_read.Goals as goal

pub returns-clause-cancel : goal.returns-clause-cancel
unfolding in_run without_stops
returns-clause-cancel c = refl

pub returns-clause-read : goal.returns-clause-read
unfolding in_run without_stops
returns-clause-read c = refl
