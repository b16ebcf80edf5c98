use Rattle.std.proofs.Common.{refl}
use Rattle.ss_words.specs.TextBytes.{in_run}
use Rattle.ss_words.specs.TextRuns.{without_stops}
use Rattle.ss_state.proofs.examples.what_an_event_leaves_of_its_entry_is_passed.Goals as goal

pub returns : goal.returns
unfolding in_run without_stops
returns c = refl
