-- Definitions that laws unfold together.
use Rattle.std.specs.Prelude.{⊤}
use Rattle.std.specs.Fmt.{digits}
use Rattle.ss_changes.specs.Changes.{changed_at, movement_changes}
use Rattle.ss_changes.specs.Texts.{changed_text, stop_changes, stop_changes_ahead, stop_changes_since, all_changes_since}

-- the texts that are shown
unfoldable pub answers_together : ⊤
unfolding digits changed_at movement_changes changed_text stop_changes stop_changes_ahead stop_changes_since all_changes_since
answers_together = tt
