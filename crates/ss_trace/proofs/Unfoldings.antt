-- Definitions that laws unfold together.
use Rattle.std.specs.Prelude.{⊤}
use Rattle.std.specs.Fmt.{digits}
use Rattle.ss_debug.specs.Move.{least}
use Rattle.ss_debug.specs.Answer.{clock_text, var_text, taken_text, entry_text, events_text, report_text}
use Rattle.ss_debug.specs.Entities.{entity_text, set_text}
use Rattle.ss_trace.specs.Question.{attribute_text, count_text}
use Rattle.ss_trace.specs.History.{positions_where, no_change_head, history_text}

-- answers, searches and histories
unfoldable pub answers_together : ⊤
unfolding digits least clock_text var_text taken_text entry_text events_text report_text entity_text set_text
    attribute_text count_text positions_where no_change_head history_text
answers_together = tt
