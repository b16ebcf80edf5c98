-- Private: the glance and the answer that are kept of a traced question, from state to state.
use Rattle.std.specs.Prelude.{ℕ, Bool, true, false, List, [], if◌then◌else◌}
use Rattle.ss_state.specs.Run.{Input}
use Rattle.ss_debug.specs.declared.commands.Question.TheVariants as shown
use Rattle.ss_trace.specs.declared.question.Question.{Question}
use Rattle.ss_trace.specs.declared.question.Question.TheVariants.{Shown}
use Rattle.ss_trace.specs.Question.{answer_at}
use Rattle.ss_run.specs.declared.glance.Glance.{Glance}
use Rattle.ss_run.specs.declared.followed.Followed.{Followed}
use Rattle.ss_run.specs.Glance.{glance_at}

-- whether a question asks for the report
abbrev pub is_report : Question → Bool
is_report (Shown shown.Report) = true
is_report question = false

-- the answer that is kept in state p: none for the report, whose length is in the glance
abbrev pub answer_kept : Input → Question → ℕ → List ℕ
answer_kept input question p = if is_report question then [] else answer_at input question p

-- the glance and the answer that are kept in state p
abbrev pub kept_at : Input → Question → ℕ → Glance × List ℕ
kept_at input question p = (glance_at input question p, answer_kept input question p)

-- the glance and the answer in a value of the code
abbrev pub kept_in : Followed → Glance × List ℕ
kept_in followed = (followed.glance, followed.answer.items)
