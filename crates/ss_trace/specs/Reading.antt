-- Private: the answer to a question that is followed from state to state.
use Rattle.std.specs.Prelude.{ℕ, ◌≡◌}
use Rattle.ss_state.specs.Run.{Input}
use Rattle.ss_trace.specs.declared.question.Question.{Question}
use Rattle.ss_trace.specs.declared.reading.Reading.{Reading}
use Rattle.ss_trace.specs.Question.{answer_at}
use Rattle.ss_trace.specs.EntityNumbers.{numbers_at}
use Rattle.ss_trace.specs.Sight.{sight_of, IsInTables, glance_at}
use Rattle.ss_trace.specs.Touches.{part_of}

-- it looks at the rows and the part at which the question looks
pub record Looks (input : Input) (question : Question) (r : Reading) : Type 0 where
  -- in the tables
  pub sight : r.sight ≡ sight_of input.program question
  -- which have such rows
  pub within : IsInTables input.program r.sight
  -- the part, next to the glance
  pub part : r.part ≡ part_of question

-- it looks so, and it was read in state p
pub record IsReadAt (input : Input) (question : Question) (p : ℕ) (r : Reading) : Type 0 where
  -- the rows and the part
  pub looks : Looks input question r
  -- the glance
  pub glance : r.glance ≡ glance_at input question p
  -- the numbers of the entity
  pub numbers : r.numbers.items ≡ numbers_at input question p
  -- the answer
  pub answer : r.answer.items ≡ answer_at input question p
