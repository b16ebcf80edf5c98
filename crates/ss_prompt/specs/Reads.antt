-- The answer to READS.
use Rattle.std.specs.Prelude.{ℕ, List}
use Rattle.ss_reads.specs.Answers.{reads_text}
use Rattle.ss_prompt.specs.PromptState.{PromptState}

-- what the statement that runs next, or that faulted, looks at
abbrev pub reads_said : PromptState → List ℕ
reads_said state = reads_text state.input state.debugger.earliest state.debugger.position
