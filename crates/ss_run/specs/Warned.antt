-- The warnings of a model: the suspicious parts of its text and its program.
use Rattle.std.specs.Prelude.{ℕ, ◌≡◌, List, ◌++◌}
use Rattle.ss_session.specs.Model.{Outcome, refused_text, refused_check, accepted, IsOutcome}
use Rattle.ss_names.specs.Unused.{program_warnings}
use Rattle.ss_names.specs.Warnings.{warnings}

-- the warnings of a model's words, and after them those of its program, if it is one
abbrev pub warnings_of : List ℕ → Outcome → List ℕ
warnings_of model (refused_text rule line) = warnings model
warnings_of model (refused_check rule line) = warnings model
warnings_of model (accepted program) = warnings model ++ program_warnings program model

-- a text is the warnings of a model
abbrev pub IsWarned : List ℕ → List ℕ → Type 0
IsWarned model text = (outcome : Outcome) × IsOutcome model outcome × (text ≡ warnings_of model outcome)
