-- What the code has of what is traced, as pure data.
use Rattle.std.specs.Prelude.{ℕ, List, [], ◌∷◌}
use Rattle.ss_program.specs.Program.{ProgramTable}
use Rattle.ss_run.specs.declared.watched.Watched.{Watched as Code}
use Rattle.ss_run.specs.declared.watched.Watched.TheVariants as code
use Rattle.ss_run.specs.Watched.{Watched, question, formula, IsSoundWatched}

-- a question; or a text, and its meaning
abbrev pub watched_view : Code → Watched
watched_view (code.Question x) = question x.now
watched_view (code.Formula text meaning) = formula text.now meaning

-- all of them name only what exists in the runs of a program
unfoldable pub AreSound : ProgramTable → List Code → Type 0
AreSound program [] = Unit {0}
AreSound program (x ∷ xs) = IsSoundWatched program (watched_view x) × AreSound program xs
