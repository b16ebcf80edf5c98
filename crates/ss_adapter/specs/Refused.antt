-- The explanation of the refusal of a model.
use Rattle.std.specs.Prelude.{ℕ, ◌≡◌, List, []}
use Rattle.ss_session.specs.declared.load.LoadFault.{LoadFault}
use Rattle.ss_session.specs.declared.load.LoadFault.TheVariants.{Text, Check, Memory}
use Rattle.ss_sentences.specs.Refusals.{IsSaid}
use Rattle.ss_prompt.specs.Explained.{check_explanation}

-- the explanation of a refusal; for a text, the word, its place, and the words that could be there
abbrev pub IsExplained : LoadFault → List ℕ → List ℕ → Type 0
IsExplained (Text rule line) model said = IsSaid model said
IsExplained (Check rule line wrong) model said = said ≡ check_explanation model rule line wrong
IsExplained Memory model said = said ≡ []
