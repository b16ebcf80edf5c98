use Rattle.std.proofs.Common.{◌≡◌, ◌≤◌, ◌∷◌, ◌∙◌, length, sym, rules}
use Rattle.std.specs.String.{string_bytes}
use Rattle.simscript2.proofs.FewWords.{wrong_among_few}
use Rattle.simscript2.proofs.paths.are_wrong_words.Goals as goal

pub returns-else-paths-gt-MOST_PATHS : goal.returns-else-paths-gt-MOST_PATHS
returns-else-paths-gt-MOST_PATHS c =
    let few : length c.in-Some.paths.now ≤ 3 = search rules in
    let first : c.args.words.now ≡ c.in-Some.field-0-0.now ∷ c.in-Some.paths.now = search rules in
    c.has_option.ensures ∙ sym (wrong_among_few string_bytes _ _ _ first few)
