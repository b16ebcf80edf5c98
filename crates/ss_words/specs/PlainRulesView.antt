-- The rules of the definitions that the code's rules of the plain words mean.
use Rattle.ss_words.specs.declared.plain_rules.Around.{Around}
use Rattle.ss_words.specs.declared.plain_rules.Rule.{Rule}
use Rattle.ss_words.specs.declared.plain_rules.Rule.TheVariants as code
use Rattle.ss_words.specs.PlainRules.{Surroundings, PlainRule, as_follows, without_fillers, by_governing_word}
use Rattle.ss_words.specs.PlainRules.{single_commas}
use Rattle.ss_words.specs.PlainRules.{parting_commas}

-- the surroundings of a word, as the code keeps them
abbrev pub surroundings_of : Around → Surroundings
surroundings_of around = record { before = around.before; governing = around.governing; behind = around.behind }

-- the rule that a value of the code names
abbrev pub rule_of : Rule → PlainRule
rule_of code.AsFollows = as_follows
rule_of code.WithoutFillers = without_fillers
rule_of code.ByGoverningWord = by_governing_word
rule_of code.SingleCommas = single_commas
rule_of code.PartingCommas = parting_commas
