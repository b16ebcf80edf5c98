use Rattle.ss_words.specs.PlainRulesView.{rule_of}
use Rattle.ss_words.proofs.PlainFollowing.{IsFollowedInPlace}
use Rattle.ss_words.proofs.plain_list.follow.Given as goal

abbrev pub invariant-loop-index : goal.invariant-loop-index
invariant-loop-index l =
    IsFollowedInPlace (rule_of l.rule) l.fn.words.items l.before l.governing l.words.items l.kept l.index
