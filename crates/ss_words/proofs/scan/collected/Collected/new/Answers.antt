use Rattle.std.proofs.Common.{ap, map}
use Rattle.ss_words.specs.Words.{word_at}
use Rattle.ss_words.proofs.TextIsTracked.{tracked-nil}
use Rattle.ss_words.proofs.scan.collected.Collected.new.Goals as goal

pub invariant_of-result : goal.invariant_of-result
invariant_of-result c = tracked-nil _ (ap (map word_at) c.new.ensures.items)
