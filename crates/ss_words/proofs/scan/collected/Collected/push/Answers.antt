use Rattle.std.proofs.Common.{ap, map, ◌∙◌}
use Rattle.std.proofs.lemmas.List.{map-append}
use Rattle.ss_words.specs.Words.{word_at}
use Rattle.ss_words.proofs.TextIsTracked.{tracked-push}
use Rattle.ss_words.proofs.scan.collected.Collected.push.Goals as goal

-- the tracked facts about the words stay true of them
pub invariant_of-self-2 : goal.invariant_of-self-2
invariant_of-self-2 c =
    rw (
      c.is_name-is_as.ensures,
      c.is_name-is_print.ensures,
      c.called_after-calls_picture.ensures,
      c.count_after-lines.ensures,
    )
    (tracked-push _ _ _ _ _ _ _ (ap (map word_at) c.in_ok-push.ensures.items ∙ map-append word_at _ _) c.self.invariant)
