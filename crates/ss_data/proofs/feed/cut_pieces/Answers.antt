use Rattle.std.proofs.Common.{ap, ◌∙◌, rules}
use borrow.Author.Tests.{tests}
use Rattle.std.specs.Slice.Iter.{split_rest, split_done, split_callee}
use Rattle.std.specs.List.{filter}
use Rattle.ss_data.specs.Pieces.{is_separator, is_piece}
use Rattle.ss_data.proofs.PartLemmas.{parts-end}
use Rattle.ss_data.proofs.feed.cut_pieces.Goals as goal

pub returns : goal.returns
returns c =
    let begun = c.into_iter-part-iterator.ensures.into_iter_gives in
    let all =
    parts-end is_separator c.args.text.now _ _ _ _ _ _ _ c.loop-part.yielded_by c.in-None.is c.next.ensures.steps
    (ap split_rest begun ∙ c.split-part-items.ensures.rest) (ap split_done begun ∙ c.split-part-items.ensures.done)
    (ap split_callee begun ∙ c.split-part-items.ensures.closure) (λ x b q k. search (rules, tests)) in
    c.loop-part.invariant ∙ ap (filter is_piece) all
