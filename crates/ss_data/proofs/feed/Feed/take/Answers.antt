use Rattle.std.proofs.Common.{ap, sym, ◌∙◌, w64}
use Rattle.std.proofs.lemmas.Int.{to_z-of_z}
use Rattle.std.specs.Option.{option_copied}
use Rattle.ss_data.proofs.NumberLemmas.{number-fits}
use Rattle.ss_data.proofs.ItemLemmas.{next_value-at}
use Rattle.ss_data.proofs.feed.Feed.take.Goals as goal

pub returns-clause-value : goal.returns-clause-value
returns-clause-value c =
    let written = sym c.parse_number.ensures ∙ c.in_ok-value.ensures.ok_part in
    let next = sym c.get.ensures.piece ∙ ap option_copied c.in_ok-piece.ensures.ok_part in
    rw (to_z-of_z w64 c.in_ok-value.value (number-fits c.in_ok-piece.piece.now c.in_ok-value.value written))
    (sym (next_value-at c.self.inside.pieces c.self.inside.taken c.args.self.now c.in_ok-piece.piece.now
    c.in_ok-value.value c.self.view_is next written))
