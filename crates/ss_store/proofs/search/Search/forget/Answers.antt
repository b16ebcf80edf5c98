use Rattle.std.proofs.Common.{ap, ◌∙◌}
use Rattle.ss_store.specs.Order.{known_at, known_in}
use Rattle.ss_store.proofs.Rounds.{next_round}
use Rattle.ss_store.proofs.search.Search.forget.Goals as goal

pub returns-in-Some : goal.returns-in-Some
returns-in-Some c h = ap (λ n. known_at (known_in c.self.inside.rounds.items n) h) c.in-Some.ensures.1
    ∙ next_round c.self.inside.rounds.items c.self.inside.round h c.self.invariant
