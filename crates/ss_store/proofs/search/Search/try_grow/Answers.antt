use Rattle.std.proofs.Common.{sym, subst, true, ◌≡◌, ◌∙◌}
use Rattle.ss_store.specs.Order.{known_at, known_in}
use Rattle.ss_store.proofs.Rounds.{more_known}
use Rattle.ss_store.proofs.search.Search.try_grow.Goals as goal

pub returns : goal.returns
returns c h e =
    let round = c.self.inside.round in
    subst (λ z. known_at z h ≡ true) c.self.view_is
    (sym (more_known c.self.inside.rounds.items _ round h c.self.invariant.0)
    ∙ subst (λ rs. known_at (known_in rs round) h ≡ true) c.in_ok-add_unknown.ensures.ok e)
