use Rattle.std.proofs.Common.{ap, sym, ◌∙◌}
use Rattle.std.specs.Prelude.{slice_set}
use Rattle.ss_store.proofs.Rounds.{noted_if}
use Rattle.ss_store.proofs.search.Search.note.Goals as goal
use Rattle.ss_store.proofs.search.Search.note.Goals.{then-known, else-known}

pub returns-after-known : goal.returns-after-known
returns-after-known c =
    noted_if c.self.inside.rounds.items c.self.inside.round c.args.head _ c.args.known c.self.invariant.0
    (λ yes. elim c.if-known.branch [
      | then-known w ↦ w.t-12-is
      | else-known w ↦ absurd (let bad = sym w.if-known.false ∙ yes in cc)
    ]) (λ no. elim c.if-known.branch [
      | then-known w ↦ absurd (let bad = sym w.if-known.true ∙ no in cc)
      | else-known w ↦ w.t-12-is
    ]) ∙ ap (λ known. slice_set known c.args.head c.args.known) c.self.view_is
