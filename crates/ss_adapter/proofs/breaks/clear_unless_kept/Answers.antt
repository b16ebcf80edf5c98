use Rattle.std.proofs.Common.{◌≡◌, ◌∙◌, sym, false}
use Rattle.std.specs.Prelude.{nat_eq}
use Rattle.std.specs.List.{list_any}
use Rattle.ss_debug.specs.Turn.{debugger_state_after}
use Rattle.ss_adapter.proofs.breaks.clear_unless_kept.Goals as goal

pub returns-clause-state : goal.returns-clause-state
unfolding debugger_state_after
returns-clause-state g c =
    let none : list_any (λ k. nat_eq k c.args.line) c.args.kept.now ≡ false =
    sym c.is_kept.ensures ∙ c.if-is_kept.false in
    rw none c.in_ok-obey.ensures.place
