use Rattle.std.proofs.Common.{sym, subst}
use Rattle.ss_program.specs.ProgramSound.{IsSoundExpr}
use Rattle.ss_state.specs.Frames.{frame_at}
use Rattle.ss_state.specs.Readings.{IsSoundIn}
use Rattle.ss_state.specs.Well.{IsWell}
use Rattle.ss_machine.specs.Moment.{Moment}
use Rattle.ss_machine.proofs.InFrames.{expression_there}
use Rattle.ss_machine.proofs.machine.Machine.value_in.Goals as goal

pub value-requires : goal.value-requires
value-requires g c =
    let h = c.self.inside.executor.held in
    expression_there c.self.inside.program h.beside.tables h.state c.args.depth c.args.e.now _
    (subst (λ (m : Moment). IsWell m.input.program m.state) (sym c.self.view_is) c.known.ensures.well)
    c.self.invariant.tables c.in_ok-view.ensures
    (subst (λ (m : Moment). IsSoundIn IsSoundExpr m.input.program (frame_at m.state c.args.depth) c.args.e.now)
    (sym c.self.view_is) c.requires)
