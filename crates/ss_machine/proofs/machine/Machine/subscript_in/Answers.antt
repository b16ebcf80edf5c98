use Rattle.std.proofs.Common.{sym, subst}
use Rattle.ss_program.specs.ProgramSound.{IsSoundSubscript}
use Rattle.ss_state.specs.Frames.{frame_at}
use Rattle.ss_state.specs.Readings.{IsSoundIn}
use Rattle.ss_state.specs.Well.{IsWell}
use Rattle.ss_machine.specs.Moment.{Moment}
use Rattle.ss_machine.proofs.InFrames.{subscript_there}
use Rattle.ss_machine.proofs.machine.Machine.subscript_in.Goals as goal

pub subscript_value-requires : goal.subscript_value-requires
subscript_value-requires g c =
    let h = c.self.inside.executor.held in
    subscript_there c.self.inside.program h.beside.tables h.state c.args.depth c.args.index.now _
    (subst (λ (m : Moment). IsWell m.input.program m.state) (sym c.self.view_is) c.known.ensures.well)
    c.self.invariant.tables c.in_ok-view.ensures
    (subst (λ (m : Moment). IsSoundIn IsSoundSubscript m.input.program (frame_at m.state c.args.depth) c.args.index.now)
    (sym c.self.view_is) c.requires)
