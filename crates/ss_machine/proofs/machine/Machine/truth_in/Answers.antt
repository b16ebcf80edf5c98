use Rattle.std.proofs.Common.{sym, subst}
use Rattle.ss_program.specs.ProgramSound.{IsSoundCondition}
use Rattle.ss_state.specs.Frames.{frame_at}
use Rattle.ss_state.specs.Readings.{IsSoundIn}
use Rattle.ss_state.specs.Well.{IsWell}
use Rattle.ss_machine.specs.Moment.{Moment}
use Rattle.ss_machine.proofs.InFrames.{condition_there}
use Rattle.ss_machine.proofs.machine.Machine.truth_in.Goals as goal

pub holds-requires : goal.holds-requires
holds-requires g c =
    let h = c.self.inside.executor.held in
    condition_there c.self.inside.program h.beside.tables h.state c.args.depth c.args.c.now _
    (subst (λ (m : Moment). IsWell m.input.program m.state) (sym c.self.view_is) c.known.ensures.well)
    c.self.invariant.tables c.in_ok-view.ensures
    (subst (λ (m : Moment). IsSoundIn IsSoundCondition m.input.program (frame_at m.state c.args.depth) c.args.c.now)
    (sym c.self.view_is) c.requires)
