use Rattle.std.proofs.Common.{arith}
use Rattle.ss_machine.specs.Seen.{input_of}
use Rattle.ss_machine.proofs.Moments.{newest_few, stands_on_newest, forgot}
use Rattle.ss_machine.proofs.machine.Machine.forget.Goals as goal

pub invariant_of-self : goal.invariant_of-self
invariant_of-self g c =
    let h = c.self.inside.executor.held in
    let j = c.self.inside.executor.journal in
    stands_on_newest (input_of c.self.inside.program h.state) c.args.n c.self.inside.forgotten _ h j
    c.keep_last.new.self
    c.self.invariant c.keep_last.ensures.steps c.keep_last.ensures.current
    (omega (arith, c.steps-steps.ensures, c.steps.ensures, newest_few c.args.n j.steps _ c.keep_last.ensures.steps))

pub returns : goal.returns
returns g c =
    let h = c.self.inside.executor.held in
    let all = c.self.inside.executor.journal.steps in
    rw (← c.self.view_is)
    (forgot (input_of c.self.inside.program h.state) c.args.n c.self.inside.forgotten _ h all c.keep_last.new.self.steps
    c.keep_last.ensures.steps (omega (
      arith,
      c.steps-steps.ensures,
      c.steps.ensures,
      newest_few c.args.n all _ c.keep_last.ensures.steps,
    )))
