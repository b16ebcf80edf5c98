use Rattle.ss_events.proofs.Steps.{refused-same}
use Rattle.model_tests.proofs.events.steps.schedule.Goals as goal

pub returns-in-Err-Fault-clause-fits : goal.returns-in-Err-Fault-clause-fits
returns-in-Err-Fault-clause-fits g c = rw (
  c.reserve.ensures.steps,
  refused-same _ _ c.args.agenda.now _ _ c.in-Err-Fault.ensures,
) c.requires.fits
