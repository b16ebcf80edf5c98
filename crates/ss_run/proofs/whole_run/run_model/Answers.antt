use Rattle.ss_run.proofs.Reports.{refused_says, run_says}
use Rattle.ss_run.proofs.whole_run.run_model.Goals as goal

pub returns-in-Ok : goal.returns-in-Ok
returns-in-Ok g c = run_says _ _ _ _ _ _ _ _ c.in-Ok.ensures.symbols c.run_loaded.ensures

pub returns-in-Err : goal.returns-in-Err
returns-in-Err g c = refused_says _ _ _ _ _ _ c.refusal.ensures c.in-Err.ensures.err
