use Rattle.ss_run.proofs.Traces.{trace_says, refused_trace_says}
use Rattle.ss_run.proofs.traced.trace_model.Goals as goal

pub returns-in-Ok : goal.returns-in-Ok
returns-in-Ok g c = trace_says _ _ _ _ _ _ _ _ _ _ _ c.in-Ok.ensures.symbols c.trace_loaded.ensures

pub returns-in-Err : goal.returns-in-Err
returns-in-Err g c = refused_trace_says _ _ _ _ _ _ _ _ c.refusal.ensures c.in-Err.ensures.err
