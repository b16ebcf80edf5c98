use Rattle.ss_scopes.proofs.Paging.{page_none, page_more}
use Rattle.ss_scopes.proofs.frames.push_globals.Goals as goal

pub loop-k-init : goal.loop-k-init
loop-k-init g c = page_none _ _ _

pub loop-k-preserved : goal.loop-k-preserved
loop-k-preserved g c = page_more _ _ _ _ _ _ c.loop-k.invariant c.in_ok-push_global.ensures
