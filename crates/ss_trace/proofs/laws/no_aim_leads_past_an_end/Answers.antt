use Rattle.ss_trace.proofs.Aims.{aims_pass_none}
use Rattle.ss_trace.proofs.laws.no_aim_leads_past_an_end.Goals as goal

pub returns : goal.returns
returns c = aims_pass_none
