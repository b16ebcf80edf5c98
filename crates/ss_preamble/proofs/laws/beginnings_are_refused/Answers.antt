use Rattle.ss_preamble.proofs.Beginnings.{beginnings_are_refused}
use Rattle.ss_preamble.proofs.laws.beginnings_are_refused.Goals as goal

pub returns : goal.returns
returns c = beginnings_are_refused
