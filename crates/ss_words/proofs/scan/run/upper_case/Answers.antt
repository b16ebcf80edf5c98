use Rattle.std.proofs.Common.{rules}
use Rattle.ss_words.proofs.scan.run.upper_case.Goals as goal

pub returns : goal.returns
returns c = search rules
