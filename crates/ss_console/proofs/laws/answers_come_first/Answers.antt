use Rattle.ss_console.proofs.Order.{whole_before}
use Rattle.ss_console.proofs.laws.answers_come_first.Goals as goal

pub returns : goal.returns
returns g c = whole_before g.A.Answerer.meaning
