use Rattle.std.proofs.Common.{sym, ◌∙◌}
use Rattle.ss_preamble.proofs.AnswerAtStop.{no_preamble}
use Rattle.ss_preamble.proofs.text.read.Goals as goal

pub returns-then-not-is_next-clause-declared : goal.returns-then-not-is_next-clause-declared
returns-then-not-is_next-clause-declared c =
    let asked = rw c.new-cursor.ensures at c.is_next.ensures in
    no_preamble c.args.text.now _ (sym asked ∙ c.if-not-is_next.true) c.nothing.ensures

-- a refusal declares nothing
pub returns-in-Err-clause-declared : goal.returns-in-Err-clause-declared
returns-in-Err-clause-declared c = tt
