use Rattle.ss_preamble.proofs.AnswerAtStop.{unexpected_of}
use Rattle.ss_preamble.proofs.text.fault.Goals as goal

pub unexpected-requires : goal.unexpected-requires
unexpected-requires c = record {
  begins = c.requires.begins;
  stopped =
      unexpected_of c.args.text.now c.args.cursor.now c.args.refusal c.in-Unexpected.is c.requires.stopped;
}
