use Rattle.ss_sentences.proofs.TypedLines.{added, rest_whole}
use Rattle.ss_sentences.proofs.typed.+words_end.Goals as goal

pub returns-clause-len : goal.returns-clause-len
returns-clause-len n c =
    added c.args.words c.args.line.now _ c.first_end-end.result c.words_end.result c.if-words-eq0.false
    c.first_end-end.ensures.len c.words_end.ensures.len (rest_whole c.args.line.now c.first_end-end.result)
