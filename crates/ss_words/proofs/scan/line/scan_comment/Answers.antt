use Rattle.std.proofs.Common.{◌∙◌, sym}
use Rattle.ss_words.proofs.TextFinds.{is_first-refused}
use Rattle.ss_words.proofs.TextComments.{found-comment, first-comment}
use Rattle.ss_words.proofs.scan.line.scan_comment.Goals as goal

pub returns-then-all_allowed-clause-found : goal.returns-then-all_allowed-clause-found
returns-then-all_allowed-clause-found c = λ below before.
    found-comment c.args.line below before c.args.rest.now c.comment_len-len.result c.requires
    c.comment_len-len.ensures.len (sym c.all_allowed.ensures ∙ c.if-all_allowed.true)

pub returns-else-all_allowed-clause-found : goal.returns-else-all_allowed-clause-found
returns-else-all_allowed-clause-found c = λ below before.
    is_first-refused _ _ _ _ c.refused.ensures
    (first-comment c.args.line below before c.args.rest.now c.comment_len-len.result c.requires
    c.comment_len-len.ensures.len (sym c.all_allowed.ensures ∙ c.if-all_allowed.false))
