use Rattle.std.proofs.Common.{ℕ, ◌∙◌, sym, ap, take, drop, length, ◌-◌, ◌==◌, List}
use Rattle.std.proofs.lemmas.List.{take_rest}
use Rattle.ss_words.proofs.TextComments.{is_blank_rest-plain, is_blank_rest-comment}
use Rattle.ss_words.proofs.scan.line.is_blank_rest.Goals as goal

pub returns : goal.returns
returns c =
    let behind =
    take_rest c.args.rest.now c.blanks_len.result
    ∙ ap (λ (k : ℕ). drop k c.args.rest.now) c.blanks_len.ensures.len in
    c.is_empty.ensures ∙ sym (is_blank_rest-plain c.args.rest.now _ behind
    (sym c.begins_comment.ensures ∙ c.if-begins_comment.false))

pub returns-then-begins_comment : goal.returns-then-begins_comment
returns-then-begins_comment c =
    let left : List ℕ =
    take (length c.args.rest.now - c.blanks_len.result) (drop c.blanks_len.result c.args.rest.now) in
    let last : List ℕ = take (length left - c.comment_len.result) (drop c.comment_len.result left) in
    let behind =
    take_rest c.args.rest.now c.blanks_len.result
    ∙ ap (λ (k : ℕ). drop k c.args.rest.now) c.blanks_len.ensures.len in
    ap (λ (k : ℕ). k == length last) c.blanks_len-then-begins_comment.ensures.len
    ∙ sym (is_blank_rest-comment c.args.rest.now left c.comment_len.result last behind
    (sym c.begins_comment.ensures ∙ c.if-begins_comment.true) c.comment_len.ensures.len
    (take_rest left c.comment_len.result))
