use Rattle.std.proofs.Common.{◌≡◌, false, true, ◌∙◌, sym, ap, arith, refl, drop, length-drop}
use Rattle.std.proofs.lemmas.List.{take_rest, drop_all}
use Rattle.ss_words.specs.TextScan.{begins_comment, hidden_len}
use Rattle.ss_words.proofs.TextComments.{begins_comment-len, hidden_len-none, hidden_len-more, hidden_len-end}
use Rattle.ss_words.proofs.scan.line.comment_len.Goals as goal

pub loop-len-init : goal.loop-len-init
loop-len-init c = record { in_range = begins_comment-len c.args.rest.now c.requires; hidden = refl }

pub loop-len-preserved : goal.loop-len-preserved
loop-len-preserved c =
    let other : begins_comment (drop c.loop-len.len c.args.rest.now) ≡ false =
    ap begins_comment (sym (take_rest c.args.rest.now c.loop-len.len)) ∙ sym c.begins_comment.ensures
    ∙ c.if-begins_comment.false in
    let more = hidden_len-more c.args.rest.now c.loop-len.len c.loop-len-test.true other in
    record { in_range = omega arith; hidden = omega arith }

pub returns-then-begins_comment : goal.returns-then-begins_comment
returns-then-begins_comment c =
    let ends : begins_comment (drop c.loop-len.len c.args.rest.now) ≡ true =
    ap begins_comment (sym (take_rest c.args.rest.now c.loop-len.len)) ∙ sym c.begins_comment.ensures
    ∙ c.if-begins_comment.true in
    let two = hidden_len-end (drop c.loop-len.len c.args.rest.now) ends in
    let fits = begins_comment-len (drop c.loop-len.len c.args.rest.now) ends in
    let left = length-drop c.loop-len.len c.args.rest.now in
    record { len = omega arith; in_range = omega arith }

pub returns : goal.returns
returns c =
    let none = ap hidden_len (drop_all c.loop-len.len c.args.rest.now c.loop-len-test.false) ∙ hidden_len-none in
    record { len = omega arith; in_range = omega arith }
