use Rattle.std.proofs.Common.{◌∙◌, sym, length}
use Rattle.ss_words.specs.Words.{kind_of}
use Rattle.ss_words.specs.TextLines.{text_lines}
use Rattle.ss_words.proofs.TextFinds.{is_first-refused}
use Rattle.ss_words.proofs.TextWordSteps.{goes-kept, first-lacking}
use Rattle.ss_words.proofs.scan.line.scan_word.Goals as goal

pub returns-then-lacks_picture : goal.returns-then-lacks_picture
returns-then-lacks_picture c =
    is_first-refused _ _ _ _ c.refused.ensures
    (first-lacking c.args.below.now.taken (length (text_lines c.args.below.now.rest.now)) c.args.rest.now
    c.args.words.now c.push.new.self (kind_of c.args.kind) c.in_ok-push.ensures
    (sym c.lacks_picture.ensures ∙ c.if-lacks_picture.true))

pub returns : goal.returns
returns c =
    goes-kept c.args.below.now.taken (length (text_lines c.args.below.now.rest.now)) c.args.rest.now c.args.words.now
    c.push.new.self (kind_of c.args.kind) c.in_ok-push.ensures (sym c.lacks_picture.ensures ∙ c.if-lacks_picture.false)
