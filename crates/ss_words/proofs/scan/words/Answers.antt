use Rattle.std.proofs.Common.{◌+◌, ◌∙◌, sym, ap, Ok, List}
use Rattle.std.proofs.lemmas.Result.{err_from_is_err_and}
use Rattle.ss_words.specs.Words.{WordAt}
use Rattle.ss_words.specs.TextWords.{found_in_text, found_from_line}
use Rattle.ss_words.specs.TextScan.{nearest}
use Rattle.ss_words.proofs.TextFinds.{words_of-end, is_refusal-first}
use Rattle.ss_words.proofs.TextSteps.{goes-start, goes-line, first-line}
use Rattle.ss_words.proofs.TextPictureLines.{found_from_line-none}
use Rattle.ss_words.proofs.scan.words.Goals as goal

pub loop-line-init : goal.loop-line-init
loop-line-init c =
    goes-start c.args.text.now c.new-lines.result.rest.now c.new-lines.result.taken c.new-words.result
    c.new-words.ensures c.new-lines.ensures.rest c.new-lines.ensures.taken

pub returns-in_err-scan_line : goal.returns-in_err-scan_line
returns-in_err-scan_line c =
    let p = err_from_is_err_and c.from_residual.result c.from_residual.ensures.1 in
    rw (p.1, p.2) (is_refusal-first c.in_err-scan_line.field-0.0 c.args.text.now c.loop-line.words _
    c.loop-line.invariant
    (first-line c.in_err-scan_line.field-0.0 c.loop-line.words c.loop-line.lines.taken c.next.new.self.taken
    c.loop-line.lines.rest.now c.in-Some.line.now c.next.new.self.rest.now c.in-Some.ensures.line
    c.in-Some.ensures.taken c.in_err-scan_line.ensures))

pub loop-line-preserved : goal.loop-line-preserved
loop-line-preserved c =
    goes-line (found_in_text c.args.text.now) c.loop-line.words c.scan_line.new.words c.loop-line.lines.taken
    c.next.new.self.taken c.loop-line.lines.rest.now c.in-Some.line.now c.next.new.self.rest.now
    c.loop-line.invariant c.in-Some.ensures.line c.in-Some.ensures.taken c.in_ok-scan_line.ensures
    ∙ c.in_ok-scan_picture.ensures.found

pub returns-in_err-scan_picture : goal.returns-in_err-scan_picture
returns-in_err-scan_picture c =
    let p =
    err_from_is_err_and c.from_residual-in_err-scan_picture.result c.from_residual-in_err-scan_picture.ensures.1 in
    rw (p.1, p.2) (is_refusal-first c.in_err-scan_picture.field-0.0 c.args.text.now c.scan_line.new.words _
    (goes-line (found_in_text c.args.text.now) c.loop-line.words c.scan_line.new.words c.loop-line.lines.taken
    c.next.new.self.taken c.loop-line.lines.rest.now c.in-Some.line.now c.next.new.self.rest.now
    c.loop-line.invariant c.in-Some.ensures.line c.in-Some.ensures.taken c.in_ok-scan_line.ensures)
    c.in_err-scan_picture.ensures.found)

pub returns : goal.returns
returns c =
    words_of-end c.args.text.now c.loop-line.words _ c.loop-line.invariant
    (ap (found_from_line (nearest c.loop-line.words) (c.loop-line.lines.taken + 1) 0) c.in_default.ensures.line
    ∙ found_from_line-none (nearest c.loop-line.words) (c.loop-line.lines.taken + 1) 0)
    ∙ ap (λ (ws : List WordAt). Ok ws) (sym c.into_words.ensures)
