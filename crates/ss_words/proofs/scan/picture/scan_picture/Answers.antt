use Rattle.std.proofs.Common.{◌+◌, ◌∙◌, sym, ap, List, map, ◌++◌}
use Rattle.ss_words.specs.TextWords.{Finding, word}
use Rattle.std.proofs.lemmas.Result.{err_from_is_err_and, MatchResult-weaker}
use Rattle.ss_words.specs.TextLines.{text_lines}
use Rattle.ss_words.specs.TextScan.{nearest}
use Rattle.ss_words.proofs.TextFinds.{is_first-memory}
use Rattle.ss_words.proofs.TextPictureLines.{below-plain, below-uncounted, goes-picture, first-picture}
use Rattle.ss_words.proofs.scan.picture.scan_picture.Goals as goal

pub returns-then-not-calls_picture-clause-found : goal.returns-then-not-calls_picture-clause-found
returns-then-not-calls_picture-clause-found c =
    ap (λ (fs : List Finding). map word c.args.words.now ++ fs)
    (below-plain _ _ _ (sym c.calls_picture.ensures ∙ c.if-not-calls_picture.true))

pub returns-in-None-clause-found : goal.returns-in-None-clause-found
returns-in-None-clause-found c =
    ap (λ (fs : List Finding). map word c.args.words.now ++ fs)
    (below-uncounted _ _ _ (sym c.calls_picture.ensures ∙ c.if-not-calls_picture.false)
    (sym c.picture_lines.ensures ∙ c.in-None.is))

pub returns-in_err-picture-clause-found : goal.returns-in_err-picture-clause-found
returns-in_err-picture-clause-found c =
    let p = err_from_is_err_and c.from_residual.result c.from_residual.ensures.1 in
    rw (p.1, p.2) (first-picture c.in_err-picture.field-0.0 (nearest c.args.words.now) (c.args.lines.now.taken + 1)
    c.in-Some.count (text_lines c.args.lines.now.rest.now)
    (sym c.calls_picture.ensures ∙ c.if-not-calls_picture.false) (sym c.picture_lines.ensures ∙ c.in-Some.is)
    c.in_err-picture.ensures.found)

pub returns-clause-found : goal.returns-clause-found
returns-clause-found c =
    MatchResult-weaker c.push.result (rw c.in_ok-drawn.ensures.ok at c.push.ensures)
    (λ x joins. goes-picture c.args.words.now c.push.new.self (c.args.lines.now.taken + 1) c.in-Some.count
    c.picture.new.lines.taken (text_lines c.args.lines.now.rest.now) (text_lines c.picture.new.lines.rest.now)
    (map (λ l. l.items) c.in_ok-picture.picture.items)
    (sym c.calls_picture.ensures ∙ c.if-not-calls_picture.false) (sym c.picture_lines.ensures ∙ c.in-Some.is)
    c.in_ok-picture.ensures.picture c.in_ok-picture.ensures.found joins)
    (λ f e. is_first-memory f _ e)
