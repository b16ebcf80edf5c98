use Rattle.std.proofs.Common.{◌∙◌, sym, ap, refl, List, map, ◌++◌, length}
use Rattle.std.proofs.lemmas.List.{take_rest}
use Rattle.std.proofs.lemmas.Result.{MatchResult-weaker, err_from_is_err_and}
use Rattle.ss_words.specs.TextLines.{text_lines}
use Rattle.ss_words.specs.TextWords.{Finding, word}
use Rattle.ss_words.specs.TextScan.{nearest}
use Rattle.ss_words.proofs.TextSteps.{goes-blank, goes-run, first-run}
use Rattle.ss_words.proofs.scan.line.scan_place.Goals as goal

pub returns-then-begins_comment-clause-found : goal.returns-then-begins_comment-clause-found
returns-then-begins_comment-clause-found c =
    MatchResult-weaker c.scan_comment.result
    (c.scan_comment.ensures.found (length (text_lines c.args.below.now.rest.now)) (nearest c.args.words.now))
    (λ len e. ap (λ (fs : List Finding). map word c.args.words.now ++ fs) e) (λ f first. first)

pub returns-then-is_blank-clause-found : goal.returns-then-is_blank-clause-found
returns-then-is_blank-clause-found c =
    goes-blank c.args.below.now.taken c.args.below.now.rest.now c.args.words.now c.args.rest.now c.requires
    (sym c.is_blank.ensures ∙ c.if-is_blank.true)

pub returns-in_ok-scan_run-clause-found : goal.returns-in_ok-scan_run-clause-found
returns-in_ok-scan_run-clause-found c =
    goes-run c.args.below.now.taken c.args.below.now.rest.now c.args.words.now c.scan_run.new.words c.args.rest.now
    c.run_len-len.result _ _ c.requires (sym c.in_run.ensures ∙ c.if-in_run.true) c.run_len-len.ensures.len refl
    (take_rest c.args.rest.now c.run_len-len.result) c.in_ok-scan_run.ensures

pub returns-in_err-scan_run-clause-found : goal.returns-in_err-scan_run-clause-found
returns-in_err-scan_run-clause-found c =
    let p = err_from_is_err_and c.from_residual.result c.from_residual.ensures.1 in
    rw (p.1, p.2) (first-run c.args.below.now.taken c.args.below.now.rest.now c.in_err-scan_run.field-0.0
    c.args.words.now c.args.rest.now c.run_len-len.result _ _ c.requires (sym c.in_run.ensures ∙ c.if-in_run.true)
    c.run_len-len.ensures.len refl (take_rest c.args.rest.now c.run_len-len.result) c.in_err-scan_run.ensures)
