use Rattle.std.proofs.Common.{ℕ, ◌<◌, List, ◌++◌, Some, None, map, ◌∙◌, sym, ap, length, arith, false-eqb}
use Rattle.std.proofs.lemmas.Result.{MatchResult-weaker}
use Rattle.ss_words.specs.Words.{Kind, kind_of}
use Rattle.ss_words.specs.TextLines.{text_lines}
use Rattle.ss_words.specs.TextRuns.{without_stops}
use Rattle.ss_words.specs.TextSpelling.{spelling_of, spelled_word}
use Rattle.ss_words.specs.TextWords.{Finding, word}
use Rattle.ss_words.specs.TextScan.{nearest}
use Rattle.ss_words.proofs.TextBytesLemmas.{eqb-same, nat_lt-above, nat_lt-below}
use Rattle.ss_words.proofs.TextFinds.{is_first-refused, is_first-same}
use Rattle.ss_words.proofs.TextWordSteps.{is_bad_number-none, is_bad_number-spelled, word_of_run-none}
use Rattle.ss_words.proofs.TextWordSteps.{word_of_run-spelled, first-bad, first-long, run_found-word}
use Rattle.ss_words.proofs.scan.line.scan_run.Goals as goal

-- digits with a stop left in them, or a number that is too large
pub returns-in-None : goal.returns-in-None
returns-in-None c =
    let none = ap spelling_of (sym c.without_stops-kept.ensures.kept) ∙ sym c.spelling_of.ensures ∙ c.in-None.is in
    is_first-refused _ _ _ _ c.refused.ensures
    (first-bad _ _ _ c.args.rest.now c.args.run.now (is_bad_number-none (without_stops c.args.run.now) none))

-- a run that is too long
pub returns-then-run-gt-LONGEST_RUN : goal.returns-then-run-gt-LONGEST_RUN
returns-then-run-gt-LONGEST_RUN c =
    let some = ap spelling_of (sym c.without_stops-kept.ensures.kept) ∙ sym c.spelling_of.ensures ∙ c.in-Some.is in
    is_first-refused _ _ _ _ c.refused-then-run-gt-LONGEST_RUN.ensures
    (first-long _ _ _ c.args.rest.now c.args.run.now
    (is_bad_number-spelled (without_stops c.args.run.now) c.in-Some.spelling some)
    (nat_lt-above 80 (length c.args.run.now) c.if-run-gt-LONGEST_RUN.true))

-- a run of stops
pub returns-then-is_empty : goal.returns-then-is_empty
returns-then-is_empty c =
    let some = ap spelling_of (sym c.without_stops-kept.ensures.kept) ∙ sym c.spelling_of.ensures ∙ c.in-Some.is in
    let empty = ap length (sym c.without_stops-kept.ensures.kept) ∙ eqb-same _ 0 (sym c.if-is_empty.ensures) in
    ap (λ (fs : List Finding). map word c.args.words.now ++ fs)
    (run_found-word _ _ _ c.args.rest.now c.args.run.now None
    (is_bad_number-spelled (without_stops c.args.run.now) c.in-Some.spelling some)
    (nat_lt-below 80 (length c.args.run.now) c.if-run-gt-LONGEST_RUN.false)
    (word_of_run-none (without_stops c.args.run.now) empty))

-- a run that is a word
pub returns : goal.returns
returns c =
    let some = ap spelling_of (sym c.without_stops-kept.ensures.kept) ∙ sym c.spelling_of.ensures ∙ c.in-Some.is in
    let longer : 0 < length (without_stops c.args.run.now) =
    omega (arith, false-eqb _ 0 c.if-is_empty.ensures, ap length c.without_stops-kept.ensures.kept) in
    let same =
    run_found-word c.args.below.now.taken (length (text_lines c.args.below.now.rest.now)) (nearest c.args.words.now)
    c.args.rest.now c.args.run.now (Some (kind_of c.in_ok-kind.kind))
    (is_bad_number-spelled (without_stops c.args.run.now) c.in-Some.spelling some)
    (nat_lt-below 80 (length c.args.run.now) c.if-run-gt-LONGEST_RUN.false)
    (word_of_run-spelled (without_stops c.args.run.now) c.in-Some.spelling longer some
    ∙ ap (λ (k : Kind). Some k) (ap (λ (r : List ℕ). spelled_word r c.in-Some.spelling)
    (sym c.without_stops-kept.ensures.kept) ∙ sym c.in_ok-kind.ensures.spelled)) in
    MatchResult-weaker c.scan_word.result (rw c.in_ok-kind.ensures.same at c.scan_word.ensures)
    (λ x goes. ap (λ (fs : List Finding). map word c.args.words.now ++ fs) same ∙ goes)
    (λ f first. is_first-same f _ _ same first)
