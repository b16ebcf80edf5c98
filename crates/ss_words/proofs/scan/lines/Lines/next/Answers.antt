use Rattle.std.proofs.Common.{◌+◌, ◌<◌, length, drop, sym, ap, ◌∙◌, ◌∷◌, List, ℕ, refl, arith, false-eqb}
use Rattle.std.proofs.lemmas.List.{take_rest}
use Rattle.ss_words.specs.TextLines.{text_lines}
use Rattle.ss_words.proofs.TextBytesLemmas.{eqb-same}
use Rattle.ss_words.proofs.TextLineLemmas.{text_lines-feed, text_lines-no_line, text_lines-one_line, some_text}
use Rattle.ss_words.proofs.scan.lines.Lines.next.Goals as goal

pub returns-then-is_empty-clause-line : goal.returns-then-is_empty-clause-line
returns-then-is_empty-clause-line c =
    text_lines-no_line _ _ (sym c.line_feed.ensures ∙ c.in-None.is) c.without_return-line.ensures
    (eqb-same _ 0 (sym c.if-is_empty.ensures))

pub returns-in-Some-clause-line : goal.returns-in-Some-clause-line
returns-in-Some-clause-line c =
    text_lines-feed _ _ (sym c.line_feed.ensures ∙ c.in-Some.is)
    ∙ ap (λ (l : List ℕ). l ∷ text_lines (drop (c.in-Some.end + 1) c.args.self.now.rest.now))
    (sym c.without_return.ensures)
    ∙ ap (λ (r : List ℕ). c.without_return.result.now ∷ text_lines r)
    (sym (take_rest c.args.self.now.rest.now (c.in-Some.end + 1)))

pub returns-else-is_empty-clause-line : goal.returns-else-is_empty-clause-line
returns-else-is_empty-clause-line c =
    text_lines-one_line _ _ _ (sym c.line_feed.ensures ∙ c.in-None.is) c.without_return-line.ensures
    (omega (arith, false-eqb _ 0 c.if-is_empty.ensures)) refl

pub returns-else-is_empty-clause-shorter : goal.returns-else-is_empty-clause-shorter
returns-else-is_empty-clause-shorter c =
    some_text _ _ c.without_return-line.ensures (omega (arith, false-eqb _ 0 c.if-is_empty.ensures))

pub invariant_of-self-in-None : goal.invariant_of-self-in-None
invariant_of-self-in-None c =
    let some : 0 < length c.args.self.now.rest.now =
    some_text _ _ c.without_return-line.ensures (omega (arith, false-eqb _ 0 c.if-is_empty.ensures)) in
    let fits = c.args.self.now.fits in
    record { fits = omega arith }
