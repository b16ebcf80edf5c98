use Rattle.std.proofs.Common.{◌≡◌, ℕ, suc, ◌+◌, ◌-◌, ◌++◌, ◌∷◌, [], List, map, ◌∙◌, sym, ap, arith}
use Rattle.std.proofs.lemmas.List.{map_push}
use Rattle.std.proofs.lemmas.Result.{err_from_is_err_and}
use Rattle.ss_words.specs.declared.scan.lines.Lines.{Lines}
use Rattle.ss_words.specs.TextLines.{text_lines}
use Rattle.ss_words.specs.TextWords.{found_from_line}
use Rattle.ss_words.proofs.TextPictureLines.{drawn-more, drawn-refused, drawn-end}
use Rattle.ss_words.proofs.scan.picture.picture.Goals as goal

-- a line of the picture breaks a rule
pub returns-in_err-picture_line-in-Some-clause-found : goal.returns-in_err-picture_line-in-Some-clause-found
returns-in_err-picture_line-in-Some-clause-found c =
    let p =
    err_from_is_err_and c.from_residual-in_err-picture_line-in-Some.result
    c.from_residual-in_err-picture_line-in-Some.ensures.1 in
    let size : c.args.count - c.loop-line._line ≡ suc (c.args.count - (c.loop-line._line + 1)) = omega arith in
    λ before. rw (p.1, p.2) (drawn-refused c.loop-line.invariant.drawn c.in_err-picture_line-in-Some.field-0.0
    (c.args.count - (c.loop-line._line + 1)) c.next.new.self.taken c.in-Some.line.now
    (text_lines c.next.new.self.rest.now)
    size c.in-Some.ensures.line c.in-Some.ensures.taken c.in_err-picture_line-in-Some.ensures.found before)

-- the text's end
pub returns-in-None-clause-found : goal.returns-in-None-clause-found
returns-in-None-clause-found c = λ before.
    (drawn-end c.loop-line.invariant.drawn c.in-None.ensures.line).1 before
    ∙ ap (λ (s : Lines). found_from_line before (s.taken + 1) 0 (text_lines s.rest.now))
    (sym c.in-None.ensures.none)

-- one more line
pub loop-line-preserved : goal.loop-line-preserved
loop-line-preserved c =
    let size : c.args.count - c.loop-line._line ≡ suc (c.args.count - (c.loop-line._line + 1)) = omega arith in
    record {
      drawn =
          drawn-more c.loop-line.invariant.drawn (c.args.count - (c.loop-line._line + 1)) c.next.new.self.taken
          c.in-Some.line.now (text_lines c.next.new.self.rest.now) _ size c.in-Some.ensures.line c.in-Some.ensures.taken
          c.in_ok-picture_line-in-Some.ensures.found
          (ap (map (λ v. v.items)) c.in_ok-push-in-Some.ensures.items
          ∙ map_push (λ v. v.items) c.loop-line.picture.items c.in_ok-picture_line-in-Some.field-0
          ∙ ap (λ (l : List ℕ). map (λ v. v.items) c.loop-line.picture.items ++ l ∷ [])
          c.in_ok-picture_line-in-Some.ensures.line);
      shorter = omega (arith, c.in-Some.ensures.shorter);
    }
