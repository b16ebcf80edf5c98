use Rattle.std.proofs.Common.{◌∙◌, sym, arith, false-eqb}
use Rattle.ss_words.proofs.TextBytesLemmas.{eqb-same}
use Rattle.ss_words.proofs.TextFinds.{is_first-refused}
use Rattle.ss_words.proofs.TextPictureLines.{picture-empty, picture-stray_first, picture-long, picture-stray}
use Rattle.ss_words.proofs.TextPictureLines.{picture-allowed}
use Rattle.ss_words.proofs.scan.picture.picture_line.Goals as goal

pub returns-then-is_empty-clause-found : goal.returns-then-is_empty-clause-found
returns-then-is_empty-clause-found c = picture-empty _ _ (eqb-same _ 0 (sym c.if-is_empty.ensures))

pub returns-then-not-is_allowed-clause-found : goal.returns-then-not-is_allowed-clause-found
returns-then-not-is_allowed-clause-found c =
    is_first-refused _ _ _ _ c.refused.ensures
    (picture-stray_first c.args.number c.args.line.now (omega (arith, false-eqb _ 0 c.if-is_empty.ensures))
    (sym c.is_allowed.ensures ∙ c.if-not-is_allowed.true))

pub returns-then-line-gt-LONGEST_PICTURE_LINE-clause-found : goal.returns-then-line-gt-LONGEST_PICTURE_LINE-clause-found
returns-then-line-gt-LONGEST_PICTURE_LINE-clause-found c =
    is_first-refused _ _ _ _ c.refused-then-line-gt-LONGEST_PICTURE_LINE.ensures
    (picture-long c.args.number c.args.line.now (sym c.is_allowed.ensures ∙ c.if-not-is_allowed.false)
    c.if-line-gt-LONGEST_PICTURE_LINE.true)

pub returns-then-not-all_allowed-clause-found : goal.returns-then-not-all_allowed-clause-found
returns-then-not-all_allowed-clause-found c =
    is_first-refused _ _ _ _ c.refused-then-not-all_allowed.ensures
    (picture-stray c.args.number c.args.line.now (sym c.is_allowed.ensures ∙ c.if-not-is_allowed.false)
    c.if-line-gt-LONGEST_PICTURE_LINE.false (sym c.all_allowed.ensures ∙ c.if-not-all_allowed.true))

pub returns-clause-found : goal.returns-clause-found
returns-clause-found c =
    picture-allowed c.args.number c.args.line.now (sym c.is_allowed.ensures ∙ c.if-not-is_allowed.false)
    c.if-line-gt-LONGEST_PICTURE_LINE.false (sym c.all_allowed.ensures ∙ c.if-not-all_allowed.false)
