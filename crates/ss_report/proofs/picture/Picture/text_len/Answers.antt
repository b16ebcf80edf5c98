use Rattle.std.proofs.Common.{◌∙◌, [], sym}
use Rattle.ss_report.specs.Pictures.{picture_parts}
use Rattle.ss_report.proofs.Texts.{length-parts_text}
use Rattle.ss_report.proofs.picture.Picture.text_len.Goals as goal

pub returns-clause-value : goal.returns-clause-value
returns-clause-value c =
    rw (← c.self.view_is, length-parts_text, c.self.invariant.0) c.self.invariant.2

pub returns-clause-whatever_the_values : goal.returns-clause-whatever_the_values
returns-clause-whatever_the_values c =
    λ values. length-parts_text (picture_parts c.args.self.now) values
    ∙ sym (length-parts_text (picture_parts c.args.self.now) [])
