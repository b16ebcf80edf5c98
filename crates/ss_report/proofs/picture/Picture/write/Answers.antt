use Rattle.std.proofs.Common.{◌≡◌, ◌∙◌, [], length, ap, arith}
use Rattle.ss_report.specs.Pictures.{picture_parts, picture_text}
use Rattle.ss_report.specs.Pieces.{parts_len, parts_of}
use Rattle.ss_report.proofs.Texts.{length-parts_text}
use Rattle.ss_report.proofs.picture.Picture.write.Goals as goal

pub write_pieces-requires-clause-room : goal.write_pieces-requires-clause-room
write_pieces-requires-clause-room c =
    let same : picture_parts c.args.self.now ≡ parts_of c.deref.result.now =
    rw (c.deref.ensures.value, ← c.self.view_is) c.self.invariant.0 in
    let len : length (picture_text c.args.self.now []) ≡ parts_len (parts_of c.deref.result.now) =
    length-parts_text (picture_parts c.args.self.now) [] ∙ ap parts_len same in
    omega (arith, len)
