use Rattle.std.proofs.Common.{◌≡◌, ◌∙◌, ◌+◌, ◌++◌, ◌∷◌, List, ap, arith, drop, length, map, length-drop, ◌-◌}
use Rattle.std.specs.List.{count_by}
use Rattle.ss_report.specs.Pictures.{Part, byte, field, line_end, is_field}
use Rattle.ss_report.specs.Pieces.{parts_len, parts_of, piece_parts}
use Rattle.ss_report.specs.declared.piece.Piece.{Piece}
use Rattle.ss_report.proofs.PieceSteps.{count_by-field, count_by-line_end, count_by-text, parts_len-text, parts_of-drop}
use Rattle.ss_report.proofs.PieceSteps.{written-field, written-line_end, written-text}
use Rattle.ss_report.proofs.Texts.{parts_len-cons}
use Rattle.ss_report.proofs.piece.write_pieces.Goals as goal
use Rattle.ss_report.proofs.piece.write_pieces.Goals.{in-Text, in-Field, in-LineEnd}

pub append-requires : goal.append-requires
append-requires c =
    let ps = c.args.pieces.now in
    let i = c.loop-piece.piece-index in
    let rest = parts_of (drop (i + 1) ps) in
    let here = parts_of-drop ps i c.piece-item.result (omega arith) c.piece-item.is in
    let text : parts_of (drop i ps) ≡ map (λ b. byte b) c.in-Text.text.items ++ rest =
    here ∙ ap (λ (q : Piece). piece_parts q ++ rest) c.in-Text.is in
    let len : parts_len (parts_of (drop i ps)) ≡ length c.in-Text.text.items + parts_len rest =
    ap parts_len text ∙ parts_len-text c.in-Text.text.items rest in
    omega (arith, ap length c.deref.ensures.value)

pub loop-piece-preserved : goal.loop-piece-preserved
loop-piece-preserved c =
    let ps = c.args.pieces.now in
    let i = c.loop-piece.piece-index in
    let left = parts_of (drop i ps) in
    let rest = parts_of (drop (i + 1) ps) in
    let here : left ≡ piece_parts c.piece-item.result ++ rest =
    parts_of-drop ps i c.piece-item.result (omega arith) c.piece-item.is in
    elim c.match-piece.branch [
      | in-Text w ↦
          let bs = w.in-Text.text.items in
          let text : left ≡ map (λ b. byte b) bs ++ rest =
          here ∙ ap (λ (q : Piece). piece_parts q ++ rest) w.in-Text.is in
          let fields : count_by is_field left ≡ count_by is_field rest =
          ap (λ (l : List Part). count_by is_field l) text ∙ count_by-text bs rest in
          let len : parts_len left ≡ length bs + parts_len rest = ap parts_len text ∙ parts_len-text bs rest in
          let added : length w.deref.result.now ≡ length bs = ap length w.deref.ensures.value in
          record {
            values = rw w.values-is (omega arith);
            room = rw w.bytes-is (omega arith);
            written =
                rw (w.bytes-is, w.values-is) (written-text _ _ _ left rest bs _ text
                (rw (← w.deref.ensures.value) w.append.ensures.items) c.loop-piece.invariant.written);
          }
      | in-Field w ↦
          let n = w.in-Field.width in
          let wide : left ≡ field n ∷ rest = here ∙ ap (λ (q : Piece). piece_parts q ++ rest) w.in-Field.is in
          let fields : count_by is_field left ≡ 1 + count_by is_field rest =
          ap (λ (l : List Part). count_by is_field l) wide ∙ count_by-field n rest in
          let others : length w.append_first-values.result.now ≡ length c.loop-piece.values.now - 1 =
          ap length w.append_first-values.ensures.others ∙ length-drop 1 c.loop-piece.values.now in
          let len : parts_len left ≡ n + parts_len rest = ap parts_len wide ∙ parts_len-cons (field n) rest in
          record {
            values = rw w.values-is (omega arith);
            room = rw w.bytes-is (omega arith);
            written =
                rw (w.bytes-is, w.values-is) (written-field _ _ _ left rest n _ _ wide
                w.append_first-values.ensures.items w.append_first-values.ensures.others
                c.loop-piece.invariant.written);
          }
      | in-LineEnd w ↦
          let ended : left ≡ line_end ∷ rest = here ∙ ap (λ (q : Piece). piece_parts q ++ rest) w.in-LineEnd.is in
          let fields : count_by is_field left ≡ count_by is_field rest =
          ap (λ (l : List Part). count_by is_field l) ended ∙ count_by-line_end rest in
          let len : parts_len left ≡ 1 + parts_len rest = ap parts_len ended ∙ parts_len-cons line_end rest in
          record {
            values = rw w.values-is (omega arith);
            room = rw w.bytes-is (omega arith);
            written =
                rw (w.bytes-is, w.values-is) (written-line_end _ _ _ left rest _ ended w.push_reserved.ensures.items
                c.loop-piece.invariant.written);
          }
    ]
