-- One piece more, or one piece less.
use Rattle.std.proofs.Common.{◌≡◌, ℕ, ℤ, ◌+◌, ◌<◌, cond, List, [], ◌∷◌, ◌++◌, length, get_or, map, take, drop, refl, ap}
use Rattle.std.proofs.Common.{◌∙◌, append_assoc, append-nil, arith, pos}
use Rattle.std.proofs.lemmas.Int.{to_z-of_z}
use Rattle.std.proofs.lemmas.List.{drop_more, take_more}
use Rattle.std.proofs.lemmas.List.Concat.{flat_map-append}
use Rattle.std.proofs.lemmas.List.Sums.{sum_by-append, sum_by-cons}
use Rattle.std.specs.List.{count_by, list_any}
use Rattle.ss_words.specs.declared.characters.TheConstants.{LINE_FEED}
use Rattle.ss_report.specs.Pictures.{Part, field, byte, line_end, is_field, field_text, parts_text, has_decimal}
use Rattle.ss_report.specs.Pieces.{is_field_piece, part_len, parts_len, parts_of, piece_parts}
use Rattle.ss_report.specs.declared.piece.Piece.{Piece}
use Rattle.ss_report.specs.declared.piece.Piece.TheVariants as p
use Rattle.ss_report.proofs.Texts.{count_by-bytes, parts_text-bytes, parts_len-bytes}

-- the parts that are left begin with the parts of the next piece
pub parts_of-drop : (ps : List Piece) (i : ℕ) (p : Piece) → i < length ps → p ≡ get_or ps i p
    → parts_of (drop i ps) ≡ piece_parts p ++ parts_of (drop (i + 1) ps)
parts_of-drop ps i p h e = rw (drop_more ps i p h, ← e) refl

pub parts_len-take : (ps : List Piece) (i : ℕ) (p : Piece) → i < length ps → p ≡ get_or ps i p
    → parts_len (parts_of (take (i + 1) ps)) ≡ parts_len (parts_of (take i ps)) + parts_len (piece_parts p)
parts_len-take ps i p h e =
    rw (take_more ps i p h, ← e, flat_map-append)
    (sum_by-append part_len (parts_of (take i ps)) (piece_parts p ++ [])
    ∙ ap (λ (n : ℕ). parts_len (parts_of (take i ps)) + n)
    (sum_by-append part_len (piece_parts p) [] ∙ omega arith))

abbrev one_if_field : Part → ℕ
one_if_field p = cond (is_field p) 1 0

count-piece : (p : Piece) → count_by is_field (piece_parts p) ≡ cond (is_field_piece p) 1 0
count-piece (p.Text t) = count_by-bytes t.items
count-piece (p.Field n) = refl
count-piece p.LineEnd = refl

pub count_by-parts_of : (ps : List Piece) → count_by is_field (parts_of ps) ≡ count_by is_field_piece ps
count_by-parts_of [] = refl
count_by-parts_of (p ∷ ps) =
    sum_by-append one_if_field (piece_parts p) (parts_of ps)
    ∙ omega (
      arith,
      count-piece p,
      count_by-parts_of ps,
      sum_by-cons (λ (q : Piece). cond (is_field_piece q) 1 0) p ps,
    )

-- a text before other parts
pub count_by-text : (bs : List ℕ) (ps : List Part)
    → count_by is_field (map (λ b. byte b) bs ++ ps) ≡ count_by is_field ps
count_by-text bs ps =
    sum_by-append one_if_field (map (λ b. byte b) bs) ps ∙ omega (arith, count_by-bytes bs)

pub parts_len-text : (bs : List ℕ) (ps : List Part) → parts_len (map (λ b. byte b) bs ++ ps) ≡ length bs + parts_len ps
parts_len-text bs ps =
    sum_by-append part_len (map (λ b. byte b) bs) ps ∙ omega (arith, parts_len-bytes bs)

pub count_by-field : (n : ℕ) (ps : List Part) → count_by is_field (field n ∷ ps) ≡ 1 + count_by is_field ps
count_by-field n ps = sum_by-cons one_if_field (field n) ps

pub count_by-line_end : (ps : List Part) → count_by is_field (line_end ∷ ps) ≡ count_by is_field ps
count_by-line_end ps = sum_by-cons one_if_field line_end ps ∙ omega arith

pub list_any-map : {X : Type 0} (f : X → List ℕ) (xs : List X)
    → list_any has_decimal (map f xs) ≡ list_any (λ x. has_decimal (f x)) xs
list_any-map f [] = refl
list_any-map f (x ∷ xs) = rw (list_any-map f xs) refl

-- the bytes written so far, and the text of the parts that are left
pub written-text : (old new all : List ℕ) (left rest : List Part) (bs : List ℕ) (vs : List ℤ)
    → left ≡ map (λ b. byte b) bs ++ rest → new ≡ old ++ bs → old ++ parts_text left vs ≡ all
    → new ++ parts_text rest vs ≡ all
written-text old new all left rest bs vs e n h =
    rw (n, append_assoc, ← parts_text-bytes bs rest vs, ← e) h

parts_text-field : (width : ℕ) (ps : List Part) (vs : List ℤ)
    → parts_text (field width ∷ ps) vs ≡ parts_text (field width ∷ []) vs ++ parts_text ps (drop 1 vs)
parts_text-field width ps [] = rw append-nil refl
parts_text-field width ps (v ∷ vs) = rw append-nil refl

pub written-field : (old new all : List ℕ) (left rest : List Part) (width : ℕ) (vs others : List ℤ)
    → left ≡ field width ∷ rest → new ≡ old ++ parts_text (field width ∷ []) vs → others ≡ drop 1 vs
    → old ++ parts_text left vs ≡ all → new ++ parts_text rest others ≡ all
written-field old new all left rest width vs others e n o h =
    rw (n, append_assoc, o, ← parts_text-field width rest vs, ← e) h

-- the text of one field with the first of some values
pub parts_text-first : (width : ℕ) (vs : List ℤ) → 0 < length vs
    → parts_text (field width ∷ []) vs ≡ field_text width (get_or vs 0 (pos 0))
parts_text-first width [] h = absurd (omega arith)
parts_text-first width (v ∷ vs) h = append-nil _

pub written-line_end : (old new all : List ℕ) (left rest : List Part) (vs : List ℤ) → left ≡ line_end ∷ rest
    → new ≡ old ++ LINE_FEED ∷ [] → old ++ parts_text left vs ≡ all → new ++ parts_text rest vs ≡ all
written-line_end old new all left rest vs e n h = rw (n, append_assoc) (rw e at h)

-- that, and that a value read is itself
pub ruleset first_value = (parts_text-first, to_z-of_z)
