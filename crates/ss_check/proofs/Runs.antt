-- How many fields the lines of a picture have, by their runs of asterisks.
use Rattle.std.proofs.Common.{◌≡◌, ◌+◌, ◌<◌, ◌≤◌, ℕ, Bool, true, false, not, cond, ◌&&◌, ◌==◌, List, [], ◌∷◌, ◌++◌}
use Rattle.std.proofs.Common.{length, get_or, drop, refl, sym, ap, ◌∙◌, arith}
use Rattle.std.specs.Prelude.{count_by, map}
use Rattle.std.proofs.lemmas.List.{drop_all, drop_more}
use Rattle.std.proofs.lemmas.List.Sums.{sum_by-append, sum_by-cons}
use Rattle.std.specs.Global.{Vec}
use Rattle.ss_report.specs.Pictures.{Part, byte, field, field_count, is_field, line_end, line_parts, picture_parts}
use Rattle.ss_report.specs.Pictures.{with_asterisk}

-- how many fields parts have
abbrev fields : List Part → ℕ
fields ps = count_by is_field ps

-- one part more
fields-cons : (p : Part) (ps : List Part) → fields (p ∷ ps) ≡ cond (is_field p) 1 0 + fields ps
fields-cons p ps = sum_by-cons (λ (q : Part). cond (is_field q) 1 0) p ps

-- 1 if the first part is a field
starts : List Part → ℕ
starts [] = 0
starts (p ∷ ps) = cond (is_field p) 1 0

-- an asterisk in front is one field more, unless a field is after it
fields_with : (ps : List Part) → fields (with_asterisk ps) + starts ps ≡ fields ps + 1
unfolding starts
fields_with [] = refl
fields_with (field n ∷ ps) = let a = fields-cons (field (1 + n)) ps in let b = fields-cons (field n) ps in
    omega (arith, a, b)
fields_with (byte b ∷ ps) = let a = fields-cons (field 1) (byte b ∷ ps) in omega (arith, a)
fields_with (line_end ∷ ps) = let a = fields-cons (field 1) (line_end ∷ ps) in omega (arith, a)

starts_with : (ps : List Part) → starts (with_asterisk ps) ≡ 1
unfolding starts
starts_with [] = refl
starts_with (field n ∷ ps) = refl
starts_with (byte b ∷ ps) = refl
starts_with (line_end ∷ ps) = refl

-- how many fields begin in bytes, after an asterisk or not
pub runs : Bool → List ℕ → ℕ
runs f [] = 0
runs f (b ∷ bs) = cond ((b == 42) && not f) 1 0 + runs (b == 42) bs

runs_more : (b : ℕ) (bs : List ℕ) (rest : List Part) (e : Bool) →
    (runs false bs ≡ fields rest) × (runs true bs + starts rest ≡ fields rest) →
    (cond (e && true) 1 0 + runs e bs ≡ fields (cond e (with_asterisk rest) (byte b ∷ rest)))
    × ((cond (e && false) 1 0 + runs e bs) + starts (cond e (with_asterisk rest) (byte b ∷ rest))
    ≡ fields (cond e (with_asterisk rest) (byte b ∷ rest)))
unfolding starts
runs_more b bs rest true h =
    let w = fields_with rest in
    let s : starts (with_asterisk rest) ≡ 1 = starts_with rest in
    (omega (arith, h.1, w), omega (arith, h.1, w, s))
runs_more b bs rest false h = let k = fields-cons (byte b) rest in (omega (arith, h.0, k), omega (arith, h.0, k))

-- runs of asterisks are fields, with the one that goes on
runs_are : (bs : List ℕ) →
    (runs false bs ≡ fields (line_parts bs)) × (runs true bs + starts (line_parts bs) ≡ fields (line_parts bs))
unfolding runs starts
runs_are [] = (refl, refl)
runs_are (b ∷ bs) = runs_more b bs (line_parts bs) (b == 42) (runs_are bs)

-- the runs of a line are its fields
pub line_runs : (bs : List ℕ) → runs false bs ≡ count_by is_field (line_parts bs)
line_runs bs = (runs_are bs).0

-- at the end no run begins
pub runs_end : (bs : List ℕ) (i : ℕ) (f : Bool) → length bs ≤ i → runs f (drop i bs) ≡ 0
unfolding runs
runs_end bs i f l = ap (runs f) (drop_all i bs l)

-- one byte more
pub runs_turn : (bs : List ℕ) (i : ℕ) (f : Bool) → i < length bs →
    runs f (drop i bs) ≡ cond ((get_or bs i 0 == 42) && not f) 1 0 + runs (get_or bs i 0 == 42) (drop (i + 1) bs)
unfolding runs
runs_turn bs i f l = ap (runs f) (drop_more bs i 0 l)

-- ---- lines

-- one line more
pub lines_cons : (l : List ℕ) (ls : List (List ℕ)) →
    field_count (l ∷ ls) ≡ count_by is_field (line_parts l) + field_count ls
lines_cons l ls =
    let c = λ (q : Part). cond (is_field q) 1 0 in
    let a = sum_by-append c (line_parts l ++ line_end ∷ []) (picture_parts ls) in
    let b = sum_by-append c (line_parts l) (line_end ∷ []) in
    omega (arith, a, b)

-- one line more of those that are left
pub lines_turn : (ls : List (Vec ℕ)) (i : ℕ) (x : Vec ℕ) → i < length ls → x ≡ get_or ls i x →
    field_count (map (λ v. v.items) (drop i ls))
    ≡ count_by is_field (line_parts x.items) + field_count (map (λ v. v.items) (drop (i + 1) ls))
lines_turn ls i x l e =
    ap (λ (vs : List (Vec ℕ)). field_count (map (λ v. v.items) vs)) (drop_more ls i x l
    ∙ ap (λ (y : Vec ℕ). y ∷ drop (i + 1) ls) (sym e))
    ∙ lines_cons x.items (map (λ v. v.items) (drop (i + 1) ls))

-- at the end no line is left
pub lines_end : (ls : List (Vec ℕ)) (i : ℕ) → length ls ≤ i → field_count (map (λ v. v.items) (drop i ls)) ≡ 0
lines_end ls i l = ap (λ (vs : List (Vec ℕ)). field_count (map (λ v. v.items) vs)) (drop_all i ls l)
