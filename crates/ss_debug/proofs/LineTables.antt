-- Setting and clearing a line of a table, and how many lines it holds.
use Rattle.std.proofs.Common.{◌≡◌, ℕ, zero, suc, ◌+◌, ◌<◌, ◌≤◌, Bool, true, false, cond, List, [], ◌∷◌, ◌++◌}
use Rattle.std.proofs.Common.{slice_index_or, ◌||◌}
use Rattle.std.proofs.Common.{length, refl, sym, arith, rules, subst, replicate, unwrap_or, nat_lt, nat_eq, slice_get}
use Rattle.std.proofs.Common.{slice_set}
use Rattle.std.specs.List.{filter}
use Rattle.ss_debug.specs.LineTable.{has_line, with_line, without_line}
use Rattle.ss_debug.specs.LineTable.{lines_from, lines_of}

lt_yes : (m n : ℕ) → m < n → nat_lt m n ≡ true
lt_yes m n h = search rules

lt_no : (m n : ℕ) → n ≤ m → nat_lt m n ≡ false
lt_no m n h = search rules

eq_no : (m n : ℕ) → m < n → nat_eq n m ≡ false
eq_no m n h = search rules

eq_no_up : (m n : ℕ) → m < n → nat_eq m n ≡ false
eq_no_up m n h = search rules

eq_yes : (k m : ℕ) → m ≡ k → nat_eq k m ≡ true
eq_yes k m h = search rules

-- no line below the first
none_below : (bs : List Bool) (k m : ℕ) → m < k → has_line (lines_from k bs) m ≡ false
none_below [] k m h = refl
none_below (true ∷ bs) k m h = rw (eq_no m k h) (none_below bs (suc k) m (omega arith))
none_below (false ∷ bs) k m h = none_below bs (suc k) m (omega arith)

all_above : (bs : List Bool) (k m : ℕ) → m < k → filter (λ l. nat_lt m l) (lines_from k bs) ≡ lines_from k bs
all_above [] k m h = refl
all_above (true ∷ bs) k m h = rw (lt_yes m k h, all_above bs (suc k) m (omega arith)) refl
all_above (false ∷ bs) k m h = all_above bs (suc k) m (omega arith)

none_under : (bs : List Bool) (k m : ℕ) → m ≤ k → filter (λ l. nat_lt l m) (lines_from k bs) ≡ []
none_under [] k m h = refl
none_under (true ∷ bs) k m h = rw (lt_no k m h) (none_under bs (suc k) m (omega arith))
none_under (false ∷ bs) k m h = none_under bs (suc k) m (omega arith)

none_dropped : (bs : List Bool) (k m : ℕ) → m < k → without_line m (lines_from k bs) ≡ lines_from k bs
unfolding without_line
none_dropped [] k m h = refl
none_dropped (true ∷ bs) k m h = rw (eq_no m k h, none_dropped bs (suc k) m (omega arith)) refl
none_dropped (false ∷ bs) k m h = none_dropped bs (suc k) m (omega arith)

is_line_from : (bs : List Bool) (k l m : ℕ) → m ≡ k + l →
    has_line (lines_from k bs) m ≡ unwrap_or (slice_get bs l) false
is_line_from [] k l m e = refl
is_line_from (true ∷ bs) k zero m e = rw (eq_yes k m (omega arith)) refl
is_line_from (false ∷ bs) k zero m e = none_below bs (suc k) m (omega arith)
is_line_from (true ∷ bs) k (suc l) m e = rw (eq_no_up k m (omega arith)) (is_line_from bs (suc k) l m (omega arith))
is_line_from (false ∷ bs) k (suc l) m e = is_line_from bs (suc k) l m (omega arith)

-- whether a line is among those of a table
pub is_line : (bs : List Bool) (l : ℕ) → has_line (lines_of bs) l ≡ unwrap_or (slice_get bs l) false
is_line bs l = is_line_from bs 0 l l (omega arith)

set_from : (bs : List Bool) (k l m : ℕ) → m ≡ k + l → l < length bs →
    lines_from k (slice_set bs l true) ≡ with_line m (lines_from k bs)
unfolding with_line
set_from [] k l m e h = absurd (omega arith)
set_from (true ∷ bs) k zero m e h =
    let same : k ≡ m = omega arith in
    rw (
      lt_no k m (omega arith),
      lt_no m k (omega arith),
      none_under bs (suc k) m (omega arith),
      all_above bs (suc k) m (omega arith),
      same,
    ) refl
set_from (false ∷ bs) k zero m e h =
    let same : k ≡ m = omega arith in
    rw (none_under bs (suc k) m (omega arith), all_above bs (suc k) m (omega arith), same) refl
set_from (true ∷ bs) k (suc l) m e h =
    rw (lt_yes k m (omega arith), lt_no m k (omega arith), set_from bs (suc k) l m (omega arith) (omega arith)) refl
set_from (false ∷ bs) k (suc l) m e h = set_from bs (suc k) l m (omega arith) (omega arith)

-- the lines of a table in which one more is set
pub line_set : (bs : List Bool) (l : ℕ) → l < length bs → lines_of (slice_set bs l true) ≡ with_line l (lines_of bs)
line_set bs l h = set_from bs 0 l l (omega arith) h

cleared_from : (bs : List Bool) (k l m : ℕ) → m ≡ k + l → l < length bs →
    lines_from k (slice_set bs l false) ≡ without_line m (lines_from k bs)
unfolding without_line
cleared_from [] k l m e h = absurd (omega arith)
cleared_from (true ∷ bs) k zero m e h = rw (eq_yes k m (omega arith)) (sym (none_dropped bs (suc k) m (omega arith)))
cleared_from (false ∷ bs) k zero m e h = sym (none_dropped bs (suc k) m (omega arith))
cleared_from (true ∷ bs) k (suc l) m e h =
    rw (eq_no_up k m (omega arith), cleared_from bs (suc k) l m (omega arith) (omega arith)) refl
cleared_from (false ∷ bs) k (suc l) m e h = cleared_from bs (suc k) l m (omega arith) (omega arith)

-- the lines of a table in which one is cleared
pub line_cleared : (bs : List Bool) (l : ℕ) → l < length bs →
    lines_of (slice_set bs l false) ≡ without_line l (lines_of bs)
line_cleared bs l h = cleared_from bs 0 l l (omega arith) h

longer_from : (bs : List Bool) (k n : ℕ) → lines_from k (bs ++ replicate n false) ≡ lines_from k bs
longer_from [] k zero = refl
longer_from [] k (suc n) = longer_from [] (suc k) n
longer_from (true ∷ bs) k n = rw (longer_from bs (suc k) n) refl
longer_from (false ∷ bs) k n = longer_from bs (suc k) n

-- a longer table holds no more lines
pub longer : (bs : List Bool) (n : ℕ) → lines_of (bs ++ replicate n false) ≡ lines_of bs
longer bs n = longer_from bs 0 n

-- 1 for a line that is there
abbrev pub one_if : Bool → ℕ
one_if b = cond b 1 0

others_from : (bs : List Bool) (k l m : ℕ) → m ≡ k + l →
    length (without_line m (lines_from k bs)) + one_if (unwrap_or (slice_get bs l) false) ≡ length (lines_from k bs)
unfolding without_line
others_from [] k l m e = refl
others_from (true ∷ bs) k zero m e =
    rw (eq_yes k m (omega arith), none_dropped bs (suc k) m (omega arith)) (omega arith)
others_from (false ∷ bs) k zero m e = rw (none_dropped bs (suc k) m (omega arith)) (omega arith)
others_from (true ∷ bs) k (suc l) m e =
    rw (eq_no_up k m (omega arith)) (let f = others_from bs (suc k) l m (omega arith) in omega arith)
others_from (false ∷ bs) k (suc l) m e = others_from bs (suc k) l m (omega arith)

-- the number of lines, from the number of the other lines
pub others : (bs : List Bool) (l : ℕ) →
    length (without_line l (lines_of bs)) + one_if (unwrap_or (slice_get bs l) false) ≡ length (lines_of bs)
others bs l = others_from bs 0 l l (omega arith)

counted_from : (bs : List Bool) (k l : ℕ) → l < length bs →
    length (lines_from k (slice_set bs l true)) + one_if (unwrap_or (slice_get bs l) false)
    ≡ length (lines_from k bs) + 1
counted_from [] k l h = absurd (omega arith)
counted_from (true ∷ bs) k zero h = omega arith
counted_from (false ∷ bs) k zero h = omega arith
counted_from (true ∷ bs) k (suc l) h = let e = counted_from bs (suc k) l (omega arith) in omega arith
counted_from (false ∷ bs) k (suc l) h = counted_from bs (suc k) l (omega arith)

-- the number of lines after one is set
pub counted : (bs : List Bool) (l : ℕ) → l < length bs →
    length (lines_of (slice_set bs l true)) + one_if (unwrap_or (slice_get bs l) false) ≡ length (lines_of bs) + 1
counted bs l h = counted_from bs 0 l h

no_more_from : (bs : List Bool) (k : ℕ) → length (lines_from k bs) ≤ length bs
no_more_from [] k = omega arith
no_more_from (true ∷ bs) k = let h = no_more_from bs (suc k) in omega arith
no_more_from (false ∷ bs) k = let h = no_more_from bs (suc k) in omega arith

-- there are no more lines than places
pub no_more : (bs : List Bool) → length (lines_of bs) ≤ length bs
no_more bs = no_more_from bs 0

-- ---- by whether a line is there

value_within : (bs : List Bool) (l : ℕ) → unwrap_or (slice_get bs l) false ≡ true → l < length bs
value_within [] l e = absurd (cc)
value_within (b ∷ bs) zero e = omega arith
value_within (b ∷ bs) (suc l) e = let h = value_within bs l e in omega arith

value_at : (bs : List Bool) (l : ℕ) (d : Bool) → l < length bs →
    unwrap_or (slice_get bs l) false ≡ slice_index_or bs l d
value_at [] l d h = absurd (omega arith)
value_at (b ∷ bs) zero d h = refl
value_at (b ∷ bs) (suc l) d h = value_at bs l d (omega arith)

value_past : (bs : List Bool) (l : ℕ) → length bs ≤ l → unwrap_or (slice_get bs l) false ≡ false
value_past [] l h = refl
value_past (b ∷ bs) zero h = absurd (omega arith)
value_past (b ∷ bs) (suc l) h = value_past bs l (omega arith)

set_again : (bs : List Bool) (l : ℕ) → unwrap_or (slice_get bs l) false ≡ true → slice_set bs l true ≡ bs
set_again [] l e = absurd (cc)
set_again (true ∷ bs) zero e = refl
set_again (false ∷ bs) zero e = absurd (cc)
set_again (b ∷ bs) (suc l) e = rw (set_again bs l e) refl

-- a line that is there has a place in the table
pub line_within : (bs : List Bool) (l : ℕ) → has_line (lines_of bs) l ≡ true → l < length bs
line_within bs l e = value_within bs l (rw (sym (is_line bs l)) e)

-- a line is there if its place holds true
pub line_at : (bs : List Bool) (l : ℕ) (d : Bool) → l < length bs →
    has_line (lines_of bs) l ≡ slice_index_or bs l d
line_at bs l d h = rw (is_line bs l) (value_at bs l d h)

-- no line is there past the table's end
pub line_past : (bs : List Bool) (l : ℕ) → length bs ≤ l → has_line (lines_of bs) l ≡ false
line_past bs l h = rw (is_line bs l) (value_past bs l h)

-- a line that is there is not set again
pub line_set_again : (bs : List Bool) (l : ℕ) → has_line (lines_of bs) l ≡ true →
    with_line l (lines_of bs) ≡ lines_of bs
line_set_again bs l e =
    let there = set_again bs l (rw (sym (is_line bs l)) e) in
    rw (sym (line_set bs l (line_within bs l e)), there) refl

-- there is one line more, if it was not there
pub count_set : (bs : List Bool) (l : ℕ) → l < length bs → has_line (lines_of bs) l ≡ false →
    length (lines_of (slice_set bs l true)) ≡ length (lines_of bs) + 1
count_set bs l h e =
    let absent : unwrap_or (slice_get bs l) false ≡ false = rw (sym (is_line bs l)) e in
    let f : length (lines_of (slice_set bs l true)) + one_if false ≡ length (lines_of bs) + 1 =
    subst (λ b. length (lines_of (slice_set bs l true)) + one_if b ≡ length (lines_of bs) + 1) absent
    (counted bs l h) in
    omega (arith, f)

-- there is one other line less, if the line is there
pub count_others : (bs : List Bool) (l : ℕ) → has_line (lines_of bs) l ≡ true →
    length (without_line l (lines_of bs)) + 1 ≡ length (lines_of bs)
count_others bs l e =
    let there : unwrap_or (slice_get bs l) false ≡ true = rw (sym (is_line bs l)) e in
    let f : length (without_line l (lines_of bs)) + one_if true ≡ length (lines_of bs) =
    subst (λ b. length (without_line l (lines_of bs)) + one_if b ≡ length (lines_of bs)) there (others bs l) in
    omega (arith, f)

-- there is one line less, if it was there
pub count_cleared : (bs : List Bool) (l : ℕ) → has_line (lines_of bs) l ≡ true →
    length (lines_of (slice_set bs l false)) + 1 ≡ length (lines_of bs)
count_cleared bs l e = rw (line_cleared bs l (line_within bs l e)) (count_others bs l e)

or_both : (a b : Bool) → (a || b) ≡ false → (a ≡ false) × (b ≡ false)
or_both false false e = (refl, refl)
or_both false true e = absurd (cc)
or_both true b e = absurd (cc)

-- without a line that is not there, the lines are as they were
pub line_absent : (ls : List ℕ) (l : ℕ) → has_line ls l ≡ false → without_line l ls ≡ ls
unfolding without_line
line_absent [] l e = refl
line_absent (m ∷ ls) l e =
    let both = or_both (nat_eq m l) (has_line ls l) e in rw (both.0, line_absent ls l both.1) refl
