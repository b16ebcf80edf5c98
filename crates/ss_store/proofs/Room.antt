-- Heads, seats and rows made and taken off.
use Rattle.std.proofs.Common.{◌≡◌, ℕ, ℤ, zero, suc, ◌-◌, ◌<◌, ◌≤◌, List, [], ◌∷◌, ◌++◌, length, map, take}
use Rattle.std.proofs.Common.{replicate, refl, ap, sym, subst, ◌∙◌, arith, slice_get, slice_set, slice_index_or, Option}
use Rattle.std.proofs.Common.{Some, None, Bool, true, false, length-set, length-append}
use Rattle.std.proofs.Math.Seq.{take-append_seam}
use Rattle.std.specs.Prelude.{Result, Ok, Err, IfOk, OnErr}
use Rattle.ss_links.specs.Board.{Board, IsSound, list_at, head_of}
use Rattle.ss_links.proofs.BoardLaws.{head_of-above, head_of-found, times-list_at}
use Rattle.ss_store.specs.declared.rows.Row.{Row}
use Rattle.ss_store.specs.Lists.{change_at}
use Rattle.ss_store.specs.Rows.{RowTable, EntityTable, rows_in}
use Rattle.ss_store.specs.Making.{numbering_by, without_last_row, with_table, with_heads, with_places}
use Rattle.std.specs.Option.{option_map}
use Rattle.ss_store.specs.Writing.{with_values}
use Rattle.ss_store.proofs.Core.{some_eq}
use Rattle.ss_store.proofs.Agree.{get_below}
use Rattle.ss_store.proofs.More.{IsTable, table_here, table_made, change_change}
use Rattle.ss_store.proofs.OneMoreEntity.{list_more, list_past}
use Rattle.ss_links.specs.Seats.{has}
use Rattle.std.proofs.lemmas.Bool.Decides.{nat_tests}
use Rattle.ss_links.proofs.SeatLaws.{times_in-present}

-- ---- results

pub if_ok_map : {A E : Type 0} (r : Result A E) (P Q : A → Type 0) → ((x : A) → P x → Q x) → IfOk r P → IfOk r Q
if_ok_map (Ok x) P Q f p = f x p
if_ok_map (Err e) P Q f p = tt

pub if_ok : {A E : Type 0} (r : Result A E) (x : A) (P : A → Type 0) → r ≡ Ok x → P x → IfOk r P
if_ok r x P e p = subst (λ z. IfOk z P) (sym e) p

pub if_ok_err : {A E : Type 0} (r : Result A E) (f : E) (P : A → Type 0) → r ≡ Err f → IfOk r P
if_ok_err r f P e = subst (λ z. IfOk z P) (sym e) tt

pub on_err : {A E : Type 0} (r : Result A E) (f : E) (P : Type 0) → r ≡ Err f → P → OnErr r P
on_err r f P e p = subst (λ z. OnErr z P) (sym e) p

pub on_err_ok : {A E : Type 0} (r : Result A E) (x : A) (P : Type 0) → r ≡ Ok x → OnErr r P
on_err_ok r x P e = subst (λ z. OnErr z P) (sym e) tt

-- ---- boards

-- a seat at or above the count is in no list
pub free_above : (b new : Board) (n t : ℕ) → IsSound b → new.lists ≡ b.lists → n ≡ b.seats → n ≤ t
    → head_of new.lists t ≡ None
free_above b new n t s e f le = ap (λ z. head_of z t) e ∙ head_of-above b t s (omega (arith, f, le))

-- nor if there are more empty lists
pub free_grown : (b new : Board) (h s n t : ℕ) → IsSound b → new ≡ with_places h s b → n ≡ b.seats → n ≤ t
    → head_of new.lists t ≡ None
free_grown b new h s n t w e f le =
    (elim (head_of new.lists t) as (λ o. head_of new.lists t ≡ o → o ≡ None) [
      | None ↦ λ u. refl
      | Some i ↦ λ u. absurd (
          let g : has (list_at b.lists i) t ≡ true =
          ap (λ l. has l t) (sym (ap (λ (z : Board). list_at z.lists i) e ∙ list_more b.lists h i))
          ∙ (head_of-found new.lists t i u).1 in
          let above : b.seats ≤ t = omega (arith, f, le) in
          let none = w.below t above in let some = times-list_at b.lists i t in
          grind (arith, nat_tests, none, some, g, times_in-present (list_at b.lists i) t))
    ]) refl

-- the seats that were there are there among more
pub seats_there : (b new : Board) (h s n : ℕ) → new ≡ with_places h s b → n ≡ b.seats → n ≤ new.seats
seats_there b new h s n e f = omega (arith, ap (λ (z : Board). z.seats) e, f)

-- the heads that were there are there among more
pub heads_there : (ls new : List (List ℕ)) (h n : ℕ) → new ≡ ls ++ replicate h [] → n ≡ length ls → n ≤ length new
heads_there ls new h n e f = omega (arith, ap length e, length-append ls (replicate h []), f)

-- the lists of those that were added are empty
pub heads_empty : (ls new : List (List ℕ)) (h n i : ℕ) → new ≡ ls ++ replicate h [] → n ≡ length ls → n ≤ i
    → list_at new i ≡ []
heads_empty ls new h n i e f le =
    ap (λ z. list_at z i) e ∙ list_more ls h i ∙ list_past ls i (omega (arith, f, le))

-- items added at the end of a list are taken off
pub front_back : {A : Type 0} (xs ys mid new : List A) (n : ℕ) → mid ≡ xs ++ ys → n ≡ length xs → new ≡ take n mid
    → new ≡ xs
front_back xs ys mid new n e f k = k ∙ (λ i. take (f i) (e i)) ∙ take-append_seam xs ys

-- a board is as it was once its new heads are taken off
pub heads_back : (b mid new : Board) (h n : ℕ) → mid ≡ with_heads h b → n ≡ length b.lists
    → new ≡ record { lists = take n mid.lists; seats = mid.seats } → new ≡ b
heads_back b mid new h n e f k =
    let ls =
    front_back b.lists (replicate h []) mid.lists (take n mid.lists) n (ap (λ (z : Board). z.lists) e) f refl in
    let ss : mid.seats ≡ b.seats = ap (λ (z : Board). z.seats) e in
    k ∙ (λ i. record { lists = ls i; seats = ss i })

-- and its new seats
pub places_back : (b mid left new : Board) (h s n t : ℕ) → mid ≡ with_places h s b → n ≡ length b.lists → t ≡ b.seats
    → left ≡ record { lists = mid.lists; seats = t } → new ≡ record { lists = take n left.lists; seats = left.seats }
    → new ≡ b
places_back b mid left new h s n t e f u g k =
    let ls : mid.lists ≡ b.lists ++ replicate h [] = ap (λ (z : Board). z.lists) e in
    heads_back b left new h n (g ∙ (λ i. record { lists = ls i; seats = u i })) f k

-- ---- numberings

row_set : (xs : List RowTable) (c : ℕ) (y x : RowTable) (f : RowTable → RowTable) → c < length xs
    → y ≡ slice_index_or xs c y → x ≡ f y → slice_set xs c x ≡ change_at f xs c
row_set [] c y x f lt e w = absurd (omega (arith, lt))
row_set (z ∷ xs) zero y x f lt e w = ap (λ q. q ∷ xs) (w ∙ ap f e)
row_set (z ∷ xs) (suc c) y x f lt e w = ap (λ q. z ∷ q) (row_set xs c y x f (omega (arith, lt)) e w)

-- a permanent class's numbering written
pub table_set : (es now : EntityTable) (p : Bool) (c : ℕ) (y x : RowTable) (f : RowTable → RowTable) → es ≡ now
    → p ≡ true → c < length now.made → y ≡ slice_index_or es.made c y → x ≡ f y
    → record { made = slice_set es.made c x; references = es.references } ≡ with_table f now (numbering_by p c)
table_set es now p c y x f e w lt h k =
    (λ i. record {
      made = row_set es.made c y x f (subst (λ (z : EntityTable). c < length z.made) (sym e) lt) h k i;
      references = es.references;
    })
    ∙ (λ i. with_table f (e i) (Some c)) ∙ ap (λ b. with_table f now (numbering_by b c)) (sym w)

-- ---- a row taken off

map_take : {A B : Type 0} (f : A → B) (n : ℕ) (xs : List A) → map f (take n xs) ≡ take n (map f xs)
map_take f zero [] = refl
map_take f zero (x ∷ xs) = refl
map_take f (suc n) [] = refl
map_take f (suc n) (x ∷ xs) = ap (λ l. f x ∷ l) (map_take f n xs)

pub rows_cut : {A : Type 0} (f : A → Option (List ℤ)) (rs rs' : List Row) (vs vs' : List A) (n : ℕ) (now : RowTable)
    → record { rows = rs; values = map f vs } ≡ now → n ≡ length rs - 1 → rs' ≡ take n rs → vs' ≡ take n vs
    → record { rows = rs'; values = map f vs' } ≡ without_last_row now
rows_cut f rs rs' vs vs' n now w e er ev =
    (λ i. record {
      rows = (er ∙ ap (λ z. take z rs) e) i;
      values = (ap (map f) (ev ∙ ap (λ z. take z vs) e) ∙ map_take f (length rs - 1) vs) i;
    }) ∙ ap without_last_row w

-- ---- values taken out and put in

map_set : {A B : Type 0} (f : A → B) (xs : List A) (i : ℕ) (x : A)
    → map f (slice_set xs i x) ≡ slice_set (map f xs) i (f x)
map_set f [] i x = refl
map_set f (y ∷ xs) zero x = refl
map_set f (y ∷ xs) (suc i) x = ap (λ l. f y ∷ l) (map_set f xs i x)

pub rows_put : {A : Type 0} (f : A → Option (List ℤ)) (rs : List Row) (vs : List A) (i : ℕ) (x : A) (now : RowTable)
    → record { rows = rs; values = map f vs } ≡ now
    → record { rows = rs; values = map f (slice_set vs i x) } ≡ with_values i (f x) now
rows_put f rs vs i x now e = (λ n. record { rows = rs; values = map_set f vs i x n }) ∙ ap (with_values i (f x)) e

pub rows_take : {A : Type 0} (f : A → Option (List ℤ)) (rs : List Row) (vs : List A) (i : ℕ) (x y : A) (now : RowTable)
    → f y ≡ None → record { rows = rs; values = map f vs } ≡ now → x ≡ y
    → record { rows = rs; values = map f (slice_set vs i x) } ≡ with_values i None now
rows_take f rs vs i x y now z e w = rows_put f rs vs i x now e ∙ ap (λ q. with_values i q now) (ap f w ∙ z)

table_by : (p : Bool) (c : ℕ) (es : EntityTable) → (p ≡ true → c < length es.made) → IsTable es (numbering_by p c)
table_by true c es f = f refl
table_by false c es f = tt

pub made_still : (f : RowTable → RowTable) (es new : EntityTable) (w : Option ℕ) (c : ℕ) → new ≡ with_table f es w
    → c < length es.made → c < length new.made
made_still f es new w c e lt = subst (λ n. c < n) (sym (ap (λ (z : EntityTable). length z.made) e ∙ table_made f es w))
    lt

pub index_still : (es new : EntityTable) (p : Bool) (c i : ℕ) (u : Option (List ℤ)) (v : List ℤ)
    → (p ≡ true → c < length es.made) → new ≡ with_table (with_values i u) es (numbering_by p c)
    → slice_get (rows_in es (numbering_by p c)).values i ≡ Some (Some v)
    → i < length (rows_in new (numbering_by p c)).values
index_still es new p c i u v t e l =
    let n : length (rows_in new (numbering_by p c)).values ≡ length (rows_in es (numbering_by p c)).values =
    ap (λ z. length (rows_in z (numbering_by p c)).values) e
    ∙ ap (λ (z : RowTable). length z.values)
    (table_here (with_values i u) es (numbering_by p c) (table_by p c es t))
    ∙ length-set (rows_in es (numbering_by p c)).values i u in
    let b = get_below (rows_in es (numbering_by p c)).values i (Some v) l in omega (arith, n, b)

set_over : {A : Type 0} (xs : List A) (i : ℕ) (x y : A) → slice_set (slice_set xs i x) i y ≡ slice_set xs i y
set_over [] i x y = refl
set_over (z ∷ xs) zero x y = refl
set_over (z ∷ xs) (suc i) x y = ap (λ q. z ∷ q) (set_over xs i x y)

over_table : (es : EntityTable) (w : Option ℕ) (i : ℕ) (u v : Option (List ℤ))
    → with_table (with_values i v) (with_table (with_values i u) es w) w ≡ with_table (with_values i v) es w
over_table es None i u v = λ n. record es {
  references =
      record { rows = es.references.rows; values = set_over es.references.values i u v n };
}
over_table es (Some c) i u v = λ n. record es {
  made =
      change_change (with_values i u) (with_values i v) (with_values i v) es.made c
      (λ t e. λ m. record { rows = t.rows; values = set_over t.values i u v m }) n;
}

pub put_over : (es mid new : EntityTable) (w : Option ℕ) (i : ℕ) (t v : List ℤ)
    → mid ≡ with_table (with_values i None) es w → new ≡ with_table (with_values i (Some t)) mid w → t ≡ v
    → new ≡ with_table (with_values i (Some v)) es w
put_over es mid new w i t v em en e = en ∙ (λ n. with_table (with_values i (Some (e n))) (em n) w)
    ∙ over_table es w i None (Some v)

pub same_values : {V : Type 0} (f : V → List ℤ) (o : Option V) (q : V) (x : Option (Option (List ℤ))) (v : List ℤ)
    → x ≡ Some (option_map f o) → o ≡ Some q → x ≡ Some (Some v) → f q ≡ v
same_values f o q x v e w h = some_eq (some_eq (sym (e ∙ ap (λ z. Some (option_map f z)) w) ∙ h))

pub set_past : (xs : List ℤ) (i : ℕ) (x : ℤ) → length xs ≤ i → xs ≡ slice_set xs i x
set_past [] i x le = refl
set_past (y ∷ xs) zero x le = absurd (omega (arith, le))
set_past (y ∷ xs) (suc i) x le = ap (λ l. y ∷ l) (set_past xs i x (omega (arith, le)))
