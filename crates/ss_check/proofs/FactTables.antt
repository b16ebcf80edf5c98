-- The facts that a table of facts finds, and the table after one more fact.
use Rattle.std.proofs.Common.{◌≡◌, ◌≤◌, ◌+◌, suc, ◌||◌, ℕ, Bool, true, false, not, cond, List, [], ◌∷◌, ◌++◌, length}
use Rattle.std.proofs.Common.{Option, Some, None, refl, sym, ap, ◌∙◌, nat_lt, ◌==◌, arith, subst, append_assoc}
use Rattle.std.specs.Prelude.{bytes_eq, option_map, position, is_some, slice_get}
use Rattle.std.specs.List.{find, position_or_len}
use Rattle.std.specs.Option.{option_or}
use Rattle.std.specs.Global.{Vec}
use Rattle.std.specs.BTreeMap.{BTreeMap, UpdatesBy}
use Rattle.std.specs.Cmp.Lexicographic.{slice_cmp}
use Rattle.std.specs.Ordering.{nat_cmp}
use Rattle.std.proofs.lemmas.Bool.{ltb-false}
use Rattle.std.proofs.lemmas.Grind.{common_steps}
use Rattle.std.proofs.lemmas.List.{length-append}
use Rattle.std.proofs.lemmas.List.Folds.{position_or_len_push}
use Rattle.std.proofs.lemmas.Option.{slice_get_past}
use Rattle.std.proofs.lemmas.Slice.Eq.{bytes_eq-Decides}
use Rattle.ss_words.specs.Lists.{Name}
use Rattle.ss_program.specs.NameIndex.{IsIndex, entry_of}
use Rattle.ss_program.proofs.NameIndex.{index_at, index_more, none_is}
use Rattle.ss_program.proofs.Mains.{found_first, found_none, position_or_len-le}
use Rattle.ss_check.specs.Facts.{Fact, fact_of, first_repeat, is_among, names_of, repeats}

-- ---- lists

-- nothing after a list
pub append_none : {A : Type 0} (xs : List A) → xs ++ [] ≡ xs
append_none [] = refl
append_none (x ∷ xs) = ap (λ ys. x ∷ ys) (append_none xs)

-- or false
pub or_none : (b : Bool) → (b || false) ≡ b
or_none true = refl
or_none false = refl

-- or true
pub or_all : (b : Bool) → (b || true) ≡ true
or_all true = refl
or_all false = refl

-- the names of facts with one more after them
pub names_of_push : {A : Type 0} (fs : List (Fact A)) (f : Fact A) →
    names_of (fs ++ f ∷ []) ≡ names_of fs ++ f.name ∷ []
names_of_push [] f = refl
names_of_push (g ∷ gs) f = ap (λ ns. g.name ∷ ns) (names_of_push gs f)

-- there are as many names as facts
pub names_length : {A : Type 0} (fs : List (Fact A)) → length (names_of fs) ≡ length fs
names_length [] = refl
names_length (f ∷ fs) = ap suc (names_length fs)

-- ---- finding

get_behind : {X : Type 0} (x : X) (xs : List X) (k : ℕ) → slice_get (x ∷ xs) (1 + k) ≡ slice_get xs k
get_behind x xs k =
    let z : 1 + k ≡ suc k = omega arith in
    ap (λ (i : ℕ). slice_get (x ∷ xs) i) z

-- the fact at the place of a name is its first fact
pub fact_at : {A : Type 0} (n : Name) (fs : List (Fact A)) →
    option_map (λ f. f.what) (slice_get fs (position_or_len (bytes_eq n) (names_of fs))) ≡ fact_of fs n
fact_at n [] = refl
fact_at {A = A} n (f ∷ fs) = at (bytes_eq n f.name) (fact_at n fs)
  where
    at : (b : Bool) → option_map (λ f. f.what) (slice_get fs (position_or_len (bytes_eq n) (names_of fs)))
        ≡ fact_of fs n →
        option_map {T = Fact A} (λ f. f.what)
        (slice_get (f ∷ fs) (cond (not b) (1 + position_or_len (bytes_eq n) (names_of fs)) 0))
        ≡ option_map (λ f. f.what) (cond b (Some f) (find (λ g. bytes_eq n g.name) fs))
    at true h = refl
    at false h = ap (option_map (λ f. f.what)) (get_behind f fs (position_or_len (bytes_eq n) (names_of fs))) ∙ h

-- the fact at the place of a name
pub fact_found : {A : Type 0} (n : Name) (fs : List (Fact A)) (i : ℕ) (f : Fact A) →
    i ≡ position_or_len (bytes_eq n) (names_of fs) → slice_get fs i ≡ Some f → Some f.what ≡ fact_of fs n
fact_found n fs i f p e = sym (ap (option_map (λ g. g.what)) (ap (slice_get fs) (sym p) ∙ e)) ∙ fact_at n fs

-- a name whose place is past the facts has none
pub fact_none : {A : Type 0} (n : Name) (fs : List (Fact A)) (i : ℕ) →
    i ≡ position_or_len (bytes_eq n) (names_of fs) → nat_lt i (length fs) ≡ false → None ≡ fact_of fs n
fact_none n fs i p e =
    sym (ap (option_map (λ g. g.what)) (ap (slice_get fs) (sym p)
    ∙ slice_get_past fs i (ltb-false i (length fs) e))) ∙ fact_at n fs

any_cons : (b c : Bool) (i l : ℕ) → c ≡ nat_lt i l → (b || c) ≡ nat_lt (cond (not b) (1 + i) 0) (suc l)
any_cons true c i l e = grind (arith, common_steps)
any_cons false c i l e = grind (arith, common_steps, e)

any_place : (n : Name) (ns : List Name) → is_among n ns ≡ nat_lt (position_or_len (bytes_eq n) ns) (length ns)
any_place n [] = refl
any_place n (m ∷ ms) = any_cons (bytes_eq n m) (is_among n ms) (position_or_len (bytes_eq n) ms) (length ms)
    (any_place n ms)

-- a name has a fact if its place is before the end
pub among_at : {A : Type 0} (n : Name) (fs : List (Fact A)) (i l : ℕ) →
    i ≡ position_or_len (bytes_eq n) (names_of fs) → l ≡ length fs → nat_lt i l ≡ is_among n (names_of fs)
among_at n fs i l p e = rw (p, e, sym (names_length fs)) (sym (any_place n (names_of fs)))

-- whether a name is among those of a table, by its number there and the length of the table
pub among_names : (n : Name) (ns : List Name) (i l : ℕ) → i ≡ position_or_len (bytes_eq n) ns → l ≡ length ns →
    nat_lt i l ≡ is_among n ns
among_names n ns i l p e = rw (p, e) (sym (any_place n ns))

-- the place of a name that a map has
pub place_some : (ns : List Name) (m : BTreeMap (Vec ℕ) ℕ) (n : Name) (i : ℕ) → IsIndex ns m → Some i ≡ entry_of m n →
    i ≡ position_or_len (bytes_eq n) ns
place_some ns m n i h e = found_first (bytes_eq n) ns i (e ∙ index_at ns m n h)

-- the place of a name that the map has not
pub place_none : (ns : List Name) (m : BTreeMap (Vec ℕ) ℕ) (n : Name) → IsIndex ns m → None ≡ entry_of m n →
    length ns ≡ position_or_len (bytes_eq n) ns
place_none ns m n h e = found_none (bytes_eq n) ns (e ∙ index_at ns m n h)

-- ---- one more fact

some_if : (b : Bool) (i : ℕ) → is_some (cond b (Some i) None) ≡ b
some_if true i = refl
some_if false i = refl

any_is : (ns : List Name) (n : Name) → is_among n ns ≡ is_some (position (bytes_eq n) ns)
any_is ns n = any_place n ns ∙ sym (some_if _ _)

push_place : (a l : ℕ) (b : Bool) → a ≤ l →
    cond (nat_lt (cond (a == l) (l + cond b 0 1) a) (l + 1)) (Some (cond (a == l) (l + cond b 0 1) a)) None
    ≡ option_or (cond (nat_lt a l) (Some a) None) (cond b (Some l) None)
push_place a l true h = grind (arith, common_steps, h)
push_place a l false h = grind (arith, common_steps, h)

position_push : (p : Name → Bool) (xs : List Name) (y : Name) →
    position p (xs ++ y ∷ []) ≡ option_or (position p xs) (cond (p y) (Some (length xs)) None)
position_push p xs y =
    rw (position_or_len_push p xs y, length-append xs (y ∷ []))
    (push_place (position_or_len p xs) (length xs) (p y) (position_or_len-le p xs))

or_none_option : {X : Type 0} (o : Option X) → option_or o None ≡ o
or_none_option None = refl
or_none_option (Some i) = refl

or_some : (o p : Option ℕ) → is_some o ≡ true → option_or o p ≡ o
or_some (Some i) p h = refl
or_some None p h = cc

kept : (ns : List Name) (n b : Name) → is_among n ns ≡ true → (e : Bool) → bytes_eq b n ≡ e →
    option_or (position (bytes_eq b) ns) (cond e (Some (length ns)) None) ≡ position (bytes_eq b) ns
kept ns n b t false e = or_none_option (position (bytes_eq b) ns)
kept ns n b t true e =
    or_some (position (bytes_eq b) ns) (Some (length ns))
    (subst (λ (c : Name). is_some (position (bytes_eq c) ns) ≡ true) (sym ((bytes_eq-Decides b n).0 e))
    (sym (any_is ns n) ∙ t))

kept_push : (ns : List Name) (m : BTreeMap (Vec ℕ) ℕ) (n : Name) → is_among n ns ≡ true → IsIndex ns m →
    IsIndex (ns ++ n ∷ []) m
unfolding IsIndex
kept_push ns m n t h b = h b ∙ sym (position_push (bytes_eq b) ns n ∙ kept ns n b t (bytes_eq b n) refl)

-- a map stays right after a second fact of a name
pub index_again : {A : Type 0} (fs : List (Fact A)) (f : Fact A) (m : BTreeMap (Vec ℕ) ℕ) →
    is_among f.name (names_of fs) ≡ true → IsIndex (names_of fs) m → IsIndex (names_of (fs ++ f ∷ [])) m
index_again fs f m t h = rw (names_of_push fs f) (kept_push (names_of fs) m f.name t h)

-- a map with the place of the first fact of a name
pub index_first : {A : Type 0} (fs : List (Fact A)) (f : Fact A) (m n : BTreeMap (Vec ℕ) ℕ) (k : Vec ℕ) (l : ℕ) →
    k.items ≡ f.name →
    l ≡ length fs → UpdatesBy (λ x y. slice_cmp nat_cmp x.items y.items)
    (λ y. slice_cmp nat_cmp k.items y.items) m n (Some l) →
    is_among f.name (names_of fs) ≡ false → IsIndex (names_of fs) m → IsIndex (names_of (fs ++ f ∷ [])) n
index_first fs f m n k l e s u t h =
    let ns = names_of fs in
    let size : l ≡ length ns = s ∙ sym (names_length fs) in
    let v = subst (λ (i : ℕ). UpdatesBy (λ x y. slice_cmp nat_cmp x.items y.items)
    (λ y. slice_cmp nat_cmp k.items y.items) m n (Some i)) size u in
    let none : position (bytes_eq k.items) ns
    ≡ None = rw e (none_is (position (bytes_eq f.name) ns) (sym (any_is ns f.name) ∙ t)) in
    rw (names_of_push fs f, sym e) (index_more ns m n k v none h)

-- something that is found before what one of two options has
pub else_or : {X : Type 0} (b : Bool) (x : X) (o q : Option X) →
    cond b (Some x) (option_or o q) ≡ option_or (cond b (Some x) o) q
else_or true x o q = refl
else_or false x o q = refl

-- the first repeat of names with others after them: that before, else the first among the others
pub repeat_append : (before ns ms : List Name) →
    first_repeat before (ns ++ ms) ≡ option_or (first_repeat before ns) (first_repeat (before ++ ns) ms)
repeat_append before [] ms = ap (λ (xs : List Name). first_repeat xs ms) (sym (append_none before))
repeat_append before (n ∷ ns) ms =
    ap (λ (o : Option Name). cond (is_among n before) (Some n) o)
    (repeat_append (before ++ n ∷ []) ns ms ∙ rw (append_assoc before (n ∷ []) ns) refl)
    ∙ else_or (is_among n before) n (first_repeat (before ++ n ∷ []) ns) (first_repeat (before ++ n ∷ ns) ms)

-- with one more after them: that before, else the new name if it is among them
repeat_push : (before ns : List Name) (n : Name) → first_repeat before (ns ++ n ∷ [])
    ≡ option_or (first_repeat before ns) (cond (is_among n (before ++ ns)) (Some n) None)
repeat_push before ns n = repeat_append before ns (n ∷ [])

-- there is a repeat if there is a first one
pub repeat_is : (before ns : List Name) → is_some (first_repeat before ns) ≡ repeats before ns
repeat_is before [] = refl
repeat_is before (n ∷ ns) = either (is_among n before) (repeat_is (before ++ n ∷ []) ns)
  where
    either : (b : Bool) → is_some (first_repeat (before ++ n ∷ []) ns) ≡ repeats (before ++ n ∷ []) ns →
        is_some (cond b (Some n) (first_repeat (before ++ n ∷ []) ns)) ≡ (b || repeats (before ++ n ∷ []) ns)
    either true h = refl
    either false h = h

-- an option has something if its picture has
pub some_view : {X Y : Type 0} (f : X → Y) (o : Option X) → is_some (option_map f o) ≡ is_some o
some_view f None = refl
some_view f (Some x) = refl

-- a name that is kept is the first repeat
pub repeat_found : {X : Type 0} (f : X → Name) (o : Option X) (ns : List Name) →
    option_map f o ≡ first_repeat [] ns → is_some o ≡ repeats [] ns
repeat_found f o ns h = sym (some_view f o) ∙ ap is_some h ∙ repeat_is [] ns

-- after a second fact of a name: the first repeat, else this name
pub repeat_again : {A : Type 0} (fs : List (Fact A)) (f : Fact A) → is_among f.name (names_of fs) ≡ true →
    option_or (first_repeat [] (names_of fs)) (Some f.name) ≡ first_repeat [] (names_of (fs ++ f ∷ []))
repeat_again fs f t = rw (names_of_push fs f, repeat_push [] (names_of fs) f.name, t) refl

-- after the first fact of a name: the same first repeat
pub repeat_first : {A : Type 0} (fs : List (Fact A)) (f : Fact A) → is_among f.name (names_of fs) ≡ false →
    first_repeat [] (names_of fs) ≡ first_repeat [] (names_of (fs ++ f ∷ []))
repeat_first fs f t = rw (names_of_push fs f, repeat_push [] (names_of fs) f.name, t)
    (sym (or_none_option (first_repeat [] (names_of fs))))

-- a name that is kept before a second fact is the first repeat after it
pub repeat_kept : {X A : Type 0} (v : X → Name) (o : Option X) (fs : List (Fact A)) (f : Fact A) →
    is_among f.name (names_of fs) ≡ true → option_map v o ≡ first_repeat [] (names_of fs) → is_some o ≡ true →
    option_map v o ≡ first_repeat [] (names_of (fs ++ f ∷ []))
repeat_kept v None fs f t h e = cc
repeat_kept v (Some x) fs f t h e = ap (λ (p : Option Name). option_or p (Some f.name)) h ∙ repeat_again fs f t

-- where none is kept before a second fact its name is the first repeat after it
pub repeat_new : {X A : Type 0} (v : X → Name) (o : Option X) (fs : List (Fact A)) (f : Fact A) (k : Name) →
    is_among f.name (names_of fs) ≡ true → option_map v o ≡ first_repeat [] (names_of fs) → is_some o ≡ false →
    k ≡ f.name → Some k ≡ first_repeat [] (names_of (fs ++ f ∷ []))
repeat_new v (Some x) fs f k t h e s = cc
repeat_new v None fs f k t h e s =
    ap (λ (n : Name). Some n) s ∙ ap (λ (p : Option Name). option_or p (Some f.name)) h ∙ repeat_again fs f t
