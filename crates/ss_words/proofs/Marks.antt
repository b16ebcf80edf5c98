-- The facts that the readings of one word keep, for all words at once.
use Rattle.std.proofs.Common.{◌≡◌, ℕ, ◌<◌, Bool, true, false, List, [], ◌∷◌, ◌++◌, length, Option, Some, None}
use Rattle.std.proofs.Common.{Ok, refl, sym, ap, arith}
use denote.Enum.Bare.{same_true, true_same}
use Rattle.ss_words.specs.contracts.reserved.Reserved.{the_type as reserved_type}
use Rattle.ss_words.specs.contracts.word.Sign.{the_type as sign_type}
use Rattle.ss_words.specs.declared.mark.Mark.{Mark}
use Rattle.ss_words.specs.declared.mark.Mark.TheVariants as m
use Rattle.ss_words.specs.declared.refusal.Refusal.TheVariants.{Unexpected}
use Rattle.ss_words.specs.Plain.{Plain, name, number, mark, picture, first}
use Rattle.ss_words.specs.Reading.{Reading, look, skip, pure, refuse}
use Rattle.ss_words.specs.Marks.{same_mark, is, expect, eat, name_by, a_name, number_by, a_number, picture_by}
use Rattle.ss_words.specs.Marks.{a_picture}
use Rattle.ss_words.proofs.Laws.{Good, GoodAt, Any, pure_good, refuse_good, look_good, skip_good, good_at}
use Rattle.ss_words.proofs.Local.{Rooms, Local, LocalAt, anywhere, pure_local, refuse_local, look_local, skip_local}
use Rattle.ss_words.proofs.Local.{test_local}

pub is_same : (k : Mark) → is k (Some (mark k)) ≡ true
is_same (m.Sign a) = true_same sign_type a a refl
is_same (m.Reserved a) = true_same reserved_type a a refl

one_mark : (k j : Mark) → same_mark k j ≡ true → k ≡ j
one_mark (m.Sign a) (m.Sign b) e = ap m.Sign (same_true sign_type tt a b e)
one_mark (m.Sign a) (m.Reserved b) e = absurd cc
one_mark (m.Reserved a) (m.Sign b) e = absurd cc
one_mark (m.Reserved a) (m.Reserved b) e = ap m.Reserved (same_true reserved_type tt a b e)

pub is_mark : (k : Mark) (w : Plain) → is k (Some w) ≡ true → w ≡ mark k
is_mark k (mark j) e = ap mark (sym (one_mark k j e))
is_mark k (name n) e = absurd cc
is_mark k (number n) e = absurd cc
is_mark k (picture ls) e = absurd cc

abbrev pub spell_mark : Mark → Unit {0} → List Plain
spell_mark k u = mark k ∷ []

at_mark : {A : Type 0} (fits : A → Type 0) (sp : A → List Plain) (pre : List Plain) (k : Mark) (w : Option Plain)
    (p : Reading A) → is k w ≡ true → Good fits sp (pre ++ mark k ∷ []) p → GoodAt fits sp pre w (skip p)
at_mark fits sp pre k None p e good = absurd cc
at_mark fits sp pre k (Some w) p e good = rw (is_mark k w e) (skip_good fits sp pre (mark k) p good)

expect_at : (k : Mark) (w : Option Plain) (b : Bool) → is k w ≡ b
    → GoodAt Any (spell_mark k) [] w (elim b [ true ↦ skip (pure tt) | false ↦ refuse Unexpected ])
expect_at k w true e = at_mark Any (spell_mark k) [] k w (pure tt) e (pure_good Any (spell_mark k) _ tt tt refl)
expect_at k w false e =
    good_at Any (spell_mark k) [] w _ (refuse_good Any (spell_mark k) [] Unexpected tt tt (mark k ∷ []) refl)

pub expect_good : (k : Mark) → Good Any (spell_mark k) [] (expect k)
unfolding expect
expect_good k = look_good Any (spell_mark k) [] _ tt tt (mark k ∷ []) refl (λ w. expect_at k w (is k w) refl)

abbrev pub spell_eaten : Mark → Bool → List Plain
spell_eaten k true = mark k ∷ []
spell_eaten k false = []

eat_at : (k : Mark) (w : Option Plain) (b : Bool) → is k w ≡ b
    → GoodAt Any (spell_eaten k) [] w (elim b [ true ↦ skip (pure true) | false ↦ pure false ])
eat_at k w true e = at_mark Any (spell_eaten k) [] k w (pure true) e (pure_good Any (spell_eaten k) _ true tt refl)
eat_at k w false e = good_at Any (spell_eaten k) [] w _ (pure_good Any (spell_eaten k) [] false tt refl)

pub eat_good : (k : Mark) → Good Any (spell_eaten k) [] (eat k)
unfolding eat
eat_good k = look_good Any (spell_eaten k) [] _ false tt [] refl (λ w. eat_at k w (is k w) refl)

pub expect_local : (rooms : Rooms) (k : Mark) → Local rooms (expect k) (expect k)
unfolding expect
expect_local rooms k = test_local rooms (is k) _ _ _ _ refl (pure_local rooms tt) (refuse_local rooms)

pub eat_local : (rooms : Rooms) (k : Mark) → Local rooms (eat k) (eat k)
unfolding eat
eat_local rooms k = test_local rooms (is k) _ _ _ _ refl (pure_local rooms true) (pure_local rooms false)

pub expect_read_back : (k : Mark) (y : List Plain) → expect k (mark k ∷ y) ≡ (Ok tt, y)
unfolding expect look skip pure refuse
expect_read_back k y =
    ap (λ (b : Bool). let p : Reading (Unit {0}) = elim b [ true ↦ skip (pure tt) | false ↦ refuse Unexpected ] in
    p (mark k ∷ y)) (is_same k)

pub eat_read_back : (k : Mark) (y : List Plain) → eat k (mark k ∷ y) ≡ (Ok true, y)
unfolding eat look skip pure
eat_read_back k y =
    ap (λ (b : Bool). let p : Reading Bool = elim b [ true ↦ skip (pure true) | false ↦ pure false ] in p (mark k ∷ y))
    (is_same k)

pub not_eaten : (k : Mark) (y : List Plain) → is k (first y) ≡ false → eat k y ≡ (Ok false, y)
unfolding eat look skip pure
not_eaten k y e =
    ap (λ (b : Bool). let p : Reading Bool = elim b [ true ↦ skip (pure true) | false ↦ pure false ] in p y) e

-- ---- names, numbers, pictures

abbrev pub spell_name : List ℕ → List Plain
spell_name n = name n ∷ []

name_at : (w : Option Plain) → GoodAt Any spell_name [] w (name_by w)
name_at (Some (name n)) = skip_good Any spell_name [] (name n) (pure n) (pure_good Any spell_name _ n tt refl)
name_at _ = good_at Any spell_name [] _ _ (refuse_good Any spell_name [] Unexpected [] tt (name [] ∷ []) refl)

pub name_good : Good Any spell_name [] a_name
unfolding a_name
name_good = look_good Any spell_name [] name_by [] tt (name [] ∷ []) refl name_at

name_local_at : (rooms : Rooms) (w : Option Plain) → LocalAt rooms w (name_by w) (name_by w)
name_local_at rooms (Some (name n)) = skip_local rooms (name n) _ _ (pure_local rooms n)
name_local_at rooms _ = anywhere rooms _ _ _ (refuse_local rooms)

pub name_local : (rooms : Rooms) → Local rooms a_name a_name
unfolding a_name
name_local rooms = look_local rooms _ _ (name_local_at rooms)

pub name_read_back : (n : List ℕ) (y : List Plain) → a_name (name n ∷ y) ≡ (Ok n, y)
unfolding a_name look skip pure
name_read_back n y = refl

abbrev pub spell_number : ℕ → List Plain
spell_number n = number n ∷ []

number_at : (w : Option Plain) → GoodAt Any spell_number [] w (number_by w)
number_at (Some (number n)) = skip_good Any spell_number [] (number n) (pure n) (pure_good Any spell_number _ n tt refl)
number_at _ = good_at Any spell_number [] _ _ (refuse_good Any spell_number [] Unexpected 0 tt (number 0 ∷ []) refl)

pub number_good : Good Any spell_number [] a_number
unfolding a_number
number_good = look_good Any spell_number [] number_by 0 tt (number 0 ∷ []) refl number_at

number_local_at : (rooms : Rooms) (w : Option Plain) → LocalAt rooms w (number_by w) (number_by w)
number_local_at rooms (Some (number n)) = skip_local rooms (number n) _ _ (pure_local rooms n)
number_local_at rooms _ = anywhere rooms _ _ _ (refuse_local rooms)

pub number_local : (rooms : Rooms) → Local rooms a_number a_number
unfolding a_number
number_local rooms = look_local rooms _ _ (number_local_at rooms)

pub number_read_back : (n : ℕ) (y : List Plain) → a_number (number n ∷ y) ≡ (Ok n, y)
unfolding a_number look skip pure
number_read_back n y = refl

abbrev pub spell_picture : List (List ℕ) → List Plain
spell_picture ls = picture ls ∷ []

picture_at : (w : Option Plain) → GoodAt Any spell_picture [] w (picture_by w)
picture_at (Some (picture ls)) =
    skip_good Any spell_picture [] (picture ls) (pure ls) (pure_good Any spell_picture _ ls tt refl)
picture_at _ =
    good_at Any spell_picture [] _ _ (refuse_good Any spell_picture [] Unexpected [] tt (picture [] ∷ []) refl)

pub picture_good : Good Any spell_picture [] a_picture
unfolding a_picture
picture_good = look_good Any spell_picture [] picture_by [] tt (picture [] ∷ []) refl picture_at

picture_local_at : (rooms : Rooms) (w : Option Plain) → LocalAt rooms w (picture_by w) (picture_by w)
picture_local_at rooms (Some (picture ls)) = skip_local rooms (picture ls) _ _ (pure_local rooms ls)
picture_local_at rooms _ = anywhere rooms _ _ _ (refuse_local rooms)

pub picture_local : (rooms : Rooms) → Local rooms a_picture a_picture
unfolding a_picture
picture_local rooms = look_local rooms _ _ (picture_local_at rooms)

pub picture_read_back : (ls : List (List ℕ)) (y : List Plain) → a_picture (picture ls ∷ y) ≡ (Ok ls, y)
unfolding a_picture look skip pure
picture_read_back ls y = refl

-- ---- passing a mark takes a word

-- a text that begins with this mark has a word
pub taken : (k : Mark) (ws : List Plain) → is k (first ws) ≡ true → 0 < length ws
taken k [] e = absurd cc
taken k (w ∷ ws) e = omega arith
