-- A part of the grammar, with its reading and all that holds of it; and parts that are made of parts.
use Rattle.std.proofs.Common.{◌≡◌, ◌⊎◌, ℕ, zero, suc, ◌<◌, true, false, List, [], ◌∷◌, ◌++◌, length}
use Rattle.std.proofs.Common.{length-append, Option, Some, None, Result, Ok, Err, refl, sym, ap, subst, ◌∙◌}
use Rattle.std.proofs.Common.{append_assoc, arith}
use Rattle.std.specs.List.{flat_map}
use mathlib.Core.Logic.{inl, inr}
use Rattle.ss_words.specs.declared.mark.Mark.{Mark}
use Rattle.ss_words.specs.Plain.{Plain, mark, first}
use Rattle.ss_words.specs.declared.refusal.Refusal.{Refusal}
use Rattle.ss_words.specs.Reading.{Read, Reading, pure, look, skip, many_from, many}
use Rattle.ss_words.specs.Marks.{is, expect, eat, a_name, a_number, a_picture}
use Rattle.ss_words.proofs.Laws.{IsRead, Good, GoodAt, Any, fits_option, spell_option, pure_good}
use Rattle.ss_words.proofs.Laws.{bind_good, look_good, skip_good, good_at, many_read}
use Rattle.ss_words.proofs.Local.{Rooms, Local, LocalAt, anywhere, pure_local, bind_local}
use Rattle.ss_words.proofs.Local.{look_local, skip_local, many_local}
use Rattle.ss_words.proofs.Marks.{spell_mark, spell_eaten, spell_name, spell_number, spell_picture, expect_good}
use Rattle.ss_words.proofs.Marks.{eat_good, name_good, number_good, picture_good, expect_local, eat_local, name_local}
use Rattle.ss_words.proofs.Marks.{number_local, picture_local, expect_read_back, eat_read_back, not_eaten}
use Rattle.ss_words.proofs.Marks.{name_read_back, number_read_back, picture_read_back}
use Rattle.ss_words.proofs.ReadBack.{then, many_ends, many_goes}
use Rattle.ss_routines.specs.Combined.{pair, behind, before, made, if_mark, if_word, either, star, by_table}
use Rattle.ss_routines.proofs.Tally as tally
use Rattle.ss_routines.proofs.Tally.{Leaves, Tally, TallyAt, pure_tally, bind_tally, look_tally, skip_tally}
use Rattle.ss_routines.proofs.Tally.{expect_tally, eat_tally, name_tally, number_tally, picture_tally, many_tally}

-- p reads such parts if n parentheses may be open, p' if xs many or more may be; ends says which
-- words may be after a part
pub record Form (rooms : Rooms) (n : ℕ) (A : Type 0) : Type 1 where
  pub sp : A → List Plain
  pub fits : A → Type 0
  pub ends : List Plain → Type 0
  pub p : Reading A
  pub p' : Reading A
  pub good : Good fits sp [] p
  pub near : Local rooms p p'
  pub counted : Tally n p
  pub again : (a : A) (y : List Plain) → fits a → ends y → p (sp a ++ y) ≡ (Ok a, y)

-- a part that may be there or not; none says which words are there if the part is not
pub record Item (rooms : Rooms) (n : ℕ) (A : Type 0) : Type 1 where
  pub sp : A → List Plain
  pub fits : A → Type 0
  pub ends : List Plain → Type 0
  pub none : List Plain → Type 0
  pub p : Reading (Option A)
  pub p' : Reading (Option A)
  pub good : Good (fits_option fits) (spell_option sp) [] p
  pub near : Local rooms p p'
  pub counted : Tally n p
  pub some : (a : A) → 0 < length (sp a)
  pub goes : (a : A) (y : List Plain) → fits a → ends y → p (sp a ++ y) ≡ (Ok (Some a), y)
  pub stops : (y : List Plain) → none y → p y ≡ (Ok None, y)

-- each member of a list
abbrev pub Each : {A : Type 0} → (A → Type 0) → List A → Type 0
Each P [] = Unit {0}
Each P (x ∷ xs) = P x × Each P xs

abbrev pub Anything : List Plain → Type 0
Anything y = Unit {0}

module _ (rooms : Rooms) (n : ℕ) where
  abbrev pub name_form : Form rooms n (List ℕ)
  name_form =
      record {
        sp = spell_name;
        fits = Any;
        ends = Anything;
        p = a_name;
        p' = a_name;
        good = name_good;
        near = name_local rooms;
        counted = name_tally n;
        again = λ a y f e. name_read_back a y;
      }

  abbrev pub number_form : Form rooms n ℕ
  number_form =
      record {
        sp = spell_number;
        fits = Any;
        ends = Anything;
        p = a_number;
        p' = a_number;
        good = number_good;
        near = number_local rooms;
        counted = number_tally n;
        again = λ a y f e. number_read_back a y;
      }

  abbrev pub picture_form : Form rooms n (List (List ℕ))
  picture_form =
      record {
        sp = spell_picture;
        fits = Any;
        ends = Anything;
        p = a_picture;
        p' = a_picture;
        good = picture_good;
        near = picture_local rooms;
        counted = picture_tally n;
        again = λ a y f e. picture_read_back a y;
      }

  abbrev pub mark_form : (k : Mark) → Leaves 0 (mark k ∷ []) → Form rooms n (Unit {0})
  mark_form k l =
      record {
        sp = spell_mark k;
        fits = Any;
        ends = Anything;
        p = expect k;
        p' = expect k;
        good = expect_good k;
        near = expect_local rooms k;
        counted = expect_tally n k l;
        again = λ a y f e. expect_read_back k y;
      }

  pub nothing_read_back : (a : Unit {0}) (y : List Plain) → pure tt y ≡ (Ok a, y)
  unfolding pure
  nothing_read_back a y = refl

  abbrev pub nothing_form : Form rooms n (Unit {0})
  nothing_form =
      record {
        sp = λ u. [];
        fits = Any;
        ends = Anything;
        p = pure tt;
        p' = pure tt;
        good = pure_good Any (λ u. []) []
            tt tt refl;
        near = pure_local rooms tt;
        counted = pure_tally n tt;
        again = λ a y f e. nothing_read_back a y;
      }

-- ---- one part and then another

module _ {rooms : Rooms} {n : ℕ} {A B : Type 0} (F : Form rooms n A) (G : Form rooms n B) where
  abbrev pub pair_sp : A × B → List Plain
  pair_sp x = F.sp x.0 ++ G.sp x.1

  abbrev pub pair_fits : A × B → Type 0
  pair_fits x = F.fits x.0 × G.fits x.1

  pub pair_good : Good pair_fits pair_sp [] (pair F.p G.p)
  unfolding pair
  pair_good =
      bind_good F.fits pair_fits F.sp pair_sp [] _ (λ a fa. bind_good G.fits pair_fits G.sp pair_sp (F.sp a) _
      (λ b fb. pure_good pair_fits pair_sp _ (a, b) (fa, fb) refl) G.p G.good) F.p F.good

  pub pair_near : Local rooms (pair F.p G.p) (pair F.p' G.p')
  unfolding pair
  pair_near =
      bind_local rooms _ _ (λ a. bind_local rooms _ _ (λ b. pure_local rooms (a, b)) G.p' G.p G.near) F.p' F.p F.near

  pub pair_counted : Tally n (pair F.p G.p)
  unfolding pair
  pair_counted = bind_tally n _ (λ a. bind_tally n _ (λ b. pure_tally n (a, b)) G.p G.counted) F.p F.counted

  module _ (c : (b : B) (y : List Plain) → G.fits b → G.ends y → F.ends (G.sp b ++ y)) where
    pub pair_read_back : (x : A × B) (y : List Plain) → pair_fits x → G.ends y
        → pair F.p G.p (pair_sp x ++ y) ≡ (Ok x, y)
    unfolding pair pure
    pair_read_back (a, b) y (fa, fb) e =
        ap (pair F.p G.p) (append_assoc (F.sp a) (G.sp b) y)
        ∙ then F.p _ a (F.sp a ++ (G.sp b ++ y)) (G.sp b ++ y) (F.again a (G.sp b ++ y) fa (c b y fb e))
        ∙ then G.p _ b (G.sp b ++ y) y (G.again b y fb e)

    abbrev pub pair_form : Form rooms n (A × B)
    pair_form =
        record {
          sp = pair_sp;
          fits = pair_fits;
          ends = G.ends;
          p = pair F.p G.p;
          p' = pair F.p' G.p';
          good = pair_good;
          near = pair_near;
          counted = pair_counted;
          again = pair_read_back;
        }

-- ---- a mark before a part or after it

module _ {rooms : Rooms} {n : ℕ} {A : Type 0} (k : Mark) (l : Leaves 0 (mark k ∷ [])) (F : Form rooms n A) where
  abbrev pub behind_sp : A → List Plain
  behind_sp a = mark k ∷ F.sp a

  pub behind_moved : (o : Result A Refusal) (ws r : List Plain) → IsRead F.fits F.sp [] o ws r
      → IsRead F.fits behind_sp (mark k ∷ []) o ws r
  behind_moved (Ok a) ws r (f, q, e, h) = (f, q, e, ap (λ (u : List Plain). mark k ∷ u) h)
  behind_moved (Err g) ws r (q, e, a, f, x, h) = (q, e, a, f, x, ap (λ (u : List Plain). mark k ∷ u) h)

  pub behind_inner : Good F.fits behind_sp (mark k ∷ []) F.p
  behind_inner =
      let g = F.good in record {
        read = λ ws. behind_moved (F.p ws).0 ws (F.p ws).1 (g.read ws);
        some = (g.some.0, g.some.1, g.some.2, ap (λ (u : List Plain). mark k ∷ u) g.some.3);
      }

  pub behind_good : Good F.fits behind_sp [] (behind k F.p)
  unfolding behind
  behind_good = bind_good Any F.fits (spell_mark k) behind_sp [] _ (λ u h. behind_inner) (expect k) (expect_good k)

  pub behind_near : Local rooms (behind k F.p) (behind k F.p')
  unfolding behind
  behind_near = bind_local rooms _ _ (λ u. F.near) (expect k) (expect k) (expect_local rooms k)

  pub behind_counted : Tally n (behind k F.p)
  unfolding behind
  behind_counted = bind_tally n _ (λ u. F.counted) (expect k) (expect_tally n k l)

  pub behind_read_back : (a : A) (y : List Plain) → F.fits a → F.ends y → behind k F.p (behind_sp a ++ y) ≡ (Ok a, y)
  unfolding behind
  behind_read_back a y f e =
      then (expect k) _ tt (mark k ∷ (F.sp a ++ y)) (F.sp a ++ y) (expect_read_back k _) ∙ F.again a y f e

  abbrev pub behind_form : Form rooms n A
  behind_form =
      record {
        sp = behind_sp;
        fits = F.fits;
        ends = F.ends;
        p = behind k F.p;
        p' = behind k F.p';
        good = behind_good;
        near = behind_near;
        counted = behind_counted;
        again = behind_read_back;
      }

module _ {rooms : Rooms} {n : ℕ} {A : Type 0} (F : Form rooms n A) (k : Mark) (l : Leaves 0 (mark k ∷ [])) where
  abbrev pub before_sp : A → List Plain
  before_sp a = F.sp a ++ mark k ∷ []

  pub before_good : Good F.fits before_sp [] (before F.p k)
  unfolding before
  before_good =
      bind_good F.fits F.fits F.sp before_sp [] _ (λ a fa. bind_good Any F.fits (spell_mark k) before_sp (F.sp a) _
      (λ u h. pure_good F.fits before_sp _ a fa refl) (expect k) (expect_good k)) F.p F.good

  pub before_near : Local rooms (before F.p k) (before F.p' k)
  unfolding before
  before_near =
      bind_local rooms _ _ (λ a. bind_local rooms _ _ (λ u. pure_local rooms a) (expect k) (expect k)
      (expect_local rooms k)) F.p' F.p F.near

  pub before_counted : Tally n (before F.p k)
  unfolding before
  before_counted =
      bind_tally n _ (λ a. bind_tally n _ (λ u. pure_tally n a) (expect k) (expect_tally n k l)) F.p F.counted

  module _ (c : (y : List Plain) → F.ends (mark k ∷ y)) where
    pub before_read_back : (a : A) (y : List Plain) → F.fits a → Anything y
        → before F.p k (before_sp a ++ y) ≡ (Ok a, y)
    unfolding before pure
    before_read_back a y f e =
        ap (before F.p k) (append_assoc (F.sp a) (mark k ∷ []) y)
        ∙ then F.p _ a (F.sp a ++ mark k ∷ y) (mark k ∷ y) (F.again a (mark k ∷ y) f (c y))
        ∙ then (expect k) _ tt (mark k ∷ y) y (expect_read_back k y)

    abbrev pub before_form : Form rooms n A
    before_form =
        record {
          sp = before_sp;
          fits = F.fits;
          ends = Anything;
          p = before F.p k;
          p' = before F.p' k;
          good = before_good;
          near = before_near;
          counted = before_counted;
          again = before_read_back;
        }

-- ---- the same parts under other names

module _ {rooms : Rooms} {n : ℕ} {A B : Type 0} (F : Form rooms n A) (sp : B → List Plain) (fits : B → Type 0)
    (f : A → B) (g : B → A)
    (inverse : (b : B) → f (g b) ≡ b) (spelled : (a : A) → sp (f a) ≡ F.sp a) (there : (a : A) → F.fits a → fits (f a))
    (back : (b : B) → fits b → F.fits (g b)) where
  pub made_good : Good fits sp [] (made f F.p)
  unfolding made
  made_good =
      bind_good F.fits fits F.sp sp [] _ (λ a fa. pure_good fits sp _ (f a) (there a fa) (sym (spelled a))) F.p F.good

  pub made_near : Local rooms (made f F.p) (made f F.p')
  unfolding made
  made_near = bind_local rooms _ _ (λ a. pure_local rooms (f a)) F.p' F.p F.near

  pub made_counted : Tally n (made f F.p)
  unfolding made
  made_counted = bind_tally n _ (λ a. pure_tally n (f a)) F.p F.counted

  pub made_read_back : (b : B) (y : List Plain) → fits b → F.ends y → made f F.p (sp b ++ y) ≡ (Ok b, y)
  unfolding made pure
  made_read_back b y h e =
      let same : sp b ≡ F.sp (g b) = ap sp (sym (inverse b)) ∙ spelled (g b) in
      ap (λ (u : List Plain). made f F.p (u ++ y)) same
      ∙ then F.p _ (g b) (F.sp (g b) ++ y) y (F.again (g b) y (back b h) e)
      ∙ ap (λ (c : B). let x : Read B = (Ok c, y) in x) (inverse b)

  abbrev pub made_form : Form rooms n B
  made_form =
      record {
        sp = sp;
        fits = fits;
        ends = F.ends;
        p = made f F.p;
        p' = made f F.p';
        good = made_good;
        near = made_near;
        counted = made_counted;
        again = made_read_back;
      }

-- ---- a mark and a part, if the mark is there

module _ {rooms : Rooms} {n : ℕ} {A : Type 0} (k : Mark) (l : Leaves 0 (mark k ∷ [])) (F : Form rooms n A) where
  abbrev pub mark_sp : A → List Plain
  mark_sp a = mark k ∷ F.sp a

  pub mark_good : Good (fits_option F.fits) (spell_option mark_sp) [] (if_mark k F.p)
  unfolding if_mark
  mark_good = bind_good Any (fits_option F.fits) (spell_eaten k) (spell_option mark_sp) [] _ (elim [
    | true ↦ (λ u. bind_good F.fits (fits_option F.fits) F.sp (spell_option mark_sp) (mark k ∷ []) _
        (λ a fa. pure_good _ _ _ (Some a) fa refl) F.p F.good)
    | false ↦ (λ u. pure_good _ _ _ None tt refl)
  ]) (eat k) (eat_good k)

  pub mark_near : Local rooms (if_mark k F.p) (if_mark k F.p')
  unfolding if_mark
  mark_near =
      bind_local rooms _ _ (elim [
        | true ↦ bind_local rooms _ _ (λ a. pure_local rooms (Some a)) F.p' F.p
            F.near
        | false ↦ pure_local rooms None
      ]) (eat k) (eat k) (eat_local rooms k)

  pub mark_counted : Tally n (if_mark k F.p)
  unfolding if_mark
  mark_counted =
      bind_tally n _ (elim [
        | true ↦ bind_tally n _ (λ a. pure_tally n (Some a)) F.p F.counted
        | false ↦ pure_tally n
            None
      ]) (eat k) (eat_tally n k l)

  pub mark_goes : (a : A) (y : List Plain) → F.fits a → F.ends y → if_mark k F.p (mark_sp a ++ y) ≡ (Ok (Some a), y)
  unfolding if_mark pure
  mark_goes a y f e =
      then (eat k) _ true (mark k ∷ (F.sp a ++ y)) (F.sp a ++ y) (eat_read_back k _)
      ∙ then F.p _ a (F.sp a ++ y) y (F.again a y f e)

  pub mark_stops : (y : List Plain) → is k (first y) ≡ false → if_mark k F.p y ≡ (Ok None, y)
  unfolding if_mark pure
  mark_stops y e = then (eat k) _ false y y (not_eaten k y e)

  abbrev pub mark_item : Item rooms n A
  mark_item =
      record {
        sp = mark_sp;
        fits = F.fits;
        ends = F.ends;
        none = λ y. is k (first y) ≡ false;
        p = if_mark k F.p;
        p' = if_mark k F.p';
        good = mark_good;
        near = mark_near;
        counted = mark_counted;
        some = λ a. omega arith;
        goes =
            mark_goes;
        stops = mark_stops;
      }

-- ---- a part or nothing

module _ {rooms : Rooms} {n : ℕ} {A : Type 0} (I : Item rooms n A) where
  pub option_read_back : (a : Option A) (y : List Plain) → fits_option I.fits a → I.ends y × I.none y
      → I.p (spell_option I.sp a ++ y) ≡ (Ok a, y)
  option_read_back (Some a) y f e = I.goes a y f e.0
  option_read_back None y f e = I.stops y e.1

  abbrev pub option_form : Form rooms n (Option A)
  option_form =
      record {
        sp = spell_option I.sp;
        fits = fits_option I.fits;
        ends = λ y. I.ends y
            × I.none y;
        p = I.p;
        p' = I.p';
        good = I.good;
        near = I.near;
        counted = I.counted;
        again = option_read_back;
      }

-- ---- a part, or else another

module _ {rooms : Rooms} {n : ℕ} {A B : Type 0} (I : Item rooms n A) (G : Form rooms n B) where
  abbrev pub either_sp : A ⊎ B → List Plain
  either_sp (inl a) = I.sp a
  either_sp (inr b) = G.sp b

  abbrev pub either_fits : A ⊎ B → Type 0
  either_fits (inl a) = I.fits a
  either_fits (inr b) = G.fits b

  pub either_good : Good either_fits either_sp [] (either I.p G.p)
  unfolding either
  either_good = bind_good (fits_option I.fits) either_fits (spell_option I.sp) either_sp [] _ (elim [
    | Some a ↦ (λ fa. pure_good either_fits either_sp _ (inl a) fa refl)
    | None ↦ (λ u. bind_good G.fits either_fits G.sp either_sp [] _
        (λ b fb. pure_good either_fits either_sp _ (inr b) fb refl) G.p G.good)
  ]) I.p I.good

  pub either_near : Local rooms (either I.p G.p) (either I.p' G.p')
  unfolding either
  either_near =
      bind_local rooms _ _ (elim [
        | Some a ↦ pure_local rooms (inl a)
        | None ↦ bind_local rooms _ _
            (λ b. pure_local rooms (inr b)) G.p' G.p G.near
      ]) I.p' I.p I.near

  pub either_counted : Tally n (either I.p G.p)
  unfolding either
  either_counted =
      bind_tally n _ (elim [
        | Some a ↦ pure_tally n (inl a)
        | None ↦ bind_tally n _ (λ b. pure_tally n (inr b)) G.p
            G.counted
      ]) I.p I.counted

  module _ (c : (b : B) (y : List Plain) → G.fits b → G.ends y → I.none (G.sp b ++ y)) where
    pub either_read_back : (x : A ⊎ B) (y : List Plain) → either_fits x → I.ends y × G.ends y
        → either I.p G.p (either_sp x ++ y) ≡ (Ok x, y)
    unfolding either pure
    either_read_back (inl a) y f e = then I.p _ (Some a) (I.sp a ++ y) y (I.goes a y f e.0)
    either_read_back (inr b) y f e =
        then I.p _ None (G.sp b ++ y) (G.sp b ++ y) (I.stops (G.sp b ++ y) (c b y f e.1))
        ∙ then G.p _ b (G.sp b ++ y) y (G.again b y f e.1)

    abbrev pub either_form : Form rooms n (A ⊎ B)
    either_form =
        record {
          sp = either_sp;
          fits = either_fits;
          ends = λ y. I.ends y
              × G.ends y;
          p = either I.p G.p;
          p' = either I.p' G.p';
          good = either_good;
          near = either_near;
          counted =
              either_counted;
          again = either_read_back;
        }

-- ---- parts as long as there is one

module _ {rooms : Rooms} {n : ℕ} {A : Type 0} (I : Item rooms n A) where
  pub star_good : Good (Each I.fits) (flat_map I.sp) [] (star I.p)
  unfolding star
  star_good =
      many_read I.fits (Each I.fits) I.sp (flat_map I.sp) I.p [] (λ a xs. a ∷ xs) I.good tt (λ a xs f fs. (f, fs)) refl
      (λ a xs. refl)

  pub star_near : Local rooms (star I.p) (star I.p')
  unfolding star
  star_near = many_local rooms (fits_option I.fits) I.sp I.p I.p' [] (λ a xs. a ∷ xs) I.good I.near I.some

  pub star_counted : Tally n (star I.p)
  unfolding star
  star_counted = many_tally n I.p [] (λ a xs. a ∷ xs) I.counted

  module _ (c : (a : A) (y : List Plain) → I.ends (I.sp a ++ y)) where
    pub star_ends : (xs : List A) (y : List Plain) → I.ends y → I.ends (flat_map I.sp xs ++ y)
    star_ends [] y e = e
    star_ends (a ∷ xs) y e =
        subst I.ends (sym (append_assoc (I.sp a) (flat_map I.sp xs) y)) (c a (flat_map I.sp xs ++ y))

    pub star_each : (xs : List A) (y : List Plain) (k : ℕ) → Each I.fits xs → I.ends y → I.none y
        → length (flat_map I.sp xs ++ y) < k
        → many_from I.p [] (λ a xs. a ∷ xs) k (flat_map I.sp xs ++ y) ≡ (Ok xs, y)
    star_each xs y zero f e stop lt = absurd (omega (arith, lt))
    star_each [] y (suc k) f e stop lt = many_ends I.p [] (λ a xs. a ∷ xs) k y y (I.stops y stop)
    star_each (a ∷ xs) y (suc k) f e stop lt =
        let z = flat_map I.sp xs ++ y in
        ap (many_from I.p [] (λ a xs. a ∷ xs) (suc k)) (append_assoc (I.sp a) (flat_map I.sp xs) y)
        ∙ many_goes I.p [] (λ a xs. a ∷ xs) k a xs (I.sp a ++ z) z y
        (I.goes a z f.0 (star_ends xs y e))
        (star_each xs y k f.1 e stop (omega (
          arith,
          lt,
          I.some a,
          length-append (I.sp a ++ flat_map I.sp xs) y,
          length-append (I.sp a) (flat_map I.sp xs),
          length-append (flat_map I.sp xs) y,
        )))

    pub star_read_back : (xs : List A) (y : List Plain) → Each I.fits xs → I.ends y × I.none y
        → star I.p (flat_map I.sp xs ++ y) ≡ (Ok xs, y)
    unfolding star many
    star_read_back xs y f e = star_each xs y (suc (length (flat_map I.sp xs ++ y))) f e.0 e.1 (omega arith)

    abbrev pub star_form : Form rooms n (List A)
    star_form =
        record {
          sp = flat_map I.sp;
          fits = Each I.fits;
          ends = λ y. I.ends y
              × I.none y;
          p = star I.p;
          p' = star I.p';
          good = star_good;
          near = star_near;
          counted = star_counted;
          again =
              star_read_back;
        }

-- ---- a word of a table and a part, if such a word is there

-- a table of words
pub record Table (W : Type 0) : Type 0 where
  pub of : Option Plain → Option W
  pub word : W → Plain
  pub there : (w : W) → of (Some (word w)) ≡ Some w
  pub only : (v : Option Plain) (w : W) → of v ≡ Some w → v ≡ Some (word w)
  pub leaves : (w : W) → Leaves 0 (word w ∷ [])

module _ (rooms : Rooms) (n : ℕ) {W : Type 0} (T : Table W) where
  abbrev pub table_sp : W → List Plain
  table_sp w = T.word w ∷ []

  table_at_good : (v : Option Plain) (o : Option W) → T.of v ≡ o
      → GoodAt Any (spell_option table_sp) [] v (elim o [ Some w ↦ skip (pure (Some w)) | None ↦ pure None ])
  table_at_good v (Some w) e =
      rw (T.only v w e) (skip_good Any (spell_option table_sp) [] (T.word w) _
      (pure_good Any (spell_option table_sp) _ (Some w) tt refl))
  table_at_good v None e =
      good_at Any (spell_option table_sp) [] v _ (pure_good Any (spell_option table_sp) [] None tt refl)

  pub table_good : Good Any (spell_option table_sp) [] (by_table T.of)
  unfolding by_table
  table_good = look_good Any (spell_option table_sp) [] _ None tt [] refl (λ v. table_at_good v (T.of v) refl)

  table_at_near : (v : Option Plain) (o : Option W) → T.of v ≡ o
      → LocalAt rooms v (let q : Reading (Option W) = elim o [ Some w ↦ skip (pure (Some w)) | None ↦ pure None ] in q)
      (let q : Reading (Option W) = elim o [ Some w ↦ skip (pure (Some w)) | None ↦ pure None ] in q)
  table_at_near v (Some w) e = rw (T.only v w e) (skip_local rooms (T.word w) _ _ (pure_local rooms (Some w)))
  table_at_near v None e = anywhere rooms v _ _ (pure_local rooms None)

  pub table_near : Local rooms (by_table T.of) (by_table T.of)
  unfolding by_table
  table_near = look_local rooms _ _ (λ v. table_at_near v (T.of v) refl)

  table_at_counted : (v : Option Plain) (o : Option W) → T.of v ≡ o
      → TallyAt n v (let q : Reading (Option W) = elim o [ Some w ↦ skip (pure (Some w)) | None ↦ pure None ] in q)
  table_at_counted v (Some w) e = rw (T.only v w e) (skip_tally n (T.word w) _ (T.leaves w) (pure_tally n (Some w)))
  table_at_counted v None e = tally.anywhere n v _ (pure_tally n None)

  pub table_counted : Tally n (by_table T.of)
  unfolding by_table
  table_counted = look_tally n _ (λ v. table_at_counted v (T.of v) refl)

  pub table_goes : (w : W) (y : List Plain) → by_table T.of (T.word w ∷ y) ≡ (Ok (Some w), y)
  unfolding by_table look skip pure
  table_goes w y =
      ap (λ (o : Option W). let q : Reading (Option W) = elim o [ Some w ↦ skip (pure (Some w)) | None ↦ pure None ] in
      q (T.word w ∷ y)) (T.there w)

  pub table_stops : (y : List Plain) → T.of (first y) ≡ None → by_table T.of y ≡ (Ok None, y)
  unfolding by_table look skip pure
  table_stops y e =
      ap (λ (o : Option W). let q : Reading (Option W) = elim o [ Some w ↦ skip (pure (Some w)) | None ↦ pure None ] in
      q y) e

  pub table_any : Good (fits_option Any) (spell_option table_sp) [] (by_table T.of)
  table_any =
      record {
        read = λ ws. put (by_table T.of ws).0 ws (by_table T.of ws).1 (table_good.read ws);
        some = (None, tt, [], refl);
      }
    where
      put : (o : Result (Option W) Refusal) (ws r : List Plain) → IsRead Any (spell_option table_sp) [] o ws r
          → IsRead (fits_option Any) (spell_option table_sp) [] o ws r
      put (Ok (Some w)) ws r h = h
      put (Ok None) ws r h = h
      put (Err g) ws r (q, e, Some a, f, x, k) = (q, e, Some a, tt, x, k)
      put (Err g) ws r (q, e, None, f, x, k) = (q, e, None, tt, x, k)

  -- a word of the table, or nothing
  abbrev pub table_item : Item rooms n W
  table_item =
      record {
        sp = table_sp;
        fits = Any;
        ends = Anything;
        none = λ y. T.of (first y) ≡ None;
        p = by_table T.of;
        p' = by_table T.of;
        good = table_any;
        near = table_near;
        counted = table_counted;
        some = λ w. omega arith;
        goes =
            λ w y f e. table_goes w y;
        stops = table_stops;
      }

module _ {rooms : Rooms} {n : ℕ} {W A : Type 0} (T : Table W) (F : Form rooms n A) where
  abbrev pub word_sp : W × A → List Plain
  word_sp x = T.word x.0 ∷ F.sp x.1

  abbrev pub word_fits : W × A → Type 0
  word_fits x = F.fits x.1

  pub word_good : Good (fits_option word_fits) (spell_option word_sp) [] (if_word (by_table T.of) F.p)
  unfolding if_word
  word_good =
      bind_good Any (fits_option word_fits) (spell_option (table_sp rooms n T)) (spell_option word_sp) [] _ (elim [
        | Some w ↦ (λ u. bind_good F.fits (fits_option word_fits) F.sp (spell_option word_sp) (T.word w ∷ []) _
            (λ a fa. pure_good _ _ _ (Some (w, a)) fa refl) F.p F.good)
        | None ↦ (λ u. pure_good _ _ _ None tt refl)
      ]) (by_table T.of) (table_good rooms n T)

  pub word_near : Local rooms (if_word (by_table T.of) F.p) (if_word (by_table T.of) F.p')
  unfolding if_word
  word_near =
      bind_local rooms _ _ (elim [
        | Some w ↦ bind_local rooms _ _ (λ a. pure_local rooms (Some (w, a))) F.p' F.p
            F.near
        | None ↦ pure_local rooms None
      ]) (by_table T.of) (by_table T.of) (table_near rooms n T)

  pub word_counted : Tally n (if_word (by_table T.of) F.p)
  unfolding if_word
  word_counted =
      bind_tally n _ (elim [
        | Some w ↦ bind_tally n _ (λ a. pure_tally n (Some (w, a))) F.p F.counted
        | None ↦ pure_tally
            n None
      ]) (by_table T.of) (table_counted rooms n T)

  pub word_goes : (x : W × A) (y : List Plain) → word_fits x → F.ends y
      → if_word (by_table T.of) F.p (word_sp x ++ y) ≡ (Ok (Some x), y)
  unfolding if_word pure
  word_goes (w, a) y f e =
      then (by_table T.of) _ (Some w) (T.word w ∷ (F.sp a ++ y)) (F.sp a ++ y) (table_goes rooms n T w _)
      ∙ then F.p _ a (F.sp a ++ y) y (F.again a y f e)

  pub word_stops : (y : List Plain) → T.of (first y) ≡ None → if_word (by_table T.of) F.p y ≡ (Ok None, y)
  unfolding if_word pure
  word_stops y e = then (by_table T.of) _ None y y (table_stops rooms n T y e)

  abbrev pub word_item : Item rooms n (W × A)
  word_item =
      record {
        sp = word_sp;
        fits = word_fits;
        ends = F.ends;
        none = λ y. T.of (first y) ≡ None;
        p = if_word
            (by_table T.of) F.p;
        p' = if_word (by_table T.of) F.p';
        good = word_good;
        near = word_near;
        counted =
            word_counted;
        some = λ x. omega arith;
        goes = word_goes;
        stops = word_stops;
      }
