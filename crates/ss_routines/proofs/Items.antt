-- Parts that may be there or not, made of such parts.
use Rattle.std.proofs.Common.{◌≡◌, ◌⊎◌, ℕ, ◌<◌, List, [], ◌++◌, length, length-append, Option, Some, None}
use Rattle.std.proofs.Common.{Ok, refl, sym, ap, ◌∙◌, append_assoc, arith}
use mathlib.Core.Logic.{inl, inr}
use Rattle.ss_words.specs.declared.refusal.Refusal.TheVariants.{Unexpected}
use Rattle.ss_words.specs.Plain.{Plain}
use Rattle.ss_words.specs.Reading.{Read, pure}
use Rattle.ss_words.proofs.Laws.{Good, fits_option, spell_option, pure_good, refuse_good, bind_good}
use Rattle.ss_words.proofs.Local.{Rooms, Local, pure_local, refuse_local, bind_local}
use Rattle.ss_words.proofs.ReadBack.{then}
use Rattle.ss_routines.specs.Combined.{if_word, either_of, made_of, must}
use Rattle.ss_routines.proofs.Tally.{Tally, pure_tally, refuse_tally, bind_tally}
use Rattle.ss_routines.proofs.Form.{Form, Item}

-- ---- the same part with another word for the words that may be after it

abbrev pub ending : {A : Type 0} {rooms : Rooms} {n : ℕ} (F : Form rooms n A) (ends : List Plain → Type 0)
    → ((y : List Plain) → ends y → F.ends y) → Form rooms n A
ending F ends h =
    record {
      sp = F.sp;
      fits = F.fits;
      ends = ends;
      p = F.p;
      p' = F.p';
      good = F.good;
      near = F.near;
      counted = F.counted;
      again = λ a y f e. F.again a y f (h y e);
    }

abbrev pub ending_item : {A : Type 0} {rooms : Rooms} {n : ℕ} (I : Item rooms n A) (ends : List Plain → Type 0)
    → ((y : List Plain) → ends y → I.ends y) → Item rooms n A
ending_item I ends h =
    record {
      sp = I.sp;
      fits = I.fits;
      ends = ends;
      none = I.none;
      p = I.p;
      p' = I.p';
      good = I.good;
      near = I.near;
      counted = I.counted;
      some = I.some;
      goes = λ a y f e. I.goes a y f (h y e);
      stops = I.stops;
    }

-- ---- a part and another after it, if the first is there

module _ {rooms : Rooms} {n : ℕ} {A B : Type 0} (I : Item rooms n A) (G : Form rooms n B) where
  abbrev pub and_sp : A × B → List Plain
  and_sp x = I.sp x.0 ++ G.sp x.1

  abbrev pub and_fits : A × B → Type 0
  and_fits x = I.fits x.0 × G.fits x.1

  pub and_good : Good (fits_option and_fits) (spell_option and_sp) [] (if_word I.p G.p)
  unfolding if_word
  and_good =
      bind_good (fits_option I.fits) (fits_option and_fits) (spell_option I.sp) (spell_option and_sp) [] _ (elim [
        | Some a ↦ (λ fa. bind_good G.fits (fits_option and_fits) G.sp (spell_option and_sp) (I.sp a) _
            (λ b fb. pure_good _ _ _ (Some (a, b)) (fa, fb) refl) G.p G.good)
        | None ↦ (λ u. pure_good _ _ _ None tt refl)
      ]) I.p I.good

  pub and_near : Local rooms (if_word I.p G.p) (if_word I.p' G.p')
  unfolding if_word
  and_near =
      bind_local rooms _ _ (elim [
        | Some a ↦ bind_local rooms _ _ (λ b. pure_local rooms (Some (a, b))) G.p' G.p
            G.near
        | None ↦ pure_local rooms None
      ]) I.p' I.p I.near

  pub and_counted : Tally n (if_word I.p G.p)
  unfolding if_word
  and_counted =
      bind_tally n _ (elim [
        | Some a ↦ bind_tally n _ (λ b. pure_tally n (Some (a, b))) G.p G.counted
        | None ↦ pure_tally
            n None
      ]) I.p I.counted

  pub and_some : (x : A × B) → 0 < length (and_sp x)
  and_some x = omega (arith, I.some x.0, length-append (I.sp x.0) (G.sp x.1))

  pub and_stops : (y : List Plain) → I.none y → if_word I.p G.p y ≡ (Ok None, y)
  unfolding if_word pure
  and_stops y e = then I.p _ None y y (I.stops y e)

  module _ (c : (b : B) (y : List Plain) → G.fits b → G.ends y → I.ends (G.sp b ++ y)) where
    pub and_goes : (x : A × B) (y : List Plain) → and_fits x → G.ends y
        → if_word I.p G.p (and_sp x ++ y) ≡ (Ok (Some x), y)
    unfolding if_word pure
    and_goes (a, b) y (fa, fb) e =
        ap (if_word I.p G.p) (append_assoc (I.sp a) (G.sp b) y)
        ∙ then I.p _ (Some a) (I.sp a ++ (G.sp b ++ y)) (G.sp b ++ y) (I.goes a (G.sp b ++ y) fa (c b y fb e))
        ∙ then G.p _ b (G.sp b ++ y) y (G.again b y fb e)

    abbrev pub and_item : Item rooms n (A × B)
    and_item =
        record {
          sp = and_sp;
          fits = and_fits;
          ends = G.ends;
          none = I.none;
          p = if_word I.p G.p;
          p' = if_word I.p'
              G.p';
          good = and_good;
          near = and_near;
          counted = and_counted;
          some = and_some;
          goes = and_goes;
          stops =
              and_stops;
        }

-- ---- a part, or else another, if one of them is there

module _ {rooms : Rooms} {n : ℕ} {A B : Type 0} (I : Item rooms n A) (J : Item rooms n B) where
  abbrev pub or_sp : A ⊎ B → List Plain
  or_sp (inl a) = I.sp a
  or_sp (inr b) = J.sp b

  abbrev pub or_fits : A ⊎ B → Type 0
  or_fits (inl a) = I.fits a
  or_fits (inr b) = J.fits b

  pub or_good : Good (fits_option or_fits) (spell_option or_sp) [] (either_of I.p J.p)
  unfolding either_of
  or_good = bind_good (fits_option I.fits) (fits_option or_fits) (spell_option I.sp) (spell_option or_sp) [] _ (elim [
    | Some a ↦ (λ fa. pure_good (fits_option or_fits) (spell_option or_sp) _ (Some (inl a)) fa refl)
    | None ↦ (λ u. bind_good (fits_option J.fits) (fits_option or_fits) (spell_option J.sp) (spell_option or_sp) [] _
        (elim [
          | Some b ↦ (λ fb. pure_good (fits_option or_fits) (spell_option or_sp) _ (Some (inr b)) fb refl)
          | None ↦ (λ v. pure_good (fits_option or_fits) (spell_option or_sp) _ None tt refl)
        ]) J.p J.good)
  ]) I.p I.good

  pub or_near : Local rooms (either_of I.p J.p) (either_of I.p' J.p')
  unfolding either_of
  or_near = bind_local rooms _ _ (elim [
    | Some a ↦ pure_local rooms (Some (inl a))
    | None ↦ bind_local rooms _ _ (elim [ Some b ↦ pure_local rooms (Some (inr b)) | None ↦ pure_local rooms None ])
        J.p' J.p J.near
  ]) I.p' I.p I.near

  pub or_counted : Tally n (either_of I.p J.p)
  unfolding either_of
  or_counted = bind_tally n _ (elim [
    | Some a ↦ pure_tally n (Some (inl a))
    | None ↦ bind_tally n _ (elim [ Some b ↦ pure_tally n (Some (inr b)) | None ↦ pure_tally n None ]) J.p J.counted
  ]) I.p I.counted

  pub or_some : (x : A ⊎ B) → 0 < length (or_sp x)
  or_some (inl a) = I.some a
  or_some (inr b) = J.some b

  pub or_stops : (y : List Plain) → I.none y × J.none y → either_of I.p J.p y ≡ (Ok None, y)
  unfolding either_of pure
  or_stops y e = then I.p _ None y y (I.stops y e.0) ∙ then J.p _ None y y (J.stops y e.1)

  module _ (c : (b : B) (y : List Plain) → J.fits b → J.ends y → I.none (J.sp b ++ y)) where
    pub or_goes : (x : A ⊎ B) (y : List Plain) → or_fits x → I.ends y × J.ends y
        → either_of I.p J.p (or_sp x ++ y) ≡ (Ok (Some x), y)
    unfolding either_of pure
    or_goes (inl a) y f e = then I.p _ (Some a) (I.sp a ++ y) y (I.goes a y f e.0)
    or_goes (inr b) y f e =
        then I.p _ None (J.sp b ++ y) (J.sp b ++ y) (I.stops (J.sp b ++ y) (c b y f e.1))
        ∙ then J.p _ (Some b) (J.sp b ++ y) y (J.goes b y f e.1)

    abbrev pub or_item : Item rooms n (A ⊎ B)
    or_item =
        record {
          sp = or_sp;
          fits = or_fits;
          ends = λ y. I.ends y × J.ends y;
          none = λ y. I.none y
              × J.none y;
          p = either_of I.p J.p;
          p' = either_of I.p' J.p';
          good = or_good;
          near = or_near;
          counted =
              or_counted;
          some = or_some;
          goes = or_goes;
          stops = or_stops;
        }

-- ---- the same parts under other names

module _ {rooms : Rooms} {n : ℕ} {A B : Type 0} (I : Item rooms n A) (sp : B → List Plain) (fits : B → Type 0)
    (f : A → B) (g : B → A)
    (inverse : (b : B) → f (g b) ≡ b) (spelled : (a : A) → sp (f a) ≡ I.sp a) (there : (a : A) → I.fits a → fits (f a))
    (back : (b : B) → fits b → I.fits (g b)) where
  pub renamed_good : Good (fits_option fits) (spell_option sp) [] (made_of f I.p)
  unfolding made_of
  renamed_good = bind_good (fits_option I.fits) (fits_option fits) (spell_option I.sp) (spell_option sp) [] _ (elim [
    | Some a ↦ (λ fa. pure_good (fits_option fits) (spell_option sp) _ (Some (f a)) (there a fa) (sym (spelled a)))
    | None ↦ (λ u. pure_good (fits_option fits) (spell_option sp) _ None tt refl)
  ]) I.p I.good

  pub renamed_near : Local rooms (made_of f I.p) (made_of f I.p')
  unfolding made_of
  renamed_near =
      bind_local rooms _ _ (elim [ Some a ↦ pure_local rooms (Some (f a)) | None ↦ pure_local rooms None ]) I.p' I.p
      I.near

  pub renamed_counted : Tally n (made_of f I.p)
  unfolding made_of
  renamed_counted =
      bind_tally n _ (elim [ Some a ↦ pure_tally n (Some (f a)) | None ↦ pure_tally n None ]) I.p I.counted

  same_words : (b : B) → sp b ≡ I.sp (g b)
  same_words b = ap sp (sym (inverse b)) ∙ spelled (g b)

  pub renamed_some : (b : B) → 0 < length (sp b)
  renamed_some b = omega (arith, I.some (g b), ap length (same_words b))

  pub renamed_goes : (b : B) (y : List Plain) → fits b → I.ends y → made_of f I.p (sp b ++ y) ≡ (Ok (Some b), y)
  unfolding made_of pure
  renamed_goes b y h e =
      ap (λ (u : List Plain). made_of f I.p (u ++ y)) (same_words b)
      ∙ then I.p _ (Some (g b)) (I.sp (g b) ++ y) y (I.goes (g b) y (back b h) e)
      ∙ ap (λ (c : B). let x : Read (Option B) = (Ok (Some c), y) in x) (inverse b)

  pub renamed_stops : (y : List Plain) → I.none y → made_of f I.p y ≡ (Ok None, y)
  unfolding made_of pure
  renamed_stops y e = then I.p _ None y y (I.stops y e)

  abbrev pub made_item : Item rooms n B
  made_item =
      record {
        sp = sp;
        fits = fits;
        ends = I.ends;
        none = I.none;
        p = made_of f I.p;
        p' = made_of f I.p';
        good = renamed_good;
        near = renamed_near;
        counted = renamed_counted;
        some = renamed_some;
        goes =
            renamed_goes;
        stops = renamed_stops;
      }

-- ---- a part that must be there

module _ {rooms : Rooms} {n : ℕ} {A : Type 0} (I : Item rooms n A) (a0 : A) (f0 : I.fits a0) where
  pub must_good : Good I.fits I.sp [] (must I.p)
  unfolding must
  must_good = bind_good (fits_option I.fits) I.fits (spell_option I.sp) I.sp [] _ (elim [
    | Some a ↦ (λ fa. pure_good I.fits I.sp _ a fa refl)
    | None ↦ (λ u. refuse_good I.fits I.sp [] Unexpected a0 f0 (I.sp a0) refl)
  ]) I.p I.good

  pub must_near : Local rooms (must I.p) (must I.p')
  unfolding must
  must_near = bind_local rooms _ _ (elim [ Some a ↦ pure_local rooms a | None ↦ refuse_local rooms ]) I.p' I.p I.near

  pub must_counted : Tally n (must I.p)
  unfolding must
  must_counted = bind_tally n _ (elim [ Some a ↦ pure_tally n a | None ↦ refuse_tally n ]) I.p I.counted

  pub must_read_back : (a : A) (y : List Plain) → I.fits a → I.ends y → must I.p (I.sp a ++ y) ≡ (Ok a, y)
  unfolding must pure
  must_read_back a y f e = then I.p _ (Some a) (I.sp a ++ y) y (I.goes a y f e)

  abbrev pub must_form : Form rooms n A
  must_form =
      record {
        sp = I.sp;
        fits = I.fits;
        ends = I.ends;
        p = must I.p;
        p' = must I.p';
        good = must_good;
        near = must_near;
        counted = must_counted;
        again = must_read_back;
      }
