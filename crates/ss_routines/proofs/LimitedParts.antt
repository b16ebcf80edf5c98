-- Parts that begin with a mark of which a limit says how many may be open.
use Rattle.std.proofs.Common.{◌≡◌, ℕ, suc, ◌≤◌, ◌<◌, Bool, true, false, List, [], ◌∷◌, ◌++◌, length, Option, Some}
use Rattle.std.proofs.Common.{None, Ok, Err, refl, sym, ap, subst, ◌∙◌, arith}
use Rattle.ss_words.specs.declared.mark.Mark.{Mark}
use Rattle.ss_words.specs.declared.refusal.Refusal.TheVariants.{PastLimit}
use Rattle.ss_words.specs.Plain.{Plain, mark, first}
use Rattle.ss_words.specs.Reading.{Read, Reading, goes_on, bind, pure, refuse, look}
use Rattle.ss_words.specs.Marks.{is, eat}
use Rattle.ss_words.proofs.Laws.{IsRead, Good, fits_option, spell_option}
use Rattle.ss_words.proofs.Local.{Rooms, same, more, IsLimited, Local, Stops, pure_local, bind_local}
use Rattle.ss_words.proofs.Marks.{is_mark, eat_read_back, not_eaten}
use Rattle.ss_words.proofs.ReadBack.{then}
use Rattle.ss_routines.specs.Combined.{if_mark, eat_allowed, if_allowed}
use Rattle.ss_routines.proofs.Tally.{Leaves, Refused, Out, Tally, nothing}
use Rattle.ss_routines.proofs.Form.{Form, Item, mark_sp, mark_item}

-- the laws of a part that may be there or not
pub record PartLaw {A : Type 0} (rooms : Rooms) (n : ℕ) (fits : A → Type 0) (sp : A → List Plain)
    (ends none : List Plain → Type 0) (p p' : Reading (Option A)) : Type 0 where
  pub good : Good (fits_option fits) (spell_option sp) [] p
  pub near : Local rooms p p'
  pub counted : Tally n p
  pub some : (a : A) → 0 < length (sp a)
  pub goes : (a : A) (y : List Plain) → fits a → ends y → p (sp a ++ y) ≡ (Ok (Some a), y)
  pub stops : (y : List Plain) → none y → p y ≡ (Ok None, y)

-- a part of its laws
abbrev pub item_of : {A : Type 0} (rooms : Rooms) (n : ℕ) (fits : A → Type 0) (sp : A → List Plain)
    (ends none : List Plain → Type 0) (p p' : Reading (Option A)) → PartLaw rooms n fits sp ends none p p'
    → Item rooms n A
item_of rooms n fits sp ends none p p' l =
    record {
      sp = sp;
      fits = fits;
      ends = ends;
      none = none;
      p = p;
      p' = p';
      good = l.good;
      near = l.near;
      counted = l.counted;
      some = l.some;
      goes = l.goes;
      stops = l.stops;
    }

-- the laws of a part
abbrev pub laws_of : {A : Type 0} {rooms : Rooms} {n : ℕ} (I : Item rooms n A)
    → PartLaw rooms n I.fits I.sp I.ends I.none I.p I.p'
laws_of I = record { good = I.good; near = I.near; counted = I.counted; some = I.some; goes = I.goes; stops = I.stops }

-- another mark is there
abbrev pub Not : Mark → List Plain → Type 0
Not k y = is k (first y) ≡ false

module _ {A : Type 0} (k : Mark) (sp : A → List Plain) where
  -- ---- if one more may be open

  pub allowed_law : {rooms : Rooms} {n : ℕ} (l : Leaves 0 (mark k ∷ [])) (i j : ℕ) (F : Form rooms n A)
      → PartLaw rooms n F.fits (mark_sp k l F) F.ends (Not k) (if_allowed (suc i) k F.p) (if_allowed (suc j) k F.p')
  unfolding if_mark if_allowed eat_allowed
  allowed_law l i j F =
      let m = mark_item k l F in record {
        good = m.good;
        near = m.near;
        counted = m.counted;
        some = m.some;
        goes = m.goes;
        stops = m.stops;
      }

  -- ---- if none may be open

  abbrev behind_mark : A → List Plain
  behind_mark a = mark k ∷ sp a

  -- the answer if no more may be open
  abbrev shut_answer : Bool → List Plain → Read (Option A)
  shut_answer true ws = (Err PastLimit, ws)
  shut_answer false ws = (Ok None, ws)

  abbrev behind_allowed : Reading A → Bool → Reading (Option A)
  behind_allowed q b = elim b [ true ↦ bind q (λ a. pure (Some a)) | false ↦ pure None ]

  shut_is : (q : Reading A) (ws : List Plain) → if_allowed 0 k q ws ≡ shut_answer (is k (first ws)) ws
  unfolding if_allowed eat_allowed look bind pure refuse
  shut_is q ws =
      (elim (is k (first ws)) as (λ b. goes_on (behind_allowed q)
      (let h : Reading Bool = elim b [ true ↦ refuse PastLimit | false ↦ pure false ] in h ws).0
      (let h : Reading Bool = elim b [ true ↦ refuse PastLimit | false ↦ pure false ] in h ws).1 ≡ shut_answer b ws)
      [ true ↦ refl | false ↦ refl ])

  module _ (n : ℕ) (fits : A → Type 0) (q : Reading A) where
    shut_read : (ws : List Plain) (b : Bool) → IsRead (fits_option fits) (spell_option behind_mark) []
        (shut_answer b ws).0 ws (shut_answer b ws).1
    shut_read ws true = ([], refl, None, tt, [], refl)
    shut_read ws false = (tt, [], refl, refl)

    shut_good : Good (fits_option fits) (spell_option behind_mark) [] (if_allowed 0 k q)
    shut_good = record { read = λ ws. rw (shut_is q ws) (shut_read ws (is k (first ws))); some = (None, tt, [], refl) }

    shut_value : (ws : List Plain) (b : Bool) → is k (first ws) ≡ b → if_allowed 0 k q ws ≡ shut_answer b ws
    shut_value ws b e = shut_is q ws ∙ ap (λ (c : Bool). shut_answer c ws) e

    shut_left : (ws : List Plain) (b : Bool) → (shut_answer b ws).1 ≡ ws
    shut_left ws true = refl
    shut_left ws false = refl

    shut_shorter : (ws : List Plain) → length (if_allowed 0 k q ws).1 ≤ length ws
    shut_shorter ws =
        omega (
          arith,
          ap (λ (x : Read (Option A)). length x.1) (shut_is q ws),
          ap length
              (shut_left ws (is k (first ws))),
        )

    module _ (refused : Refused n [] (Some (mark k))) where
      shut_out : (ws : List Plain) (b : Bool) → is k (first ws) ≡ b → Out n (shut_answer b ws).0 ws (shut_answer b ws).1
      shut_out [] true e = absurd cc
      shut_out (v ∷ ws) true e = ([], refl, subst (λ (u : Plain). Refused n [] (Some u)) (sym (is_mark k v e)) refused)
      shut_out ws false e = ([], refl, nothing)

      shut_counted : Tally n (if_allowed 0 k q)
      shut_counted = record { at = λ ws. rw (shut_is q ws) (shut_out ws (is k (first ws)) refl) }

      shut_stops : (y : List Plain) → Not k y → if_allowed 0 k q y ≡ (Ok None, y)
      shut_stops y e = shut_value y false e

      shut_some : (a : A) → 0 < length (behind_mark a)
      shut_some a = omega arith

      module _ (none_fits : (a : A) → fits a → ⊥) (ends : List Plain → Type 0) where
        shut_goes : (a : A) (y : List Plain) → fits a → ends y
            → if_allowed 0 k q (behind_mark a ++ y) ≡ (Ok (Some a), y)
        shut_goes a y f e = absurd (none_fits a f)

        -- none may be open either
        module _ (q' : Reading A) where
          shut_same_at : (ws : List Plain) (b : Bool) → is k (first ws) ≡ b
              → Stops same (if_allowed 0 k q') (shut_answer b ws).0 ws (shut_answer b ws).1
          shut_same_at ws true e = (
            [],
            refl,
            subst (λ (x : Read (Option A)). length x.1 ≤ length ws) (sym (shut_is q' ws))
                (lefts ws (is k (first ws))),
            λ r' f. shut_is q' r'
                ∙ ap (λ (c : Bool). shut_answer c r') (ap (λ (w : Option Plain). is k w) f ∙ e),
          )
            where
              lefts : (ws : List Plain) (b : Bool) → length (shut_answer b ws).1 ≤ length ws
              lefts ws true = omega arith
              lefts ws false = omega arith
          shut_same_at ws false e = (
            [],
            refl,
            subst (λ (x : Read (Option A)). length x.1 ≤ length ws) (sym (shut_is q' ws))
                (lefts ws (is k (first ws))),
            λ r' f. shut_is q' r'
                ∙ ap (λ (c : Bool). shut_answer c r') (ap (λ (w : Option Plain). is k w) f ∙ e),
          )
            where
              lefts : (ws : List Plain) (b : Bool) → length (shut_answer b ws).1 ≤ length ws
              lefts ws true = omega arith
              lefts ws false = omega arith

          shut_same : Local same (if_allowed 0 k q) (if_allowed 0 k q')
          shut_same =
              record {
                at = λ ws. subst (λ (x : Read (Option A)). Stops same (if_allowed 0 k q') x.0 ws x.1)
                    (sym (shut_is q ws)) (shut_same_at ws (is k (first ws)) refl);
              }

          pub none_law : PartLaw same n fits behind_mark ends (Not k) (if_allowed 0 k q) (if_allowed 0 k q')
          none_law =
              record {
                good = shut_good;
                near = shut_same;
                counted = shut_counted;
                some = shut_some;
                goes = shut_goes;
                stops = shut_stops;
              }

        -- in the second one may be open
        module _ (limited : IsLimited (Some (mark k))) (j : ℕ) (q' : Reading A) (l : Local same q' q') where
          behind_local : Local same (bind q' (λ a. pure (Some a))) (bind q' (λ a. pure (Some a)))
          behind_local = bind_local same _ _ (λ a. pure_local same (Some a)) q' q' l

          goes_past : (v : Plain) (ws : List Plain) → v ≡ mark k
              → length (if_allowed (suc j) k q' (v ∷ ws)).1 ≤ length ws
          unfolding if_allowed eat_allowed
          goes_past v ws e =
              let c = behind_allowed q' in
              let step : bind (eat k) c (mark k ∷ ws) ≡ bind q' (λ a. pure (Some a)) ws =
              then (eat k) c true (mark k ∷ ws) ws (eat_read_back k ws) in
              rw e (subst (λ (x : Read (Option A)). length x.1 ≤ length ws) (sym step) ((behind_local.at ws).2))

          open_stops : (y : List Plain) → Not k y → if_allowed (suc j) k q' y ≡ (Ok None, y)
          unfolding if_allowed eat_allowed pure
          open_stops y e = then (eat k) (behind_allowed q') false y y (not_eaten k y e)

          shut_more_at : (ws : List Plain) (b : Bool) → is k (first ws) ≡ b
              → Stops more (if_allowed (suc j) k q') (shut_answer b ws).0 ws (shut_answer b ws).1
          shut_more_at [] true e = absurd cc
          shut_more_at (v ∷ ws) true e =
              let h = goes_past v ws (is_mark k v e) in (
                [],
                refl,
                omega (arith, h),
                (
                  omega (arith, h),
                  subst (λ (u : Plain). IsLimited (Some u))
                      (sym (is_mark k v e)) limited,
                ),
              )
          shut_more_at ws false e = (
            [],
            refl,
            omega (arith, ap (λ (x : Read (Option A)). length x.1) (open_stops ws e)),
            λ r' f. open_stops
                r' (ap (λ (w : Option Plain). is k w) f ∙ e),
          )

          shut_more : Local more (if_allowed 0 k q) (if_allowed (suc j) k q')
          shut_more =
              record {
                at = λ ws. subst (λ (x : Read (Option A)). Stops more (if_allowed (suc j) k q') x.0 ws x.1)
                    (sym (shut_is q ws)) (shut_more_at ws (is k (first ws)) refl);
              }

          pub none_more_law : PartLaw more n fits behind_mark ends (Not k) (if_allowed 0 k q) (if_allowed (suc j) k q')
          none_more_law =
              record {
                good = shut_good;
                near = shut_more;
                counted = shut_counted;
                some = shut_some;
                goes = shut_goes;
                stops = shut_stops;
              }
