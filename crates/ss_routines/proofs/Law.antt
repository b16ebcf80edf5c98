-- The laws of a reading of parts, and parts in parentheses.
use Rattle.std.proofs.Common.{◌≡◌, ℕ, zero, suc, ◌≤◌, Bool, true, false, List, [], ◌∷◌, ◌++◌, length, Option, Some}
use Rattle.std.proofs.Common.{None, Result, Ok, Err, refl, sym, ap, subst, ◌∙◌, append_assoc, arith}
use Rattle.ss_words.specs.declared.refusal.Refusal.{Refusal}
use Rattle.ss_words.specs.declared.refusal.Refusal.TheVariants.{Unexpected, PastLimit, Memory}
use Rattle.ss_words.specs.declared.mark.Mark.TheVariants as m
use Rattle.ss_words.specs.declared.word.Sign.TheVariants as s
use Rattle.ss_words.specs.Plain.{Plain, mark, first}
use Rattle.ss_words.specs.Reading.{Read, Reading, goes_on, bind, pure, refuse, look, skip}
use Rattle.ss_words.specs.Marks.{is, expect, eat}
use Rattle.ss_words.proofs.Laws.{IsRead, Good, Any, fits_option, spell_option, pure_good}
use Rattle.ss_words.proofs.Laws.{bind_good}
use Rattle.ss_words.proofs.Local.{Rooms, same, more, Local, Stops, pure_local, bind_local}
use Rattle.ss_words.proofs.Marks.{is_mark, spell_mark, spell_eaten, expect_good, eat_good, expect_local, eat_local}
use Rattle.ss_words.proofs.Marks.{expect_read_back, eat_read_back, not_eaten}
use Rattle.ss_words.proofs.ReadBack.{then}
use Rattle.ss_routines.specs.Expr.{spell_within}
use Rattle.ss_routines.specs.Combined.{eat_open, if_open}
use Rattle.ss_routines.proofs.Tally.{Leaves, Refused, Out, Tally, nothing, opened_refused, opened_under}
use Rattle.ss_routines.proofs.Tally.{opened_some, enclosed}
use Rattle.ss_routines.proofs.Form.{Form, Item}

-- the laws of a part
pub record Law {A : Type 0} (rooms : Rooms) (n : ℕ) (fits : A → Type 0) (sp : A → List Plain)
    (ends : List Plain → Type 0) (p p' : Reading A) : Type 0 where
  pub good : Good fits sp [] p
  pub near : Local rooms p p'
  pub counted : Tally n p
  pub again : (a : A) (y : List Plain) → fits a → ends y → p (sp a ++ y) ≡ (Ok a, y)

-- a part of its laws
abbrev pub form_of : {A : Type 0} (rooms : Rooms) (n : ℕ) (fits : A → Type 0) (sp : A → List Plain)
    (ends : List Plain → Type 0) (p p' : Reading A) → Law rooms n fits sp ends p p' → Form rooms n A
form_of rooms n fits sp ends p p' l =
    record {
      sp = sp;
      fits = fits;
      ends = ends;
      p = p;
      p' = p';
      good = l.good;
      near = l.near;
      counted = l.counted;
      again = l.again;
    }

-- the laws of parts that may be in parentheses, if n may be open and d counts those in a part
pub record OpenLaw {A : Type 0} (rooms : Rooms) (n : ℕ) (d : A → ℕ) (sp : A → List Plain)
    (p p' : Reading (Option A)) : Type 0 where
  pub good : Good (fits_option (λ a. suc (d a) ≤ n)) (spell_option (λ a. spell_within (sp a))) [] p
  pub near : Local rooms p p'
  pub counted : Tally n p
  pub goes : (a : A) (y : List Plain) → suc (d a) ≤ n → p (spell_within (sp a) ++ y) ≡ (Ok (Some a), y)
  pub stops : (y : List Plain) → is (m.Sign s.Open) (first y) ≡ false → p y ≡ (Ok None, y)

abbrev pub open_item : {A : Type 0} (rooms : Rooms) (n : ℕ) (d : A → ℕ) (sp : A → List Plain)
    (p p' : Reading (Option A)) → OpenLaw rooms n d sp p p' → Item rooms n A
open_item rooms n d sp p p' l = record {
  sp = λ a. spell_within (sp a);
  fits = λ a. suc (d a) ≤ n;
  ends = λ y. Unit {0};
  none = λ y. is (m.Sign s.Open) (first y) ≡ false;
  p = p;
  p' = p';
  good = l.good;
  near = l.near;
  counted = l.counted;
  some = λ a. omega arith;
  goes = λ a y f e. l.goes a y f;
  stops = l.stops;
}

-- after the opening parenthesis
abbrev pub close : {A : Type 0} → Reading A → Reading (Option A)
close q = bind q (λ a. bind (expect (m.Sign s.Close)) (λ u. pure (Some a)))

pub open_stops : {A : Type 0} (n : ℕ) (q : Reading A) (y : List Plain) → is (m.Sign s.Open) (first y) ≡ false
    → if_open n q y ≡ (Ok None, y)
unfolding if_open eat_open look pure bind
open_stops zero q y e =
    ap (λ (b : Bool). let h : Reading Bool = elim b [ true ↦ refuse PastLimit | false ↦ pure false ] in goes_on
    (λ c. elim c [ true ↦ close q | false ↦ pure None ]) (h y).0 (h y).1) e
open_stops (suc n) q y e =
    then (eat (m.Sign s.Open)) (λ c. elim c [ true ↦ close q | false ↦ pure None ]) false y y
    (not_eaten (m.Sign s.Open) y e)

-- ---- if one more may be open

module _ {A : Type 0} (rooms : Rooms) (n k : ℕ) (d : A → ℕ) (sp : A → List Plain) (ends : List Plain → Type 0)
    (q q' : Reading A) (l : Law rooms n (λ a. d a ≤ n) sp ends q q')
    (c : (y : List Plain) → ends (mark (m.Sign s.Close) ∷ y)) where
  abbrev within_sp : A → List Plain
  within_sp a = spell_within (sp a)

  abbrev within_fits : A → Type 0
  within_fits a = suc (d a) ≤ suc n

  more_good : Good (fits_option within_fits) (spell_option within_sp) [] (if_open (suc n) q)
  unfolding if_open eat_open
  more_good =
      bind_good Any (fits_option within_fits) (spell_eaten (m.Sign s.Open)) (spell_option within_sp) [] _ (elim [
        | true ↦ (λ u. bind_good (λ a. d a ≤ n) (fits_option within_fits) sp (spell_option within_sp)
            (mark (m.Sign s.Open) ∷ []) _ (λ a fa.
            bind_good Any (fits_option within_fits) (spell_mark (m.Sign s.Close)) (spell_option within_sp)
            (mark (m.Sign s.Open) ∷ sp a) _ (λ v h. pure_good _ _ _ (Some a) (omega (arith, fa)) refl)
            (expect (m.Sign s.Close)) (expect_good (m.Sign s.Close))) q l.good)
        | false ↦ (λ u. pure_good _ _ _ None tt refl)
      ]) (eat (m.Sign s.Open)) (eat_good (m.Sign s.Open))

  more_near : Local rooms (if_open (suc n) q) (if_open (suc k) q')
  unfolding if_open eat_open
  more_near = bind_local rooms _ _ (elim [
    | true ↦ bind_local rooms _ _ (λ a. bind_local rooms _ _ (λ u. pure_local rooms (Some a)) (expect (m.Sign s.Close))
        (expect (m.Sign s.Close)) (expect_local rooms (m.Sign s.Close))) q' q l.near
    | false ↦ pure_local rooms None
  ]) (eat (m.Sign s.Open)) (eat (m.Sign s.Open)) (eat_local rooms (m.Sign s.Open))

  more_goes : (a : A) (y : List Plain) → within_fits a → if_open (suc n) q (within_sp a ++ y) ≡ (Ok (Some a), y)
  unfolding if_open eat_open pure
  more_goes a y f =
      let shut = mark (m.Sign s.Close) in
      let z = shut ∷ y in
      ap (λ (u : List Plain). if_open (suc n) q (mark (m.Sign s.Open) ∷ u)) (append_assoc (sp a) (shut ∷ []) y)
      ∙ then (eat (m.Sign s.Open)) _ true (mark (m.Sign s.Open) ∷ (sp a ++ z)) (sp a ++ z)
      (eat_read_back (m.Sign s.Open) _)
      ∙ then q _ a (sp a ++ z) z (l.again a z (omega arith) (c y))
      ∙ then (expect (m.Sign s.Close)) _ tt z y (expect_read_back (m.Sign s.Close) y)

  close_out : (a : A) (ws q2 r : List Plain) (b : Bool) → ws ≡ q2 ++ r → Leaves 0 q2 → is (m.Sign s.Close) (first r) ≡ b
      → (let h : Reading (Unit {0}) = elim b [ true ↦ skip (pure tt) | false ↦ refuse Unexpected ] in let x : Read
      (Option A) = goes_on (λ u. pure (Some a)) (h r).0 (h r).1 in Out (suc n) x.0 (mark (m.Sign s.Open) ∷ ws) x.1)
  unfolding pure skip refuse
  close_out a ws q2 [] true is_so h eq = absurd cc
  close_out a ws q2 (v ∷ r) true is_so h eq =
      let same : v ≡ mark (m.Sign s.Close) = is_mark (m.Sign s.Close) v eq in (
        mark (m.Sign s.Open) ∷ (q2 ++ mark (m.Sign s.Close) ∷ []),
        ap (λ (u : List Plain). mark (m.Sign s.Open) ∷ u)
            (is_so ∙ ap (λ (u : Plain). q2 ++ u ∷ r) same ∙ sym (append_assoc q2 (mark (m.Sign s.Close) ∷ []) r)),
        enclosed q2 h,
      )
  close_out a ws q2 r false is_so h eq =
      (mark (m.Sign s.Open) ∷ q2, ap (λ (u : List Plain). mark (m.Sign s.Open) ∷ u) is_so, opened_some n q2 h)

  inner_out : (o : Result A Refusal) (ws r : List Plain) → Out n o ws r
      → (let x : Read (Option A) = goes_on (λ a. bind (expect (m.Sign s.Close)) (λ u. pure (Some a))) o r in Out (suc n)
      x.0 (mark (m.Sign s.Open) ∷ ws) x.1)
  unfolding bind expect look
  inner_out (Ok a) ws r (q2, is_so, h) = close_out a ws q2 r (is (m.Sign s.Close) (first r)) is_so h refl
  inner_out (Err Unexpected) ws r (q2, is_so, h) =
      (mark (m.Sign s.Open) ∷ q2, ap (λ (u : List Plain). mark (m.Sign s.Open) ∷ u) is_so, opened_under n q2 h)
  inner_out (Err Memory) ws r out = out
  inner_out (Err PastLimit) ws r (q2, is_so, h) = (
    mark (m.Sign s.Open) ∷ q2,
    ap (λ (u : List Plain). mark (m.Sign s.Open) ∷ u) is_so,
    opened_refused n q2 (first r)
        h,
  )

  open_out : (ws : List Plain) (b : Bool) → is (m.Sign s.Open) (first ws) ≡ b
      → (let h : Reading Bool = elim b [ true ↦ skip (pure true) | false ↦ pure false ] in let x : Read
      (Option A) = goes_on (λ c. elim c [ true ↦ close q | false ↦ pure None ]) (h ws).0 (h ws).1 in Out (suc n) x.0
      ws x.1)
  unfolding skip pure bind
  open_out [] true e = absurd cc
  open_out (v ∷ ws) true e = rw (is_mark (m.Sign s.Open) v e) (inner_out (q ws).0 ws (q ws).1 (l.counted.at ws))
  open_out ws false e = ([], refl, nothing)

  more_counted : Tally (suc n) (if_open (suc n) q)
  unfolding if_open eat_open bind eat look
  more_counted = record { at = λ ws. open_out ws (is (m.Sign s.Open) (first ws)) refl }

  pub open_law : OpenLaw rooms (suc n) d sp (if_open (suc n) q) (if_open (suc k) q')
  open_law =
      record {
        good = more_good;
        near = more_near;
        counted = more_counted;
        goes = more_goes;
        stops = open_stops (suc n)
            q;
      }

-- ---- if none may be open

module _ {A : Type 0} (d : A → ℕ) (sp : A → List Plain) (q : Reading A) where
  abbrev no_fits : A → Type 0
  no_fits a = suc (d a) ≤ 0

  -- the answer at a place at which a parenthesis may not open
  abbrev shut_answer : Bool → List Plain → Read (Option A)
  shut_answer true ws = (Err PastLimit, ws)
  shut_answer false ws = (Ok None, ws)

  shut_is : (ws : List Plain) → if_open 0 q ws ≡ shut_answer (is (m.Sign s.Open) (first ws)) ws
  unfolding if_open eat_open look bind pure refuse
  shut_is ws =
      (elim (is (m.Sign s.Open) (first ws)) as (λ b. goes_on (λ c. elim c [ true ↦ close q | false ↦ pure None ])
      (let h : Reading Bool = elim b [ true ↦ refuse PastLimit | false ↦ pure false ] in h ws).0
      (let h : Reading Bool = elim b [ true ↦ refuse PastLimit | false ↦ pure false ] in h ws).1 ≡ shut_answer b ws)
      [ true ↦ refl | false ↦ refl ])

  shut_read : (ws : List Plain) (b : Bool) → IsRead (fits_option no_fits) (spell_option (λ a. spell_within (sp a))) []
      (shut_answer b ws).0 ws (shut_answer b ws).1
  shut_read ws true = ([], refl, None, tt, [], refl)
  shut_read ws false = (tt, [], refl, refl)

  shut_good : Good (fits_option no_fits) (spell_option (λ a. spell_within (sp a))) [] (if_open 0 q)
  shut_good =
      record {
        read = λ ws. rw (shut_is ws) (shut_read ws (is (m.Sign s.Open) (first ws)));
        some = (None, tt, [], refl);
      }

  shut_out : (ws : List Plain) (b : Bool) → is (m.Sign s.Open) (first ws) ≡ b
      → Out 0 (shut_answer b ws).0 ws (shut_answer b ws).1
  shut_out [] true e = absurd cc
  shut_out (v ∷ ws) true e =
      ([], refl, subst (λ (u : Plain). Refused 0 [] (Some u)) (sym (is_mark (m.Sign s.Open) v e)) nothing)
  shut_out ws false e = ([], refl, nothing)

  shut_counted : Tally 0 (if_open 0 q)
  shut_counted = record { at = λ ws. rw (shut_is ws) (shut_out ws (is (m.Sign s.Open) (first ws)) refl) }

  shut_value : (ws : List Plain) (b : Bool) → is (m.Sign s.Open) (first ws) ≡ b → if_open 0 q ws ≡ shut_answer b ws
  shut_value ws b e = shut_is ws ∙ ap (λ (c : Bool). shut_answer c ws) e

  shut_left : (ws : List Plain) (b : Bool) → (shut_answer b ws).1 ≡ ws
  shut_left ws true = refl
  shut_left ws false = refl

  shut_shorter : (ws : List Plain) → length (if_open 0 q ws).1 ≤ length ws
  shut_shorter ws =
      omega (
        arith,
        ap (λ (x : Read (Option A)). length x.1) (shut_is ws),
        ap length
            (shut_left ws (is (m.Sign s.Open) (first ws))),
      )

  -- if no more may be open either
  shut_same_at : (ws : List Plain) (b : Bool) → is (m.Sign s.Open) (first ws) ≡ b
      → Stops same (if_open 0 q) (shut_answer b ws).0 ws (shut_answer b ws).1
  shut_same_at ws true e =
      ([], refl, shut_shorter ws, λ r' f. shut_value r' true (ap (λ (w : Option Plain). is (m.Sign s.Open) w) f ∙ e))
  shut_same_at ws false e =
      ([], refl, shut_shorter ws, λ r' f. shut_value r' false (ap (λ (w : Option Plain). is (m.Sign s.Open) w) f ∙ e))

  shut_same : Local same (if_open 0 q) (if_open 0 q)
  shut_same =
      record {
        at = λ ws. subst (λ (x : Read (Option A)). Stops same (if_open 0 q) x.0 ws x.1) (sym (shut_is ws))
            (shut_same_at ws (is (m.Sign s.Open) (first ws)) refl);
      }

  -- if one more may be open
  module _ (k : ℕ) (q' : Reading A) (l : Local same q' q') where
    close_local : Local same (close q') (close q')
    close_local =
        bind_local same _ _ (λ a. bind_local same _ _ (λ u. pure_local same (Some a)) (expect (m.Sign s.Close))
        (expect (m.Sign s.Close)) (expect_local same (m.Sign s.Close))) q' q' l

    goes_past : (v : Plain) (ws : List Plain) → v ≡ mark (m.Sign s.Open)
        → length (if_open (suc k) q' (v ∷ ws)).1 ≤ length ws
    unfolding if_open eat_open
    goes_past v ws e =
        let c = λ (b : Bool). let h : Reading (Option A) = elim b [ true ↦ close q' | false ↦ pure None ] in h in
        let step : bind (eat (m.Sign s.Open)) c (mark (m.Sign s.Open) ∷ ws) ≡ close q' ws =
        then (eat (m.Sign s.Open)) c true (mark (m.Sign s.Open) ∷ ws) ws (eat_read_back (m.Sign s.Open) ws) in
        rw e (subst (λ (x : Read (Option A)). length x.1 ≤ length ws) (sym step) ((close_local.at ws).2))

    shut_more_at : (ws : List Plain) (b : Bool) → is (m.Sign s.Open) (first ws) ≡ b
        → Stops more (if_open (suc k) q') (shut_answer b ws).0 ws (shut_answer b ws).1
    shut_more_at [] true e = absurd cc
    shut_more_at (v ∷ ws) true e =
        let h = goes_past v ws (is_mark (m.Sign s.Open) v e) in
        ([], refl, omega (arith, h), (omega (arith, h), rw (is_mark (m.Sign s.Open) v e) tt))
    shut_more_at ws false e = (
      [],
      refl,
      omega (arith, ap (λ (x : Read (Option A)). length x.1) (open_stops (suc k) q' ws e)),
      λ r' f.
          open_stops (suc k) q' r' (ap (λ (w : Option Plain). is (m.Sign s.Open) w) f ∙ e),
    )

    shut_more : Local more (if_open 0 q) (if_open (suc k) q')
    shut_more =
        record {
          at = λ ws. subst (λ (x : Read (Option A)). Stops more (if_open (suc k) q') x.0 ws x.1)
              (sym (shut_is ws)) (shut_more_at ws (is (m.Sign s.Open) (first ws)) refl);
        }

    pub shut_more_law : OpenLaw more 0 d sp (if_open 0 q) (if_open (suc k) q')
    shut_more_law =
        record {
          good = shut_good;
          near = shut_more;
          counted = shut_counted;
          goes = λ a y f. absurd (omega (arith, f));
          stops = open_stops 0 q;
        }

  pub shut_law : OpenLaw same 0 d sp (if_open 0 q) (if_open 0 q)
  shut_law =
      record {
        good = shut_good;
        near = shut_same;
        counted = shut_counted;
        goes = λ a y f. absurd (omega (arith, f));
        stops = open_stops 0 q;
      }
