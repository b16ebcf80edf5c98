-- The facts on a whole text that follow from the laws of a reading.
use Rattle.std.proofs.Common.{◌≡◌, ℕ, ◌+◌, ◌-◌, ◌≤◌, ◌<◌, List, [], ◌∷◌, ◌++◌, length, length-append, take, drop, Some}
use Rattle.std.proofs.Common.{None, Result, Ok, Err, refl, sym, ap, subst, ◌∙◌, append_assoc, arith}
use Rattle.std.proofs.lemmas.List.{append-nil, take_at, drop_at, take-append-drop, take-append-le}
use Rattle.ss_words.specs.declared.refusal.Refusal.{Refusal}
use Rattle.ss_words.specs.declared.refusal.Refusal.TheVariants.{Unexpected, PastLimit}
use Rattle.ss_words.specs.Plain.{Plain, first}
use Rattle.ss_words.specs.Reading.{Read, Reading, goes_on, bind, pure, refuse, look, end_of_words, whole}
use Rattle.ss_words.specs.Farthest.{IsFarthest}
use Rattle.ss_words.proofs.Laws.{IsRead, Good, Any, pure_good, bind_good}
use Rattle.ss_words.proofs.Local.{Rooms, same, more, IsLimited, Local, Stops, pure_local, refuse_local, bind_local}
use Rattle.ss_words.proofs.Local.{look_local, anywhere}

abbrev pub spell_ended : Unit {0} → List Plain
spell_ended u = []

pub ended_good : Good Any spell_ended [] end_of_words
unfolding end_of_words look pure refuse
ended_good = record { read = at; some = (tt, tt, [], refl) }
  where
    at : (ws : List Plain) → IsRead Any spell_ended [] (end_of_words ws).0 ws (end_of_words ws).1
    at [] = (tt, [], refl, refl)
    at (w ∷ ws) = ([], refl, tt, tt, [], refl)

pub ended_local : (rooms : Rooms) → Local rooms end_of_words end_of_words
unfolding end_of_words
ended_local rooms =
    look_local rooms _ _ (elim [
      | Some v ↦ anywhere rooms (Some v) _ _ (refuse_local rooms)
      | None ↦ anywhere rooms None _ _ (pure_local rooms tt)
    ])

pub front_is : (ws q r : List Plain) → ws ≡ q ++ r → take (length ws - length r) ws ≡ q
front_is ws q r k =
    let len : length ws - length r ≡ length q = omega (arith, ap length k, length-append q r) in
    ap (λ (i : ℕ). take i ws) len ∙ ap (take (length q)) k ∙ take_at q r (length q) refl

pub back_is : (ws q r : List Plain) → ws ≡ q ++ r → drop (length ws - length r) ws ≡ r
back_is ws q r k =
    let len : length ws - length r ≡ length q = omega (arith, ap length k, length-append q r) in
    ap (λ (i : ℕ). drop i ws) len ∙ ap (drop (length q)) k ∙ drop_at q r (length q) refl

-- a longer part of the text begins with a shorter one
pub longer : (ws q r : List Plain) (m : ℕ) → ws ≡ q ++ r → m ≤ length q → take m ws ++ drop m q ≡ q
longer ws q r m k le =
    ap (λ (u : List Plain). u ++ drop m q) (ap (take m) k ∙ take-append-le m q r le) ∙ take-append-drop m q

-- the front and the next word
pub front_and : (ws q r : List Plain) (w : Plain) → ws ≡ q ++ w ∷ r
    → take (length ws - length (w ∷ r) + 1) ws ≡ q ++ w ∷ []
front_and ws q r w k =
    let split : ws ≡ (q ++ w ∷ []) ++ r = k ∙ sym (append_assoc q (w ∷ []) r) in
    let len : length ws - length (w ∷ r) + 1 ≡ length ws - length r =
    omega (arith, ap length k, length-append q (w ∷ r)) in
    ap (λ (i : ℕ). take i ws) len ∙ front_is ws (q ++ w ∷ []) r split

module _ {A : Type 0} (fits : A → Type 0) (sp : A → List Plain) (p : Reading A) (good : Good fits sp [] p) where
  pub whole_good : Good fits sp [] (whole p)
  unfolding whole
  whole_good =
      bind_good fits fits sp sp [] _
      (λ a fa.
      bind_good Any fits spell_ended sp (sp a) _ (λ u fu. pure_good fits sp _ a fa (append-nil (sp a))) end_of_words
      ended_good) p good

  abbrev Ended : Result A Refusal → List Plain → Type 0
  Ended (Ok e) r = r ≡ []
  Ended (Err f) r = Unit {0}

  whole_ended : (ws : List Plain) → Ended (whole p ws).0 (whole p ws).1
  unfolding whole bind end_of_words look pure refuse
  whole_ended ws = at (p ws).0 (p ws).1
    where
      at : (o : Result A Refusal) (r : List Plain)
          → Ended (goes_on (λ e. bind end_of_words (λ u. pure e)) o r).0
          (goes_on (λ e. bind end_of_words (λ u. pure e)) o r).1
      at (Ok e) [] = refl
      at (Ok e) (w ∷ r) = tt
      at (Err f) r = tt

  -- a tree that is read keeps the limits, and its spelling is the text
  pub found : (ws r : List Plain) (t : A) → whole p ws ≡ (Ok t, r) → fits t × (ws ≡ sp t)
  found ws r t e =
      let (f, q, h, k) = subst (λ (x : Read A). IsRead fits sp [] x.0 ws x.1) e (whole_good.read ws) in
      let g : Ended (Ok t) r = subst (λ (x : Read A). Ended x.0 x.1) e (whole_ended ws) in
      (f, h ∙ ap (λ (u : List Plain). q ++ u) g ∙ append-nil q ∙ sym k)

  -- and the text ends there
  pub rest_ended : (ws r : List Plain) (t : A) → whole p ws ≡ (Ok t, r) → r ≡ []
  rest_ended ws r t e = subst (λ (x : Read A). Ended x.0 x.1) e (whole_ended ws)

  -- the words before a refused one begin a tree within the limits
  pub before : (ws r : List Plain) (g : Refusal) → whole p ws ≡ (Err g, r)
      → (t : A) × fits t × (x : List Plain) × (sp t ≡ take (length ws - length r) ws ++ x)
  before ws r g e =
      let (q, k, a, f, x, v) = subst (λ (y : Read A). IsRead fits sp [] y.0 ws y.1) e (whole_good.read ws) in
      (a, f, x, v ∙ ap (λ (u : List Plain). u ++ x) (sym (front_is ws q r k)))

  -- the words that are left are the text's end
  pub left : (ws r : List Plain) (g : Refusal) → whole p ws ≡ (Err g, r) → (q : List Plain) × (ws ≡ q ++ r)
  left ws r g e =
      let (q, k, a, f, x, v) = subst (λ (y : Read A). IsRead fits sp [] y.0 ws y.1) e (whole_good.read ws) in (q, k)

module _ {A : Type 0} (sp : A → List Plain) where
  not_both : (t : A) (x y : Read A) (g : Refusal) (z : List Plain) → x ≡ (Ok t, []) → x ≡ (Err g, z) → ⊥
  not_both t x y g z e f =
      let h : x.0 ≡ Ok t = ap (λ (u : Read A). u.0) e in let k : x.0 ≡ Err g = ap (λ (u : Read A). u.0) f in cc

  pub whole_read_back : (p : Reading A) (t : A) → p (sp t) ≡ (Ok t, []) → whole p (sp t) ≡ (Ok t, [])
  unfolding whole bind end_of_words look pure
  whole_read_back p t again = ap (λ (x : Read A). goes_on (λ a. bind end_of_words (λ u. pure a)) x.0 x.1) again

  pub whole_local : (rooms : Rooms) (p p' : Reading A) → Local rooms p p' → Local rooms (whole p) (whole p')
  unfolding whole
  whole_local rooms p p' loc =
      bind_local rooms _ _
      (λ a. bind_local rooms _ _ (λ u. pure_local rooms a) end_of_words end_of_words (ended_local rooms)) p' p
      loc

  module _ (fits : A → Type 0) (p : Reading A) (good : Good fits sp [] p) where
    -- a refusal is at the farthest place, if for each tree some reading with more room reads it
    pub farthest : ((t : A) → (p' : Reading A) × (Local more p p') × (p' (sp t) ≡ (Ok t, []))) → (ws r : List Plain)
        → whole p ws ≡ (Err Unexpected, r) → IsFarthest sp ws (length ws - length r)
    farthest larger ws r e = record {
      inside = omega arith;
      reached = (let (a, f, x, v) = before fits sp p good ws r Unexpected e in (a, x, v));
      no_further = λ t z begins is.
          let (p', loc, again) = larger t in
          let (q, k, le, g) =
          subst (λ (y : Read A). Stops more (whole p') y.0 ws y.1) e ((whole_local more p p' loc).at ws) in
          let text : sp t ≡ q ++ z = begins ∙ ap (λ (u : List Plain). u ++ z) (front_is ws q r k) in
          not_both t (whole p' (sp t)) (Ok t, []) Unexpected z (whole_read_back p' t again)
          (ap (whole p') text ∙ g z (is ∙ ap first (back_is ws q r k)));
    }

    -- no tree within the limits goes on with a word that passes one
    pub no_room : Local same p p → (t : A) → p (sp t) ≡ (Ok t, []) → (ws r : List Plain)
        → whole p ws ≡ (Err PastLimit, r) → (z : List Plain) → sp t ≡ take (length ws - length r) ws ++ z
        → first z ≡ first r → ⊥
    no_room loc t again ws r e z begins is =
        let (q, k, le, g) =
        subst (λ (y : Read A). Stops same (whole p) y.0 ws y.1) e ((whole_local same p p loc).at ws) in
        let text : sp t ≡ q ++ z = begins ∙ ap (λ (u : List Plain). u ++ z) (front_is ws q r k) in
        not_both t (whole p (sp t)) (Ok t, []) PastLimit z (whole_read_back p t again) (ap (whole p) text ∙ g z is)

    -- a word that passes a limit is one that may
    pub limited : (p' : Reading A) → Local more p p' → (ws r : List Plain) → whole p ws ≡ (Err PastLimit, r)
        → IsLimited (first r)
    limited p' loc ws r e =
        let (q, k, le, g) =
        subst (λ (y : Read A). Stops more (whole p') y.0 ws y.1) e ((whole_local more p p' loc).at ws) in g.1

    -- some tree goes on with a word that passes a limit
    pub goes_past : (p' : Reading A) → Local more p p' → (fits' : A → Type 0) → Good fits' sp [] p'
        → (ws r : List Plain) → whole p ws ≡ (Err PastLimit, r)
        → (t : A) × (x : List Plain) × (sp t ≡ take (length ws - length r + 1) ws ++ x)
    goes_past p' loc fits' good' ws r e =
        let (q, k, le, g) =
        subst (λ (y : Read A). Stops more (whole p') y.0 ws y.1) e ((whole_local more p p' loc).at ws) in
        reach (whole p' ws).0 (whole p' ws).1 ((whole_good fits' sp p' good').read ws)
        (omega (arith, g.0, ap length k, length-append q r))
      where
        reach : (o : Result A Refusal) (r' : List Plain) → IsRead fits' sp [] o ws r'
            → (length r' < length r) × (length r ≤ length ws)
            → (t : A) × (x : List Plain) × (sp t ≡ take (length ws - length r + 1) ws ++ x)
        reach (Ok t) r' (f, q, h, s) lt =
            let m = length ws - length r + 1 in
            let le : m ≤ length q = omega (arith, lt.0, lt.1, ap length h, length-append q r') in
            (t, drop m q, s ∙ sym (longer ws q r' m h le))
        reach (Err b) r' (q, h, t, f, x, s) lt =
            let m = length ws - length r + 1 in
            let le : m ≤ length q = omega (arith, lt.0, lt.1, ap length h, length-append q r') in (
              t,
              drop m q ++ x,
              s ∙ ap (λ (u : List Plain). u ++ x) (sym (longer ws q r' m h le))
                  ∙ append_assoc (take m ws) (drop m q) x,
            )
