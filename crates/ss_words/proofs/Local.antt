-- A reading looks no further than the word at which it stops. Another text that agrees so far is
-- read the same, also by a reading with more room. If a limit refuses a word, a reading with more
-- room goes past it.
use Rattle.std.proofs.Common.{◌≡◌, ℕ, zero, suc, ◌-◌, ◌≤◌, ◌<◌, Bool, true, false, List, [], ◌∷◌, ◌++◌, length}
use Rattle.std.proofs.Common.{length-append, Option, Some, None, Result, Ok, Err, refl, sym, ap, subst, ◌∙◌}
use Rattle.std.proofs.Common.{append_assoc, arith}
use Rattle.ss_words.specs.declared.refusal.Refusal.{Refusal}
use Rattle.ss_words.specs.declared.refusal.Refusal.TheVariants.{Unexpected, PastLimit, Memory}
use Rattle.ss_words.specs.declared.mark.Mark.TheVariants as m
use Rattle.ss_words.specs.declared.reserved.Reserved.TheVariants as r
use Rattle.ss_words.specs.Plain.{Plain, mark, first}
use Rattle.ss_words.specs.Reading.{Read, Reading, goes_on, bind, pure, refuse, look, skip, many_from, many}
use Rattle.ss_words.proofs.Laws.{IsRead, Good, spell_option}

-- whether two readings have the same room, or the second has more of it in each limit
pub data Rooms : Type 0 where
  same : Rooms
  more : Rooms

-- a word that may pass a limit: any but END
abbrev pub IsLimited : Option Plain → Type 0
IsLimited None = ⊥
IsLimited (Some (mark (m.Reserved r.End))) = ⊥
IsLimited (Some _) = Unit {0}

-- after q, p' stops as it did on each text that goes on with the same word
abbrev pub Alike : {A : Type 0} → Reading A → Result A Refusal → List Plain → List Plain → Type 0
Alike p' o q r = (r' : List Plain) → first r' ≡ first r → p' (q ++ r') ≡ (o, r')

-- p' goes past the word at which r begins
abbrev pub Further : {A : Type 0} → Reading A → List Plain → List Plain → Type 0
Further p' ws r = (length (p' ws).1 < length r) × IsLimited (first r)

abbrev pub Kept : {A : Type 0} → Result A Refusal → Rooms → Reading A → List Plain → List Plain → List Plain → Type 0
Kept (Ok a) rooms p' ws q r = Alike p' (Ok a) q r
Kept (Err Unexpected) rooms p' ws q r = Alike p' (Err Unexpected) q r
Kept (Err Memory) rooms p' ws q r = Alike p' (Err Memory) q r
Kept (Err PastLimit) same p' ws q r = Alike p' (Err PastLimit) q r
Kept (Err PastLimit) more p' ws q r = Further p' ws r

-- the words q before the place r at which a reading stopped, and the result of p'
abbrev pub Stops : {A : Type 0} → Rooms → Reading A → Result A Refusal → List Plain → List Plain → Type 0
Stops {A} rooms p' o ws r = (q : List Plain) × (ws ≡ q ++ r) × (length (p' ws).1 ≤ length ws) × Kept o rooms p' ws q r

pub record Local {A : Type 0} (rooms : Rooms) (p p' : Reading A) : Type 0 where
  pub at : (ws : List Plain) → Stops rooms p' (p ws).0 ws (p ws).1

first_same : (q a b : List Plain) → first a ≡ first b → first (q ++ a) ≡ first (q ++ b)
first_same [] a b e = e
first_same (w ∷ q) a b e = refl

pub pure_local : {A : Type 0} (rooms : Rooms) (a : A) → Local rooms (pure a) (pure a)
unfolding pure
pure_local rooms a = record { at = λ ws. ([], refl, omega arith, λ r' e. refl) }

pub refuse_local : {A : Type 0} (rooms : Rooms) → Local {A = A} rooms (refuse Unexpected) (refuse Unexpected)
unfolding refuse
refuse_local rooms = record { at = λ ws. ([], refl, omega arith, λ r' e. refl) }

pub shut_local : {A : Type 0} → Local {A = A} same (refuse PastLimit) (refuse PastLimit)
unfolding refuse
shut_local = record { at = λ ws. ([], refl, omega arith, λ r' e. refl) }

module _ {A B : Type 0} (rooms : Rooms) (f f' : A → Reading B) (loc : (a : A) → Local rooms (f a) (f' a))
    (p' : Reading A) where
  alike : (a : A) (o : Result B Refusal) (ws r r2 q q2 : List Plain) → ws ≡ q ++ r → r ≡ q2 ++ r2 → Alike p' (Ok a) q r
      → Alike (f' a) o q2 r2 → Alike (bind p' f') o (q ++ q2) r2
  unfolding bind
  alike a o ws r r2 q q2 e e2 g g2 = λ r' is.
      ap (λ (u : List Plain). goes_on f' (p' u).0 (p' u).1) (append_assoc q q2 r')
      ∙ ap (λ (x : Read A). goes_on f' x.0 x.1) (g (q2 ++ r') (first_same q2 r' r2 is ∙ ap first (sym e2)))
      ∙ g2 r' is

  -- on the same text
  again : (a : A) (ws r q : List Plain) → ws ≡ q ++ r → Alike p' (Ok a) q r → bind p' f' ws ≡ f' a r
  unfolding bind
  again a ws r q e g =
      ap (λ (u : List Plain). goes_on f' (p' u).0 (p' u).1) e ∙ ap (λ (x : Read A). goes_on f' x.0 x.1) (g r refl)

  behind : (a : A) (o : Result B Refusal) (rs : Rooms) (ws r r2 q q2 : List Plain) → ws ≡ q ++ r → r ≡ q2 ++ r2
      → Alike p' (Ok a) q r → Kept o rs (f' a) r q2 r2 → Kept o rs (bind p' f') ws (q ++ q2) r2
  behind a (Ok b) rs ws r r2 q q2 e e2 g k = alike a (Ok b) ws r r2 q q2 e e2 g k
  behind a (Err Unexpected) rs ws r r2 q q2 e e2 g k = alike a (Err Unexpected) ws r r2 q q2 e e2 g k
  behind a (Err Memory) rs ws r r2 q q2 e e2 g k = alike a (Err Memory) ws r r2 q q2 e e2 g k
  behind a (Err PastLimit) same ws r r2 q q2 e e2 g k = alike a (Err PastLimit) ws r r2 q q2 e e2 g k
  behind a (Err PastLimit) more ws r r2 q q2 e e2 g k =
      (subst (λ (n : ℕ). n < length r2) (sym (ap (λ (x : Read B). length x.1) (again a ws r q e g))) k.0, k.1)

  failed : (e : Refusal) (q r : List Plain) → Alike p' (Err e) q r → Alike (bind p' f') (Err e) q r
  unfolding bind
  failed e q r g = λ r' is. ap (λ (x : Read A). goes_on f' x.0 x.1) (g r' is)

  -- the reading after it takes no words back
  shorter_with : (o : Result A Refusal) (r : List Plain) → length (goes_on f' o r).1 ≤ length r
  shorter_with (Ok a) r = ((loc a).at r).2
  shorter_with (Err e) r = omega arith

  pub shorter : (ws : List Plain) (n : ℕ) → length (p' ws).1 ≤ n → length (bind p' f' ws).1 ≤ n
  unfolding bind
  shorter ws n le = let h = shorter_with (p' ws).0 (p' ws).1 in omega (arith, h, le)

  further : (ws r : List Plain) → length (p' ws).1 < length r → length (bind p' f' ws).1 < length r
  unfolding bind
  further ws r lt = let h = shorter_with (p' ws).0 (p' ws).1 in omega (arith, h, lt)

  past : (rs : Rooms) (ws q r : List Plain) → Kept (Err PastLimit) rs p' ws q r
      → Kept (Err PastLimit) rs (bind p' f') ws q r
  past same ws q r g = failed PastLimit q r g
  past more ws q r g = (further ws r g.0, g.1)

  bound : (o : Result A Refusal) (ws r : List Plain) → Stops rooms p' o ws r
      → Stops rooms (bind p' f') (goes_on f o r).0 ws (goes_on f o r).1
  bound (Ok a) ws r (q, e, le, g) =
      let (q2, e2, le2, g2) = (loc a).at r in (
        q ++ q2,
        e ∙ ap (λ (u : List Plain). q ++ u) e2
            ∙ sym (append_assoc q q2 (f a r).1),
        shorter ws (length ws) le,
        behind a (f a r).0 rooms ws r (f a r).1 q q2 e e2 g g2,
      )
  bound (Err Unexpected) ws r (q, e, le, g) = (q, e, shorter ws (length ws) le, failed Unexpected q r g)
  bound (Err Memory) ws r (q, e, le, g) = (q, e, shorter ws (length ws) le, failed Memory q r g)
  bound (Err PastLimit) ws r (q, e, le, g) = (q, e, shorter ws (length ws) le, past rooms ws q r g)

  pub bind_local : (p : Reading A) → Local rooms p p' → Local rooms (bind p f) (bind p' f')
  unfolding bind
  bind_local p h = record { at = λ ws. bound (p ws).0 ws (p ws).1 (h.at ws) }

  -- if the next word is w
  pub bind_at : (w : Option Plain) (p : Reading A)
      → ((ws : List Plain) → first ws ≡ w → Stops rooms p' (p ws).0 ws (p ws).1) → (ws : List Plain) → first ws ≡ w
      → Stops rooms (bind p' f') (bind p f ws).0 ws (bind p f ws).1
  unfolding bind
  bind_at w p h ws is = bound (p ws).0 ws (p ws).1 (h ws is)

abbrev pub LocalAt : {A : Type 0} → Rooms → Option Plain → Reading A → Reading A → Type 0
LocalAt rooms w p p' = (ws : List Plain) → first ws ≡ w → Stops rooms p' (p ws).0 ws (p ws).1

pub anywhere : {A : Type 0} (rooms : Rooms) (w : Option Plain) (p p' : Reading A) → Local rooms p p'
    → LocalAt rooms w p p'
anywhere rooms w p p' h ws e = h.at ws

-- a limit refuses this word, which p' passes
pub past_at : {A : Type 0} (w : Plain) (p' : Reading A) → IsLimited (Some w)
    → ((ws : List Plain) → length (p' (w ∷ ws)).1 ≤ length ws) → LocalAt more (Some w) (refuse PastLimit) p'
unfolding refuse
past_at w p' limited passes [] e = absurd cc
past_at w p' limited passes (v ∷ ws) e =
    let is : w ≡ v = cc in
    let le : length (p' (v ∷ ws)).1 ≤ length ws =
    subst (λ (u : Plain). length (p' (u ∷ ws)).1 ≤ length ws) is (passes ws) in
    ([], refl, omega (arith, le), (omega (arith, le), subst (λ (u : Plain). IsLimited (Some u)) is limited))

pub look_local : {A : Type 0} (rooms : Rooms) (f f' : Option Plain → Reading A)
    → ((w : Option Plain) → LocalAt rooms w (f w) (f' w)) → Local rooms (look f) (look f')
unfolding look
look_local {A} rooms f f' loc = record {
  at = λ ws.
      let (q, e, le, g) = loc (first ws) ws refl in
      (q, e, le, kept (f (first ws) ws).0 rooms ws q (f (first ws) ws).1 e g);
}
  where
    alike : (o : Result A Refusal) (ws q r : List Plain) → ws ≡ q ++ r → Alike (f' (first ws)) o q r
        → Alike (look f') o q r
    alike o ws q r e g =
        λ r' is. ap (λ (w : Option Plain). f' w (q ++ r')) (first_same q r' r is ∙ ap first (sym e)) ∙ g r' is

    kept : (o : Result A Refusal) (rs : Rooms) (ws q r : List Plain) → ws ≡ q ++ r → Kept o rs (f' (first ws)) ws q r
        → Kept o rs (look f') ws q r
    kept (Ok a) rs ws q r e g = alike (Ok a) ws q r e g
    kept (Err Unexpected) rs ws q r e g = alike (Err Unexpected) ws q r e g
    kept (Err Memory) rs ws q r e g = alike (Err Memory) ws q r e g
    kept (Err PastLimit) same ws q r e g = alike (Err PastLimit) ws q r e g
    kept (Err PastLimit) more ws q r e g = g

pub skip_local : {A : Type 0} (rooms : Rooms) (w : Plain) (p p' : Reading A) → Local rooms p p'
    → LocalAt rooms (Some w) (skip p) (skip p')
unfolding skip
skip_local rooms w p p' h [] e = absurd cc
skip_local {A} rooms w p p' h (v ∷ ws) e =
    let (q, k, le, g) = h.at ws in
    (v ∷ q, ap (λ (u : List Plain). v ∷ u) k, omega (arith, le), kept (p ws).0 rooms q (p ws).1 g)
  where
    kept : (o : Result A Refusal) (rs : Rooms) (q r : List Plain) → Kept o rs p' ws q r
        → Kept o rs (skip p') (v ∷ ws) (v ∷ q) r
    kept (Ok a) rs q r g = g
    kept (Err Unexpected) rs q r g = g
    kept (Err Memory) rs q r g = g
    kept (Err PastLimit) same q r g = g
    kept (Err PastLimit) more q r g = g

-- by a test of the next word, which is then passed
pub test_local : {A : Type 0} (rooms : Rooms) (test : Option Plain → Bool) (p p' n n' : Reading A) → test None ≡ false
    → Local rooms p p' → Local rooms n n'
    → Local rooms (look (λ w. elim (test w) [ true ↦ skip p | false ↦ n ]))
    (look (λ w. elim (test w) [ true ↦ skip p' | false ↦ n' ]))
test_local {A} rooms test p p' n n' none hp hn = look_local rooms _ _ at
  where
    at : (w : Option Plain) → LocalAt rooms w (elim (test w) [ true ↦ skip p | false ↦ n ])
        (elim (test w) [ true ↦ skip p' | false ↦ n' ])
    at None = rw none (anywhere rooms None n n' hn)
    at (Some w) =
        elim (test (Some w)) as (λ b. LocalAt rooms (Some w) (elim b [ true ↦ skip p | false ↦ n ])
        (elim b [ true ↦ skip p' | false ↦ n' ]))
        [ true ↦ skip_local rooms w p p' hp | false ↦ anywhere rooms (Some w) n n' hn ]

-- ---- one item after the other

-- with any bound on the turns that the text doesn't pass
abbrev pub AlikeWithin : {A : Type 0} → (ℕ → Reading A) → Result A Refusal → List Plain → List Plain → Type 0
AlikeWithin p' o q r = (m : ℕ) (r' : List Plain) → first r' ≡ first r → length (q ++ r') < m → p' m (q ++ r') ≡ (o, r')

abbrev pub FurtherWithin : {A : Type 0} → (ℕ → Reading A) → List Plain → List Plain → Type 0
FurtherWithin p' ws r = ((m : ℕ) → length ws < m → length (p' m ws).1 < length r) × IsLimited (first r)

abbrev pub KeptWithin : {A : Type 0} → Result A Refusal → Rooms → (ℕ → Reading A) → List Plain → List Plain → List Plain
    → Type 0
KeptWithin (Ok a) rooms p' ws q r = AlikeWithin p' (Ok a) q r
KeptWithin (Err Unexpected) rooms p' ws q r = AlikeWithin p' (Err Unexpected) q r
KeptWithin (Err Memory) rooms p' ws q r = AlikeWithin p' (Err Memory) q r
KeptWithin (Err PastLimit) same p' ws q r = AlikeWithin p' (Err PastLimit) q r
KeptWithin (Err PastLimit) more p' ws q r = FurtherWithin p' ws r

abbrev pub StopsWithin : {A : Type 0} → Rooms → (ℕ → Reading A) → Result A Refusal → List Plain → List Plain → Type 0
StopsWithin {A} rooms p' o ws r = (q : List Plain) × (ws ≡ q ++ r) × KeptWithin o rooms p' ws q r

module _ {A B : Type 0} (rooms : Rooms) (fits : Option A → Type 0) (spA : A → List Plain)
    (item item' : Reading (Option A)) (none : B) (one : A → B → B)
    (good : Good fits (spell_option spA) [] item) (loc : Local rooms item item') (some : (a : A) → 0 < length (spA a))
  where
    abbrev grow : A → B → Reading B
    grow a b = pure (one a b)

    abbrev next : ℕ → Reading (Option A) → Option A → Reading B
    next n it o = elim o [ Some a ↦ bind (many_from it none one n) (grow a) | None ↦ pure none ]

    turn : (m : ℕ) (ws : List Plain) → length ws < m
        → many_from item' none one m ws ≡ goes_on (next (m - 1) item') (item' ws).0 (item' ws).1
    unfolding many_from bind
    turn zero ws lt = absurd (omega arith)
    turn (suc m) ws lt = let e : suc m - 1 ≡ m = omega arith in rw e refl

    -- no words are taken back
    grown_shorter : (a : A) (o : Result B Refusal) (r : List Plain) → length (goes_on (grow a) o r).1 ≤ length r
    unfolding pure
    grown_shorter a (Ok b) r = omega arith
    grown_shorter a (Err e) r = omega arith

    next_from : (m : ℕ) → ((ws : List Plain) → length (many_from item' none one m ws).1 ≤ length ws)
        → (o : Result (Option A) Refusal) (r : List Plain) → length (goes_on (next m item') o r).1 ≤ length r
    unfolding pure bind
    next_from m ih (Ok (Some a)) r =
        let h = ih r in let k = grown_shorter a (many_from item' none one m r).0 (many_from item' none one m r).1 in
        omega (arith, h, k)
    next_from m ih (Ok None) r = omega arith
    next_from m ih (Err e) r = omega arith

    from_shorter : (m : ℕ) (ws : List Plain) → length (many_from item' none one m ws).1 ≤ length ws
    unfolding many_from pure bind
    from_shorter zero ws = omega arith
    from_shorter (suc m) ws =
        let h = next_from m (from_shorter m) (item' ws).0 (item' ws).1 in let k = (loc.at ws).2 in omega (arith, h, k)

    next_shorter : (m : ℕ) (o : Result (Option A) Refusal) (r : List Plain)
        → length (goes_on (next m item') o r).1 ≤ length r
    next_shorter m o r = next_from m (from_shorter m) o r

    -- if the turn fails, or is the last
    last : (o : Result (Option A) Refusal) (f : Result B Refusal) (ws q r : List Plain)
        → ((m : ℕ) (r' : List Plain) → goes_on (next m item') o r' ≡ (f, r')) → Alike item' o q r
        → AlikeWithin (many_from item' none one) f q r
    last o f ws q r is g =
        λ m r' first_is lt. turn m (q ++ r') lt
        ∙ ap (λ (x : Read (Option A)). goes_on (next (m - 1) item') x.0 x.1) (g r' first_is) ∙ is (m - 1) r'

    last_past : (rs : Rooms) (ws q r : List Plain) → Kept (Err PastLimit) rs item' ws q r
        → KeptWithin (Err PastLimit) rs (many_from item' none one) ws q r
    last_past same ws q r g = last (Err PastLimit) (Err PastLimit) ws q r (λ m r'. refl) g
    last_past more ws q r g = (
      (λ m lt. let h = next_shorter (m - 1) (item' ws).0 (item' ws).1 in
          let k : length (many_from item' none one m ws).1 ≤ length (item' ws).1 =
          subst (λ (x : Read B). length x.1 ≤ length (item' ws).1) (sym (turn m ws lt)) h in
          let l = g.0 in omega (arith, k, l)),
      g.1,
    )

    -- a turn with an item, and the turns after it
    turned : (a : A) (o : Result B Refusal) (ws r r2 q q2 : List Plain) → ws ≡ q ++ r → r ≡ q2 ++ r2
        → length r < length ws → Alike item' (Ok (Some a)) q r → AlikeWithin (many_from item' none one) o q2 r2
        → AlikeWithin (many_from item' none one) (goes_on (grow a) o r2).0 (q ++ q2) r2
    unfolding bind pure
    turned a (Ok b) ws r r2 q q2 e e2 lt g g2 = λ m r' is lt2.
        turn m ((q ++ q2) ++ r') lt2
        ∙ ap (λ (u : List Plain). goes_on (next (m - 1) item') (item' u).0 (item' u).1) (append_assoc q q2 r')
        ∙ ap (λ (x : Read (Option A)). goes_on (next (m - 1) item') x.0 x.1)
        (g (q2 ++ r') (first_same q2 r' r2 is ∙ ap first (sym e2)))
        ∙ ap (λ (x : Read B). goes_on (grow a) x.0 x.1)
        (g2 (m - 1) r' is (omega (
          arith,
          lt,
          lt2,
          ap length e,
          length-append q r,
          length-append q q2,
          length-append (q ++ q2) r',
          length-append q2 r',
        )))
    turned a (Err f) ws r r2 q q2 e e2 lt g g2 = λ m r' is lt2.
        turn m ((q ++ q2) ++ r') lt2
        ∙ ap (λ (u : List Plain). goes_on (next (m - 1) item') (item' u).0 (item' u).1) (append_assoc q q2 r')
        ∙ ap (λ (x : Read (Option A)). goes_on (next (m - 1) item') x.0 x.1)
        (g (q2 ++ r') (first_same q2 r' r2 is ∙ ap first (sym e2)))
        ∙ ap (λ (x : Read B). goes_on (grow a) x.0 x.1)
        (g2 (m - 1) r' is (omega (
          arith,
          lt,
          lt2,
          ap length e,
          length-append q r,
          length-append q q2,
          length-append (q ++ q2) r',
          length-append q2 r',
        )))

    turned_past : (a : A) (rs : Rooms) (ws r r2 q q2 : List Plain) → ws ≡ q ++ r → r ≡ q2 ++ r2 → length r < length ws
        → Alike item' (Ok (Some a)) q r → KeptWithin (Err PastLimit) rs (many_from item' none one) r q2 r2
        → KeptWithin (Err PastLimit) rs (many_from item' none one) ws (q ++ q2) r2
    unfolding bind
    turned_past a same ws r r2 q q2 e e2 lt g g2 = turned a (Err PastLimit) ws r r2 q q2 e e2 lt g g2
    turned_past a more ws r r2 q q2 e e2 lt g g2 = (
      (λ m less.
          let is : item' ws ≡ (Ok (Some a), r) = ap item' e ∙ g r refl in
          let step : many_from item' none one m ws ≡ goes_on (next (m - 1) item') (Ok (Some a)) r =
          turn m ws less ∙ ap (λ (x : Read (Option A)). goes_on (next (m - 1) item') x.0 x.1) is in
          let h = g2.0 (m - 1) (omega (arith, lt, less)) in
          let k = grown_shorter a (many_from item' none one (m - 1) r).0 (many_from item' none one (m - 1) r).1 in
          let l : length (goes_on (next (m - 1) item') (Ok (Some a)) r).1 < length r2 = omega (arith, h, k) in
          subst (λ (x : Read B). length x.1 < length r2) (sym step) l),
      g2.1,
    )

    turned_kept : (a : A) (o : Result B Refusal) (ws r r2 q q2 : List Plain) → ws ≡ q ++ r → r ≡ q2 ++ r2
        → length r < length ws → Alike item' (Ok (Some a)) q r → KeptWithin o rooms (many_from item' none one) r q2 r2
        → KeptWithin (goes_on (grow a) o r2).0 rooms (many_from item' none one) ws (q ++ q2) r2
    unfolding pure
    turned_kept a (Ok b) ws r r2 q q2 e e2 lt g g2 = turned a (Ok b) ws r r2 q q2 e e2 lt g g2
    turned_kept a (Err Unexpected) ws r r2 q q2 e e2 lt g g2 = turned a (Err Unexpected) ws r r2 q q2 e e2 lt g g2
    turned_kept a (Err Memory) ws r r2 q q2 e e2 lt g g2 = turned a (Err Memory) ws r r2 q q2 e e2 lt g g2
    turned_kept a (Err PastLimit) ws r r2 q q2 e e2 lt g g2 = turned_past a rooms ws r r2 q q2 e e2 lt g g2

    left : (a : A) (o : Result B Refusal) (r : List Plain) → (goes_on (grow a) o r).1 ≡ r
    unfolding pure
    left a (Ok b) r = refl
    left a (Err e) r = refl

    step : (n : ℕ) → ((ws : List Plain) → length ws < n
        → StopsWithin rooms (many_from item' none one) (many_from item none one n ws).0 ws
        (many_from item none one n ws).1)
        → (o : Result (Option A) Refusal) (ws r : List Plain) → length ws < suc n
        → IsRead fits (spell_option spA) [] o ws r → Stops rooms item' o ws r
        → StopsWithin rooms (many_from item' none one) (goes_on (next n item) o r).0 ws (goes_on (next n item) o r).1
    unfolding bind pure
    step n ih (Ok None) ws r lt read (q, e, le, g) = (q, e, last (Ok None) (Ok none) ws q r (λ m r'. refl) g)
    step n ih (Ok (Some a)) ws r lt (f0, q0, e0, k0) (q, e, le, g) =
        let less : length r < length ws = omega (arith, some a, ap length e0, ap length k0, length-append q0 r) in
        let (q2, e2, g2) = ih r (omega (arith, less, lt)) in
        let o2 = (many_from item none one n r).0 in
        let r2 = (many_from item none one n r).1 in
        let there = left a o2 r2 in (
          q ++ q2,
          e ∙ ap (λ (u : List Plain). q ++ u) e2 ∙ sym (append_assoc q q2 r2)
              ∙ ap (λ (u : List Plain). (q ++ q2) ++ u) (sym there),
          subst (λ (u : List Plain). KeptWithin (goes_on (grow a) o2 r2).0 rooms (many_from item' none one) ws (q ++ q2)
              u) (sym there) (turned_kept a o2 ws r r2 q q2 e e2 less g g2),
        )
    step n ih (Err Unexpected) ws r lt read (q, e, le, g) =
        (q, e, last (Err Unexpected) (Err Unexpected) ws q r (λ m r'. refl) g)
    step n ih (Err Memory) ws r lt read (q, e, le, g) = (q, e, last (Err Memory) (Err Memory) ws q r (λ m r'. refl) g)
    step n ih (Err PastLimit) ws r lt read (q, e, le, g) = (q, e, last_past rooms ws q r g)

    pub many_stops : (n : ℕ) (ws : List Plain) → length ws < n
        → StopsWithin rooms (many_from item' none one) (many_from item none one n ws).0 ws
        (many_from item none one n ws).1
    unfolding many_from bind
    many_stops zero ws lt = absurd (omega arith)
    many_stops (suc n) ws lt = step n (many_stops n) (item ws).0 ws (item ws).1 lt (good.read ws) (loc.at ws)

    within : (o : Result B Refusal) (rs : Rooms) (ws q r : List Plain)
        → KeptWithin o rs (many_from item' none one) ws q r → Kept o rs (many item' none one) ws q r
    unfolding many
    within (Ok b) rs ws q r g = λ r' is. g (suc (length (q ++ r'))) r' is (omega arith)
    within (Err Unexpected) rs ws q r g = λ r' is. g (suc (length (q ++ r'))) r' is (omega arith)
    within (Err Memory) rs ws q r g = λ r' is. g (suc (length (q ++ r'))) r' is (omega arith)
    within (Err PastLimit) same ws q r g = λ r' is. g (suc (length (q ++ r'))) r' is (omega arith)
    within (Err PastLimit) more ws q r g = (g.0 (suc (length ws)) (omega arith), g.1)

    many_shorter : (ws : List Plain) → length (many item' none one ws).1 ≤ length ws
    unfolding many
    many_shorter ws = from_shorter (suc (length ws)) ws

    pub many_local : Local rooms (many item none one) (many item' none one)
    unfolding many
    many_local = record {
      at = λ ws.
          let (q, e, g) = many_stops (suc (length ws)) ws (omega arith) in (
            q,
            e,
            many_shorter ws,
            within (many_from item none one (suc (length ws)) ws).0 rooms ws q
                (many_from item none one (suc (length ws)) ws).1 g,
          );
    }
