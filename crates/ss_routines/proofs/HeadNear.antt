-- Reading heads looks no further than the word at which it stops, even if more parameters may
-- follow.
use Rattle.std.proofs.Common.{◌≡◌, ℕ, zero, suc, ◌-◌, ◌≤◌, ◌<◌, true, false, List, [], ◌∷◌, ◌++◌, length, Option}
use Rattle.std.proofs.Common.{Some, None, Result, Ok, Err, refl, sym, ap, subst, ◌∙◌, append_assoc, arith}
use Rattle.ss_words.specs.declared.mark.Mark.TheVariants as m
use Rattle.ss_words.specs.declared.word.Sign.TheVariants as s
use Rattle.ss_words.specs.declared.reserved.Reserved.TheVariants as r
use Rattle.ss_words.specs.declared.refusal.Refusal.{Refusal}
use Rattle.ss_words.specs.declared.refusal.Refusal.TheVariants.{Unexpected, PastLimit, Memory}
use Rattle.ss_words.specs.Plain.{Plain, name, mark, first}
use Rattle.ss_words.specs.Lists.{Name, Several, all_of}
use Rattle.ss_words.specs.Reading.{Read, Reading, goes_on, bind, pure, refuse, look, skip}
use Rattle.ss_words.specs.Marks.{expect, eat, name_by, a_name}
use Rattle.ss_words.proofs.Local.{Rooms, same, more, Alike, Kept, Stops, Local, LocalAt, pure_local}
use Rattle.ss_words.proofs.Local.{refuse_local, shut_local, bind_local, anywhere, past_at, look_local, skip_local}
use Rattle.ss_words.proofs.Marks.{expect_local, eat_local, name_local}
use Rattle.ss_routines.specs.Simple.{Listing, Unwritten, BehindGiven, InParentheses}
use Rattle.ss_routines.specs.SimpleReading.{name_of}
use Rattle.ss_routines.specs.Tree.{Head, MainHead, RoutineHead, EventHead, listing_names}
use Rattle.ss_routines.specs.SectionReading.{refusal_of, no_name, others_at, names_at, given_at, yielded_at}
use Rattle.ss_routines.specs.Tree.{is_head}
use Rattle.ss_routines.specs.SectionReading.{saving, routine_at, event_at, head_by, head_at}
use Rattle.ss_routines.proofs.ExprLaw.{Wider}
use Rattle.ss_routines.proofs.AnnouncedParts.{IsKept, Keeps}
use Rattle.ss_routines.proofs.HeadLaw.{AtMostGiven, spell_given, given_keep}

first_same : (q a b : List Plain) → first a ≡ first b → first (q ++ a) ≡ first (q ++ b)
first_same [] a b e = e
first_same (w ∷ q) a b e = refl

-- one reading and then another; the results of the first are known
module _ {A B : Type 0} (rooms : Rooms) (fits : A → Type 0) (sp : A → List Plain) (f f' : A → Reading B)
    (loc : (a : A) → fits a → Local rooms (f a) (f' a))
    (short : (a : A) (r : List Plain) → length (f' a r).1 ≤ length r) (p' : Reading A) where
  alike : (a : A) (o : Result B Refusal) (ws r r2 q q2 : List Plain) → ws ≡ q ++ r → r ≡ q2 ++ r2 → Alike p' (Ok a) q r
      → Alike (f' a) o q2 r2 → Alike (bind p' f') o (q ++ q2) r2
  unfolding bind
  alike a o ws r r2 q q2 e e2 g g2 = λ r' is.
      ap (λ (u : List Plain). goes_on f' (p' u).0 (p' u).1) (append_assoc q q2 r')
      ∙ ap (λ (x : Read A). goes_on f' x.0 x.1) (g (q2 ++ r') (first_same q2 r' r2 is ∙ ap first (sym e2)))
      ∙ g2 r' is

  again : (a : A) (ws r q : List Plain) → ws ≡ q ++ r → Alike p' (Ok a) q r → bind p' f' ws ≡ f' a r
  unfolding bind
  again a ws r q e g =
      ap (λ (u : List Plain). goes_on f' (p' u).0 (p' u).1) e ∙ ap (λ (x : Read A). goes_on f' x.0 x.1) (g r refl)

  behind : (a : A) (o : Result B Refusal) (rs : Rooms) (ws r r2 q q2 : List Plain) → ws ≡ q ++ r → r ≡ q2 ++ r2
      → Alike p' (Ok a) q r → Kept o rs (f' a) r q2 r2 → Kept o rs (bind p' f') ws (q ++ q2) r2
  behind a (Ok b) rs ws r r2 q q2 e e2 g k = alike a (Ok b) ws r r2 q q2 e e2 g k
  behind a (Err Unexpected) rs ws r r2 q q2 e e2 g k = alike a (Err Unexpected) ws r r2 q q2 e e2 g k
  behind a (Err Memory) rs ws r r2 q q2 e e2 g k = alike a (Err Memory) ws r r2 q q2 e e2 g k
  behind a (Err PastLimit) same ws r r2 q q2 e e2 g k = alike a (Err PastLimit) ws r r2 q q2 e e2 g k
  behind a (Err PastLimit) more ws r r2 q q2 e e2 g k =
      (subst (λ (n : ℕ). n < length r2) (sym (ap (λ (x : Read B). length x.1) (again a ws r q e g))) k.0, k.1)

  failed : (e : Refusal) (q r : List Plain) → Alike p' (Err e) q r → Alike (bind p' f') (Err e) q r
  unfolding bind
  failed e q r g = λ r' is. ap (λ (x : Read A). goes_on f' x.0 x.1) (g r' is)

  shorter_with : (o : Result A Refusal) (r : List Plain) → length (goes_on f' o r).1 ≤ length r
  shorter_with (Ok a) r = short a r
  shorter_with (Err e) r = omega arith

  shorter : (ws : List Plain) (n : ℕ) → length (p' ws).1 ≤ n → length (bind p' f' ws).1 ≤ n
  unfolding bind
  shorter ws n le = let h = shorter_with (p' ws).0 (p' ws).1 in omega (arith, h, le)

  further : (ws r : List Plain) → length (p' ws).1 < length r → length (bind p' f' ws).1 < length r
  unfolding bind
  further ws r lt = let h = shorter_with (p' ws).0 (p' ws).1 in omega (arith, h, lt)

  past : (rs : Rooms) (ws q r : List Plain) → Kept (Err PastLimit) rs p' ws q r
      → Kept (Err PastLimit) rs (bind p' f') ws q r
  past same ws q r g = failed PastLimit q r g
  past more ws q r g = (further ws r g.0, g.1)

  bound : (o : Result A Refusal) (ws r : List Plain) → IsKept fits sp [] o ws r → Stops rooms p' o ws r
      → Stops rooms (bind p' f') (goes_on f o r).0 ws (goes_on f o r).1
  bound (Ok a) ws r (fa, x, y, z) (q, e, le, g) =
      let (q2, e2, le2, g2) = (loc a fa).at r in (
        q ++ q2,
        e ∙ ap (λ (u : List Plain). q ++ u) e2
            ∙ sym (append_assoc q q2 (f a r).1),
        shorter ws (length ws) le,
        behind a (f a r).0 rooms ws r (f a r).1 q q2 e
            e2 g g2,
      )
  bound (Err Unexpected) ws r known (q, e, le, g) = (q, e, shorter ws (length ws) le, failed Unexpected q r g)
  bound (Err Memory) ws r known (q, e, le, g) = (q, e, shorter ws (length ws) le, failed Memory q r g)
  bound (Err PastLimit) ws r known (q, e, le, g) = (q, e, shorter ws (length ws) le, past rooms ws q r g)

  bind_near : (p : Reading A) → Keeps fits sp [] p → Local rooms p p' → Local rooms (bind p f) (bind p' f')
  unfolding bind
  bind_near p k h = record { at = λ ws. bound (p ws).0 ws (p ws).1 (k.at ws) (h.at ws) }

-- ---- names

no_name_same : {A : Type 0} → Local {A = A} same no_name no_name
unfolding no_name
no_name_same {A} = look_local same _ _ (λ w. anywhere same w _ _ (at (name_of w)))
  where
    at : (o : Option Name) → Local {A = A} same (refuse (elim o [ Some n ↦ PastLimit | None ↦ Unexpected ]))
        (refuse (elim o [ Some n ↦ PastLimit | None ↦ Unexpected ]))
    at (Some n) = shut_local
    at None = refuse_local same

no_name_at : {A : Type 0} (f : Name → Reading A) → ((v : Name) → Local same (f v) (f v)) → (w : Option Plain)
    → LocalAt more w (refuse (refusal_of w)) (bind (name_by w) f)
unfolding skip pure refuse bind
no_name_at f loc (Some (name v)) = past_at (name v) (bind (skip (pure v)) f) tt (λ ws. ((loc v).at ws).2)
no_name_at f loc _ = anywhere more _ (refuse Unexpected) (refuse Unexpected) (refuse_local more)

no_name_more : {A : Type 0} (f : Name → Reading A) → ((v : Name) → Local same (f v) (f v))
    → Local more no_name (bind a_name f)
unfolding no_name a_name look bind
no_name_more f loc = look_local more (λ w. refuse (refusal_of w)) (λ w. bind (name_by w) f) (no_name_at f loc)

others_same : (k : ℕ) → Local same (others_at k) (others_at k)
unfolding others_at
others_same zero =
    bind_local same _ _ (elim [ true ↦ no_name_same | false ↦ pure_local same [] ]) (eat (m.Sign s.Comma))
    (eat (m.Sign s.Comma)) (eat_local same (m.Sign s.Comma))
others_same (suc k) =
    bind_local same _ _ (elim [
      | true ↦ bind_local same _ _
          (λ n. bind_local same _ _ (λ ns. pure_local same (n ∷ ns)) (others_at k) (others_at k) (others_same k)) a_name
          a_name (name_local same)
      | false ↦ pure_local same []
    ]) (eat (m.Sign s.Comma)) (eat (m.Sign s.Comma))
    (eat_local same (m.Sign s.Comma))

less : (rooms : Rooms) (k j : ℕ) → Wider rooms (suc k) (suc j) → Wider rooms k j
less same k j w = omega arith
less more k j w = omega arith

no_wider : (rooms : Rooms) (k : ℕ) → Wider rooms (suc k) 0 → ⊥
no_wider same k w = absurd (omega arith)
no_wider more k w = absurd (omega arith)

others_near : (rooms : Rooms) (k j : ℕ) → Wider rooms k j → Local rooms (others_at k) (others_at j)
unfolding others_at
others_near same zero zero w = others_same zero
others_near same zero (suc j) w = absurd (omega arith)
others_near more zero zero w = absurd (omega arith)
others_near more zero (suc j) w =
    bind_local more _ _ (elim [
      | true ↦ no_name_more (λ n. bind (others_at j) (λ ns. pure (n ∷ ns)))
          (λ n. bind_local same _ _ (λ ns. pure_local same (n ∷ ns)) (others_at j) (others_at j)
          (others_same j))
      | false ↦ pure_local more []
    ]) (eat (m.Sign s.Comma)) (eat (m.Sign s.Comma))
    (eat_local more (m.Sign s.Comma))
others_near rooms (suc k) zero w = absurd (no_wider rooms k w)
others_near rooms (suc k) (suc j) w =
    bind_local rooms _ _ (elim [
      | true ↦ bind_local rooms _ _
          (λ n. bind_local rooms _ _ (λ ns. pure_local rooms (n ∷ ns)) (others_at j) (others_at k)
          (others_near rooms k j (less rooms k j w))) a_name a_name (name_local rooms)
      | false ↦ pure_local rooms []
    ])
    (eat (m.Sign s.Comma)) (eat (m.Sign s.Comma)) (eat_local rooms (m.Sign s.Comma))

abbrev listed_names : Name → List Name → Several Name
listed_names n ns = record { first = n; others = ns }

names_near : (rooms : Rooms) (k j : ℕ) → Wider rooms k j → Local rooms (names_at (suc k)) (names_at (suc j))
unfolding names_at
names_near rooms k j w =
    bind_local rooms _ _ (λ n. bind_local rooms _ _ (λ ns. pure_local rooms (listed_names n ns)) (others_at j)
    (others_at k) (others_near rooms k j w)) a_name a_name (name_local rooms)

given_near : (rooms : Rooms) (k j : ℕ) → Wider rooms k j → Local rooms (given_at (suc k)) (given_at (suc j))
unfolding given_at
given_near rooms k j w =
    let names = names_near rooms k j w in
    bind_local rooms _ _ (elim [
      | true ↦ bind_local rooms _ _ (λ ns. pure_local rooms (BehindGiven ns)) (names_at (suc j)) (names_at (suc k))
          names
      | false ↦ bind_local rooms _ _ (elim [
        | true ↦ bind_local rooms _ _ (λ ns. bind_local rooms _ _ (λ u. pure_local rooms (InParentheses ns))
            (expect (m.Sign s.Close)) (expect (m.Sign s.Close)) (expect_local rooms (m.Sign s.Close)))
            (names_at (suc j)) (names_at (suc k)) names
        | false ↦ pure_local rooms Unwritten
      ]) (eat (m.Sign s.Open)) (eat (m.Sign s.Open)) (eat_local rooms (m.Sign s.Open))
    ]) (eat (m.Reserved r.Given)) (eat (m.Reserved r.Given)) (eat_local rooms (m.Reserved r.Given))

none_same : Local same (names_at 0) (names_at 0)
unfolding names_at
none_same = no_name_same

first_more : (j : ℕ) → Local more (names_at 0) (names_at (suc j))
unfolding names_at
first_more j =
    no_name_more (λ n. bind (others_at j) (λ ns. pure (listed_names n ns)))
    (λ n. bind_local same _ _ (λ ns. pure_local same (listed_names n ns)) (others_at j) (others_at j) (others_same j))

all_near : (rooms : Rooms) (k j : ℕ) → Wider rooms k j → Local rooms (names_at k) (names_at j)
all_near same zero zero w = none_same
all_near same zero (suc j) w = absurd (omega arith)
all_near more zero zero w = absurd (omega arith)
all_near more zero (suc j) w = first_more j
all_near rooms (suc k) zero w = absurd (no_wider rooms k w)
all_near rooms (suc k) (suc j) w = names_near rooms k j (less rooms k j w)

yielded_near : (rooms : Rooms) (k j : ℕ) → Wider rooms k j → Local rooms (yielded_at k) (yielded_at j)
unfolding yielded_at
yielded_near rooms k j w =
    bind_local rooms _ _ (elim [
      | true ↦ bind_local rooms _ _ (λ ns. pure_local rooms (all_of ns)) (names_at j)
          (names_at k) (all_near rooms k j w)
      | false ↦ pure_local rooms []
    ]) (eat (m.Reserved r.Yielding))
    (eat (m.Reserved r.Yielding)) (eat_local rooms (m.Reserved r.Yielding))

yielded_same : (k : ℕ) → Local same (yielded_at k) (yielded_at k)
yielded_same k = yielded_near same k k refl

saving_near : (rooms : Rooms) → Local rooms saving saving
unfolding saving
saving_near rooms = bind_local rooms _ _ (elim [
  | true ↦ bind_local rooms _ _ (λ u. bind_local rooms _ _ (λ v. pure_local rooms true) (expect (m.Reserved r.Notices))
      (expect (m.Reserved r.Notices)) (expect_local rooms (m.Reserved r.Notices))) (expect (m.Reserved r.Event))
      (expect (m.Reserved r.Event)) (expect_local rooms (m.Reserved r.Event))
  | false ↦ pure_local rooms false
]) (eat (m.Reserved r.Saving)) (eat (m.Reserved r.Saving)) (eat_local rooms (m.Reserved r.Saving))

-- ---- heads

left_over : (rooms : Rooms) (k j l : ℕ) → Wider rooms k j → l ≤ suc k → Wider rooms (suc k - l) (suc j - l)
left_over same k j l w le = omega (arith, w, le)
left_over more k j l w le = omega (arith, w, le)

abbrev behind_given : ℕ → Name → Listing Name → Reading Head
behind_given k n ps = bind (yielded_at (k - length (listing_names ps))) (λ ys. pure (RoutineHead n ps ys))

behind_given_near : (rooms : Rooms) (k j : ℕ) → Wider rooms k j → (n : Name) (ps : Listing Name)
    → AtMostGiven (suc k) ps → Local rooms (behind_given (suc k) n ps) (behind_given (suc j) n ps)
behind_given_near rooms k j w n ps h =
    bind_local rooms _ _ (λ ys. pure_local rooms (RoutineHead n ps ys)) (yielded_at (suc j - length (listing_names ps)))
    (yielded_at (suc k - length (listing_names ps))) (yielded_near rooms (suc k - length (listing_names ps))
    (suc j - length (listing_names ps)) (left_over rooms k j (length (listing_names ps)) w h))

behind_given_short : (j : ℕ) (n : Name) (ps : Listing Name) (r : List Plain)
    → length (behind_given (suc j) n ps r).1 ≤ length r
behind_given_short j n ps r =
    let l = bind_local same _ _ (λ ys. pure_local same (RoutineHead n ps ys))
    (yielded_at (suc j - length (listing_names ps)))
    (yielded_at (suc j - length (listing_names ps))) (yielded_same (suc j - length (listing_names ps))) in (l.at r).2

routine_near : (rooms : Rooms) (k j : ℕ) → Wider rooms k j → Local rooms (routine_at (suc k)) (routine_at (suc j))
unfolding routine_at
routine_near rooms k j w =
    bind_local rooms _ _ (λ n. bind_near rooms (AtMostGiven (suc k)) spell_given (behind_given (suc k) n)
    (behind_given (suc j) n) (behind_given_near rooms k j w n) (behind_given_short j n) (given_at (suc j))
    (given_at (suc k)) (given_keep k) (given_near rooms k j w)) a_name a_name (name_local rooms)

event_near : (rooms : Rooms) (k j : ℕ) → Wider rooms k j → Local rooms (event_at (suc k)) (event_at (suc j))
unfolding event_at
event_near rooms k j w =
    bind_local rooms _ _ (λ n. bind_local rooms _ _ (λ ps. bind_local rooms _ _
    (λ b. pure_local rooms (EventHead n ps b)) saving saving (saving_near rooms)) (given_at (suc j)) (given_at (suc k))
    (given_near rooms k j w)) a_name a_name (name_local rooms)

head_near_at : (rooms : Rooms) (k j : ℕ) → Wider rooms k j → (w : Option Plain)
    → LocalAt rooms w (head_by (suc k) w) (head_by (suc j) w)
head_near_at rooms k j v (Some (mark (m.Reserved r.Main))) =
    skip_local rooms (mark (m.Reserved r.Main)) _ _ (pure_local rooms MainHead)
head_near_at rooms k j v (Some (mark (m.Reserved r.Routine))) =
    skip_local rooms (mark (m.Reserved r.Routine)) _ _ (routine_near rooms k j v)
head_near_at rooms k j v (Some (mark (m.Reserved r.Event))) =
    skip_local rooms (mark (m.Reserved r.Event)) _ _ (event_near rooms k j v)
head_near_at rooms k j v _ = anywhere rooms _ _ _ (refuse_local rooms)

pub head_near : (rooms : Rooms) (k j : ℕ) → Wider rooms k j → Local rooms (head_at (suc k)) (head_at (suc j))
unfolding head_at
head_near rooms k j w = look_local rooms _ _ (head_near_at rooms k j w)

-- the word with which a head begins is passed
pub head_takes : (k : ℕ) (w : Plain) (ws : List Plain) → is_head (Some w) ≡ true
    → length (head_at (suc k) (w ∷ ws)).1 ≤ length ws
unfolding head_at look skip pure
head_takes k (mark (m.Reserved r.Main)) ws e = omega arith
head_takes k (mark (m.Reserved r.Routine)) ws e = ((routine_near same k k refl).at ws).2
head_takes k (mark (m.Reserved r.Event)) ws e = ((event_near same k k refl).at ws).2
head_takes k _ ws e = absurd cc
