-- Heads that are spelled are read again; and no comma and no YIELDING is refused by a limit.
use Rattle.std.proofs.Common.{◌≡◌, ℕ, zero, suc, ◌+◌, ◌-◌, ◌≤◌, Bool, true, false, List, [], ◌∷◌, ◌++◌, length}
use Rattle.std.proofs.Common.{Option, Some, None, Result, Ok, Err, refl, sym, ap, ◌∙◌, append_assoc, arith}
use Rattle.ss_words.specs.declared.mark.Mark.{Mark}
use Rattle.ss_words.specs.declared.mark.Mark.TheVariants as m
use Rattle.ss_words.specs.declared.word.Sign.TheVariants as s
use Rattle.ss_words.specs.declared.reserved.Reserved.TheVariants as r
use Rattle.ss_words.specs.declared.refusal.Refusal.{Refusal}
use Rattle.ss_words.specs.declared.refusal.Refusal.TheVariants.{Unexpected, PastLimit, Memory}
use Rattle.ss_words.specs.Plain.{Plain, name, mark, first}
use Rattle.ss_words.specs.Lists.{Name, Several, all_of}
use Rattle.ss_words.specs.Reading.{Reading, goes_on, bind, pure, refuse, look, rest_of, skip, end_of_words}
use Rattle.ss_words.specs.Marks.{is, expect, eat, name_by, a_name}
use Rattle.ss_words.proofs.Marks.{expect_read_back, eat_read_back, not_eaten, name_read_back}
use Rattle.ss_words.proofs.ReadBack.{then}
use Rattle.ss_routines.specs.Simple.{Listing, Unwritten, BehindGiven, InParentheses}
use Rattle.ss_routines.specs.Tree.{Head, MainHead, RoutineHead, EventHead, listing_names, parameters_head, spell_saving}
use Rattle.ss_routines.specs.Tree.{spell_head}
use Rattle.ss_routines.specs.Refused.{announces}
use Rattle.ss_routines.specs.SectionReading.{refusal_of, no_name, others_at, names_at, given_at, yielded_at, saving}
use Rattle.ss_routines.specs.SectionReading.{routine_at, event_at, head_by, head_at}
use Rattle.ss_routines.proofs.Tally.{Refused, Out, Tally}
use Rattle.ss_routines.proofs.HeadLaw.{spell_more, spell_list, spell_given, spell_yielded}

-- ---- a spelled part is read again

-- no part of a head goes on there
pub record EndsHead (y : List Plain) : Type 0 where
  pub no_comma : is (m.Sign s.Comma) (first y) ≡ false
  pub no_given : is (m.Reserved r.Given) (first y) ≡ false
  pub no_open : is (m.Sign s.Open) (first y) ≡ false
  pub no_yielding : is (m.Reserved r.Yielding) (first y) ≡ false
  pub no_saving : is (m.Reserved r.Saving) (first y) ≡ false

others_again : (k : ℕ) (ns : List Name) (y : List Plain) → length ns ≤ k → is (m.Sign s.Comma) (first y) ≡ false
    → others_at k (spell_more ns ++ y) ≡ (Ok ns, y)
unfolding others_at pure
others_again zero [] y le e = then (eat (m.Sign s.Comma)) _ false y y (not_eaten (m.Sign s.Comma) y e)
others_again zero (n ∷ ns) y le e = absurd (omega (arith, le))
others_again (suc k) [] y le e = then (eat (m.Sign s.Comma)) _ false y y (not_eaten (m.Sign s.Comma) y e)
others_again (suc k) (n ∷ ns) y le e =
    let z = spell_more ns ++ y in
    then (eat (m.Sign s.Comma)) _ true (mark (m.Sign s.Comma) ∷ name n ∷ z) (name n ∷ z)
    (eat_read_back (m.Sign s.Comma) (name n ∷ z))
    ∙ then a_name _ n (name n ∷ z) z (name_read_back n z)
    ∙ then (others_at k) _ ns z y (others_again k ns y (omega (arith, le)) e)

names_again : (k : ℕ) (ns : Several Name) (y : List Plain) → length (all_of ns) ≤ suc k
    → is (m.Sign s.Comma) (first y) ≡ false → names_at (suc k) (spell_list ns ++ y) ≡ (Ok ns, y)
unfolding names_at pure
names_again k ns y le e =
    let z = spell_more ns.others ++ y in
    then a_name _ ns.first (name ns.first ∷ z) z (name_read_back ns.first z)
    ∙ then (others_at k) _ ns.others z y (others_again k ns.others y (omega (arith, le)) e)

given_again : (k : ℕ) (ps : Listing Name) (y : List Plain) → length (listing_names ps) ≤ suc k
    → is (m.Sign s.Comma) (first y) ≡ false → is (m.Reserved r.Given) (first y) ≡ false
    → is (m.Sign s.Open) (first y) ≡ false
    → given_at (suc k) (spell_given ps ++ y) ≡ (Ok ps, y)
unfolding given_at pure
given_again k Unwritten y le e g o =
    then (eat (m.Reserved r.Given)) _ false y y (not_eaten (m.Reserved r.Given) y g)
    ∙ then (eat (m.Sign s.Open)) _ false y y (not_eaten (m.Sign s.Open) y o)
given_again k (BehindGiven ns) y le e g o =
    let z = spell_list ns ++ y in
    then (eat (m.Reserved r.Given)) _ true (mark (m.Reserved r.Given) ∷ z) z (eat_read_back (m.Reserved r.Given) z)
    ∙ then (names_at (suc k)) _ ns z y (names_again k ns y le e)
given_again k (InParentheses ns) y le e g o =
    let c = mark (m.Sign s.Close) ∷ y in
    let z = spell_list ns ++ c in
    let w = mark (m.Sign s.Open) ∷ z in
    ap (λ (u : List Plain). given_at (suc k) (mark (m.Sign s.Open) ∷ u))
    (append_assoc (spell_list ns) (mark (m.Sign s.Close) ∷ []) y)
    ∙ then (eat (m.Reserved r.Given)) _ false w w (not_eaten (m.Reserved r.Given) w refl)
    ∙ then (eat (m.Sign s.Open)) _ true w z (eat_read_back (m.Sign s.Open) z)
    ∙ then (names_at (suc k)) _ ns z c (names_again k ns c le refl)
    ∙ then (expect (m.Sign s.Close)) _ tt c y (expect_read_back (m.Sign s.Close) y)

yielded_again : (k : ℕ) (ys : List Name) (y : List Plain) → length ys ≤ k → is (m.Sign s.Comma) (first y) ≡ false
    → is (m.Reserved r.Yielding) (first y) ≡ false → yielded_at k (spell_yielded ys ++ y) ≡ (Ok ys, y)
unfolding yielded_at pure
yielded_again zero [] y le e g = then (eat (m.Reserved r.Yielding)) _ false y y (not_eaten (m.Reserved r.Yielding) y g)
yielded_again zero (n ∷ ns) y le e g = absurd (omega (arith, le))
yielded_again (suc k) [] y le e g =
    then (eat (m.Reserved r.Yielding)) _ false y y (not_eaten (m.Reserved r.Yielding) y g)
yielded_again (suc k) (n ∷ ns) y le e g =
    let l : Several Name = record { first = n; others = ns } in
    let z = spell_list l ++ y in
    then (eat (m.Reserved r.Yielding)) _ true (mark (m.Reserved r.Yielding) ∷ z) z
    (eat_read_back (m.Reserved r.Yielding) z)
    ∙ then (names_at (suc k)) _ l z y (names_again k l y le e)

saving_again : (b : Bool) (y : List Plain) → is (m.Reserved r.Saving) (first y) ≡ false
    → saving (spell_saving b ++ y) ≡ (Ok b, y)
unfolding saving pure
saving_again false y e = then (eat (m.Reserved r.Saving)) _ false y y (not_eaten (m.Reserved r.Saving) y e)
saving_again true y e =
    let n = mark (m.Reserved r.Notices) ∷ y in
    let v = mark (m.Reserved r.Event) ∷ n in
    then (eat (m.Reserved r.Saving)) _ true (mark (m.Reserved r.Saving) ∷ v) v (eat_read_back (m.Reserved r.Saving) v)
    ∙ then (expect (m.Reserved r.Event)) _ tt v n (expect_read_back (m.Reserved r.Event) n)
    ∙ then (expect (m.Reserved r.Notices)) _ tt n y (expect_read_back (m.Reserved r.Notices) y)

-- the part after the given parameters
yielded_ends : (ys : List Name) (y : List Plain) → EndsHead y
    → (is (m.Sign s.Comma) (first (spell_yielded ys ++ y)) ≡ false)
    × ((is (m.Reserved r.Given) (first (spell_yielded ys ++ y)) ≡ false)
    × (is (m.Sign s.Open) (first (spell_yielded ys ++ y)) ≡ false))
yielded_ends [] y e = (e.no_comma, (e.no_given, e.no_open))
yielded_ends (n ∷ ns) y e = (refl, (refl, refl))

saving_ends : (b : Bool) (y : List Plain) → EndsHead y → (is (m.Sign s.Comma) (first (spell_saving b ++ y)) ≡ false)
    × ((is (m.Reserved r.Given) (first (spell_saving b ++ y)) ≡ false)
    × (is (m.Sign s.Open) (first (spell_saving b ++ y)) ≡ false))
saving_ends false y e = (e.no_comma, (e.no_given, e.no_open))
saving_ends true y e = (refl, (refl, refl))

routine_again : (k : ℕ) (n : Name) (ps : Listing Name) (ys : List Name) (y : List Plain)
    → length (listing_names ps) + length ys ≤ suc k → EndsHead y
    → routine_at (suc k) (name n ∷ ((spell_given ps ++ spell_yielded ys) ++ y)) ≡ (Ok (RoutineHead n ps ys), y)
unfolding routine_at pure
routine_again k n ps ys y le e =
    let w = spell_yielded ys ++ y in
    let z = spell_given ps ++ w in
    let h = yielded_ends ys y e in
    ap (λ (u : List Plain). routine_at (suc k) (name n ∷ u)) (append_assoc (spell_given ps) (spell_yielded ys) y)
    ∙ then a_name _ n (name n ∷ z) z (name_read_back n z)
    ∙ then (given_at (suc k)) _ ps z w (given_again k ps w (omega (arith, le)) h.0 h.1.0 h.1.1)
    ∙ then (yielded_at (suc k - length (listing_names ps))) _ ys w y
    (yielded_again (suc k - length (listing_names ps)) ys y (omega (arith, le)) e.no_comma e.no_yielding)

event_again : (k : ℕ) (n : Name) (ps : Listing Name) (b : Bool) (y : List Plain) → length (listing_names ps) ≤ suc k
    → EndsHead y
    → event_at (suc k) (name n ∷ ((spell_given ps ++ spell_saving b) ++ y)) ≡ (Ok (EventHead n ps b), y)
unfolding event_at pure
event_again k n ps b y le e =
    let w = spell_saving b ++ y in
    let z = spell_given ps ++ w in
    let h = saving_ends b y e in
    ap (λ (u : List Plain). event_at (suc k) (name n ∷ u)) (append_assoc (spell_given ps) (spell_saving b) y)
    ∙ then a_name _ n (name n ∷ z) z (name_read_back n z)
    ∙ then (given_at (suc k)) _ ps z w (given_again k ps w le h.0 h.1.0 h.1.1)
    ∙ then saving _ b w y (saving_again b y e.no_saving)

pub head_again : (k : ℕ) (h : Head) (y : List Plain) → parameters_head h ≤ suc k → EndsHead y
    → head_at (suc k) (spell_head h ++ y) ≡ (Ok h, y)
unfolding head_at look skip pure
head_again k MainHead y le e = refl
head_again k (RoutineHead n ps ys) y le e = routine_again k n ps ys y le e
head_again k (EventHead n ps b) y le e = event_again k n ps b y le e

-- ---- no comma and no YIELDING is refused by a limit, and nothing for want of memory

-- the word counts to a limit
abbrev pub Counts : Option Plain → Type 0
Counts None = Unit {0}
Counts (Some w) = announces w ≡ false

abbrev pub IsSpared : {A : Type 0} → Result A Refusal → List Plain → Type 0
IsSpared (Ok a) r = Unit {0}
IsSpared (Err Unexpected) r = Unit {0}
IsSpared (Err Memory) r = ⊥
IsSpared (Err PastLimit) r = Counts (first r)

pub record Spares {A : Type 0} (p : Reading A) : Type 0 where
  pub at : (ws : List Plain) → IsSpared (p ws).0 (p ws).1

pub pure_spares : {A : Type 0} (a : A) → Spares (pure a)
unfolding pure
pure_spares a = record { at = λ ws. tt }

pub refuse_spares : {A : Type 0} → Spares {A = A} (refuse Unexpected)
unfolding refuse
refuse_spares = record { at = λ ws. tt }

module _ {A B : Type 0} (f : A → Reading B) (spares : (a : A) → Spares (f a)) where
  bound : (o : Result A Refusal) (r : List Plain) → IsSpared o r → IsSpared (goes_on f o r).0 (goes_on f o r).1
  bound (Ok a) r h = let g = spares a in g.at r
  bound (Err Unexpected) r h = tt
  bound (Err Memory) r h = h
  bound (Err PastLimit) r h = h

  pub bind_spares : (p : Reading A) → Spares p → Spares (bind p f)
  unfolding bind
  bind_spares p h = record { at = λ ws. bound (p ws).0 (p ws).1 (h.at ws) }

pub look_spares : {A : Type 0} (f : Option Plain → Reading A)
    → ((w : Option Plain) (ws : List Plain) → first ws ≡ w → IsSpared (f w ws).0 (f w ws).1) → Spares (look f)
unfolding look
look_spares f h = record { at = λ ws. h (first ws) ws refl }

skip_spares : {A : Type 0} (p : Reading A) → Spares p → Spares (skip p)
unfolding skip
skip_spares p h = record { at = λ ws. h.at (rest_of ws) }

test_spares : {A : Type 0} (p q : Reading A) (b : Bool) → Spares p → Spares q
    → Spares (elim b [ true ↦ skip p | false ↦ q ])
test_spares p q true hp hq = skip_spares p hp
test_spares p q false hp hq = hq

pub eat_spares : (k : Mark) → Spares (eat k)
unfolding eat
eat_spares k =
    look_spares _ (λ w ws e. let h = test_spares (pure true) (pure false) (is k w) (pure_spares true)
    (pure_spares false) in h.at ws)

pub expect_spares : (k : Mark) → Spares (expect k)
unfolding expect
expect_spares k =
    look_spares _ (λ w ws e. let h = test_spares (pure tt) (refuse Unexpected) (is k w) (pure_spares tt)
    refuse_spares in h.at ws)

ended_at_spares : (w : Option Plain) → Spares {A = Unit {0}} (elim w [ Some v ↦ refuse Unexpected | None ↦ pure tt ])
ended_at_spares (Some v) = refuse_spares
ended_at_spares None = pure_spares tt

pub ended_spares : Spares end_of_words
unfolding end_of_words
ended_spares = look_spares _ (λ w ws e. let h = ended_at_spares w in h.at ws)

name_at_spares : (w : Option Plain) → Spares (name_by w)
name_at_spares (Some (name v)) = skip_spares (pure v) (pure_spares v)
name_at_spares _ = refuse_spares

name_spares : Spares a_name
unfolding a_name
name_spares = look_spares name_by (λ w ws e. let h = name_at_spares w in h.at ws)

-- the words that parentheses, IFs and phrases refuse
refused_counts : (n : ℕ) (q : List Plain) (w : Option Plain) → Refused n q w → Counts w
refused_counts n q (Some (mark (m.Sign s.Open))) h = refl
refused_counts n q (Some (mark (m.Reserved r.If))) h = refl
refused_counts n q (Some (mark (m.Reserved r.For))) h = refl
refused_counts n q _ h = absurd h

out_spares : {A : Type 0} (n : ℕ) (o : Result A Refusal) (ws r : List Plain) → Out n o ws r → IsSpared o r
out_spares n (Ok a) ws r h = tt
out_spares n (Err Unexpected) ws r h = tt
out_spares n (Err Memory) ws r h = h
out_spares n (Err PastLimit) ws r (q, is, h) = refused_counts n q (first r) h

pub tally_spares : {A : Type 0} (n : ℕ) (p : Reading A) → Tally n p → Spares p
tally_spares n p h = record { at = λ ws. out_spares n (p ws).0 ws (p ws).1 (h.at ws) }

no_name_at : (A : Type 0) (w : Option Plain) (ws : List Plain) → first ws ≡ w
    → (let p : Reading A = refuse (refusal_of w) in IsSpared (p ws).0 (p ws).1)
unfolding refuse
no_name_at A (Some (name v)) [] e = absurd cc
no_name_at A (Some (name v)) (u ∷ ws) e = let same : name v ≡ u = cc in rw (sym same) refl
no_name_at A _ ws e = tt

no_name_spares : {A : Type 0} → Spares {A = A} no_name
unfolding no_name
no_name_spares {A} = look_spares _ (no_name_at A)

others_spare : (k : ℕ) → Spares (others_at k)
unfolding others_at
others_spare zero =
    bind_spares _ (elim [ true ↦ no_name_spares | false ↦ pure_spares [] ]) (eat (m.Sign s.Comma))
    (eat_spares (m.Sign s.Comma))
others_spare (suc k) =
    bind_spares _ (elim [
      | true ↦ bind_spares _ (λ n. bind_spares _ (λ ns. pure_spares (n ∷ ns)) (others_at k)
          (others_spare k)) a_name name_spares
      | false ↦ pure_spares []
    ]) (eat (m.Sign s.Comma))
    (eat_spares (m.Sign s.Comma))

abbrev named : Name → List Name → Several Name
named n ns = record { first = n; others = ns }

names_spare : (k : ℕ) → Spares (names_at k)
unfolding names_at
names_spare zero = no_name_spares
names_spare (suc k) =
    bind_spares _ (λ n. bind_spares _ (λ ns. pure_spares (named n ns)) (others_at k) (others_spare k)) a_name
    name_spares

given_spare : (k : ℕ) → Spares (given_at k)
unfolding given_at
given_spare k = bind_spares _ (elim [
  | true ↦ bind_spares _ (λ ns. pure_spares (BehindGiven ns)) (names_at k) (names_spare k)
  | false ↦ bind_spares _ (elim [
    | true ↦ bind_spares _ (λ ns. bind_spares _ (λ u. pure_spares (InParentheses ns)) (expect (m.Sign s.Close))
        (expect_spares (m.Sign s.Close))) (names_at k) (names_spare k)
    | false ↦ pure_spares Unwritten
  ]) (eat (m.Sign s.Open)) (eat_spares (m.Sign s.Open))
]) (eat (m.Reserved r.Given)) (eat_spares (m.Reserved r.Given))

yielded_spare : (k : ℕ) → Spares (yielded_at k)
unfolding yielded_at
yielded_spare k =
    bind_spares _ (elim [
      | true ↦ bind_spares _ (λ ns. pure_spares (all_of ns)) (names_at k)
          (names_spare k)
      | false ↦ pure_spares []
    ]) (eat (m.Reserved r.Yielding)) (eat_spares (m.Reserved r.Yielding))

saving_spares : Spares saving
unfolding saving
saving_spares = bind_spares _ (elim [
  | true ↦ bind_spares _ (λ u. bind_spares _ (λ v. pure_spares true) (expect (m.Reserved r.Notices))
      (expect_spares (m.Reserved r.Notices))) (expect (m.Reserved r.Event)) (expect_spares (m.Reserved r.Event))
  | false ↦ pure_spares false
]) (eat (m.Reserved r.Saving)) (eat_spares (m.Reserved r.Saving))

routine_spares : (k : ℕ) → Spares (routine_at k)
unfolding routine_at
routine_spares k =
    bind_spares _ (λ n. bind_spares _ (λ ps. bind_spares _ (λ ys. pure_spares (RoutineHead n ps ys))
    (yielded_at (k - length (listing_names ps))) (yielded_spare (k - length (listing_names ps)))) (given_at k)
    (given_spare k)) a_name
    name_spares

event_spares : (k : ℕ) → Spares (event_at k)
unfolding event_at
event_spares k =
    bind_spares _ (λ n. bind_spares _ (λ ps. bind_spares _ (λ b. pure_spares (EventHead n ps b)) saving saving_spares)
    (given_at k) (given_spare k)) a_name name_spares

head_spares_at : (k : ℕ) (w : Option Plain) → Spares (head_by k w)
head_spares_at k (Some (mark (m.Reserved r.Main))) = skip_spares (pure MainHead) (pure_spares MainHead)
head_spares_at k (Some (mark (m.Reserved r.Routine))) = skip_spares (routine_at k) (routine_spares k)
head_spares_at k (Some (mark (m.Reserved r.Event))) = skip_spares (event_at k) (event_spares k)
head_spares_at k _ = refuse_spares

pub head_spares : (k : ℕ) → Spares (head_at k)
unfolding head_at
head_spares k = look_spares (head_by k) (λ w ws e. let h = head_spares_at k w in h.at ws)
