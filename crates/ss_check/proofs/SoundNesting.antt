-- The phrases around the places of a tree.
use Rattle.std.proofs.Common.{◌≡◌, ◌≤◌, ◌<◌, ℕ, suc, ◌+◌, ◌&&◌, ◌||◌, Bool, true, false, nat_lt, List, [], ◌∷◌, ◌++◌}
use Rattle.std.proofs.Common.{length, refl, sym, ap, ◌∙◌, arith, append_assoc, length-append}
use Rattle.std.specs.Prelude.{if◌then◌else◌, bytes_eq}
use Rattle.std.proofs.lemmas.Bool.{true≢false, false≢true, lt-ltb, le-ltb}
use Rattle.std.proofs.lemmas.Slice.Eq.{bytes_eq-Decides}
use Rattle.ss_program.specs.declared.place.Spot.{Spot}
use Rattle.ss_program.specs.Match.{is_at, behind_body}
use Rattle.ss_program.specs.Nesting.{is_phrase, is_around, phrases_before, phrases_around, may_be_open}
use Rattle.ss_check.proofs.SoundShapes.{if_at, else_at, always_at, Head, for_at, loop_at, find_at, gather_at, tell_at}
use Rattle.ss_check.proofs.SoundShapes.{Block, no_statements, statement, Statement, alone, loop, One, simple, branch}
use Rattle.ss_check.proofs.SoundShapes.{Otherwise, no_else, else_with, Controlled, further, repeated, single, find}
use Rattle.ss_check.proofs.SoundShapes.{compute, flat_block, flat_statement, flat_one, flat_otherwise, flat_loop}
use Rattle.ss_check.proofs.SoundZipper.{unwind, At, onward, past, same_after, is_here, size}
use Rattle.ss_check.proofs.SoundCounting.{quiet_phrase}
use Rattle.ss_check.proofs.SoundMatches.{body, behind_is}

-- no phrase from place i to place j reaches past j
abbrev pub Shut : List Spot → ℕ → ℕ → Type 0
Shut ps i j = (n : ℕ) → j ≤ n → phrases_before ps n j ≡ phrases_before ps n i

-- the phrases js are open before place i, up to place m
abbrev pub Open : List Spot → ℕ → ℕ → List ℕ → Type 0
Open ps i m js = (n : ℕ) → i ≤ n → n < m → phrases_before ps n i ≡ js

-- a body is after its phrase
pub body_fits : (c : Controlled) (f : Head) → 1 + body c ≤ length (flat_loop f c)
body_fits (further g c) f = let h = body_fits c g in omega (arith, h)
body_fits (repeated B l) f = let w = length-append (flat_block B) (loop_at l ∷ []) in omega (arith, w)
body_fits (single o) f = omega arith
body_fits (find l) f = omega arith
body_fits (compute l x m ts) f = omega arith

module _ (ps : List Spot) where
  before_next : (n i : ℕ) →
      phrases_before ps n (i + 1) ≡ (if is_around ps n i then i ∷ phrases_before ps n i else phrases_before ps n i)
  before_next n i = let e : i + 1 ≡ suc i = omega arith in rw e refl

  without : (x y : Bool) (i : ℕ) (js : List ℕ) → x ≡ false → (if x && y then i ∷ js else js) ≡ js
  without true y i js e = absurd (true≢false e)
  without false y i js e = refl

  without_second : (x y : Bool) (i : ℕ) (js : List ℕ) → y ≡ false → (if x && y then i ∷ js else js) ≡ js
  without_second true true i js e = absurd (true≢false e)
  without_second true false i js e = refl
  without_second false y i js e = refl

  with_one : (x y : Bool) (i : ℕ) (js : List ℕ) → x ≡ true → y ≡ true → (if x && y then i ∷ js else js) ≡ i ∷ js
  with_one true true i js e f = refl
  with_one true false i js e f = absurd (false≢true f)
  with_one false y i js e f = absurd (false≢true e)

  -- one place that is no phrase
  pub shut_one : (i : ℕ) (b : List Spot) (x : Spot) (a : List Spot) → At ps i b (x ∷ a) → is_phrase x.place ≡ false →
      Shut ps i (i + 1)
  shut_one i b x a h e n l =
      before_next n i
      ∙ without (is_at ps is_phrase i) (nat_lt n (behind_body ps i)) i _ (is_here is_phrase ps i b x a h ∙ e)

  -- a phrase whose body ends before n
  pub shut_phrase : (i n : ℕ) → behind_body ps i ≤ n → phrases_before ps n (i + 1) ≡ phrases_before ps n i
  shut_phrase i n l =
      before_next n i
      ∙ without_second (is_at ps is_phrase i) (nat_lt n (behind_body ps i)) i _ (le-ltb n (behind_body ps i) l)

  -- a phrase whose body ends after n
  pub open_phrase : (i n : ℕ) (b : List Spot) (x : Spot) (a : List Spot) → At ps i b (x ∷ a) →
      is_phrase x.place ≡ true →
      n < behind_body ps i → phrases_before ps n (i + 1) ≡ i ∷ phrases_before ps n i
  open_phrase i n b x a h e l =
      before_next n i
      ∙ with_one (is_at ps is_phrase i) (nat_lt n (behind_body ps i)) i _ (is_here is_phrase ps i b x a h ∙ e)
      (lt-ltb n (behind_body ps i) l)

  pub shut_both : (i j k : ℕ) → j ≤ k → Shut ps i j → Shut ps j k → Shut ps i k
  shut_both i j k l f g n m = g n m ∙ f n (omega (arith, l, m))

  pub shut_none : (i j : ℕ) → j ≡ i → Shut ps i j
  shut_none i j e n l = ap (phrases_before ps n) e

  pub shut_at : (i j k : ℕ) → k ≡ j → Shut ps i j → Shut ps i k
  shut_at i j k e h n l = ap (phrases_before ps n) e ∙ h n (omega (arith, e, l))

  mutual
    pub block_shut : (B : Block) (i : ℕ) (b r : List Spot) → At ps i b (flat_block B ++ r) →
        Shut ps i (i + length (flat_block B))
    block_shut no_statements i b r h = shut_none i (i + 0) (omega arith)
    block_shut (statement t B) i b r h =
        let here = same_after (append_assoc (flat_statement t) (flat_block B) r) h in
        let first = statement_shut t i b (flat_block B ++ r) here in
        let second = block_shut B (i + length (flat_statement t)) (unwind (flat_statement t) b) r
        (past ps i b (flat_statement t) (flat_block B ++ r) here) in
        let n = length-append (flat_statement t) (flat_block B) in
        shut_at i (i + length (flat_statement t) + length (flat_block B))
        (i + length (flat_statement t ++ flat_block B)) (omega (arith, n))
        (shut_both i (i + length (flat_statement t)) (i + length (flat_statement t) + length (flat_block B))
        (omega arith) first second)

    pub statement_shut : (t : Statement) (i : ℕ) (b r : List Spot) → At ps i b (flat_statement t ++ r) →
        Shut ps i (i + length (flat_statement t))
    statement_shut (alone o) i b r h = one_shut o i b r h
    statement_shut (loop f c) i b r h = loop_shut c f i b r h

    pub one_shut : (o : One) (i : ℕ) (b r : List Spot) → At ps i b (flat_one o ++ r) →
        Shut ps i (i + length (flat_one o))
    one_shut (simple s e) i b r h = shut_one i b s r h (quiet_phrase s.place e)
    one_shut (branch l q B o m) i b r h =
        let xs = flat_block B in
        let ys = flat_otherwise o in
        let here : At ps i b (if_at l q ∷ (xs ++ (ys ++ always_at m ∷ r))) =
        same_after (ap (λ (zs : List Spot). if_at l q ∷ zs)
        (append_assoc (xs ++ ys) (always_at m ∷ []) r ∙ append_assoc xs ys (always_at m ∷ r))) h in
        let second = onward here in
        let third = past ps (i + 1) (if_at l q ∷ b) xs (ys ++ always_at m ∷ r) second in
        let last = past ps (i + 1 + length xs) (unwind xs (if_at l q ∷ b)) ys (always_at m ∷ r) third in
        let j = i + 1 + length xs in
        let k = j + length ys in
        let n = length-append (xs ++ ys) (always_at m ∷ []) in
        let n' = length-append xs ys in
        shut_at i (k + 1) (i + length (flat_one (branch l q B o m))) (omega (arith, n, n'))
        (shut_both i k (k + 1) (omega arith)
        (shut_both i j k (omega arith)
        (shut_both i (i + 1) j (omega arith) (shut_one i b (if_at l q) (xs ++ (ys ++ always_at m ∷ r)) here refl)
        (block_shut B (i + 1) (if_at l q ∷ b) (ys ++ always_at m ∷ r) second))
        (otherwise_shut o j (unwind xs (if_at l q ∷ b)) (always_at m ∷ r) third))
        (shut_one k (unwind ys (unwind xs (if_at l q ∷ b))) (always_at m) r last refl))

    pub otherwise_shut : (o : Otherwise) (i : ℕ) (b r : List Spot) → At ps i b (flat_otherwise o ++ r) →
        Shut ps i (i + length (flat_otherwise o))
    otherwise_shut no_else i b r h = shut_none i (i + 0) (omega arith)
    otherwise_shut (else_with l B) i b r h =
        shut_at i (i + 1 + length (flat_block B)) (i + length (flat_otherwise (else_with l B))) (omega arith)
        (shut_both i (i + 1) (i + 1 + length (flat_block B)) (omega arith)
        (shut_one i b (else_at l) (flat_block B ++ r) h refl)
        (block_shut B (i + 1) (else_at l ∷ b) r (onward h)))

    -- the place after the phrase, and the phrase
    pub loop_shut : (c : Controlled) (f : Head) (i : ℕ) (b r : List Spot) → At ps i b (flat_loop f c ++ r) →
        Shut ps i (i + length (flat_loop f c))
    loop_shut (further g c) f i b r h n l =
        let e = behind_is ps (further g c) f i b r h in
        let z = body_fits (further g c) f in
        let k : i + 1 + length (flat_loop g c) ≤ n = omega (arith, l) in
        let m : i + length (flat_loop f (further g c)) ≡ i + 1 + length (flat_loop g c) = omega arith in
        ap (phrases_before ps n) m ∙ loop_shut c g (i + 1) (for_at f false ∷ b) r (onward h) n k
        ∙ shut_phrase i n (omega (arith, e, z, l))
    loop_shut (repeated B l') f i b r h n l =
        let e = behind_is ps (repeated B l') f i b r h in
        let w = length-append (flat_block B) (loop_at l' ∷ []) in
        let here : At ps i b (for_at f true ∷ (flat_block B ++ loop_at l' ∷ r)) =
        same_after (ap (λ (zs : List Spot). for_at f true ∷ zs) (append_assoc (flat_block B) (loop_at l' ∷ []) r)) h in
        let j = i + 1 + length (flat_block B) in
        let m : i + length (flat_loop f (repeated B l')) ≡ j + 1 = omega (arith, w) in
        ap (phrases_before ps n) m
        ∙ shut_one j (unwind (flat_block B) (for_at f true ∷ b)) (loop_at l') r
        (past ps (i + 1) (for_at f true ∷ b) (flat_block B) (loop_at l' ∷ r) (onward here)) refl n (omega (arith, l, w))
        ∙ block_shut B (i + 1) (for_at f true ∷ b) (loop_at l' ∷ r) (onward here) n (omega (arith, l, w))
        ∙ shut_phrase i n (omega (arith, e, l, w))
    loop_shut (single o) f i b r h n l =
        let e = behind_is ps (single o) f i b r h in
        let m : i + length (flat_loop f (single o)) ≡ i + 1 + length (flat_one o) = omega arith in
        ap (phrases_before ps n) m ∙ one_shut o (i + 1) (for_at f false ∷ b) r (onward h) n (omega (arith, l))
        ∙ shut_phrase i n (omega (arith, e, l))
    loop_shut (find l') f i b r h n l =
        let e = behind_is ps (find l') f i b r h in
        let m : i + length (flat_loop f (find l')) ≡ i + 1 + 1 = omega arith in
        ap (phrases_before ps n) m
        ∙ shut_one (i + 1) (for_at f false ∷ b) (find_at l') r (onward h) refl n (omega (arith, l))
        ∙ shut_phrase i n (omega (arith, e, l))
    loop_shut (compute l' x m' ts) f i b r h n l =
        let e = behind_is ps (compute l' x m' ts) f i b r h in
        let m : i + length (flat_loop f (compute l' x m' ts)) ≡ i + 1 + 1 + 1 = omega arith in
        ap (phrases_before ps n) m
        ∙ shut_one (i + 1 + 1) (gather_at l' x ∷ for_at f false ∷ b) (tell_at m' ts) r (onward (onward h)) refl n
        (omega (arith, l))
        ∙ shut_one (i + 1) (for_at f false ∷ b) (gather_at l' x) (tell_at m' ts ∷ r) (onward h) refl n
        (omega (arith, l))
        ∙ shut_phrase i n (omega (arith, e, l))

  -- ---- the open phrases

  pub open_past : (i j m : ℕ) (js : List ℕ) → i ≤ j → Open ps i m js → Shut ps i j → Open ps j m js
  open_past i j m js l f g n a b = g n a ∙ f n (omega (arith, l, a)) b

  pub open_below : (i m k : ℕ) (js : List ℕ) → k ≤ m → Open ps i m js → Open ps i k js
  open_below i m k js l f n a b = f n a (omega (arith, l, b))

  -- after a phrase, up to the end of its body
  pub open_into : (i m k : ℕ) (b : List Spot) (x : Spot) (a : List Spot) (js : List ℕ) → At ps i b (x ∷ a) →
      is_phrase x.place ≡ true →
      behind_body ps i ≡ k → k ≤ m → Open ps i m js → Open ps (i + 1) k (i ∷ js)
  open_into i m k b x a js h e g l f n u v =
      open_phrase i n b x a h e (omega (arith, g, v))
      ∙ ap (λ (ks : List ℕ). i ∷ ks) (f n (omega (arith, u)) (omega (arith, v, l)))

  pub around_is : (i m : ℕ) (js : List ℕ) → Open ps i m js → i < m → phrases_around ps i ≡ js
  around_is i m js f l = f i (omega arith) l

  -- ---- the places at which these loops may be open

  pub record Goes (js : List ℕ) (n : ℕ) : Type 0 where
    pub place : n < length ps
    pub loops : may_be_open ps js n ≡ true

  alike : (js ks : List ℕ) (c : Bool) → ks ≡ js → (bytes_eq js ks || c) ≡ true
  alike js ks c e = rw (e, (bytes_eq-Decides js js).1 refl) refl

  pub goes_there : (n : ℕ) (js : List ℕ) → n < length ps → phrases_around ps n ≡ js → Goes js n
  goes_there n js l e = record { place = l; loops = alike js (phrases_around ps n) _ e }

  or_true : (a b c : Bool) → b ≡ true → c ≡ true → (a || (b && c)) ≡ true
  or_true true b c e f = refl
  or_true false true true e f = refl
  or_true false true false e f = absurd (false≢true f)
  or_true false false c e f = absurd (false≢true e)

  -- back to a phrase
  pub goes_back : (n : ℕ) (js : List ℕ) (b : List Spot) (x : Spot) (a : List Spot) → At ps n b (x ∷ a) →
      is_phrase x.place ≡ true →
      phrases_around ps n ≡ js → Goes (n ∷ js) n
  goes_back n js b x a h e g = record {
    place = let s = size ps n b (x ∷ a) h in omega (arith, s);
    loops = or_true (bytes_eq (n ∷ js) (phrases_around ps n)) (is_at ps is_phrase n)
        (bytes_eq (n ∷ js) (n ∷ phrases_around ps n))
        (is_here is_phrase ps n b x a h ∙ e)
        ((bytes_eq-Decides (n ∷ js) (n ∷ phrases_around ps n)).1 (ap (λ (ks : List ℕ). n ∷ ks) (sym g)));
  }

  pub goes_same : (js ks : List ℕ) (n : ℕ) → ks ≡ js → Goes js n → Goes ks n
  goes_same js ks n e h = record { place = h.place; loops = rw e h.loops }

  pub goes_at : (js : List ℕ) (n k : ℕ) → k ≡ n → Goes js n → Goes js k
  goes_at js n k e h = rw e h
