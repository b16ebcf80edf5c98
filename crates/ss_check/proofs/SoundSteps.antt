-- The next places of the places of a tree, and the loops that are open there.
use Rattle.std.proofs.Common.{◌≡◌, ◌≤◌, ◌<◌, ℕ, suc, ◌+◌, ◌-◌, Bool, true, false, List, [], ◌∷◌, ◌++◌, length, drop}
use Rattle.std.proofs.Common.{refl, sym, ap, ◌∙◌, arith, append_assoc, length-append}
use Rattle.std.specs.Prelude.{if◌then◌else◌, max}
use Rattle.std.proofs.lemmas.Bool.{true≢false, false≢true}
use Rattle.ss_words.specs.declared.limits.TheConstants.{MOST_PHRASES}
use Rattle.ss_program.specs.declared.branch.Question.{Question}
use Rattle.ss_program.specs.declared.branch.Branch.TheVariants.{If, Else, Always}
use Rattle.ss_program.specs.declared.looping.Looping.TheVariants.{For, Loop, Find, Gather, Tell}
use Rattle.ss_program.specs.declared.place.Control.TheVariants.{Stop, Return, End}
use Rattle.ss_program.specs.declared.place.Place.{Place}
use Rattle.ss_program.specs.declared.place.Place.TheVariants.{Control, Branch, Looping}
use Rattle.ss_program.specs.declared.place.Spot.{Spot}
use Rattle.ss_program.specs.declared.looping.Telling.{Telling}
use Rattle.ss_program.specs.ProgramExpr.{Expr}
use Rattle.ss_program.specs.declared.ways.Ways.{Ways}
use Rattle.ss_program.specs.Match.{is_else, controls_next_place, bare_phrases, branch_end, if_of, phrase_of}
use Rattle.ss_program.specs.Match.{chain_before, behind_body, next_place, behind_always, behind_false, behind_loop}
use Rattle.ss_program.specs.Match.{next_of, ways_of}
use Rattle.ss_program.specs.Nesting.{phrases_before, phrases_around, is_nested}
use Rattle.ss_program.specs.ProgramSound.{GoesOn, is_end}
use Rattle.ss_check.proofs.SoundShapes.{is_simple, if_at, else_at, always_at, Head, for_at, loop_at, find_at, gather_at}
use Rattle.ss_check.proofs.SoundShapes.{tell_at, Block, no_statements, statement, Statement, alone, loop, One, simple}
use Rattle.ss_check.proofs.SoundShapes.{branch, Otherwise, no_else, else_with, Controlled, further, repeated, single}
use Rattle.ss_check.proofs.SoundShapes.{find, compute, flat_block, flat_statement, flat_one, flat_otherwise, flat_loop}
use Rattle.ss_check.proofs.SoundZipper.{unwind, unwind_both, At, onward, past, same_after, is_here, is_there, front_is}
use Rattle.ss_check.proofs.SoundZipper.{taken}
use Rattle.ss_check.proofs.SoundCounting.{quiet_bare}
use Rattle.ss_check.proofs.SoundMatches.{body, behind_is, branch_end_is, start_of_if, start_of_do}
use Rattle.ss_check.proofs.SoundNesting.{Open, shut_one, shut_phrase, block_shut, statement_shut, one_shut}
use Rattle.ss_check.proofs.SoundNesting.{otherwise_shut, loop_shut, body_fits, open_past, open_into, around_is, Goes}
use Rattle.ss_check.proofs.SoundNesting.{goes_there, goes_back, goes_same, goes_at}

-- ---- laws of a place

-- the other places at which it may go on, and how many loops it closes
abbrev pub Exits : ℕ → Ways → Place → Type 0
Exits count w (Branch (If q)) = w.exit < count
Exits count w (Looping (For f)) = w.exit < count
Exits count w (Looping Find) = w.chain ≤ MOST_PHRASES
Exits count w other = Unit {0}

pub record IsStep (ps : List Spot) (i : ℕ) (x : Place) : Type 0 where
  pub next : GoesOn (length ps) (is_end x) (next_of ps i x)
  pub exits : Exits (length ps) (ways_of ps i x) x
  pub nested : is_nested ps i (ways_of ps i x) x ≡ true

abbrev pub AreSteps : List Spot → ℕ → List Spot → Type 0
AreSteps ps i [] = Unit {0}
AreSteps ps i (x ∷ xs) = IsStep ps i x.place × AreSteps ps (i + 1) xs

moved : (ps : List Spot) (i j : ℕ) (xs : List Spot) → i ≡ j → AreSteps ps i xs → AreSteps ps j xs
moved ps i j xs e h = rw (sym e) h

joined : (ps : List Spot) (i : ℕ) (xs ys : List Spot) → AreSteps ps i xs → AreSteps ps (i + length xs) ys →
    AreSteps ps i (xs ++ ys)
joined ps i [] ys h g = moved ps (i + 0) i ys (omega arith) g
joined ps i (x ∷ xs) ys h g =
    (h.0, joined ps (i + 1) xs ys h.1 (moved ps (i + length (x ∷ xs)) (i + 1 + length xs) ys (omega arith) g))

-- ---- how many phrases are open at once

abbrev mutual
  pub phrases_block : Block → ℕ
  phrases_block no_statements = 0
  phrases_block (statement t b) = max (phrases_statement t) (phrases_block b)

  pub phrases_statement : Statement → ℕ
  phrases_statement (alone o) = phrases_one o
  phrases_statement (loop f c) = suc (phrases_controlled c)

  pub phrases_one : One → ℕ
  phrases_one (simple s e) = 0
  phrases_one (branch l q b e m) = max (phrases_block b) (phrases_otherwise e)

  pub phrases_otherwise : Otherwise → ℕ
  phrases_otherwise no_else = 0
  phrases_otherwise (else_with l b) = phrases_block b

  pub phrases_controlled : Controlled → ℕ
  phrases_controlled (further f c) = suc (phrases_controlled c)
  phrases_controlled (repeated b l) = phrases_block b
  phrases_controlled (single o) = phrases_one o
  phrases_controlled (find l) = 0
  phrases_controlled (compute l e m ts) = 0

-- ---- the last place of a statement is no bare phrase

one_ends : (o : One) (b : List Spot) → front_is controls_next_place (unwind (flat_one o) b) ≡ false
one_ends (simple s e) b = quiet_bare s.place e
one_ends (branch l q B o m) b =
    ap (front_is controls_next_place)
    (unwind_both (flat_block B ++ flat_otherwise o) (always_at m ∷ []) (if_at l q ∷ b))

loop_ends : (c : Controlled) (f : Head) (b : List Spot) → front_is controls_next_place (unwind (flat_loop f c) b)
    ≡ false
loop_ends (further g c) f b = loop_ends c g (for_at f false ∷ b)
loop_ends (repeated B l) f b =
    ap (front_is controls_next_place) (unwind_both (flat_block B) (loop_at l ∷ []) (for_at f true ∷ b))
loop_ends (single o) f b = one_ends o (for_at f false ∷ b)
loop_ends (find l) f b = refl
loop_ends (compute l e m ts) f b = refl

statement_ends : (t : Statement) (b : List Spot) → front_is controls_next_place (unwind (flat_statement t) b) ≡ false
statement_ends (alone o) b = one_ends o b
statement_ends (loop f c) b = loop_ends c f b

-- ---- single places

module _ (ps : List Spot) where
  goes_on : (n k : ℕ) (js : List ℕ) → n ≡ k → Goes ps js k → n < length ps
  goes_on n k js e h = let l = h.place in omega (arith, e, l)

  goes_nested : (i n k : ℕ) (js : List ℕ) → phrases_around ps i ≡ js → n ≡ k → Goes ps js k →
      Goes ps (phrases_around ps i) n
  goes_nested i n k js a e h = goes_at ps (phrases_around ps i) k n e (goes_same ps js (phrases_around ps i) k a h)

  simple_step : (i k : ℕ) (js : List ℕ) (x : Place) → is_simple x ≡ true → phrases_around ps i ≡ js →
      next_place ps i ≡ k → Goes ps js k →
      IsStep ps i x
  simple_step i k js (Branch b) s a e g = absurd (false≢true s)
  simple_step i k js (Looping l) s a e g = absurd (false≢true s)
  simple_step i k js (Control End) s a e g = absurd (false≢true s)
  simple_step i k js (Control Stop) s a e g =
      record { next = goes_on (next_place ps i) k js e g; exits = tt; nested = refl }
  simple_step i k js (Control Return) s a e g =
      record { next = goes_on (next_place ps i) k js e g; exits = tt; nested = refl }
  simple_step i k js x s a e g = record {
    next = goes_on (next_place ps i) k js e g;
    exits = tt;
    nested = let t = goes_nested i (next_place ps i) k js a e g in t.loops;
  }

  if_step : (i k l : ℕ) (js : List ℕ) (q : Question) → phrases_around ps i ≡ js → Goes ps js (i + 1) →
      behind_false ps i ≡ l → Goes ps js l →
      IsStep ps i (Branch (If q))
  if_step i k l js q a g e h = record {
    next = g.place;
    exits = goes_on (behind_false ps i) l js e h;
    nested =
        let t = goes_nested i (i + 1) (i + 1) js a refl g in
        let u = goes_nested i (behind_false ps i) l js a e h in rw (t.loops, u.loops) refl;
  }

  else_step : (i k : ℕ) (js : List ℕ) → phrases_around ps i ≡ js → branch_end ps i ≡ k → Goes ps js k →
      IsStep ps i (Branch Else)
  else_step i k js a e g = record {
    next = goes_on (branch_end ps i) k js e g;
    exits = tt;
    nested = let t = goes_nested i (branch_end ps i) k js a e g in t.loops;
  }

  always_step : (i k : ℕ) (js : List ℕ) → phrases_around ps i ≡ js → behind_always ps i ≡ k → Goes ps js k →
      IsStep ps i (Branch Always)
  always_step i k js a e g = record {
    next = goes_on (behind_always ps i) k js e g;
    exits = tt;
    nested = let t = goes_nested i (behind_always ps i) k js a e g in t.loops;
  }

  for_step : (i k : ℕ) (js : List ℕ) (f : Head) (has_do : Bool) → phrases_around ps i ≡ js → Goes ps (i ∷ js) (i + 1) →
      behind_loop ps i ≡ k →
      Goes ps js k → IsStep ps i (for_at f has_do).place
  for_step i k js f has_do a g e h = record {
    next = g.place;
    exits = goes_on (behind_loop ps i) k js e h;
    nested =
        let t = goes_same ps (i ∷ js) (i ∷ phrases_around ps i) (i + 1) (ap (λ (ks : List ℕ). i ∷ ks) a) g in
        let u = goes_nested i (behind_loop ps i) k js a e h in rw (t.loops, u.loops) refl;
  }

  loop_step : (i k : ℕ) (js : List ℕ) → phrases_around ps i ≡ js → phrase_of ps i ≡ k → Goes ps js k →
      IsStep ps i (Looping Loop)
  loop_step i k js a e g = record {
    next = goes_on (phrase_of ps i) k js e g;
    exits = tt;
    nested = let t = goes_nested i (phrase_of ps i) k js a e g in t.loops;
  }

  gather_step : (i k : ℕ) (js : List ℕ) (e : Expr) → phrases_around ps i ≡ js → next_place ps i ≡ k → Goes ps js k →
      IsStep ps i (Looping (Gather e))
  gather_step i k js x a e g = record {
    next = goes_on (next_place ps i) k js e g;
    exits = tt;
    nested = let t = goes_nested i (next_place ps i) k js a e g in t.loops;
  }

  tell_step : (i k : ℕ) (js : List ℕ) (ts : List Telling) → phrases_around ps i ≡ js → next_place ps i ≡ k →
      Goes ps js k →
      IsStep ps i (Looping (Tell ts))
  tell_step i k js ts a e g = record {
    next = goes_on (next_place ps i) k js e g;
    exits = tt;
    nested = let t = goes_nested i (next_place ps i) k js a e g in t.loops;
  }

  find_step : (i : ℕ) (outer : List ℕ) → drop (chain_before ps i) (phrases_around ps i) ≡ outer →
      chain_before ps i ≤ MOST_PHRASES →
      Goes ps outer (i + 1) → IsStep ps i (Looping Find)
  find_step i outer e l g = record {
    next = g.place;
    exits = l;
    nested = let t = goes_same ps outer (drop (chain_before ps i) (phrases_around ps i)) (i + 1) e g in t.loops;
  }

  -- ---- the facts from the place before

  next_is : (i : ℕ) (b a : List Spot) → At ps i b a → next_place ps i
      ≡ (if front_is controls_next_place b then i - 1 else i + 1)
  next_is i b a h = rw (is_there controls_next_place ps i b a h) refl

  behind_loop_is : (i n : ℕ) (b a : List Spot) → At ps i b a → behind_body ps i ≡ n →
      behind_loop ps i ≡ (if front_is controls_next_place b then i - 1 else n)
  behind_loop_is i n b a h e = rw (is_there controls_next_place ps i b a h) (chosen (front_is controls_next_place b))
    where
      chosen : (c : Bool) → (if c then i - 1 else behind_body ps i) ≡ (if c then i - 1 else n)
      chosen true = refl
      chosen false = e

  behind_always_is : (i k : ℕ) (b a : List Spot) → At ps i b a → if_of ps k ≡ i →
      behind_always ps k ≡ (if front_is controls_next_place b then i - 1 else k + 1)
  behind_always_is i k b a h e = rw e (rw (is_there controls_next_place ps i b a h) refl)

  false_is : (i j : ℕ) (b : List Spot) (x : Spot) (a : List Spot) → branch_end ps i ≡ j → At ps j b (x ∷ a) →
      behind_false ps i ≡ (if is_else x.place then j + 1 else j)
  false_is i j b x a e h = rw e (rw (is_here is_else ps j b x a h) refl)

  -- ---- whole trees

  not_bare : (c : Bool) (k l n : ℕ) → c ≡ false → n ≡ l → n ≡ (if c then k else l)
  not_bare true k l n e f = absurd (true≢false e)
  not_bare false k l n e f = f

  same_if : (c : Bool) (k l n : ℕ) → l ≡ n → (if c then k else l) ≡ (if c then k else n)
  same_if true k l n e = refl
  same_if false k l n e = e

  bare_none : (b : List Spot) → front_is controls_next_place b ≡ false → bare_phrases b ≡ 0
  bare_none [] e = refl
  bare_none (x ∷ b) e = rw e refl

  body_some : (c : Controlled) → 1 ≤ body c
  body_some (further g c) = omega arith
  body_some (repeated B l) = omega arith
  body_some (single (simple s e)) = omega arith
  body_some (single (branch l q B o m)) = omega arith
  body_some (find l) = omega arith
  body_some (compute l e m ts) = omega arith

  -- no phrase of a loop reaches past its body
  loop_body_shut : (c : Controlled) (f : Head) (i : ℕ) (b r : List Spot) → At ps i b (flat_loop f c ++ r) →
      phrases_before ps (i + 1 + body c) (i + 1 + body c) ≡ phrases_before ps (i + 1 + body c) i
  loop_body_shut (further g c) f i b r h =
      let e = behind_is ps (further g c) f i b r h in
      let n = i + 1 + (1 + body c) in
      let same : n ≡ i + 1 + 1 + body c = omega arith in
      rw same (loop_body_shut c g (i + 1) (for_at f false ∷ b) r (onward h))
      ∙ shut_phrase ps i n (omega (arith, e))
  loop_body_shut (repeated B l) f i b r h =
      let w = length-append (flat_block B) (loop_at l ∷ []) in
      let n = i + 1 + (length (flat_block B) + 1) in
      let same : i + length (flat_loop f (repeated B l)) ≡ n = omega (arith, w) in
      ap (phrases_before ps n) (sym same) ∙ loop_shut ps (repeated B l) f i b r h n (omega (arith, w))
  loop_body_shut (single o) f i b r h =
      let n = i + 1 + length (flat_one o) in
      let same : i + length (flat_loop f (single o)) ≡ n = omega arith in
      ap (phrases_before ps n) (sym same) ∙ loop_shut ps (single o) f i b r h n (omega arith)
  loop_body_shut (find l) f i b r h =
      let same : i + length (flat_loop f (find l)) ≡ i + 1 + 1 = omega arith in
      ap (phrases_before ps (i + 1 + 1)) (sym same) ∙ loop_shut ps (find l) f i b r h (i + 1 + 1) (omega arith)
  loop_body_shut (compute l x m ts) f i b r h =
      let e = behind_is ps (compute l x m ts) f i b r h in
      shut_one ps (i + 1) (for_at f false ∷ b) (gather_at l x) (tell_at m ts ∷ r) (onward h) refl (i + 1 + 1)
      (omega arith)
      ∙ shut_phrase ps i (i + 1 + 1) (omega (arith, e))

  -- the place to which a false IF goes
  false_goes : (o : Otherwise) (i j m : ℕ) (js : List ℕ) (w : ℕ) (b r : List Spot) → branch_end ps i ≡ j →
      At ps j b (flat_otherwise o ++ always_at w ∷ r) → Open ps j m js → j + length (flat_otherwise o) < m →
      m ≤ length ps →
      Goes ps js (behind_false ps i)
  false_goes no_else i j m js w b r e h op l s =
      goes_at ps js j (behind_false ps i) (false_is i j b (always_at w) r e h)
      (goes_there ps j js (omega (arith, l, s)) (around_is ps j m js op (omega (arith, l))))
  false_goes (else_with v B) i j m js w b r e h op l s =
      let open1 = open_past ps j (j + 1) m js (omega arith) op
      (shut_one ps j b (else_at v) (flat_block B ++ always_at w ∷ r) h refl) in
      goes_at ps js (j + 1) (behind_false ps i) (false_is i j b (else_at v) (flat_block B ++ always_at w ∷ r) e h)
      (goes_there ps (j + 1) js (omega (arith, l, s)) (around_is ps (j + 1) m js open1 (omega (arith, l))))

  -- a phrase is entered
  record Entry (i n : ℕ) (js : List ℕ) (f : Head) (has_do : Bool) : Type 0 where
    step : IsStep ps i (for_at f has_do).place
    opened : Open ps (i + 1) n (i ∷ js)
    around : phrases_around ps (i + 1) ≡ i ∷ js
    back : Goes ps (i ∷ js) i

  enters : (f : Head) (has_do : Bool) (i m n k : ℕ) (js : List ℕ) (b a : List Spot) → At ps i b (for_at f has_do ∷ a) →
      behind_body ps i ≡ n →
      Open ps i m js → i + 1 < n → n ≤ m → n ≤ length ps → k ≡ (if front_is controls_next_place b then i - 1 else n) →
      Goes ps js k →
      Entry i n js f has_do
  enters f has_do i m n k js b a h e op l u v w g =
      let opened = open_into ps i m n b (for_at f has_do) a js h refl e u op in
      let around = around_is ps (i + 1) n (i ∷ js) opened l in
      let here = around_is ps i m js op (omega (arith, l, u)) in
      record {
        step = for_step i k js f has_do here (goes_there ps (i + 1) (i ∷ js) (omega (arith, l, v)) around)
            (behind_loop_is i n b _ h e ∙ sym w) g;
        opened = opened;
        around = around;
        back = goes_back ps i js b (for_at f has_do) a h refl here;
      }

  -- h bare phrases are directly before, js are around, `outer` is outside them; `more` may be open
  record Chain (b : List Spot) (js outer : List ℕ) (more : ℕ) : Type 0 where
    before : ℕ
    count : bare_phrases b ≡ before
    outside : drop before js ≡ outer
    few : before + more ≤ MOST_PHRASES

  chain_none : (b : List Spot) (js : List ℕ) (more : ℕ) → front_is controls_next_place b ≡ false → more ≤ MOST_PHRASES →
      Chain b js js more
  chain_none b js more e l = record { before = 0; count = bare_none b e; outside = refl; few = omega (arith, l) }

  dropped_one : (n : ℕ) (i : ℕ) (js : List ℕ) → drop (n + 1) (i ∷ js) ≡ drop n js
  dropped_one n i js = let e : n + 1 ≡ suc n = omega arith in rw e refl

  chain_more : (i : ℕ) (f : Head) (b : List Spot) (js outer : List ℕ) (more : ℕ) → Chain b js outer (suc more) →
      Chain (for_at f false ∷ b) (i ∷ js) outer more
  chain_more i f b js outer more c = record {
    before = c.before + 1;
    count = let e = c.count in omega (arith, e);
    outside = dropped_one c.before i js ∙ c.outside;
    few = let l = c.few in omega (arith, l);
  }

  -- FIND after its phrases
  finds : (i : ℕ) (b a : List Spot) (js outer : List ℕ) → At ps i b a → Chain b js outer 0 → phrases_around ps i ≡ js →
      Goes ps outer (i + 1) →
      IsStep ps i (Looping Find)
  finds i b a js outer h c e g =
      let n : chain_before ps i ≡ c.before = ap bare_phrases (taken ps i b a h) ∙ c.count in
      find_step i outer (rw (n, e) c.outside) (let l = c.few in omega (arith, l, n)) g

  mutual
    block_steps : (B : Block) (i m : ℕ) (js : List ℕ) (b r : List Spot) → At ps i b (flat_block B ++ r) →
        front_is controls_next_place b ≡ false →
        Open ps i m js → i + length (flat_block B) < m → m ≤ length ps → phrases_block B ≤ MOST_PHRASES →
        AreSteps ps i (flat_block B)
    block_steps no_statements i m js b r h n o l s p = tt
    block_steps (statement t B) i m js b r h n o l s p =
        let here = same_after (append_assoc (flat_statement t) (flat_block B) r) h in
        let w = length-append (flat_statement t) (flat_block B) in
        let j = i + length (flat_statement t) in
        let there = past ps i b (flat_statement t) (flat_block B ++ r) here in
        let shut = statement_shut ps t i b (flat_block B ++ r) here in
        joined ps i (flat_statement t) (flat_block B)
        (statement_steps t i m js b (flat_block B ++ r) here n o (omega (arith, l, w)) s (omega (arith, p)))
        (block_steps B j m js (unwind (flat_statement t) b) r there (statement_ends t b)
        (open_past ps i j m js (omega arith) o shut) (omega (arith, l, w)) s (omega (arith, p)))

    statement_steps : (t : Statement) (i m : ℕ) (js : List ℕ) (b r : List Spot) → At ps i b (flat_statement t ++ r) →
        front_is controls_next_place b ≡ false →
        Open ps i m js → i + length (flat_statement t) < m → m ≤ length ps → phrases_statement t ≤ MOST_PHRASES →
        AreSteps ps i (flat_statement t)
    statement_steps (alone o) i m js b r h n op l s p =
        let z = i + length (flat_one o) in
        let behind = open_past ps i z m js (omega arith) op (one_shut ps o i b r h) in
        one_steps o i m z js b r h op (omega (arith, l)) s
        (goes_there ps z js (omega (arith, l, s)) (around_is ps z m js behind l))
        (not_bare (front_is controls_next_place b) (i - 1) z z n refl) p
    statement_steps (loop f c) i m js b r h n op l s p =
        let z = i + length (flat_loop f c) in
        let fits = body_fits c f in
        let e = behind_is ps c f i b r h in
        let k = i + 1 + body c in
        let shut : phrases_before ps k k ≡ phrases_before ps k i = loop_body_shut c f i b r h in
        let around : phrases_around ps k ≡ js = shut ∙ op k (omega arith) (omega (arith, l, fits)) in
        loop_steps c f i m m k js js b r h (chain_none b js (suc (phrases_controlled c)) n p) op
        (omega (arith, l, fits))
        (λ v x y. op v (omega (arith, x)) y) l s (not_bare (front_is controls_next_place b) (i - 1) k k n refl)
        (goes_there ps k js (omega (arith, l, s, fits)) around)

    one_steps : (o : One) (i m k : ℕ) (js : List ℕ) (b r : List Spot) → At ps i b (flat_one o ++ r) → Open ps i m js →
        i + length (flat_one o) ≤ m → m ≤ length ps → Goes ps js k →
        k ≡ (if front_is controls_next_place b then i - 1 else i + length (flat_one o)) →
        phrases_one o ≤ MOST_PHRASES → AreSteps ps i (flat_one o)
    one_steps (simple x e) i m k js b r h op l s g a p =
        (simple_step i k js x.place e (around_is ps i m js op (omega (arith, l))) (next_is i b (x ∷ r) h ∙ sym a) g, tt)
    one_steps (branch v q B o w) i m k js b r h op l s g a p =
        let xs = flat_block B in
        let ys = flat_otherwise o in
        let first : At ps i b (if_at v q ∷ ((xs ++ ys) ++ always_at w ∷ r)) =
        same_after (ap (λ (zs : List Spot). if_at v q ∷ zs) (append_assoc (xs ++ ys) (always_at w ∷ []) r)) h in
        let here : At ps i b (if_at v q ∷ (xs ++ (ys ++ always_at w ∷ r))) =
        same_after (ap (λ (zs : List Spot). if_at v q ∷ zs) (append_assoc xs ys (always_at w ∷ r))) first in
        let second = onward here in
        let third = past ps (i + 1) (if_at v q ∷ b) xs (ys ++ always_at w ∷ r) second in
        let j = i + 1 + length xs in
        let last = past ps j (unwind xs (if_at v q ∷ b)) ys (always_at w ∷ r) third in
        let z = j + length ys in
        let c = length-append (xs ++ ys) (always_at w ∷ []) in
        let d = length-append xs ys in
        let open1 = open_past ps i (i + 1) m js (omega arith) op
        (shut_one ps i b (if_at v q) (xs ++ (ys ++ always_at w ∷ r)) here refl) in
        let open2 = open_past ps (i + 1) j m js (omega arith) open1
        (block_shut ps B (i + 1) (if_at v q ∷ b) (ys ++ always_at w ∷ r) second) in
        let open3 = open_past ps j z m js (omega arith) open2
        (otherwise_shut ps o j (unwind xs (if_at v q ∷ b)) (always_at w ∷ r) third) in
        let goes1 = goes_there ps (i + 1) js (omega (arith, l, s, c, d))
        (around_is ps (i + 1) m js open1 (omega (arith, l, c, d))) in
        let goes3 = goes_there ps z js (omega (arith, l, s, c, d))
        (around_is ps z m js open3 (omega (arith, l, c, d))) in
        let is_end = branch_end_is B o ps i b (if_at v q) w r here in
        let if_is = start_of_if B o ps i b (if_at v q) w r refl first in
        let same_z : i + 1 + length (xs ++ ys) ≡ z = omega (arith, d) in
        let exit = false_goes o i j m js w (unwind xs (if_at v q ∷ b)) r is_end third open2
        (omega (arith, l, c, d)) s in (
          if_step i (i + 1) (behind_false ps i) js q (around_is ps i m js op (omega (arith, l))) goes1 refl exit,
          joined ps (i + 1) (xs ++ ys) (always_at w ∷ [])
              (joined ps (i + 1) xs ys
              (block_steps B (i + 1) m js (if_at v q ∷ b) (ys ++ always_at w ∷ r) second refl open1
              (omega (arith, l, c, d)) s (omega (arith, p)))
              (otherwise_steps o j m w js (unwind xs (if_at v q ∷ b)) r third open2 (omega (arith, l, c, d)) s
              (omega (arith, p))))
              (moved ps z (i + 1 + length (xs ++ ys)) (always_at w ∷ []) (sym same_z) (
                always_step z k js (around_is ps z m js open3 (omega (arith, l, c, d)))
                    (behind_always_is i z b _ here (ap (if_of ps) (sym same_z) ∙ if_is)
                    ∙ same_if (front_is controls_next_place b) (i - 1) _ _ (omega (arith, c, d)) ∙ sym a) g,
                tt,
              )),
        )

    otherwise_steps : (o : Otherwise) (i m w : ℕ) (js : List ℕ) (b r : List Spot) →
        At ps i b (flat_otherwise o ++ always_at w ∷ r) → Open ps i m js →
        i + length (flat_otherwise o) < m → m ≤ length ps → phrases_otherwise o ≤ MOST_PHRASES →
        AreSteps ps i (flat_otherwise o)
    otherwise_steps no_else i m w js b r h op l s p = tt
    otherwise_steps (else_with v B) i m w js b r h op l s p =
        let second = onward h in
        let open1 = open_past ps i (i + 1) m js (omega arith) op
        (shut_one ps i b (else_at v) (flat_block B ++ always_at w ∷ r) h refl) in
        let z = i + 1 + length (flat_block B) in
        let open2 = open_past ps (i + 1) z m js (omega arith) open1
        (block_shut ps B (i + 1) (else_at v ∷ b) (always_at w ∷ r) second) in
        let goes = goes_there ps z js (omega (arith, l, s)) (around_is ps z m js open2 (omega (arith, l))) in (
          else_step i z js (around_is ps i m js op (omega (arith, l)))
              (branch_end_is B no_else ps i b (else_at v) w r h) goes,
          block_steps B (i + 1) m js (else_at v ∷ b) (always_at w ∷ r) second refl open1 (omega (arith, l)) s p,
        )

    -- a phrase after a chain of others; js are around it, and `outer` is outside the whole chain
    loop_steps : (c : Controlled) (f : Head) (i m m0 k : ℕ) (js outer : List ℕ) (b r : List Spot) →
        At ps i b (flat_loop f c ++ r) →
        Chain b js outer (suc (phrases_controlled c)) →
        Open ps i m js → i + 1 + body c ≤ m → ((n : ℕ) → i + 1 + body c ≤ n → n < m0 → phrases_before ps n i ≡ outer) →
        i + length (flat_loop f c) < m0 → m0 ≤ length ps → k
        ≡ (if front_is controls_next_place b then i - 1 else i + 1 + body c) →
        Goes ps js k →
        AreSteps ps i (flat_loop f c)
    loop_steps (further g c) f i m m0 k js outer b r h ch op l out z s a go =
        let e = behind_is ps (further g c) f i b r h in
        let fits = body_fits (further g c) f in
        let n = i + 1 + (1 + body c) in
        let entry = enters f false i m n k js b (flat_loop g c ++ r) h e op (omega arith) l
        (omega (arith, z, s, fits)) a go in (
          entry.step,
          loop_steps c g (i + 1) n m0 i (i ∷ js) outer (for_at f false ∷ b) r (onward h)
              (chain_more i f b js outer (suc (phrases_controlled c)) ch)
              entry.opened (omega arith)
              (λ v x y. shut_phrase ps i v (omega (arith, e, x)) ∙ out v (omega (arith, x)) y) (omega (arith, z)) s
              (omega arith) entry.back,
        )
    loop_steps (repeated B v) f i m m0 k js outer b r h ch op l out z s a go =
        let e = behind_is ps (repeated B v) f i b r h in
        let fits = body_fits (repeated B v) f in
        let few = ch.few in
        let j = i + 1 + length (flat_block B) in
        let n = i + 1 + (length (flat_block B) + 1) in
        let here : At ps i b (for_at f true ∷ (flat_block B ++ loop_at v ∷ r)) =
        same_after (ap (λ (zs : List Spot). for_at f true ∷ zs) (append_assoc (flat_block B) (loop_at v ∷ []) r)) h in
        let second = onward here in
        let entry = enters f true i m n k js b (flat_block B ++ loop_at v ∷ r) here e op (omega arith) l
        (omega (arith, z, s, fits)) a go in
        let opened =
        open_past ps (i + 1) j n (i ∷ js) (omega arith) entry.opened
        (block_shut ps B (i + 1) (for_at f true ∷ b) (loop_at v ∷ r) second) in (
          entry.step,
          joined ps (i + 1) (flat_block B) (loop_at v ∷ [])
              (block_steps B (i + 1) n (i ∷ js) (for_at f true ∷ b) (loop_at v ∷ r) second refl entry.opened
              (omega arith) (omega (arith, z, s, fits))
              (omega (arith, few))) (
                loop_step j i (i ∷ js) (around_is ps j n (i ∷ js) opened (omega arith))
                    (start_of_do B ps i b (for_at f true) v r refl here) entry.back,
                tt,
              ),
        )
    loop_steps (single o) f i m m0 k js outer b r h ch op l out z s a go =
        let e = behind_is ps (single o) f i b r h in
        let fits = body_fits (single o) f in
        let some = body_some (single o) in
        let few = ch.few in
        let n = i + 1 + length (flat_one o) in
        let entry = enters f false i m n k js b (flat_one o ++ r) h e op (omega (arith, some)) l
        (omega (arith, z, s, fits)) a go in (
          entry.step,
          one_steps o (i + 1) n i (i ∷ js) (for_at f false ∷ b) r (onward h) entry.opened (omega arith)
              (omega (arith, z, s, fits)) entry.back
              (omega arith) (omega (arith, few)),
        )
    loop_steps (find v) f i m m0 k js outer b r h ch op l out z s a go =
        let e = behind_is ps (find v) f i b r h in
        let entry = enters f false i m (i + 1 + 1) k js b (find_at v ∷ r) h e op (omega arith) l
        (omega (arith, z, s)) a go in
        let y = i + 1 + 1 in
        let around : phrases_around ps y ≡ outer =
        loop_body_shut (find v) f i b r h ∙ out y (omega arith) (omega (arith, z)) in (
          entry.step,
          (
            finds (i + 1) (for_at f false ∷ b) (find_at v ∷ r) (i ∷ js) outer (onward h)
                (chain_more i f b js outer 0 ch) entry.around
                (goes_there ps y outer (omega (arith, z, s)) around),
            tt,
          ),
        )
    loop_steps (compute v x w ts) f i m m0 k js outer b r h ch op l out z s a go =
        let e = behind_is ps (compute v x w ts) f i b r h in
        let second = onward h in
        let third = onward second in
        let entry = enters f false i m (i + 1 + 1) k js b (gather_at v x ∷ tell_at w ts ∷ r) h e op (omega arith) l
        (omega (arith, z, s)) a go in
        let n = i + 1 + 1 in
        let y = n + 1 in
        let around : phrases_around ps n ≡ outer =
        loop_body_shut (compute v x w ts) f i b r h ∙ out n (omega arith) (omega (arith, z)) in
        let same_y : i + length (flat_loop f (compute v x w ts)) ≡ y = omega arith in
        let behind : phrases_around ps y ≡ outer =
        ap (phrases_before ps y) (sym same_y) ∙ loop_shut ps (compute v x w ts) f i b r h y (omega arith)
        ∙ out y (omega arith) (omega (arith, z)) in
        let next_gather : next_place ps (i + 1) ≡ i =
        next_is (i + 1) (for_at f false ∷ b) (gather_at v x ∷ tell_at w ts ∷ r) second ∙ omega arith in
        let next_tell : next_place ps n ≡ y =
        next_is n (gather_at v x ∷ for_at f false ∷ b) (tell_at w ts ∷ r) third in (
          entry.step,
          (
            gather_step (i + 1) i (i ∷ js) x entry.around next_gather entry.back,
            (tell_step n y outer ts around next_tell (goes_there ps y outer (omega (arith, z, s)) behind), tt),
          ),
        )

-- ---- a section

-- the places of a tree and the END after them
pub section_steps : (B : Block) (l : ℕ) → phrases_block B ≤ MOST_PHRASES →
    AreSteps (flat_block B ++ record { line = l; place = Control End } ∷ []) 0
    (flat_block B ++ record { line = l; place = Control End } ∷ [])
section_steps B l p =
    let e : Spot = record { line = l; place = Control End } in
    let ps = flat_block B ++ e ∷ [] in
    let n = length-append (flat_block B) (e ∷ []) in
    joined ps 0 (flat_block B) (e ∷ [])
    (block_steps ps B 0 (length ps) [] [] (e ∷ []) (record { list = refl; index = refl }) refl (λ n u v. refl)
    (omega (arith, n)) (omega arith) p)
    (record { next = tt; exits = tt; nested = refl }, tt)
