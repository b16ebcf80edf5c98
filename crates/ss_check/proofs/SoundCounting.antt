-- Counting over the places of a tree passes over whole statements, forwards and backwards.
use Rattle.std.proofs.Common.{◌≡◌, ◌≤◌, ℕ, ◌+◌, ◌-◌, ◌==◌, ◌&&◌, Bool, true, false, List, [], ◌∷◌, ◌++◌, length, refl}
use Rattle.std.proofs.Common.{ap, ◌∙◌, arith, append_assoc, length-append}
use Rattle.std.specs.Prelude.{if◌then◌else◌}
use Rattle.std.proofs.lemmas.Bool.{ne_eqb}
use Rattle.ss_program.specs.declared.branch.Question.{Question}
use Rattle.ss_program.specs.declared.branch.Branch.TheVariants.{Else}
use Rattle.ss_program.specs.declared.looping.Telling.{Telling}
use Rattle.ss_program.specs.declared.place.Place.{Place}
use Rattle.ss_program.specs.declared.place.Place.TheVariants.{Branch, Looping}
use Rattle.ss_program.specs.declared.place.Spot.{Spot}
use Rattle.ss_program.specs.ProgramExpr.{Expr}
use Rattle.ss_program.specs.Match.{distance, is_if, is_else, is_always, is_branch_end, is_do, is_loop}
use Rattle.ss_program.specs.Match.{controls_next_place}
use Rattle.ss_program.specs.Nesting.{is_phrase}
use Rattle.ss_check.proofs.SoundShapes.{is_simple, if_at, else_at, always_at, Head, for_at, loop_at, find_at, gather_at}
use Rattle.ss_check.proofs.SoundShapes.{tell_at, Block, no_statements, statement, Statement, alone, loop, One, simple}
use Rattle.ss_check.proofs.SoundShapes.{branch, Otherwise, no_else, else_with, Controlled, further, repeated, single}
use Rattle.ss_check.proofs.SoundShapes.{find, compute, flat_block, flat_statement, flat_one, flat_otherwise, flat_loop}
use Rattle.ss_check.proofs.SoundZipper.{unwind, unwind_both}

-- ---- laws of lists of places, from a depth up

module _ (P : ℕ → List Spot → Type 0) where
  pub record Joins : Type 0 where
    pub none : (k : ℕ) → P k []
    pub both : (k : ℕ) (xs ys : List Spot) → P k xs → P k ys → P k (xs ++ ys)
    pub deeper : (k : ℕ) (xs : List Spot) → P 0 xs → P k xs

  -- laws of single places; statements inside an IF are passed over from depth `inside` up
  pub record Counts : Type 0 where
    pub inside : ℕ
    pub plain : (s : Spot) → is_simple s.place ≡ true → P 0 (s ∷ [])
    pub bare : (f : Head) → P 0 (for_at f false ∷ [])
    pub finds : (l : ℕ) → P 0 (find_at l ∷ [])
    pub gathers : (l : ℕ) (e : Expr) → P 0 (gather_at l e ∷ [])
    pub tells : (l : ℕ) (ts : List Telling) → P 0 (tell_at l ts ∷ [])
    pub other : (l : ℕ) → P inside (else_at l ∷ [])
    pub branches : (l m : ℕ) (q : Question) (xs : List Spot) → P inside xs → P 0 (if_at l q ∷ (xs ++ always_at m ∷ []))
    pub loops : (m : ℕ) (f : Head) (xs : List Spot) → P 0 xs → P 0 (for_at f true ∷ (xs ++ loop_at m ∷ []))

  module _ (j : Joins) where
    pub around : (x y : Spot) (xs : List Spot) → P 0 (x ∷ []) → P 0 (y ∷ []) → P 0 xs → P 0 (x ∷ (xs ++ y ∷ []))
    around x y xs a b m = j.both 0 (x ∷ []) (xs ++ y ∷ []) a (j.both 0 xs (y ∷ []) m b)

    module _ (c : Counts) where
      mutual
        pub block_passes : (b : Block) → P 0 (flat_block b)
        block_passes no_statements = j.none 0
        block_passes (statement t b) = j.both 0 (flat_statement t) (flat_block b) (statement_passes t) (block_passes b)

        pub statement_passes : (t : Statement) → P 0 (flat_statement t)
        statement_passes (alone o) = one_passes o
        statement_passes (loop f x) = loop_passes f x

        pub one_passes : (o : One) → P 0 (flat_one o)
        one_passes (simple s h) = c.plain s h
        one_passes (branch l q b e m) =
            c.branches l m q (flat_block b ++ flat_otherwise e)
            (j.both c.inside (flat_block b) (flat_otherwise e) (j.deeper c.inside (flat_block b) (block_passes b))
            (otherwise_passes e))

        pub otherwise_passes : (e : Otherwise) → P c.inside (flat_otherwise e)
        otherwise_passes no_else = j.none c.inside
        otherwise_passes (else_with l b) =
            j.both c.inside (else_at l ∷ []) (flat_block b) (c.other l)
            (j.deeper c.inside (flat_block b) (block_passes b))

        pub loop_passes : (f : Head) (x : Controlled) → P 0 (flat_loop f x)
        loop_passes f (further h x) = j.both 0 (for_at f false ∷ []) (flat_loop h x) (c.bare f) (loop_passes h x)
        loop_passes f (repeated b l) = c.loops l f (flat_block b) (block_passes b)
        loop_passes f (single o) = j.both 0 (for_at f false ∷ []) (flat_one o) (c.bare f) (one_passes o)
        loop_passes f (find l) = j.both 0 (for_at f false ∷ []) (find_at l ∷ []) (c.bare f) (c.finds l)
        loop_passes f (compute l e m ts) =
            j.both 0 (for_at f false ∷ []) (gather_at l e ∷ tell_at m ts ∷ []) (c.bare f)
            (j.both 0 (gather_at l e ∷ []) (tell_at m ts ∷ []) (c.gathers l e) (c.tells m ts))

-- ---- counting forwards and backwards

not_none : (d : ℕ) → 1 ≤ d → (d == 0) ≡ false
not_none d b = ne_eqb d 0 (λ e. omega (arith, e, b))

back : (d : ℕ) → d + 1 - 1 ≡ d
back d = omega arith

module _ (w u n : Place → Bool) where
  -- how far it is, from a depth
  abbrev pub far : ℕ → List Spot → ℕ
  far d xs = distance w u n d xs

  -- from depth k up, places are passed over
  abbrev pub Passes : ℕ → List Spot → Type 0
  Passes k xs = (d : ℕ) (r : List Spot) → k ≤ d → far d (xs ++ r) ≡ length xs + far d r

  over : (d : ℕ) (b c : Bool) (x : Spot) (xs : List Spot) → (w x.place && d == 0) ≡ false → u x.place ≡ b →
      n x.place ≡ c →
      far d (x ∷ xs) ≡ 1 + far (if b then d + 1 else (if c then d - 1 else d)) xs
  over d b c x xs e h i = rw e (rw h (rw i refl))

  -- one that neither opens nor closes, and is not wanted from depth k up
  pub passed : (k : ℕ) (x : Spot) → ((d : ℕ) → k ≤ d → (w x.place && d == 0) ≡ false) → u x.place ≡ false →
      n x.place ≡ false →
      Passes k (x ∷ [])
  passed k x e h i d r b = over d false false x r (e d b) h i

  -- one that is wanted, at no depth
  pub stops : (x : Spot) (xs : List Spot) → w x.place ≡ true → far 0 (x ∷ xs) ≡ 0
  stops x xs e = rw e refl

  both : (k : ℕ) (xs ys : List Spot) → Passes k xs → Passes k ys → Passes k (xs ++ ys)
  both k xs ys e h d r b =
      ap (far d) (append_assoc xs ys r)
      ∙ (let a = e d (ys ++ r) b in let c = h d r b in let l = length-append xs ys in omega (arith, a, c, l))

  -- at no depth but 0 is anything wanted
  shut : (d : ℕ) (x : Place) → 1 ≤ d → (w x && d == 0) ≡ false
  shut d x b = rw (not_none d b) (never (w x))
    where
      never : (c : Bool) → (c && false) ≡ false
      never true = refl
      never false = refl

  -- an opening place, the places that pass above it, and a closing place
  pub closed : (x y : Spot) (xs : List Spot) → w x.place ≡ false → u x.place ≡ true → n x.place ≡ false →
      u y.place ≡ false → n y.place ≡ true → Passes 1 xs → Passes 0 (x ∷ (xs ++ y ∷ []))
  closed x y xs e h i j k m d r b =
      ap (λ (zs : List Spot). far d (x ∷ zs)) (append_assoc xs (y ∷ []) r)
      ∙ over d true false x (xs ++ y ∷ r) (rw e refl) h i
      ∙ (let a = m (d + 1) (y ∷ r) (omega arith) in
      let c = over (d + 1) false true y r (shut (d + 1) y.place (omega arith)) j k in
      let f = ap (λ (z : ℕ). far z r) (back d) in let l = length-append xs (y ∷ []) in omega (arith, a, c, f, l))

  pub joins : Joins Passes
  joins = record { none = λ k d r b. omega arith; both = both; deeper = λ k xs e d r b. e d r (omega arith) }

  -- ---- the same backwards

  abbrev pub PassesBack : ℕ → List Spot → Type 0
  PassesBack k xs = (d : ℕ) (r : List Spot) → k ≤ d → far d (unwind xs r) ≡ length xs + far d r

  both_back : (k : ℕ) (xs ys : List Spot) → PassesBack k xs → PassesBack k ys → PassesBack k (xs ++ ys)
  both_back k xs ys e h d r b =
      ap (far d) (unwind_both xs ys r)
      ∙ (let a = h d (unwind xs r) b in let c = e d r b in let l = length-append xs ys in omega (arith, a, c, l))

  pub passed_back : (k : ℕ) (x : Spot) → ((d : ℕ) → k ≤ d → (w x.place && d == 0) ≡ false) → u x.place ≡ false →
      n x.place ≡ false →
      PassesBack k (x ∷ [])
  passed_back k x e h i d r b = over d false false x r (e d b) h i

  pub closed_back : (x y : Spot) (xs : List Spot) → w y.place ≡ false → u y.place ≡ true → n y.place ≡ false →
      u x.place ≡ false → n x.place ≡ true → PassesBack 1 xs → PassesBack 0 (x ∷ (xs ++ y ∷ []))
  closed_back x y xs e h i j k m d r b =
      ap (far d) (unwind_both xs (y ∷ []) (x ∷ r))
      ∙ over d true false y (unwind xs (x ∷ r)) (rw e refl) h i
      ∙ (let a = m (d + 1) (x ∷ r) (omega arith) in
      let c = over (d + 1) false true x r (shut (d + 1) x.place (omega arith)) j k in
      let f = ap (λ (z : ℕ). far z r) (back d) in let l = length-append xs (y ∷ []) in omega (arith, a, c, f, l))

  pub joins_back : Joins PassesBack
  joins_back = record { none = λ k d r b. omega arith; both = both_back; deeper = λ k xs e d r b. e d r (omega arith) }

-- ---- simple places

-- a test that no simple place passes
abbrev pub IsQuiet : (Place → Bool) → Type 0
IsQuiet test = (x : Place) → is_simple x ≡ true → test x ≡ false

pub quiet_if : IsQuiet is_if
quiet_if (Branch b) h = cc
quiet_if (Looping l) h = cc
quiet_if x h = refl

pub quiet_else : IsQuiet is_else
quiet_else (Branch b) h = cc
quiet_else (Looping l) h = cc
quiet_else x h = refl

pub quiet_always : IsQuiet is_always
quiet_always (Branch b) h = cc
quiet_always (Looping l) h = cc
quiet_always x h = refl

pub quiet_branch_end : IsQuiet is_branch_end
quiet_branch_end (Branch b) h = cc
quiet_branch_end (Looping l) h = cc
quiet_branch_end x h = refl

pub quiet_do : IsQuiet is_do
quiet_do (Branch b) h = cc
quiet_do (Looping l) h = cc
quiet_do x h = refl

pub quiet_loop : IsQuiet is_loop
quiet_loop (Branch b) h = cc
quiet_loop (Looping l) h = cc
quiet_loop x h = refl

pub quiet_bare : IsQuiet controls_next_place
quiet_bare (Branch b) h = cc
quiet_bare (Looping l) h = cc
quiet_bare x h = refl

pub quiet_phrase : IsQuiet is_phrase
quiet_phrase (Branch b) h = cc
quiet_phrase (Looping l) h = cc
quiet_phrase x h = refl

-- ---- the five counts

module _ (w u n : Place → Bool) (qw : IsQuiet w) (qu : IsQuiet u) (qn : IsQuiet n) where
  -- a simple place is passed over
  pub plain : (s : Spot) → is_simple s.place ≡ true → Passes w u n 0 (s ∷ [])
  plain s h = passed w u n 0 s (λ d z. rw (qw s.place h) refl) (qu s.place h) (qn s.place h)

  pub plain_back : (s : Spot) → is_simple s.place ≡ true → PassesBack w u n 0 (s ∷ [])
  plain_back s h = passed_back w u n 0 s (λ d z. rw (qw s.place h) refl) (qu s.place h) (qn s.place h)

-- from an IF or ELSE to its ELSE or ALWAYS
pub to_end : Counts (Passes is_branch_end is_if is_always)
to_end = record {
  inside = 1;
  plain = plain is_branch_end is_if is_always quiet_branch_end quiet_if quiet_always;
  bare = λ f. passed is_branch_end is_if is_always 0 (for_at f false) (λ d z. refl) refl refl;
  finds = λ l. passed is_branch_end is_if is_always 0 (find_at l) (λ d z. refl) refl refl;
  gathers = λ l e. passed is_branch_end is_if is_always 0 (gather_at l e) (λ d z. refl) refl refl;
  tells = λ l ts. passed is_branch_end is_if is_always 0 (tell_at l ts) (λ d z. refl) refl refl;
  other = λ l. passed is_branch_end is_if is_always 1 (else_at l)
      (λ d z. shut is_branch_end is_if is_always d (Branch Else) z) refl refl;
  branches = λ l m q xs h. closed is_branch_end is_if is_always (if_at l q) (always_at m) xs refl refl refl refl refl h;
  loops = λ m f xs h. around (Passes is_branch_end is_if is_always) (joins is_branch_end is_if is_always)
      (for_at f true) (loop_at m) xs
      (passed is_branch_end is_if is_always 0 (for_at f true) (λ d z. refl) refl refl)
      (passed is_branch_end is_if is_always 0 (loop_at m) (λ d z. refl) refl refl) h;
}

-- from an IF to its ALWAYS
abbrev pub to_always : Counts (Passes is_always is_if is_always)
to_always = record {
  inside = 0;
  plain = plain is_always is_if is_always quiet_always quiet_if quiet_always;
  bare = λ f. passed is_always is_if is_always 0 (for_at f false) (λ d z. refl) refl refl;
  finds = λ l. passed is_always is_if is_always 0 (find_at l) (λ d z. refl) refl refl;
  gathers = λ l e. passed is_always is_if is_always 0 (gather_at l e) (λ d z. refl) refl refl;
  tells = λ l ts. passed is_always is_if is_always 0 (tell_at l ts) (λ d z. refl) refl refl;
  other = λ l. passed is_always is_if is_always 0 (else_at l) (λ d z. refl) refl refl;
  branches = λ l m q xs h. closed is_always is_if is_always (if_at l q) (always_at m) xs refl refl refl refl refl
      (λ d r z. h d r (omega arith));
  loops = λ m f xs h. around (Passes is_always is_if is_always) (joins is_always is_if is_always) (for_at f true)
      (loop_at m) xs
      (passed is_always is_if is_always 0 (for_at f true) (λ d z. refl) refl refl)
      (passed is_always is_if is_always 0 (loop_at m) (λ d z. refl) refl refl) h;
}

-- from a DO phrase to its LOOP
pub to_loop : Counts (Passes is_loop is_do is_loop)
to_loop = record {
  inside = 0;
  plain = plain is_loop is_do is_loop quiet_loop quiet_do quiet_loop;
  bare = λ f. passed is_loop is_do is_loop 0 (for_at f false) (λ d z. refl) refl refl;
  finds = λ l. passed is_loop is_do is_loop 0 (find_at l) (λ d z. refl) refl refl;
  gathers = λ l e. passed is_loop is_do is_loop 0 (gather_at l e) (λ d z. refl) refl refl;
  tells = λ l ts. passed is_loop is_do is_loop 0 (tell_at l ts) (λ d z. refl) refl refl;
  other = λ l. passed is_loop is_do is_loop 0 (else_at l) (λ d z. refl) refl refl;
  branches = λ l m q xs h. around (Passes is_loop is_do is_loop) (joins is_loop is_do is_loop) (if_at l q)
      (always_at m) xs
      (passed is_loop is_do is_loop 0 (if_at l q) (λ d z. refl) refl refl)
      (passed is_loop is_do is_loop 0 (always_at m) (λ d z. refl) refl refl) h;
  loops = λ m f xs h. closed is_loop is_do is_loop (for_at f true) (loop_at m) xs refl refl refl refl refl
      (λ d r z. h d r (omega arith));
}

-- from an ALWAYS back to its IF
abbrev pub to_if : Counts (PassesBack is_if is_always is_if)
to_if = record {
  inside = 0;
  plain = plain_back is_if is_always is_if quiet_if quiet_always quiet_if;
  bare = λ f. passed_back is_if is_always is_if 0 (for_at f false) (λ d z. refl) refl refl;
  finds = λ l. passed_back is_if is_always is_if 0 (find_at l) (λ d z. refl) refl refl;
  gathers = λ l e. passed_back is_if is_always is_if 0 (gather_at l e) (λ d z. refl) refl refl;
  tells = λ l ts. passed_back is_if is_always is_if 0 (tell_at l ts) (λ d z. refl) refl refl;
  other = λ l. passed_back is_if is_always is_if 0 (else_at l) (λ d z. refl) refl refl;
  branches = λ l m q xs h. closed_back is_if is_always is_if (if_at l q) (always_at m) xs refl refl refl refl refl
      (λ d r z. h d r (omega arith));
  loops = λ m f xs h. around (PassesBack is_if is_always is_if) (joins_back is_if is_always is_if) (for_at f true)
      (loop_at m) xs
      (passed_back is_if is_always is_if 0 (for_at f true) (λ d z. refl) refl refl)
      (passed_back is_if is_always is_if 0 (loop_at m) (λ d z. refl) refl refl) h;
}

-- from a LOOP back to its DO phrase
pub to_do : Counts (PassesBack is_do is_loop is_do)
to_do = record {
  inside = 0;
  plain = plain_back is_do is_loop is_do quiet_do quiet_loop quiet_do;
  bare = λ f. passed_back is_do is_loop is_do 0 (for_at f false) (λ d z. refl) refl refl;
  finds = λ l. passed_back is_do is_loop is_do 0 (find_at l) (λ d z. refl) refl refl;
  gathers = λ l e. passed_back is_do is_loop is_do 0 (gather_at l e) (λ d z. refl) refl refl;
  tells = λ l ts. passed_back is_do is_loop is_do 0 (tell_at l ts) (λ d z. refl) refl refl;
  other = λ l. passed_back is_do is_loop is_do 0 (else_at l) (λ d z. refl) refl refl;
  branches = λ l m q xs h. around (PassesBack is_do is_loop is_do) (joins_back is_do is_loop is_do) (if_at l q)
      (always_at m) xs
      (passed_back is_do is_loop is_do 0 (if_at l q) (λ d z. refl) refl refl)
      (passed_back is_do is_loop is_do 0 (always_at m) (λ d z. refl) refl refl) h;
  loops = λ m f xs h. closed_back is_do is_loop is_do (for_at f true) (loop_at m) xs refl refl refl refl refl
      (λ d r z. h d r (omega arith));
}
