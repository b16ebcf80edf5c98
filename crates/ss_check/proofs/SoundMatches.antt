-- Counting finds the places that belong together.
use Rattle.std.proofs.Common.{◌≡◌, ℕ, ◌+◌, ◌-◌, Bool, true, false, List, [], ◌∷◌, ◌++◌, length, refl, ap, ◌∙◌, arith}
use Rattle.std.proofs.Common.{append_assoc, length-append}
use Rattle.std.specs.Prelude.{if◌then◌else◌}
use Rattle.ss_program.specs.declared.place.Place.{Place}
use Rattle.ss_program.specs.declared.place.Spot.{Spot}
use Rattle.ss_program.specs.Match.{distance, later, earlier, is_if, is_always, is_branch_end, is_do, is_loop}
use Rattle.ss_program.specs.Match.{controls_next_place, is_at, bare_phrases, branch_end, if_of, phrase_of}
use Rattle.ss_program.specs.Match.{controlled_place, last_place, behind_body}
use Rattle.ss_check.proofs.SoundShapes.{if_at, else_at, always_at, Head, for_at, loop_at, find_at, gather_at, Block}
use Rattle.ss_check.proofs.SoundShapes.{One, simple, branch, Otherwise, no_else, else_with, Controlled, further}
use Rattle.ss_check.proofs.SoundShapes.{repeated, single, find, compute, flat_block, flat_one, flat_otherwise}
use Rattle.ss_check.proofs.SoundShapes.{flat_loop}
use Rattle.ss_check.proofs.SoundZipper.{unwind, At, dropped, taken, onward, past, same_after, is_here}
use Rattle.ss_check.proofs.SoundCounting.{Passes, PassesBack, stops, joins, joins_back, block_passes, otherwise_passes}
use Rattle.ss_check.proofs.SoundCounting.{to_end, to_always, to_loop, to_if, to_do, quiet_if, quiet_do, quiet_bare}

-- the wanted place after those that are passed over
found : (w u n : Place → Bool) (xs : List Spot) (ps : List Spot) (i : ℕ) (b : List Spot) (x y : Spot) (r : List Spot) →
    At ps i b (x ∷ (xs ++ y ∷ r)) → Passes w u n 0 xs → w y.place ≡ true → later ps w u n i ≡ i + 1 + length xs
found w u n xs ps i b x y r h m e =
    ap (λ (zs : List Spot). i + 1 + distance w u n 0 zs) (dropped ps (i + 1) (x ∷ b) (xs ++ y ∷ r) (onward h))
    ∙ (let a = m 0 (y ∷ r) (omega arith) in let c = stops w u n y r e in omega (arith, a, c))

-- the wanted place before those that are passed over
found_back : (w u n : Place → Bool) (xs : List Spot) (ps : List Spot) (i : ℕ) (b : List Spot) (x y : Spot)
    (r : List Spot) →
    At ps i b (x ∷ (xs ++ y ∷ r)) → PassesBack w u n 0 xs → w x.place ≡ true → earlier ps w u n (i + 1 + length xs) ≡ i
found_back w u n xs ps i b x y r h m e =
    ap (λ (zs : List Spot). i + 1 + length xs - 1 - distance w u n 0 zs)
    (taken ps (i + 1 + length xs) (unwind xs (x ∷ b)) (y ∷ r) (past ps (i + 1) (x ∷ b) xs (y ∷ r) (onward h)))
    ∙ (let a = m 0 (x ∷ b) (omega arith) in let c = stops w u n x b e in omega (arith, a, c))

-- the ELSE or ALWAYS after the statements of an IF or ELSE
end_of_branch : (B : Block) (ps : List Spot) (i : ℕ) (b : List Spot) (x y : Spot) (r : List Spot) →
    At ps i b (x ∷ (flat_block B ++ y ∷ r)) → is_branch_end y.place ≡ true →
    branch_end ps i ≡ i + 1 + length (flat_block B)
end_of_branch B ps i b x y r h e =
    found is_branch_end is_if is_always (flat_block B) ps i b x y r h
    (block_passes (Passes is_branch_end is_if is_always) (joins is_branch_end is_if is_always) to_end B) e

-- the end of a branch if an ELSE may be there, up to the ALWAYS
pub branch_end_is : (B : Block) (o : Otherwise) (ps : List Spot) (i : ℕ) (b : List Spot) (x : Spot) (m : ℕ)
    (r : List Spot) →
    At ps i b (x ∷ (flat_block B ++ (flat_otherwise o ++ always_at m ∷ r))) →
    branch_end ps i ≡ i + 1 + length (flat_block B)
branch_end_is B no_else ps i b x m r h = end_of_branch B ps i b x (always_at m) r h refl
branch_end_is B (else_with l C) ps i b x m r h =
    end_of_branch B ps i b x (else_at l) (flat_block C ++ always_at m ∷ r) h refl

-- the ALWAYS of an IF with perhaps an ELSE
end_of_if : (B : Block) (o : Otherwise) (ps : List Spot) (i : ℕ) (b : List Spot) (x : Spot) (m : ℕ) (r : List Spot) →
    At ps i b (x ∷ ((flat_block B ++ flat_otherwise o) ++ always_at m ∷ r)) →
    later ps is_always is_if is_always i ≡ i + 1 + length (flat_block B ++ flat_otherwise o)
end_of_if B o ps i b x m r h =
    let j = joins is_always is_if is_always in
    found is_always is_if is_always (flat_block B ++ flat_otherwise o) ps i b x (always_at m) r h
    (j.both 0 (flat_block B) (flat_otherwise o) (block_passes (Passes is_always is_if is_always) j to_always B)
    (otherwise_passes (Passes is_always is_if is_always) j to_always o)) refl

-- the LOOP of a DO phrase
end_of_do : (B : Block) (ps : List Spot) (i : ℕ) (b : List Spot) (x : Spot) (m : ℕ) (r : List Spot) →
    At ps i b (x ∷ (flat_block B ++ loop_at m ∷ r)) → later ps is_loop is_do is_loop i ≡ i + 1 + length (flat_block B)
end_of_do B ps i b x m r h =
    found is_loop is_do is_loop (flat_block B) ps i b x (loop_at m) r h
    (block_passes (Passes is_loop is_do is_loop) (joins is_loop is_do is_loop) to_loop B) refl

-- the IF of an ALWAYS
pub start_of_if : (B : Block) (o : Otherwise) (ps : List Spot) (i : ℕ) (b : List Spot) (x : Spot) (m : ℕ)
    (r : List Spot) →
    is_if x.place ≡ true →
    At ps i b (x ∷ ((flat_block B ++ flat_otherwise o) ++ always_at m ∷ r)) →
    if_of ps (i + 1 + length (flat_block B ++ flat_otherwise o)) ≡ i
start_of_if B o ps i b x m r e h =
    let j = joins_back is_if is_always is_if in
    found_back is_if is_always is_if (flat_block B ++ flat_otherwise o) ps i b x (always_at m) r h
    (j.both 0 (flat_block B) (flat_otherwise o) (block_passes (PassesBack is_if is_always is_if) j to_if B)
    (otherwise_passes (PassesBack is_if is_always is_if) j to_if o)) e

-- the DO phrase of a LOOP
pub start_of_do : (B : Block) (ps : List Spot) (i : ℕ) (b : List Spot) (x : Spot) (m : ℕ) (r : List Spot) →
    is_do x.place ≡ true →
    At ps i b (x ∷ (flat_block B ++ loop_at m ∷ r)) → phrase_of ps (i + 1 + length (flat_block B)) ≡ i
start_of_do B ps i b x m r e h =
    found_back is_do is_loop is_do (flat_block B) ps i b x (loop_at m) r h
    (block_passes (PassesBack is_do is_loop is_do) (joins_back is_do is_loop is_do) to_do B) e

-- ---- how far the body of a phrase reaches

-- the places of a body after its phrase; the contents of COMPUTE are none of it
abbrev pub body : Controlled → ℕ
body (further g c) = 1 + body c
body (repeated b l) = length (flat_block b) + 1
body (single o) = length (flat_one o)
body (find l) = 1
body (compute l e m ts) = 1

chosen : (x y : Bool) (k l n : ℕ) → x ≡ true → (if x then k else (if y then l else n)) ≡ k
chosen true y k l n e = refl
chosen false y k l n e = cc

chosen_second : (x y : Bool) (k l n : ℕ) → x ≡ false → y ≡ true → (if x then k else (if y then l else n)) ≡ l
chosen_second true y k l n e f = cc
chosen_second false true k l n e f = refl
chosen_second false false k l n e f = cc

chosen_third : (x y : Bool) (k l n : ℕ) → x ≡ false → y ≡ false → (if x then k else (if y then l else n)) ≡ n
chosen_third true y k l n e f = cc
chosen_third false true k l n e f = cc
chosen_third false false k l n e f = refl

module _ (ps : List Spot) where
  -- the end of a phrase that controls the statement that begins at i
  last_if : (i : ℕ) (b : List Spot) (x : Spot) (a : List Spot) → At ps i b (x ∷ a) → is_if x.place ≡ true →
      last_place ps i ≡ later ps is_always is_if is_always i
  last_if i b x a h e = chosen (is_at ps is_if i) (is_at ps is_do i) _ _ i (is_here is_if ps i b x a h ∙ e)

  last_do : (i : ℕ) (b : List Spot) (x : Spot) (a : List Spot) → At ps i b (x ∷ a) → is_if x.place ≡ false →
      is_do x.place ≡ true →
      last_place ps i ≡ later ps is_loop is_do is_loop i
  last_do i b x a h e f =
      chosen_second (is_at ps is_if i) (is_at ps is_do i) _ _ i (is_here is_if ps i b x a h ∙ e)
      (is_here is_do ps i b x a h ∙ f)

  last_self : (i : ℕ) (b : List Spot) (x : Spot) (a : List Spot) → At ps i b (x ∷ a) → is_if x.place ≡ false →
      is_do x.place ≡ false →
      last_place ps i ≡ i
  last_self i b x a h e f =
      chosen_third (is_at ps is_if i) (is_at ps is_do i) _ _ i (is_here is_if ps i b x a h ∙ e)
      (is_here is_do ps i b x a h ∙ f)

  -- the place that the phrase at i controls is controlled by the phrase after it, or is directly
  -- there
  bare_on : (x : Spot) (a : List Spot) → controls_next_place x.place ≡ false → bare_phrases (x ∷ a) ≡ 0
  bare_on x a e = rw e refl

  behind_one : (i : ℕ) (b : List Spot) (f : Head) (x : Spot) (a : List Spot) → At ps i b (for_at f false ∷ x ∷ a) →
      controls_next_place x.place ≡ false → controlled_place ps i ≡ i + 1
  behind_one i b f x a h e =
      ap (λ (zs : List Spot). i + bare_phrases zs) (dropped ps i b (for_at f false ∷ x ∷ a) h)
      ∙ (let z = bare_on x a e in omega (arith, z))

  behind_bare : (i : ℕ) (b : List Spot) (f : Head) (a : List Spot) → At ps i b (for_at f false ∷ a) →
      controlled_place ps i ≡ controlled_place ps (i + 1)
  behind_bare i b f a h =
      let e = ap bare_phrases (dropped ps i b (for_at f false ∷ a) h) in
      let g = ap bare_phrases (dropped ps (i + 1) (for_at f false ∷ b) a (onward h)) in
      omega (arith, e, g)

  one_is_not_bare : (o : One) (i : ℕ) (b : List Spot) (f : Head) (r : List Spot) →
      At ps i b (for_at f false ∷ (flat_one o ++ r)) →
      controlled_place ps i ≡ i + 1
  one_is_not_bare (simple s e) i b f r h = behind_one i b f s r h (quiet_bare s.place e)
  one_is_not_bare (branch l q B o m) i b f r h = behind_one i b f (if_at l q) _ h refl

  -- the last place of a statement that is no loop
  last_of_one : (o : One) (i : ℕ) (b r : List Spot) → At ps i b (flat_one o ++ r) →
      last_place ps i + 1 ≡ i + length (flat_one o)
  last_of_one (simple s e) i b r h =
      let k = last_self i b s r h (quiet_if s.place e) (quiet_do s.place e) in omega (arith, k)
  last_of_one (branch l q B o m) i b r h =
      let split = append_assoc (flat_block B ++ flat_otherwise o) (always_at m ∷ []) r in
      let here = same_after (ap (λ (zs : List Spot). if_at l q ∷ zs) split) h in
      let k = last_if i b (if_at l q) _ here refl in
      let e = end_of_if B o ps i b (if_at l q) m r here in
      let n = length-append (flat_block B ++ flat_otherwise o) (always_at m ∷ []) in
      omega (arith, k, e, n)

  pub behind_is : (c : Controlled) (f : Head) (i : ℕ) (b r : List Spot) → At ps i b (flat_loop f c ++ r) →
      behind_body ps i ≡ i + 1 + body c
  behind_is (further g c) f i b r h =
      let e = ap (last_place ps) (behind_bare i b f (flat_loop g c ++ r) h) in
      let k = behind_is c g (i + 1) (for_at f false ∷ b) r (onward h) in
      omega (arith, e, k)
  behind_is (repeated B l) f i b r h =
      let here = same_after
      (ap (λ (zs : List Spot). for_at f true ∷ zs) (append_assoc (flat_block B) (loop_at l ∷ []) r)) h in
      let e = ap bare_phrases (dropped ps i b _ here) in
      let g : controlled_place ps i ≡ i = omega (arith, e) in
      let k = ap (last_place ps) g in
      let d = last_do i b (for_at f true) _ here refl refl in
      let n = end_of_do B ps i b (for_at f true) l r here in
      omega (arith, k, d, n)
  behind_is (single o) f i b r h =
      let e = ap (last_place ps) (one_is_not_bare o i b f r h) in
      let k = last_of_one o (i + 1) (for_at f false ∷ b) r (onward h) in
      omega (arith, e, k)
  behind_is (find l) f i b r h =
      let e = ap (last_place ps) (behind_one i b f (find_at l) r h refl) in
      let k = last_self (i + 1) (for_at f false ∷ b) (find_at l) r (onward h) refl refl in
      omega (arith, e, k)
  behind_is (compute l x m ts) f i b r h =
      let e = ap (last_place ps) (behind_one i b f (gather_at l x) _ h refl) in
      let k = last_self (i + 1) (for_at f false ∷ b) (gather_at l x) _ (onward h) refl refl in
      omega (arith, e, k)
