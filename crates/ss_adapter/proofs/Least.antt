-- The nearest of some reaches is no further than any of them, and is one of them.
use Rattle.std.proofs.Common.{◌≡◌, ℕ, zero, suc, ◌+◌, ◌≤◌, Bool, true, false, cond, not, ◌&&◌, List, [], ◌∷◌}
use Rattle.std.proofs.Common.{refl, ap, arith, nat_lt, nat_eq, drop, Some, slice_get}
use Rattle.std.proofs.lemmas.Bool.{eqb-true}
use borrow.Author.Tests.{ltb-true, ltb-false}
use Rattle.ss_store.proofs.Core.{some_eq}
use Rattle.ss_adapter.specs.declared.reach.Reach.{Reach}
use Rattle.ss_adapter.specs.declared.reach.Found.{Found}
use Rattle.ss_adapter.specs.Reach.{is_nearer, nearer, nearest_from, NearestIsLeast, NearestIsOne}

-- ---- it is least

no_more : (c m : Bool) (x y : ℕ) → nat_eq x y ≡ c → cond c m (nat_lt x y) ≡ true → x ≤ y
no_more true m x y e h = let same = eqb-true x y e in omega (arith, same)
no_more false m x y e h = omega (arith, ltb-true _ _ h)

no_less : (c m : Bool) (x y : ℕ) → nat_eq x y ≡ c → cond c m (nat_lt x y) ≡ false → y ≤ x
no_less true m x y e h = let same = eqb-true x y e in omega (arith, same)
no_less false m x y e h = omega (arith, ltb-false _ _ h)

nearer_by : (b : Bool) (p : ℕ) (g : Found) (r : Reach) → is_nearer r g.reach ≡ b →
    ((cond b (record { place = p; reach = r }) g).reach.steps ≤ g.reach.steps)
    × ((cond b (record { place = p; reach = r }) g).reach.steps ≤ r.steps)
nearer_by true p g r e =
    (no_more (nat_eq r.steps g.reach.steps) (r.met && not g.reach.met) r.steps g.reach.steps refl e, omega arith)
nearer_by false p g r e =
    (omega arith, no_less (nat_eq r.steps g.reach.steps) (r.met && not g.reach.met) r.steps g.reach.steps refl e)

-- the nearer of two is no further than either
both : (p : ℕ) (g : Found) (r : Reach) →
    ((nearer (Some g) p r).reach.steps ≤ g.reach.steps) × ((nearer (Some g) p r).reach.steps ≤ r.steps)
both p g r = nearer_by (is_nearer r g.reach) p g r refl

than_first : (rs : List Reach) (g f : Found) (p : ℕ) → nearest_from (Some g) p rs ≡ Some f →
    f.reach.steps ≤ g.reach.steps
than_first [] g f p e =
    let same : g.reach.steps ≡ f.reach.steps = ap (λ h. h.reach.steps) (some_eq e) in omega (arith, same)
than_first (r ∷ rs) g f p e =
    let k = than_first rs (nearer (Some g) p r) f (p + 1) e in
    let m = both p g r in omega (arith, k, m.0)

than_any : (rs : List Reach) (g f : Found) (p i : ℕ) (r : Reach) → nearest_from (Some g) p rs ≡ Some f →
    slice_get rs i ≡ Some r → f.reach.steps ≤ r.steps
than_any [] g f p i r e h = absurd (cc)
than_any (s ∷ rs) g f p zero r e h =
    let same : s.steps ≡ r.steps = ap (λ q. q.steps) (some_eq h) in
    let k = than_first rs (nearer (Some g) p s) f (p + 1) e in
    let m = both p g s in omega (arith, k, m.1, same)
than_any (s ∷ rs) g f p (suc i) r e h = than_any rs (nearer (Some g) p s) f (p + 1) i r e h

pub least : NearestIsLeast
least [] f i r e h = absurd (cc)
least (s ∷ rs) f zero r e h =
    let same : s.steps ≡ r.steps = ap (λ q. q.steps) (some_eq h) in
    let k = than_first rs (record { place = 0; reach = s }) f 1 e in omega (arith, k, same)
least (s ∷ rs) f (suc i) r e h = than_any rs (record { place = 0; reach = s }) f 1 i r e h

-- ---- it is one of them

there_by : (b : Bool) (all : List Reach) (p : ℕ) (g : Found) (r : Reach) → slice_get all g.place ≡ Some g.reach →
    slice_get all p ≡ Some r →
    slice_get all (cond b (record { place = p; reach = r }) g).place
    ≡ Some (cond b (record { place = p; reach = r }) g).reach
there_by true all p g r e h = h
there_by false all p g r e h = e

-- the rest after p others begins with the one in place p
at_drop : (all : List Reach) (p : ℕ) (r : Reach) (rs : List Reach) → drop p all ≡ r ∷ rs →
    (slice_get all p ≡ Some r) × (drop (suc p) all ≡ rs)
at_drop [] zero r rs e = absurd (cc)
at_drop [] (suc p) r rs e = absurd (cc)
at_drop (s ∷ all) zero r rs e =
    let first : s ≡ r = cc in let rest : all ≡ rs = cc in (ap (λ q. Some q) first, rest)
at_drop (s ∷ all) (suc p) r rs e = at_drop all p r rs e

one_from : (rs all : List Reach) (g f : Found) (p : ℕ) → drop p all ≡ rs → slice_get all g.place ≡ Some g.reach →
    nearest_from (Some g) p rs ≡ Some f → slice_get all f.place ≡ Some f.reach
one_from [] all g f p d e h = let same : g ≡ f = some_eq h in rw same at e
one_from (r ∷ rs) all g f p d e h =
    let at = at_drop all p r rs d in
    let next : suc p ≡ p + 1 = omega arith in
    one_from rs all (nearer (Some g) p r) f (p + 1) (rw next at at.1)
    (there_by (is_nearer r g.reach) all p g r e at.0) h

pub one : NearestIsOne
one [] f e = absurd (cc)
one (s ∷ rs) f e = one_from rs (s ∷ rs) (record { place = 0; reach = s }) f 1 refl refl e
