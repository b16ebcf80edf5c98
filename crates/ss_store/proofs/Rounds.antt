-- Which lists are known in a round.
use Rattle.std.proofs.lemmas.Bool.Decides.{nat_tests}
use Rattle.std.proofs.Common.{◌≡◌, ℕ, zero, suc, ◌+◌, ◌<◌, ◌≤◌, ◌==◌, ◌++◌, List, [], ◌∷◌, Bool, true}
use Rattle.std.proofs.Common.{false}
use Rattle.std.proofs.Common.{refl, ap, sym, ◌∙◌, arith, replicate, slice_index_or}
use Rattle.std.specs.Prelude.{slice_set}
use Rattle.ss_store.specs.Order.{known_at, known_in, AreRounds}

-- a list is known if it was found to be in order in this round
pub known_is : (rs : List ℕ) (r h : ℕ) → 0 < r → known_at (known_in rs r) h ≡ (slice_index_or rs h 0 == r)
known_is [] r h lt = sym (let e : (0 == r) ≡ false = grind (arith, nat_tests, lt) in e)
known_is (x ∷ rs) r zero lt = refl
known_is (x ∷ rs) r (suc h) lt = known_is rs r h lt

-- in the next round, nothing is
pub next_round : (rs : List ℕ) (r h : ℕ) → AreRounds rs r → known_at (known_in rs (r + 1)) h ≡ false
next_round rs r h a =
    let below = a.1 h in
    known_is rs (r + 1) h (omega arith) ∙ (let e : (slice_index_or rs h 0 == (r + 1)) ≡ false = grind (arith, nat_tests, below) in e)

-- a list noted
pub noted : (rs : List ℕ) (r h x : ℕ) → known_in (slice_set rs h x) r ≡ slice_set (known_in rs r) h (x == r)
noted [] r h x = refl
noted (y ∷ rs) r zero x = refl
noted (y ∷ rs) r (suc h) x = ap (λ l. (y == r) ∷ l) (noted rs r h x)

pub noted_if : (rs : List ℕ) (r h x : ℕ) (b : Bool) → 0 < r → (b ≡ true → x ≡ r) → (b ≡ false → x ≡ 0)
    → known_in (slice_set rs h x) r ≡ slice_set (known_in rs r) h b
noted_if rs r h x true lt here away =
    let e = here refl in noted rs r h x ∙ ap (slice_set (known_in rs r) h) (let t : (x == r) ≡ true = grind (arith, nat_tests, e) in t)
noted_if rs r h x false lt here away =
    let e = away refl in noted rs r h x ∙ ap (slice_set (known_in rs r) h) (let t : (x == r) ≡ false = grind (arith, nat_tests, e, lt) in t)

noted_at : (rs : List ℕ) (r h x k : ℕ) → x ≤ r → ((j : ℕ) → slice_index_or rs j 0 ≤ r)
    → slice_index_or (slice_set rs h x) k 0 ≤ r
noted_at [] r h x k e f = f k
noted_at (y ∷ rs) r zero x zero e f = e
noted_at (y ∷ rs) r zero x (suc k) e f = f (suc k)
noted_at (y ∷ rs) r (suc h) x zero e f = f 0
noted_at (y ∷ rs) r (suc h) x (suc k) e f = noted_at rs r h x k e (λ j. f (suc j))

-- more lists, which were found in no round
more_at : (rs : List ℕ) (n h : ℕ) → slice_index_or (rs ++ replicate n 0) h 0 ≡ slice_index_or rs h 0
more_at [] zero h = refl
more_at [] (suc n) zero = refl
more_at [] (suc n) (suc h) = more_at [] n h
more_at (x ∷ rs) n zero = refl
more_at (x ∷ rs) n (suc h) = more_at rs n h

pub more_known : (rs : List ℕ) (n r h : ℕ) → 0 < r → known_at (known_in (rs ++ replicate n 0) r) h ≡ known_at (known_in rs r) h
more_known rs n r h lt = known_is (rs ++ replicate n 0) r h lt ∙ ap (λ k. k == r) (more_at rs n h) ∙ sym (known_is rs r h lt)
