-- Histories hold the steps of their test, and no others.
use Rattle.std.proofs.Common.{◌≡◌, ℕ, zero, suc, ◌<◌, ◌≤◌, Bool, true, false, cond, List, [], ◌∷◌, refl, sym, ap, ◌∙◌}
use Rattle.std.proofs.Common.{arith}
use Rattle.std.proofs.Common.{nat_lt, inl, inr}
use borrow.Author.Tests.{ltb-true, ltb-false}
use Rattle.ss_trace.specs.History.{before_others, positions_where}
use Rattle.ss_trace.specs.Laws.{IsAmong}

-- ---- it has each

whole_by : (b c : Bool) (a p q : ℕ) (rs : List ℕ) → nat_lt p a ≡ b → a ≤ q → q < suc p → (q ≡ p → c ≡ true) →
    (q < p → IsAmong q rs) → (d : Bool) → nat_lt q p ≡ d → IsAmong q (cond b [] (before_others c p rs))
whole_by true c a p q rs e o l here there d f = absurd (omega (arith, ltb-true _ _ e, o, l))
whole_by false true a p q rs e o l here there true f = inr (there (omega (arith, ltb-true _ _ f)))
whole_by false true a p q rs e o l here there false f = inl (omega (arith, l, ltb-false _ _ f))
whole_by false false a p q rs e o l here there true f = there (omega (arith, ltb-true _ _ f))
whole_by false false a p q rs e o l here there false f =
    let no = here (omega (arith, l, ltb-false _ _ f)) in absurd (cc)

pub whole : (test : ℕ → Bool) (a p q : ℕ) → a ≤ q → q < p → test q ≡ true → IsAmong q (positions_where test a p)
unfolding positions_where
whole test a zero q o l h = absurd (omega (arith, l))
whole test a (suc p) q o l h =
    whole_by (nat_lt p a) (test p) a p q (positions_where test a p) refl o l
    (λ e. ap test (sym e) ∙ h) (λ m. whole test a p q o m h) (nat_lt q p) refl

-- ---- and no others

true_by : (b c : Bool) (test : ℕ → Bool) (a p q : ℕ) (rs : List ℕ) → nat_lt p a ≡ b → test p ≡ c →
    (IsAmong q rs → (a ≤ q) × (q < p) × (test q ≡ true)) → IsAmong q (cond b [] (before_others c p rs)) →
    (a ≤ q) × (q < suc p) × (test q ≡ true)
true_by true c test a p q rs e f later h = absurd h
true_by false true test a p q rs e f later (inl h) =
    (omega (arith, h, ltb-false _ _ e), omega (arith, h), ap test h ∙ f)
true_by false true test a p q rs e f later (inr h) =
    let k = later h in (k.0, omega (arith, k.1), k.2)
true_by false false test a p q rs e f later h =
    let k = later h in (k.0, omega (arith, k.1), k.2)

pub only : (test : ℕ → Bool) (a p q : ℕ) → IsAmong q (positions_where test a p) →
    (a ≤ q) × (q < p) × (test q ≡ true)
unfolding positions_where
only test a zero q h = absurd h
only test a (suc p) q h =
    true_by (nat_lt p a) (test p) test a p q (positions_where test a p) refl refl (λ k. only test a p q k) h

-- ---- it goes down

down_by : (b c : Bool) (p q : ℕ) (qs rs : List ℕ) (f : ℕ → List ℕ) → f p ≡ rs → (rs ≡ q ∷ qs → qs ≡ f q) →
    cond b [] (before_others c p rs) ≡ q ∷ qs → qs ≡ f q
down_by true c p q qs rs f e later h = absurd (cc)
down_by false true p q qs rs f e later h = let same : p ≡ q = cc in let rest : rs ≡ qs = cc in
    sym rest ∙ sym e ∙ ap f same
down_by false false p q qs rs f e later h = later h

pub goes_down : (test : ℕ → Bool) (a p q : ℕ) (qs : List ℕ) → positions_where test a p ≡ q ∷ qs →
    qs ≡ positions_where test a q
unfolding positions_where
goes_down test a zero q qs h = absurd (cc)
goes_down test a (suc p) q qs h =
    down_by (nat_lt p a) (test p) p q qs (positions_where test a p) (positions_where test a) refl
    (λ e. goes_down test a p q qs e) h
