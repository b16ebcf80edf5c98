-- Texts one after the other.
use Rattle.std.proofs.Common.{◌≡◌, ℕ, zero, suc, ◌+◌, ◌-◌, ◌≤◌, List, [], ◌++◌, refl, ◌∙◌, arith}
use Rattle.std.proofs.lemmas.List.{append-nil, append_assoc}
use Rattle.ss_debug.specs.Entities.{lines_below}

-- one text more
pub text_more : (text : ℕ → List ℕ) (n m : ℕ) (old so_far new : List ℕ) → m ≡ n + 1 →
    so_far ≡ old ++ lines_below text n → new ≡ so_far ++ text n → new ≡ old ++ lines_below text m
text_more text n m old so_far new e h k =
    let next : m ≡ suc n = omega (arith, e) in rw (next, k, h) (append_assoc old _ _)

past_by : (text : ℕ → List ℕ) (n d m : ℕ) → m ≡ n + d → ((i : ℕ) → n ≤ i → text i ≡ []) →
    lines_below text m ≡ lines_below text n
past_by text n zero m e h = let same : m ≡ n = omega (arith, e) in rw same refl
past_by text n (suc d) m e h =
    let next : m ≡ suc (n + d) = omega (arith, e) in
    rw (next, h (n + d) (omega arith)) (append-nil (lines_below text (n + d)) ∙ past_by text n d (n + d) refl h)

-- texts that are empty from a number on do not count from there
pub none_past : (text : ℕ → List ℕ) (n m : ℕ) → n ≤ m → ((i : ℕ) → n ≤ i → text i ≡ []) →
    lines_below text m ≡ lines_below text n
none_past text n m w h = past_by text n (m - n) m (omega (arith, w)) h
