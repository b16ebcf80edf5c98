-- Which tests a byte passes and which it fails.
use Rattle.std.proofs.Common.{◌≡◌, ℕ, ◌<◌, ◌≤◌, nat_lt, true, false, ◌==◌, ◌||◌, None, refl, ap, arith, ◌⊎◌, inl, inr}
use Rattle.std.proofs.lemmas.Bool.Decides.{nat_tests, Decides-eqb, Decides-ltb}
use Rattle.std.specs.Prelude.{is_some}
use Rattle.ss_words.specs.TextBytes.{is_allowed, is_blank, in_run, one_byte_sign, is_joined, is_stray}

pub eqb-same : (a b : ℕ) → (a == b) ≡ true → a ≡ b
eqb-same a b e = (Decides-eqb a b).0 e

pub eqb-not : (a b : ℕ) → (a ≡ b → ⊥) → (a == b) ≡ false
eqb-not a b differ = elim (a == b) as (λ t. (a == b) ≡ t → t ≡ false) [
  | true ↦ λ same. absurd (differ (eqb-same a b same))
  | false ↦ λ other. refl
] refl

-- a byte of a run is another than a byte of none
pub eqb-run : (b c : ℕ) → in_run b ≡ true → in_run c ≡ false → (b == c) ≡ false
eqb-run b c runs stops = elim (b == c) as (λ t. (b == c) ≡ t → t ≡ false) [
  | true ↦ λ same. let e = ap in_run (eqb-same b c same) in cc
  | false ↦ λ differ. refl
] refl

-- a byte of a run is allowed in a line
pub is_allowed-run : (b : ℕ) → in_run b ≡ true → is_allowed b ≡ true
unfolding in_run is_allowed
is_allowed-run b h = grind (arith, nat_tests)

pub is_allowed-sign : (b : ℕ) → is_some (one_byte_sign b) ≡ true → is_allowed b ≡ true
unfolding one_byte_sign is_allowed
is_allowed-sign b h = grind (arith, nat_tests)

pub is_blank-cases : (b : ℕ) → is_blank b ≡ true → (b ≡ 32) ⊎ (b ≡ 9)
unfolding is_blank
is_blank-cases b h = elim (b == 32) as (λ t. (b == 32) ≡ t → (t || b == 9) ≡ true → (b ≡ 32) ⊎ (b ≡ 9)) [
  | true ↦ λ same other. inl (eqb-same b 32 same)
  | false ↦ λ differ same. inr (eqb-same b 9 same)
] refl h

-- a byte of a run is not stray
pub is_stray-run : (b : ℕ) → in_run b ≡ true → is_stray b b ≡ false
unfolding is_stray
is_stray-run b h = let allowed = is_allowed-run b h in simp (h, allowed)

pub is_stray-sign : (b : ℕ) → is_some (one_byte_sign b) ≡ true → is_stray b b ≡ false
unfolding is_stray
is_stray-sign b h = let allowed = is_allowed-sign b h in grind (arith)

pub is_stray-other : (b : ℕ) → in_run b ≡ false → is_blank b ≡ false → one_byte_sign b ≡ None → is_stray b b ≡ true
unfolding is_stray
is_stray-other b no_run no_blank no_sign = grind (arith)

in_run-less : in_run 60 ≡ false
unfolding in_run
in_run-less = refl

in_run-greater : in_run 62 ≡ false
unfolding in_run
in_run-greater = refl

-- a run goes on only with a byte of a run
pub is_joined-run : (last b : ℕ) → in_run last ≡ true → is_joined last b ≡ in_run b
unfolding is_joined
is_joined-run last b h =
    let no_less = eqb-run last 60 h (in_run-less) in
    let no_greater = eqb-run last 62 h (in_run-greater) in
    grind (arith)

pub nat_lt-above : (m n : ℕ) → m < n → nat_lt m n ≡ true
nat_lt-above m n h = (Decides-ltb m n).1 h

pub nat_lt-below : (m n : ℕ) → n ≤ m → nat_lt m n ≡ false
nat_lt-below m n h = elim (nat_lt m n) as (λ t. nat_lt m n ≡ t → t ≡ false) [
  | true ↦ λ above. absurd (let more = (Decides-ltb m n).0 above in omega arith)
  | false ↦ λ ok. refl
] refl
