-- A reference is read back as the part that it was made for.
use Rattle.std.proofs.Common.{◌≡◌, ℕ, ◌+◌, ◌-◌, ◌*◌, ◌/◌, ◌%◌, ◌^◌, ◌<◌, true, false, nat_lt, nat_eq, refl, ◌∙◌, arith}
use Rattle.std.proofs.lemmas.Bool.Decides.{nat_tests}
use Rattle.ss_scopes.specs.declared.group.Group.TheVariants.{Class, Entity, Set, Members}
use Rattle.ss_scopes.specs.declared.group.TheConstants.{ROW, MOST_ROWS}
use Rattle.ss_scopes.specs.References.{class_reference, set_reference, row_group, group_of}
use Rattle.ss_scopes.specs.Laws.{AreReadBack}

-- a reference in a row of its own is that of the row
in_row : (row n : ℕ) → 0 < row → row < 4096 → n < ROW → group_of (row * ROW + n) ≡ row_group row n
in_row row n some few within =
    let below : nat_lt (row * ROW + n) (2 ^ 32) ≡ true = grind (arith, nat_tests) in
    let past : nat_lt (row * ROW + n) ROW ≡ false = grind (arith, nat_tests) in
    let quotient : (row * ROW + n) / ROW ≡ row = omega (arith, within) in
    let rest : (row * ROW + n) % ROW ≡ n = omega (arith, within) in
    rw (below, past, quotient, rest) refl

class_row : (c k : ℕ) → c < MOST_ROWS → k < ROW → group_of (class_reference c k) ≡ row_group (2 * c + 1) k
class_row c k few within =
    let in_table : nat_lt c MOST_ROWS ≡ true = grind (arith, nat_tests) in
    let in_line : nat_lt k ROW ≡ true = grind (arith, nat_tests) in
    rw (in_table, in_line) (in_row (2 * c + 1) k (omega arith) (omega (arith, few)) within)

set_row : (s j : ℕ) → s < MOST_ROWS → j < ROW → group_of (set_reference s j) ≡ row_group (2 * s + 2) j
set_row s j few within =
    let in_table : nat_lt s MOST_ROWS ≡ true = grind (arith, nat_tests) in
    let in_line : nat_lt j ROW ≡ true = grind (arith, nat_tests) in
    rw (in_table, in_line) (in_row (2 * s + 2) j (omega arith) (omega (arith, few)) within)

class_said : (c : ℕ) → row_group (2 * c + 1) 0 ≡ Class c
class_said c =
    let odd : (2 * c + 1) % 2 ≡ 1 = omega arith in
    let half : (2 * c + 1) / 2 ≡ c = omega arith in
    rw (odd, half) refl

entity_said : (c k : ℕ) → 0 < k → row_group (2 * c + 1) k ≡ Entity c k
entity_said c k some =
    let odd : (2 * c + 1) % 2 ≡ 1 = omega arith in
    let half : (2 * c + 1) / 2 ≡ c = omega arith in
    let one : nat_eq k 0 ≡ false = grind (arith, nat_tests) in
    rw (odd, half, one) refl

set_said : (s : ℕ) → row_group (2 * s + 2) 0 ≡ Set s
set_said s =
    let even : (2 * s + 2) % 2 ≡ 0 = omega arith in
    let half : (2 * s + 2) / 2 - 1 ≡ s = omega arith in
    rw (even, half) refl

list_said : (s j : ℕ) → 0 < j → row_group (2 * s + 2) j ≡ Members s j
list_said s j some =
    let even : (2 * s + 2) % 2 ≡ 0 = omega arith in
    let half : (2 * s + 2) / 2 - 1 ≡ s = omega arith in
    let one : nat_eq j 0 ≡ false = grind (arith, nat_tests) in
    rw (even, half, one) refl

pub read_back : AreReadBack
read_back = record {
  class = λ c few. class_row c 0 few (omega arith) ∙ class_said c;
  entity = λ c k few some within. class_row c k few within ∙ entity_said c k some;
  set = λ s few. set_row s 0 few (omega arith) ∙ set_said s;
  list = λ s j few some within. set_row s j few within ∙ list_said s j some;
  locals = λ depth few. grind (arith, nat_tests);
}
