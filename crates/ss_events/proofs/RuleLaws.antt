-- Laws of the rules of a program's classes.
use Rattle.std.proofs.Common.{◌≡◌, ℕ, ◌+◌, ◌<◌, ◌++◌, Bool, true, false, not, cond, eqb, ltb, List, [], ◌∷◌, length}
use Rattle.std.proofs.Common.{get_or, map, unwrap_or, refl, sym, ap, ◌∙◌, arith, suc, subst}
use Rattle.std.specs.List.{position_or_len, range_with_len}
use Rattle.std.specs.Prelude.{position}
use Rattle.std.proofs.lemmas.Bool.Decides.{nat_tests}
use Rattle.std.proofs.lemmas.List.{length-map}
use Rattle.std.proofs.lemmas.List.FromFn.{length-map-range_with_len, get_or-map-range_with_len, map-range_with_len_more}
use Rattle.ss_program.specs.Program.{ProgramTable, priority_of}
use Rattle.ss_events.specs.declared.rule.ClassRule.{ClassRule}
use Rattle.ss_events.specs.Rules.{Rule, rule_at, program_rule, rules_of}
use Rattle.ss_events.specs.Views.{rule_of}
use Rattle.ss_events.specs.State.{AreRanked}

-- a class that is in the list is at the place that the search finds
found-is : (xs : List ℕ) (c z : ℕ) → ltb (position_or_len (λ d. eqb c d) xs) (length xs) ≡ true →
    get_or xs (position_or_len (λ d. eqb c d) xs) z ≡ c
found-is [] c z h = absurd (cc)
found-is (x ∷ xs) c z h =
    let rest = found-is xs c z in
    let i = position_or_len (λ d. eqb c d) xs in
    let more : 1 + i ≡ suc i = omega arith in
    elim (eqb c x)
    as (λ t. eqb c x ≡ t → ltb (cond (not t) (1 + i) 0) (suc (length xs)) ≡ true →
    get_or (x ∷ xs) (cond (not t) (1 + i) 0) z ≡ c) [
      | true ↦ λ t k. grind (arith, nat_tests, t)
      | false ↦ λ t k. let below : ltb i (length xs) ≡ true = grind (arith, nat_tests, k) in rw more (rest below)
    ] refl h

-- the place among numbers that are named first
abbrev place_in : List ℕ → ℕ → ℕ
place_in xs c = unwrap_or (position (λ d. eqb c d) xs) (length xs + c)

place-named : (xs : List ℕ) (c : ℕ) (t : Bool) → ltb (position_or_len (λ d. eqb c d) xs) (length xs) ≡ t →
    place_in xs c ≡ cond t (position_or_len (λ d. eqb c d) xs) (length xs + c)
place-named xs c true h = rw h refl
place-named xs c false h = rw h refl

-- no two numbers have one place
place-once : (xs : List ℕ) (c d : ℕ) → place_in xs c ≡ place_in xs d → c ≡ d
place-once xs c d e =
    let i = position_or_len (λ x. eqb c x) xs in
    let j = position_or_len (λ x. eqb d x) xs in
    elim (ltb i (length xs)) as (λ t. ltb i (length xs) ≡ t → c ≡ d) [
      | true ↦ λ t. elim (ltb j (length xs)) as (λ u. ltb j (length xs) ≡ u → c ≡ d) [
        | true ↦ λ u. let same : i ≡ j = sym (place-named xs c true t) ∙ (e ∙ place-named xs d true u) in
            sym (found-is xs c 0 t) ∙ (ap (λ k. get_or xs k 0) same ∙ found-is xs d 0 u)
        | false ↦ λ u. let same : i ≡ length xs + d = sym (place-named xs c true t) ∙ (e ∙
            place-named xs d false u) in absurd (grind (arith, nat_tests, t, same))
      ] refl
      | false ↦ λ t. elim (ltb j (length xs)) as (λ u. ltb j (length xs) ≡ u → c ≡ d) [
        | true ↦ λ u. let same : length xs + c ≡ j = sym (place-named xs c false t) ∙ (e ∙
            place-named xs d true u) in absurd (grind (arith, nat_tests, u, same))
        | false ↦ λ u. let same : length xs + c ≡ length xs + d = sym (place-named xs c false t) ∙ (e ∙
            place-named xs d false u) in omega (arith, same)
      ] refl
    ] refl

pub length-rules_of : (p : ProgramTable) → length (rules_of p) ≡ length p.classes
length-rules_of p = length-map-range_with_len (program_rule p) 0 (length p.classes)

pub rule_at-program : (p : ProgramTable) (c : ℕ) → c < length p.classes → rule_at (rules_of p) c ≡ program_rule p c
rule_at-program p c h = get_or-map-range_with_len (program_rule p) 0 (length p.classes) c c (record {
  for_events = false;
  priority = 0;
  ties = [];
}) h (omega arith)

pub AreRanked-program : (p : ProgramTable) → AreRanked (rules_of p)
AreRanked-program p c d h k e =
    let a = rule_at-program p c (omega (arith, h, length-rules_of p)) in
    let b = rule_at-program p d (omega (arith, k, length-rules_of p)) in
    let same : priority_of p c ≡ priority_of p d = ap (λ (r : Rule). r.priority) (sym a) ∙ (e ∙
    ap (λ (r : Rule). r.priority) b) in
    place-once p.priority c d same

-- the kept rules of a program are its rules: one for each class
pub length-kept : (rs : List ClassRule) (p : ProgramTable) → map rule_of rs ≡ rules_of p →
    length rs ≡ length p.classes
length-kept rs p h = sym (length-map rs rule_of) ∙ (ap (λ (l : List Rule). length l) h ∙ length-rules_of p)

pub AreRanked-kept : (rs : List Rule) (p : ProgramTable) → rs ≡ rules_of p → AreRanked rs
AreRanked-kept rs p h = subst AreRanked (sym h) (AreRanked-program p)

-- a class's rule more
pub rules-more : (rs : List ClassRule) (p : ProgramTable) (n : ℕ) (r : ClassRule) →
    map rule_of rs ≡ map (program_rule p) (range_with_len 0 n) → rule_of r ≡ program_rule p n →
    map rule_of (rs ++ r ∷ []) ≡ map (program_rule p) (range_with_len 0 (n + 1))
rules-more rs p n r h e = map-more rs r ∙ (ap (λ (l : List Rule). l ++ rule_of r ∷ []) h ∙
    (ap (λ (d : Rule). map (program_rule p) (range_with_len 0 n) ++ d ∷ []) e ∙
    sym (map-range_with_len_more (program_rule p) 0 n n (omega arith))))
  where
    map-more : (rs : List ClassRule) (r : ClassRule) → map rule_of (rs ++ r ∷ []) ≡ map rule_of rs ++ rule_of r ∷ []
    map-more [] r = refl
    map-more (q ∷ qs) r = ap (λ (l : List Rule). rule_of q ∷ l) (map-more qs r)
