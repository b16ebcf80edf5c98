use Rattle.std.proofs.Common.{◌≡◌, ◌<◌, ◌≤◌, ℕ, zero, suc, ℤ, pos, negsuc, true, Ok, Option, Some, None}
use Rattle.std.proofs.Common.{w64, to_z, of_z, refl, sym, ap, subst, ◌∙◌, arith}
use Rattle.std.specs.Prelude.{unsigned_abs, slice_get, is_some}
use Rattle.std.specs.Option.{option_or, option_and_then}
use Rattle.std.proofs.lemmas.Int.{to_z-of_z}
use Rattle.std.proofs.lemmas.Option.{slice_get_within}
use Rattle.ss_store.specs.Tables.{Tables}
use Rattle.ss_store.specs.Store.{Entity, Store, exists, number_of, made_of, of_class}
use Rattle.ss_store.specs.WellStore.{IsWellStore}
use Rattle.ss_words.specs.declared.limits.TheConstants.{MOST_REFERENCES}
use Rattle.ss_state.specs.Held.{Held}
use Rattle.ss_state.specs.Statements.{entity_named}
use Rattle.ss_state.proofs.Staying.{named_positive}
use Rattle.ss_machine.proofs.state.State.entity_named.Goals as goal

named_small : (t : Tables) (st : Store) (c k : ℕ) → IsWellStore t st → exists st c k ≡ true → k ≤ MOST_REFERENCES
named_small t st c zero w h = omega arith
named_small t st c (suc k) w h = by (slice_get (made_of st c) k) refl (slice_get st.references k) refl h
  where
    by : (o : Option Entity) → slice_get (made_of st c) k ≡ o →
        (q : Option (Option Entity)) → slice_get st.references k ≡ q →
        is_some (option_or o (option_and_then (of_class c) q)) ≡ true → suc k ≤ MOST_REFERENCES
    by (Some e) a q b i = omega (arith, slice_get_within (made_of st c) k e a, w.few_made c)
    by None a (Some r) b i = omega (arith, slice_get_within st.references k r b, w.few_references)
    by None a None b i = cc

positive_is : (x : ℤ) → 0 < number_of x → unsigned_abs x ≡ number_of x
positive_is (pos n) h = refl
positive_is (negsuc n) h = absurd (omega arith)

existing_is : (st : Store) (c : ℕ) (x : ℤ) → exists st c (number_of x) ≡ true → Ok (number_of x) ≡ entity_named st c x
existing_is st c x h = rw h refl

pub overflow_cast-result : goal.overflow_cast-result
overflow_cast-result g c =
    let z : to_z w64 (of_z w64 c.args.x) ≡ c.args.x = to_z-of_z w64 c.args.x c.ranges.x in
    let there = rw z at (sym c.exists.ensures ∙ c.if-not-exists.false) in
    let k = number_of c.args.x in
    let positive : 0 < k = named_positive c.self.inside.store.state c.args.class k there in
    let value : c.unsigned_abs.result ≡ k =
    c.unsigned_abs.ensures.value ∙ (ap unsigned_abs z ∙ positive_is c.args.x positive) in
    let small = named_small c.self.inside.store.tables c.self.inside.store.state c.args.class k c.known.ensures there in
    omega (arith, value, small)

pub returns-clause-number : goal.returns-clause-number
returns-clause-number g c =
    let z : to_z w64 (of_z w64 c.args.x) ≡ c.args.x = to_z-of_z w64 c.args.x c.ranges.x in
    let there = rw z at (sym c.exists.ensures ∙ c.if-not-exists.false) in
    let k = number_of c.args.x in
    let positive : 0 < k = named_positive c.self.inside.store.state c.args.class k there in
    let value : c.unsigned_abs.result ≡ k =
    c.unsigned_abs.ensures.value ∙ (ap unsigned_abs z ∙ positive_is c.args.x positive) in
    let store = ap (λ (h : Held). h.state.store) c.self.view_is in
    ap Ok value
    ∙ (existing_is c.self.inside.store.state c.args.class c.args.x there
    ∙ ap (λ (st : Store). entity_named st c.args.class c.args.x) store)

pub returns-clause-named : goal.returns-clause-named
returns-clause-named g c =
    let z : to_z w64 (of_z w64 c.args.x) ≡ c.args.x = to_z-of_z w64 c.args.x c.ranges.x in
    let there = rw z at (sym c.exists.ensures ∙ c.if-not-exists.false) in
    let k = number_of c.args.x in
    let positive : 0 < k = named_positive c.self.inside.store.state c.args.class k there in
    let value : c.unsigned_abs.result ≡ k =
    c.unsigned_abs.ensures.value ∙ (ap unsigned_abs z ∙ positive_is c.args.x positive) in
    subst (λ (n : ℕ). 0 < n) (sym value) positive

pub returns-clause-small : goal.returns-clause-small
returns-clause-small g c =
    let z : to_z w64 (of_z w64 c.args.x) ≡ c.args.x = to_z-of_z w64 c.args.x c.ranges.x in
    let there = rw z at (sym c.exists.ensures ∙ c.if-not-exists.false) in
    let k = number_of c.args.x in
    let positive : 0 < k = named_positive c.self.inside.store.state c.args.class k there in
    let value : c.unsigned_abs.result ≡ k =
    c.unsigned_abs.ensures.value ∙ (ap unsigned_abs z ∙ positive_is c.args.x positive) in
    let small = named_small c.self.inside.store.tables c.self.inside.store.state c.args.class k c.known.ensures there in
    subst (λ (n : ℕ). n ≤ MOST_REFERENCES) (sym value) small
