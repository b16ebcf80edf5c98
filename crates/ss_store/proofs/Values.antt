-- Attributes read and written.
use Rattle.std.proofs.Common.{◌≡◌, ℕ, ℤ, pos, refl, ap, sym, ◌∙◌, List, slice_index_or, Option, Some, None, Bool}
use Rattle.std.specs.Prelude.{Result, Ok, Err, is_some, option_map}
use Rattle.ss_words.specs.declared.fault.RunFault.{RunFault}
use Rattle.ss_words.specs.declared.fault.RunFault.TheVariants.{NoEntity}
use Rattle.ss_store.specs.declared.rows.Row.{Row}
use Rattle.ss_store.specs.Rows.{row_of, values_of}
use Rattle.ss_store.specs.Store.{Entity, attribute_in, attribute_of, attributes_of, exists}
use Rattle.ss_store.specs.Invariant.{IsStore}
use Rattle.ss_store.specs.Parts.{StoreParts, state_of, value_of}
use Rattle.ss_store.specs.Value.{StoreValue}
use Rattle.ss_store.proofs.Core.{found}
use Rattle.ss_store.proofs.Agree.{entity_some, entity_none, entity_is}
use Rattle.ss_store.proofs.RankPlaces.{values_some, values_none}

-- an attribute of values that were found
abbrev attribute_if : ℕ → Option (List ℤ) → Result ℤ RunFault
attribute_if a None = Err NoEntity
attribute_if a (Some v) = Ok (slice_index_or v a (pos 0))

-- the values that `values_of` finds are those of the state
pub values_are : (g : StoreParts) (c k a : ℕ) → IsStore g
    → attribute_of (state_of g) c a k ≡ attribute_if a (values_of g.rows c k)
values_are g c k a s =
    (elim (row_of g.rows c k) as (λ o. row_of g.rows c k ≡ o
    → attribute_of (state_of g) c a k ≡ attribute_if a (values_of g.rows c k)) [
      | None ↦ λ e. ap (attribute_in a) (entity_none g c k s e) ∙ sym (ap (attribute_if a) (values_none g.rows c k e))
      | Some r ↦ λ e. let l = found g.rows c k r e in ap (attribute_in a) (entity_some g c k r s l)
          ∙ sym (ap (attribute_if a) (values_some g.rows c k r l))
    ]) refl

-- so are all of them
all_are : (g : StoreParts) (c k : ℕ) → IsStore g → attributes_of (state_of g) c k ≡ values_of g.rows c k
all_are g c k s =
    (elim (row_of g.rows c k) as (λ o. row_of g.rows c k ≡ o
    → attributes_of (state_of g) c k ≡ values_of g.rows c k) [
      | None ↦ λ e. ap (option_map (λ (x : Entity). x.attributes)) (entity_none g c k s e)
          ∙ sym (values_none g.rows c k e)
      | Some r ↦ λ e. let l = found g.rows c k r e in
          ap (option_map (λ (x : Entity). x.attributes)) (entity_some g c k r s l) ∙ sym (values_some g.rows c k r l)
    ]) refl

pub attributes_are : (g : StoreParts) (v : StoreValue) (c k j : ℕ) (q : Option (List ℤ)) → value_of g ≡ v → IsStore g
    → q ≡ values_of g.rows c k → k ≡ j → q ≡ attributes_of v.state c j
attributes_are g v c k j q w s e f = e ∙ sym (all_are g c k s)
    ∙ ap (λ (z : StoreValue). attributes_of z.state c k) w ∙ ap (attributes_of v.state c) f

pub get_some : (g : StoreParts) (v : StoreValue) (c k a : ℕ) (q : Option (List ℤ)) (xs : List ℤ) → value_of g ≡ v
    → IsStore g
    → q ≡ values_of g.rows c k → q ≡ Some xs → Ok (slice_index_or xs a (pos 0)) ≡ attribute_of v.state c a k
get_some g v c k a q xs w s e f = sym (ap (λ (z : StoreValue). attribute_of z.state c a k) (sym w)
    ∙ values_are g c k a s ∙ ap (attribute_if a) (sym e ∙ f))

pub get_none : (g : StoreParts) (v : StoreValue) (c k a : ℕ) (q : Option (List ℤ)) → value_of g ≡ v → IsStore g
    → q ≡ values_of g.rows c k → q ≡ None → Err NoEntity ≡ attribute_of v.state c a k
get_none g v c k a q w s e f = sym (ap (λ (z : StoreValue). attribute_of z.state c a k) (sym w) ∙ values_are g c k a s
    ∙ ap (attribute_if a) (sym e ∙ f))

pub exists_is : (g : StoreParts) (v : StoreValue) (c k : ℕ) (q : Option Row) (b : Bool) → value_of g ≡ v → IsStore g
    → q ≡ row_of g.rows c k → b ≡ is_some q → b ≡ exists v.state c k
exists_is g v c k q b w s e f = f ∙ ap is_some e ∙ sym (entity_is g c k s)
    ∙ ap (λ (z : StoreValue). exists z.state c k) w
