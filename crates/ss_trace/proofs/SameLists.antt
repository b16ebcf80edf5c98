-- Stores whose entities own the same lists.
use Rattle.std.proofs.Common.{◌≡◌, ℕ, ℤ, zero, suc, List, [], ◌∷◌, Option, Some, None, Ok, refl, sym, ap, ◌∙◌}
use Rattle.std.specs.Prelude.{option_map}
use Rattle.ss_words.specs.declared.fault.RunFault.TheVariants.{NoEntity}
use Rattle.ss_program.specs.declared.kinds.Owner.{Owner}
use Rattle.ss_program.specs.declared.kinds.Owner.TheVariants.{System, OwnedBy}
use Rattle.ss_store.specs.Store.{Entity, Store, entity, exists, list_number, list_by, lists_by}
use Rattle.ss_store.specs.Store.{with_changed, with_value, with_attribute}
use Rattle.ss_state.proofs.Ranges.{Got}
use Rattle.ss_state.proofs.Stores.{unless_got}
use Rattle.ss_trace.proofs.OneEntity.{one_left, all_left, there_same}

-- the lists that an entity owns, if there is one
abbrev pub lists_in : Option Entity → Option (List (List ℕ))
lists_in o = option_map (λ (e : Entity). e.owned) o

-- the same entities there own the same lists, so does the system, and each set has the same lists
pub record HasSameLists (st new : Store) : Type 0 where
  pub owned : (c k : ℕ) → lists_in (entity new c k) ≡ lists_in (entity st c k)
  pub system : new.system ≡ st.system
  pub all : (w : Owner) (n : ℕ) → lists_by w n new ≡ lists_by w n st

pub same_lists : (st : Store) → HasSameLists st st
same_lists st = record { owned = λ c k. refl; system = refl; all = λ w n. refl }

changed_system : (a : ℕ) (z : ℤ) (st : Store) (c k : ℕ) → (with_changed (with_value a z) st c k).system ≡ st.system
changed_system a z st c zero = refl
changed_system a z st c (suc k) = refl

changed_lists : (a : ℕ) (z : ℤ) (st : Store) (c k : ℕ) (w : Owner) (n : ℕ) →
    lists_by w n (with_changed (with_value a z) st c k) ≡ lists_by w n st
changed_lists a z st c k System n =
    ap (λ (ls : List (List ℕ)). list_number ls n ∷ []) (changed_system a z st c k)
changed_lists a z st c k (OwnedBy d) n =
    all_left (λ (e : Entity). list_number e.owned n) (with_value a z) (λ e. refl) (λ e. refl) st c k d

pub changed_same : (a : ℕ) (z : ℤ) (st : Store) (c k : ℕ) → HasSameLists st (with_changed (with_value a z) st c k)
changed_same a z st c k = record {
  owned = λ d j. one_left (λ (e : Entity). e.owned) (with_value a z) (λ e. refl) (λ e. refl) st c k d j;
  system = changed_system a z st c k;
  all = λ w n. changed_lists a z st c k w n;
}

then_same : (old st new : Store) → HasSameLists old st → HasSameLists st new → HasSameLists old new
then_same old st new h k = record {
  owned = λ c j. k.owned c j ∙ h.owned c j;
  system = k.system ∙ h.system;
  all = λ w n. k.all w n ∙ h.all w n;
}

-- an attribute set changes no list
pub attribute_same : (old st : Store) (c a k : ℕ) (z : ℤ) → HasSameLists old st →
    Got (HasSameLists old) (with_attribute st c a k z)
attribute_same old st c a k z h =
    unless_got (HasSameLists old) NoEntity (exists st c k) (Ok (with_changed (with_value a z) st c k))
    (then_same old st (with_changed (with_value a z) st c k) h (changed_same a z st c k))

-- the same entities are there
pub same_there : (st new : Store) (c k : ℕ) → HasSameLists st new → exists new c k ≡ exists st c k
same_there st new c k h = there_same (λ (e : Entity). e.owned) (entity new c k) (entity st c k) (h.owned c k)

listed_same : (n : ℕ) (a b : Option Entity) → lists_in a ≡ lists_in b →
    option_map (λ (e : Entity). list_number e.owned n) a ≡ option_map (λ (e : Entity). list_number e.owned n) b
listed_same n a b h =
    fused a ∙ ap (λ (o : Option (List (List ℕ))). option_map (λ ls. list_number ls n) o) h ∙ sym (fused b)
  where
    fused : (o : Option Entity) → option_map (λ (e : Entity). list_number e.owned n) o
        ≡ option_map (λ ls. list_number ls n) (lists_in o)
    fused None = refl
    fused (Some e) = refl

-- and each list has the same members
pub list_same : (w : Owner) (n k : ℕ) (st new : Store) → HasSameLists st new → list_by w n new k ≡ list_by w n st k
list_same System n k st new h = ap (λ (ls : List (List ℕ)). Some (list_number ls n)) h.system
list_same (OwnedBy c) n k st new h = listed_same n (entity new c k) (entity st c k) (h.owned c k)
