-- The store's table of a set is the one that the program declares.
use Rattle.std.proofs.Common.{◌≡◌, ℕ, zero, suc, ◌+◌, ◌<◌, ◌≤◌, false, [], map, length, refl, ap, ◌∙◌}
use Rattle.std.proofs.Common.{arith}
use Rattle.std.proofs.Common.{slice_get, unwrap_or, Option, Some, None}
use Rattle.std.specs.Prelude.{is_some}
use Rattle.std.specs.List.{range_with_len}
use Rattle.ss_program.specs.declared.kinds.Owner.TheVariants.{OwnedBy}
use Rattle.ss_program.specs.Program.{ProgramTable, set_of}
use Rattle.ss_store.specs.Tables.{set_shape, no_set}
use Rattle.ss_store.specs.Store.{Store, Entity, entity, members_of}
use Rattle.ss_store.specs.Store.{greatest_number}
use Rattle.ss_debug.specs.Entities.{shape_of, lines_below}
use Rattle.ss_inspect.specs.Lists.{owned_list_with}
use Rattle.ss_inspect.proofs.TextSequences.{none_past}
use Rattle.ss_inspect.proofs.Numbers.{none_there}

get_range : {X : Type 0} (f : ℕ → X) (a n i : ℕ) → i < n → slice_get (map f (range_with_len a n)) i ≡ Some (f (a + i))
get_range f a zero i h = absurd (omega (arith, h))
get_range f a (suc n) zero h = let same : a ≡ a + 0 = omega arith in ap (λ k. Some (f k)) same
get_range f a (suc n) (suc i) h =
    let same : a + 1 + i ≡ a + suc i = omega arith in
    get_range f (a + 1) n i (omega (arith, h)) ∙ ap (λ k. Some (f k)) same

-- a set as the store has it
pub shape_is : (p : ProgramTable) (s : ℕ) → s < length p.sets → shape_of p s ≡ set_shape p s
shape_is p s h =
    let same : 0 + s ≡ s = omega arith in
    ap (λ o. unwrap_or o no_set)
    (get_range (set_shape p) 0 (length p.sets) s h ∙ ap (λ k. Some (set_shape p k)) same)

no_entity : (o : Option Entity) → is_some o ≡ false → o ≡ None
no_entity None h = refl
no_entity (Some e) h = absurd (cc)

-- past the greatest number an owner has no list
none_with : (p : ProgramTable) (st : Store) (s c k i : ℕ) → s < length p.sets → (set_of p s).owner ≡ OwnedBy c →
    greatest_number st c ≤ i → owned_list_with p st s k i ≡ []
none_with p st s c k i h w e =
    let none : entity st c (suc i) ≡ None = no_entity (entity st c (suc i)) (none_there st c i e) in
    let members : members_of (shape_of p s) st (suc i) ≡ [] = rw (shape_is p s h, w, none) refl in
    rw members refl

-- the lists up to a limit that no owner is past are all
pub all_lists : (p : ProgramTable) (st : Store) (s c k m : ℕ) → s < length p.sets → (set_of p s).owner ≡ OwnedBy c →
    greatest_number st c ≤ m →
    lines_below (owned_list_with p st s k) m ≡ lines_below (owned_list_with p st s k) (greatest_number st c)
all_lists p st s c k m h w e =
    none_past (owned_list_with p st s k) (greatest_number st c) m e (λ i f. none_with p st s c k i h w f)
