-- Keys of rankings that are no attributes, by the first of them.
use Rattle.std.proofs.Common.{◌≡◌, ◌||◌, Bool, true, false, cond, List, [], ◌∷◌, refl, sym, ap, ◌∙◌, Option, Some, None}
use Rattle.std.specs.Prelude.{is_some, option_map}
use Rattle.std.specs.List.{find, list_any}
use Rattle.ss_words.specs.Lists.{Name, all_of}
use Rattle.ss_preamble.specs.Tree.{BreakTies, Defines, ExternalEvents, Fifo, Headed, Item, Key, Lifo, Normally}
use Rattle.ss_preamble.specs.Tree.{OfEvery, OfSystem, Orders, PriorityOrder, Ranked, SetDiscipline, Sets, Variables}
use Rattle.ss_check.specs.Declarations.{Declared}
use Rattle.ss_check.specs.Facts.{fact, fact_of}
use Rattle.ss_check.specs.ItemRules.{has_wrong_key, has_wrong_keys, has_wrong_rank, is_wrong_key, wrong_key}
use Rattle.ss_check.specs.ItemRules.{wrong_key_of, wrong_rank, wrong_rank_of}
use Rattle.ss_check.proofs.FactTables.{or_none, some_view}
use Rattle.ss_check.proofs.Tests.{any_map, find_any}

-- one of one or more keys
key_any : (d : Declared) (c : Option Name) (k : Key) (ks : List Key) →
    is_some (wrong_key d c (k ∷ ks)) ≡ has_wrong_key d c (k ∷ ks)
key_any d None k ks = refl
key_any d (Some c) k ks =
    some_view (λ j. j.name) (find (is_wrong_key d c) (k ∷ ks)) ∙ find_any (is_wrong_key d c) (k ∷ ks)

-- one of a discipline
rank_any : (d : Declared) (c : Option Name) (kind : SetDiscipline) →
    is_some (wrong_rank d c kind) ≡ has_wrong_rank d c kind
rank_any d c Fifo = refl
rank_any d c Lifo = refl
rank_any d c (Ranked keys) = key_any d c keys.first keys.others

-- a discipline has a wrong key if there is a first one
pub rank_found : {X : Type 0} (v : X → Name) (o : Option X) (d : Declared) (c : Option Name) (kind : SetDiscipline) →
    option_map v o ≡ wrong_rank d c kind → is_some o ≡ has_wrong_rank d c kind
rank_found v o d c kind h = sym (some_view v o) ∙ ap is_some h ∙ rank_any d c kind

-- one of several sets
sets_any : (d : Declared) (kind : SetDiscipline) (ss : List Name) →
    is_some (wrong_rank_of d kind (find (λ s. has_wrong_rank d (fact_of d.members s) kind) ss))
    ≡ list_any (λ s. has_wrong_rank d (fact_of d.members s) kind) ss
sets_any d kind [] = refl
sets_any d kind (s ∷ ss) = either (has_wrong_rank d (fact_of d.members s) kind) refl (sets_any d kind ss)
  where
    either : (b : Bool) → has_wrong_rank d (fact_of d.members s) kind ≡ b →
        is_some (wrong_rank_of d kind (find (λ t. has_wrong_rank d (fact_of d.members t) kind) ss))
        ≡ list_any (λ t. has_wrong_rank d (fact_of d.members t) kind) ss →
        is_some (wrong_rank_of d kind (cond b (Some s) (find (λ t. has_wrong_rank d (fact_of d.members t) kind) ss)))
        ≡ (b || list_any (λ t. has_wrong_rank d (fact_of d.members t) kind) ss)
    either true e h = rank_any d (fact_of d.members s) kind ∙ e
    either false e h = h

-- one of an item
keys_any : (d : Declared) (i : Item) → is_some (wrong_key_of d i) ≡ has_wrong_keys d i
keys_any d (Defines (Variables names)) = refl
keys_any d (Defines (Sets names kind)) =
    sets_any d kind (all_of names)
    ∙ sym (any_map (λ s. has_wrong_rank d (fact_of d.members s.name) s.what) (λ n. fact n kind) (all_of names))
    ∙ sym (or_none _)
keys_any d (Orders (BreakTies c keys)) = key_any d (Some c) keys.first keys.others ∙ sym (or_none _)
keys_any d (Orders (ExternalEvents names)) = refl
keys_any d (Orders (PriorityOrder names)) = refl
keys_any d (Headed h names) = refl
keys_any d (OfEvery c clauses) = refl
keys_any d (OfSystem clauses) = refl
keys_any d Normally = refl

-- an item has a wrong key if there is a first one
pub keys_found : {X : Type 0} (v : X → Name) (o : Option X) (d : Declared) (i : Item) →
    option_map v o ≡ wrong_key_of d i → is_some o ≡ has_wrong_keys d i
keys_found v o d i h = sym (some_view v o) ∙ ap is_some h ∙ keys_any d i
