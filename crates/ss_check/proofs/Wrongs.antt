-- What is wrong with items and heads, by tables to which they are added.
use Rattle.std.proofs.Common.{◌≡◌, Bool, true, false, List, [], ◌∷◌, ◌++◌, length, suc, refl, ap, ◌∙◌, Option}
use Rattle.std.proofs.Common.{Some, None, nat_lt, arith}
use Rattle.std.specs.Prelude.{is_some}
use Rattle.std.specs.Option.{option_or}
use Rattle.std.proofs.lemmas.Grind.{common_steps}
use Rattle.std.proofs.lemmas.List.{length-append, map-append}
use Rattle.ss_words.specs.Lists.{Name}
use Rattle.ss_preamble.specs.Tree.{Item}
use Rattle.ss_routines.specs.Tree.{Head, MainHead, RoutineHead, EventHead}
use Rattle.ss_check.specs.declared.fault.CheckRule.{CheckRule}
use Rattle.ss_check.specs.declared.fault.CheckRule.TheVariants as rule
use Rattle.ss_check.specs.Facts.{Fact, first_repeat, names_of, repeats}
use Rattle.ss_check.specs.NameKind.{NameKind}
use Rattle.ss_check.specs.NameKinds.{first_conflict, one_conflicts}
use Rattle.ss_check.specs.Declarations.{Declared, HeadedItem, declarations, disciplined_sets, external_in}
use Rattle.ss_check.specs.Declarations.{members_in, owners_in, priority_in, routine_facts, tied_events}
use Rattle.ss_check.specs.Increments.{IsOnce, head_twice_with, head_wrong_with, item_wrong_with}
use Rattle.ss_check.specs.Increments.{priority_with, with_head, with_item}
use Rattle.ss_check.specs.ItemRules.{head_twice, head_wrong, item_wrong}
use Rattle.ss_check.specs.ItemRules.{wrong_priority}
use Rattle.ss_check.proofs.Conflicts.{conflict_append, conflict_is}
use Rattle.ss_check.proofs.FactTables.{repeat_append, repeat_is}

nothing : (o : Option Name) (b : Bool) → is_some o ≡ b → b ≡ false → o ≡ None
nothing None b h e = refl
nothing (Some n) b h e = cc

-- after names without a repeat
pub repeat_behind : (ns ms : List Name) → repeats [] ns ≡ false → first_repeat [] (ns ++ ms) ≡ first_repeat ns ms
repeat_behind ns ms h =
    repeat_append [] ns ms
    ∙ ap (λ (o : Option Name). option_or o (first_repeat ns ms))
    (nothing (first_repeat [] ns) (repeats [] ns) (repeat_is [] ns) h)

-- after declarations without a conflict
pub conflict_behind : (fs gs : List (Fact NameKind)) → one_conflicts [] fs ≡ false →
    first_conflict [] (fs ++ gs) ≡ first_conflict fs gs
conflict_behind fs gs h =
    conflict_append [] fs gs
    ∙ ap (λ (o : Option Name). option_or o (first_conflict fs gs))
    (nothing (first_conflict [] fs) (one_conflicts [] fs) (conflict_is [] fs) h)

-- after facts without a repeat
names_behind : {A : Type 0} (fs gs : List (Fact A)) → repeats [] (names_of fs) ≡ false →
    first_repeat [] (names_of (fs ++ gs)) ≡ first_repeat (names_of fs) (names_of gs)
names_behind fs gs h =
    ap (first_repeat []) (map-append (λ f. f.name) fs gs) ∙ repeat_behind (names_of fs) (names_of gs) h

-- ---- items

not_fewer : (n : List Name) → nat_lt (length n) (length n) ≡ false
not_fewer n = grind (arith, common_steps)

fewer : (cs ns : List Name) → nat_lt (length ns) (suc (length (cs ++ ns))) ≡ true
fewer cs ns = rw (length-append cs ns) (grind (arith, common_steps))

priority_is : (d b : Declared) (t : Declared) (before : List Name) (i : Item) → t.priority ≡ before ++ priority_in i →
    priority_with d t i ≡ wrong_priority d b before i
priority_is d b t [] i e = rw (e, not_fewer (priority_in i)) refl
priority_is d b t (c ∷ cs) i e = rw (e, fewer cs (priority_in i)) refl

-- what is wrong with an item, by the tables with it
pub item_wrong_is : (d b t : Declared) (x : HeadedItem) (r : CheckRule) → IsOnce b → t ≡ with_item b x →
    item_wrong_with d t x.item r ≡ item_wrong d b x r
unfolding with_item
item_wrong_is d b t x rule.DeclaredTwice o e =
    rw (
      e,
      conflict_behind b.kinds (declarations x) o.kinds,
      repeat_behind b.disciplines (disciplined_sets x.item) o.disciplines,
      repeat_behind b.ties (tied_events x.item) o.ties,
      repeat_behind b.external (external_in x.item) o.external,
    )
    refl
item_wrong_is d b t x rule.WrongClass o e = refl
item_wrong_is d b t x rule.WrongOwner o e = rw (e, names_behind b.owners (owners_in x.item) o.owners) refl
item_wrong_is d b t x rule.WrongMember o e = rw (e, names_behind b.members (members_in x.item) o.members) refl
item_wrong_is d b t x rule.WrongKey o e = refl
item_wrong_is d b t x rule.WrongEvent o e = refl
item_wrong_is d b t x rule.WrongUse o e = priority_is d b t b.priority x.item (ap (λ (a : Declared). a.priority) e)
item_wrong_is d b t x rule.WrongCount o e = priority_is d b t b.priority x.item (ap (λ (a : Declared). a.priority) e)
item_wrong_is d b t x rule.FixedTarget o e = priority_is d b t b.priority x.item (ap (λ (a : Declared). a.priority) e)
item_wrong_is d b t x rule.WrongPicture o e = priority_is d b t b.priority x.item (ap (λ (a : Declared). a.priority) e)
item_wrong_is d b t x rule.WrongMain o e = priority_is d b t b.priority x.item (ap (λ (a : Declared). a.priority) e)
item_wrong_is d b t x rule.WrongPriority o e =
    priority_is d b t b.priority x.item (ap (λ (a : Declared). a.priority) e)
item_wrong_is d b t x rule.StartOutsideMain o e =
    priority_is d b t b.priority x.item (ap (λ (a : Declared). a.priority) e)
item_wrong_is d b t x rule.WithoutFind o e = priority_is d b t b.priority x.item (ap (λ (a : Declared). a.priority) e)

-- ---- heads

-- nothing conflicts before
no_conflict : (b : Declared) → IsOnce b → first_conflict [] b.kinds ≡ None
no_conflict b o = nothing (first_conflict [] b.kinds) (one_conflicts [] b.kinds) (conflict_is [] b.kinds) o.kinds

-- no event class has two sections before
no_repeat : (b : Declared) → IsOnce b → first_repeat [] b.events ≡ None
no_repeat b o = nothing (first_repeat [] b.events) (repeats [] b.events) (repeat_is [] b.events) o.events

-- what is wrong with a head that breaks C1, by the tables with it
twice_is : (d b : Declared) (h : Head) → IsOnce b → head_twice_with d (with_head b h) h ≡ head_twice d b h
unfolding with_head
twice_is d b MainHead o = rw (no_conflict b o, no_repeat b o) refl
twice_is d b (RoutineHead n given yielded) o =
    rw (conflict_behind b.kinds (routine_facts (RoutineHead n given yielded)) o.kinds, no_repeat b o) refl
twice_is d b (EventHead n given saving) o =
    rw (no_conflict b o, repeat_behind b.events (n ∷ []) o.events) refl

-- what is wrong with a head, by the tables with it
pub head_wrong_is : (d b t : Declared) (h : Head) (r : CheckRule) → IsOnce b → t ≡ with_head b h →
    head_wrong_with d t h r ≡ head_wrong d b h r
head_wrong_is d b t h rule.DeclaredTwice o e =
    ap (λ (a : Declared). head_twice_with d a h) e ∙ twice_is d b h o
head_wrong_is d b t h rule.WrongCount o e = refl
head_wrong_is d b t h rule.WrongEvent o e = refl
head_wrong_is d b t h rule.WrongClass o e = refl
head_wrong_is d b t h rule.WrongUse o e = refl
head_wrong_is d b t h rule.WrongOwner o e = refl
head_wrong_is d b t h rule.WrongMember o e = refl
head_wrong_is d b t h rule.WrongKey o e = refl
head_wrong_is d b t h rule.FixedTarget o e = refl
head_wrong_is d b t h rule.WrongPicture o e = refl
head_wrong_is d b t h rule.WrongMain o e = refl
head_wrong_is d b t h rule.WrongPriority o e = refl
head_wrong_is d b t h rule.StartOutsideMain o e = refl
head_wrong_is d b t h rule.WithoutFind o e = refl
