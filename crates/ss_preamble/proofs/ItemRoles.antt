-- The roles of the words of each item, for any words before and after it.
use Rattle.std.proofs.Common.{◌≡◌, ℕ, suc, List, [], ◌∷◌, ◌++◌, Option, Some, None, refl, sym, ap, ◌∙◌, append_assoc}
use Rattle.std.specs.List.{flat_map}
use Rattle.ss_words.specs.declared.reserved.Reserved.TheVariants as r
use Rattle.ss_words.specs.Plain.{Plain, name}
use Rattle.ss_words.specs.Lists.{Name, Several, all_of, spell_others, spell_names}
use Rattle.ss_preamble.specs.declared.item.Heading.{Heading}
use Rattle.ss_preamble.specs.declared.item.Heading.TheVariants as h
use Rattle.ss_words.specs.declared.terms.Rank.{Rank}
use Rattle.ss_words.specs.declared.terms.Rank.TheVariants as k
use Rattle.ss_preamble.specs.Tree.{Key, Clause, Has, Owns, BelongsTo, SetDiscipline, Fifo, Lifo, Ranked, Definition}
use Rattle.ss_preamble.specs.Tree as t
use Rattle.ss_preamble.specs.Tree.{EventRule, PriorityOrder, BreakTies, ExternalEvents, Item, Normally, Headed}
use Rattle.ss_preamble.specs.Tree.{OfEvery, OfSystem, Defines, Orders, Preamble}
use Rattle.ss_preamble.specs.Spelling.{word, spell_clause, spell_clauses, spell_other_clauses, spell_rank, spell_key}
use Rattle.ss_preamble.specs.Spelling.{spell_keys, spell_other_keys, spell_set_discipline, spell_item, spell_items}
use Rattle.ss_preamble.specs.Spelling.{spell}
use Rattle.ss_preamble.specs.Roles.{CountedKind, NoNames, Classes, Owned, Sets, Variables, Keys}
use Rattle.ss_preamble.specs.Roles.{Role, AClass, AVariable, ASet, AKey, Nothing, Standing, at_start, behind_name}
use Rattle.ss_preamble.specs.Roles.{name_role, owned_role, kind_behind_define, kind_behind_as, roles_from, roles}

-- ---- the roles of the words

-- names after the first, each after its comma
abbrev pub others_roles : (Name → Role) → List Name → List Role
others_roles f ns = flat_map (λ n. Nothing ∷ f n ∷ []) ns

-- one or more names
abbrev pub names_roles : (Name → Role) → Several Name → List Role
names_roles f ns = f ns.first ∷ others_roles f ns.others

-- a clause of this owner
abbrev pub clause_roles : Option Name → Clause → List Role
clause_roles o (Has ns) = Nothing ∷ names_roles (λ n. owned_role o) ns
clause_roles o (Owns ns) = Nothing ∷ names_roles ASet ns
clause_roles o (BelongsTo ns) = Nothing ∷ Nothing ∷ names_roles ASet ns

-- one or more clauses of this owner
abbrev pub clauses_roles : Option Name → Several Clause → List Role
clauses_roles o cs = clause_roles o cs.first ++ flat_map (clause_roles o) cs.others

-- keys after this many of their ranking, each after its THEN
abbrev pub other_keys_roles : ℕ → List Key → List Role
other_keys_roles j [] = []
other_keys_roles j (a ∷ ks) = Nothing ∷ Nothing ∷ Nothing ∷ AKey (suc j) ∷ other_keys_roles (suc j) ks

-- the keys of a ranking
abbrev pub keys_roles : Several Key → List Role
keys_roles ks = Nothing ∷ Nothing ∷ AKey 1 ∷ other_keys_roles 1 ks.others

-- the roles of the keys of sets in DEFINE
abbrev pub kind_roles : SetDiscipline → List Role
kind_roles (Ranked ks) = Nothing ∷ Nothing ∷ keys_roles ks
kind_roles _ = Nothing ∷ Nothing ∷ []

-- an item
abbrev pub item_roles : Item → List Role
item_roles Normally = Nothing ∷ Nothing ∷ Nothing ∷ Nothing ∷ []
item_roles (Headed h None) = Nothing ∷ Nothing ∷ []
item_roles (Headed h (Some ns)) = Nothing ∷ Nothing ∷ Nothing ∷ names_roles AClass ns
item_roles (OfEvery n cs) = Nothing ∷ AClass n ∷ clauses_roles (Some n) cs
item_roles (OfSystem cs) = Nothing ∷ clauses_roles None cs
item_roles (Defines (t.Variables ns)) = Nothing ∷ (names_roles (λ n. AVariable) ns ++ Nothing ∷ Nothing ∷ Nothing ∷ [])
item_roles (Defines (t.Sets ns x)) = Nothing ∷ (names_roles ASet ns ++ Nothing ∷ kind_roles x)
item_roles (Orders (PriorityOrder ns)) = Nothing ∷ Nothing ∷ Nothing ∷ names_roles (λ n. Nothing) ns
item_roles (Orders (BreakTies n ks)) = Nothing ∷ Nothing ∷ Nothing ∷ keys_roles ks
item_roles (Orders (ExternalEvents ns)) = Nothing ∷ Nothing ∷ Nothing ∷ names_roles (λ n. Nothing) ns

-- ---- names

-- a standing, by its parts
abbrev standing : CountedKind → Option Name → ℕ → Standing
standing c o j = record { counted = c; owner = o; keys = j }

-- names after the first
abbrev spelled : List Name → List Plain
spelled ns = spell_others (λ n. name n ∷ []) ns

-- names that leave a standing as it is
kept : (a : Standing) → ((n : Name) → behind_name a n ≡ a) → (ns : List Name) (y : List Plain)
    → roles_from a (spelled ns ++ y) ≡ others_roles (name_role a) ns ++ roles_from a y
kept a stays [] y = refl
kept a stays (n ∷ ns) y =
    ap (λ (b : Standing). Nothing ∷ name_role a n ∷ roles_from b (spelled ns ++ y)) (stays n)
    ∙ ap (λ (rs : List Role). Nothing ∷ name_role a n ∷ rs) (kept a stays ns y)

-- one or more of them
all_kept : (a : Standing) → ((n : Name) → behind_name a n ≡ a) → (ns : Several Name) (y : List Plain)
    → roles_from a (spell_names ns ++ y) ≡ names_roles (name_role a) ns ++ roles_from a y
all_kept a stays ns y =
    ap (λ (b : Standing). name_role a ns.first ∷ roles_from b (spelled ns.others ++ y)) (stays ns.first)
    ∙ ap (λ (rs : List Role). name_role a ns.first ∷ rs) (kept a stays ns.others y)

-- names of classes; the last of them owns the names after HAS
class_names : (o : Option Name) (j : ℕ) (ns : List Name) (y : List Plain)
    → (b : Standing) × (roles_from (standing Classes o j) (spelled ns ++ y) ≡ others_roles AClass ns ++ roles_from b y)
class_names o j [] y = (standing Classes o j, refl)
class_names o j (n ∷ ns) y =
    let (b, e) = class_names (Some n) j ns y in (b, ap (λ (rs : List Role). Nothing ∷ AClass n ∷ rs) e)

-- ---- clauses

-- the first words of a text, after a standing, have these roles, and others are after them
abbrev Counts : Standing → List Plain → List Role → List Plain → Type 0
Counts a q rs y = (b : Standing) × (roles_from a (q ++ y) ≡ rs ++ roles_from b y)

clause : (c : CountedKind) (o : Option Name) (j : ℕ) (x : Clause) (y : List Plain)
    → (d : CountedKind) × (roles_from (standing c o j) (spell_clause x ++ y) ≡ clause_roles o x ++ roles_from
    (standing d o j) y)
clause c o j (Has ns) y =
    (Owned, ap (λ (rs : List Role). Nothing ∷ rs) (all_kept (standing Owned o j) (λ n. refl) ns y))
clause c o j (Owns ns) y =
    (Sets, ap (λ (rs : List Role). Nothing ∷ rs) (all_kept (standing Sets o j) (λ n. refl) ns y))
clause c o j (BelongsTo ns) y =
    (Sets, ap (λ (rs : List Role). Nothing ∷ Nothing ∷ rs) (all_kept (standing Sets o j) (λ n. refl) ns y))

other_clauses : (c : CountedKind) (o : Option Name) (j : ℕ) (cs : List Clause) (y : List Plain)
    → Counts (standing c o j) (spell_other_clauses cs) (flat_map (clause_roles o) cs) y
other_clauses c o j [] y = (standing c o j, refl)
other_clauses c o j (x ∷ cs) y =
    let z = spell_other_clauses cs ++ y in
    let (d, e) = clause c o j x z in
    let (b, f) = other_clauses d o j cs y in (
      b,
      ap (roles_from (standing c o j)) (append_assoc (spell_clause x) (spell_other_clauses cs) y) ∙ e
          ∙ ap (λ (rs : List Role). clause_roles o x ++ rs) f
          ∙ sym (append_assoc (clause_roles o x) (flat_map (clause_roles o) cs) (roles_from b y)),
    )

clauses : (c : CountedKind) (o : Option Name) (j : ℕ) (cs : Several Clause) (y : List Plain)
    → Counts (standing c o j) (spell_clauses cs) (clauses_roles o cs) y
clauses c o j cs y = other_clauses c o j (all_of cs) y

-- ---- keys

key : (c : CountedKind) (o : Option Name) (j : ℕ) (a : Key) (y : List Plain)
    → roles_from (standing Keys o j) (spell_key a ++ y)
    ≡ Nothing ∷ Nothing ∷ AKey (suc j) ∷ roles_from (standing Keys o (suc j)) y
key c o j a y = at a.rank
  where
    at : (b : Rank) → roles_from (standing Keys o j) (word r.By ∷ spell_rank b ∷ name a.name ∷ y)
        ≡ Nothing ∷ Nothing ∷ AKey (suc j) ∷ roles_from (standing Keys o (suc j)) y
    at k.High = refl
    at k.Low = refl

other_keys : (o : Option Name) (j : ℕ) (ks : List Key) (y : List Plain)
    → Counts (standing Keys o j) (spell_other_keys ks) (other_keys_roles j ks) y
other_keys o j [] y = (standing Keys o j, refl)
other_keys o j (a ∷ ks) y =
    let (b, e) = other_keys o (suc j) ks y in (
      b,
      ap (λ (rs : List Role). Nothing ∷ rs) (key Keys o j a (spell_other_keys ks ++ y))
          ∙ ap (λ (rs : List Role). Nothing ∷ Nothing ∷ Nothing ∷ AKey (suc j) ∷ rs) e,
    )

keys : (o : Option Name) (ks : Several Key) (y : List Plain)
    → Counts (standing Keys o 0) (spell_keys ks) (keys_roles ks) y
keys o ks y =
    let (b, e) = other_keys o 1 ks.others y in (
      b,
      key Keys o 0 ks.first (spell_other_keys ks.others ++ y)
          ∙ ap (λ (rs : List Role). Nothing ∷ Nothing ∷ AKey 1 ∷ rs) e,
    )

-- ---- DEFINE

-- the word after AS says which kind the names before it are
looked : (ns : List Name) (z : List Plain) → kind_behind_define (spelled ns ++ word r.As ∷ z) ≡ kind_behind_as z
looked [] z = refl
looked (n ∷ ns) z = looked ns z

-- the names of a DEFINE whose next words are z
defined_names : (c : CountedKind) (a : Standing) (ns : Several Name) (z : List Plain) → kind_behind_as z ≡ c
    → ((n : Name) → behind_name (record a { counted = c }) n ≡ record a { counted = c })
    → roles_from a (word r.Define ∷ (spell_names ns ++ word r.As ∷ z))
    ≡ Nothing ∷ (names_roles (name_role (record a { counted = c })) ns ++ Nothing ∷ roles_from
    (record a { counted = c }) z)
defined_names c a ns z e stays =
    ap (λ (d : CountedKind). Nothing ∷ roles_from (record a { counted = d }) (spell_names ns ++ word r.As ∷ z))
    (looked ns.others z ∙ e)
    ∙ ap (λ (rs : List Role). Nothing ∷ rs) (all_kept (record a { counted = c }) stays ns (word r.As ∷ z))

kind : (a : Standing) (x : SetDiscipline) (y : List Plain)
    → Counts (record a { counted = Sets }) (spell_set_discipline x) (kind_roles x) y
kind a Fifo y = (record a { counted = Sets }, refl)
kind a Lifo y = (record a { counted = Sets }, refl)
kind a (Ranked ks) y =
    let (b, e) = keys a.owner ks y in (b, ap (λ (rs : List Role). Nothing ∷ Nothing ∷ rs) e)

kind_is : (x : SetDiscipline) (y : List Plain) → kind_behind_as (spell_set_discipline x ++ y) ≡ Sets
kind_is Fifo y = refl
kind_is Lifo y = refl
kind_is (Ranked ks) y = refl

define : (a : Standing) (d : Definition) (y : List Plain) → Counts a (spell_item (Defines d)) (item_roles (Defines d)) y
define a (t.Variables ns) y =
    let z = word r.Integer ∷ word r.Variables ∷ [] in
    let rs = names_roles (λ n. AVariable) ns in
    let b = record a { counted = Variables } in (
      b,
      ap (λ (q : List Plain). roles_from a (word r.Define ∷ q)) (append_assoc (spell_names ns) (word r.As ∷ z) y)
          ∙ defined_names Variables a ns (z ++ y) refl (λ n. refl)
          ∙ ap (λ (us : List Role). Nothing ∷ us)
          (sym (append_assoc rs (Nothing ∷ Nothing ∷ Nothing ∷ []) (roles_from b y))),
    )
define a (t.Sets ns x) y =
    let rs = names_roles ASet ns in
    let (b, e) = kind a x y in (
      b,
      ap (λ (q : List Plain). roles_from a (word r.Define ∷ q))
          (append_assoc (spell_names ns) (word r.As ∷ spell_set_discipline x) y)
          ∙ defined_names Sets a ns (spell_set_discipline x ++ y) (kind_is x y) (λ n. refl)
          ∙ ap (λ (us : List Role). Nothing ∷ (rs ++ Nothing ∷ us)) e
          ∙ ap (λ (us : List Role). Nothing ∷ us) (sym (append_assoc rs (Nothing ∷ kind_roles x) (roles_from b y))),
    )

-- ---- items

headed : (a : Standing) (x : Heading) (o : Option (Several Name)) (y : List Plain)
    → Counts a (spell_item (Headed x o)) (item_roles (Headed x o)) y
headed a h.PermanentEntities None y = (a, refl)
headed a h.TemporaryEntities None y = (a, refl)
headed a h.EventNotices None y = (a, refl)
headed a x (Some ns) y = at x
  where
    behind : (b : Standing) × (roles_from (record a { counted = Classes }) (spell_names ns ++ y) ≡ names_roles AClass ns
        ++ roles_from b y)
    behind =
        let (b, e) = class_names (Some ns.first) a.keys ns.others y in
        (b, ap (λ (rs : List Role). AClass ns.first ∷ rs) e)

    at : (x : Heading) → Counts a (spell_item (Headed x (Some ns))) (item_roles (Headed x (Some ns))) y
    at h.PermanentEntities = (behind.0, ap (λ (rs : List Role). Nothing ∷ Nothing ∷ Nothing ∷ rs) behind.1)
    at h.TemporaryEntities = (behind.0, ap (λ (rs : List Role). Nothing ∷ Nothing ∷ Nothing ∷ rs) behind.1)
    at h.EventNotices = (behind.0, ap (λ (rs : List Role). Nothing ∷ Nothing ∷ Nothing ∷ rs) behind.1)

uncounted : (a : Standing) (ns : Several Name) (y : List Plain)
    → Counts (record a { counted = NoNames }) (spell_names ns) (names_roles (λ n. Nothing) ns) y
uncounted a ns y = let b = record a { counted = NoNames } in (b, all_kept b (λ n. refl) ns y)

order : (a : Standing) (e : EventRule) (y : List Plain) → Counts a (spell_item (Orders e)) (item_roles (Orders e)) y
order a (PriorityOrder ns) y =
    let (b, e) = uncounted a ns y in (b, ap (λ (rs : List Role). Nothing ∷ Nothing ∷ Nothing ∷ rs) e)
order a (BreakTies n ks) y =
    let (b, e) = keys a.owner ks y in (b, ap (λ (rs : List Role). Nothing ∷ Nothing ∷ Nothing ∷ rs) e)
order a (ExternalEvents ns) y =
    let (b, e) = uncounted a ns y in (b, ap (λ (rs : List Role). Nothing ∷ Nothing ∷ Nothing ∷ rs) e)

item : (a : Standing) (i : Item) (y : List Plain) → Counts a (spell_item i) (item_roles i) y
item a Normally y = (a, refl)
item a (Headed x o) y = headed a x o y
item a (OfEvery n cs) y =
    let (b, e) = clauses Classes (Some n) a.keys cs y in (b, ap (λ (rs : List Role). Nothing ∷ AClass n ∷ rs) e)
item a (OfSystem cs) y =
    let (b, e) = clauses NoNames None a.keys cs y in (b, ap (λ (rs : List Role). Nothing ∷ rs) e)
item a (Defines d) y = define a d y
item a (Orders e) y = order a e y

items : (a : Standing) (is : List Item) (y : List Plain) → Counts a (spell_items is) (flat_map item_roles is) y
items a [] y = (a, refl)
items a (i ∷ is) y =
    let (b, e) = item a i (spell_items is ++ y) in
    let (d, f) = items b is y in (
      d,
      ap (roles_from a) (append_assoc (spell_item i) (spell_items is) y) ∙ e
          ∙ ap (λ (rs : List Role). item_roles i ++ rs) f
          ∙ sym (append_assoc (item_roles i) (flat_map item_roles is) (roles_from d y)),
    )

-- the roles of the words of a preamble
pub roles_of : (is : Preamble) → roles (spell is) ≡ Nothing ∷ (flat_map item_roles is ++ Nothing ∷ [])
roles_of is =
    let (b, e) = items at_start is (word r.End ∷ []) in ap (λ (rs : List Role). Nothing ∷ rs) e
