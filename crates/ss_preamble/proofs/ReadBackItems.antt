-- A preamble that is spelled is read again.
use Rattle.std.proofs.Common.{◌≡◌, ℕ, zero, suc, ◌<◌, true, false, List, [], ◌∷◌, ◌++◌, length, length-append, Option}
use Rattle.std.proofs.Common.{Some, None, Ok, refl, ap, ◌∙◌, append_assoc, arith}
use Rattle.ss_words.specs.declared.mark.Mark.{Mark}
use Rattle.ss_words.specs.declared.mark.Mark.TheVariants as m
use Rattle.ss_words.specs.declared.reserved.Reserved.TheVariants as r
use Rattle.ss_words.specs.Plain.{Plain, name, mark, first}
use Rattle.ss_words.specs.Reading.{Reading, bind, pure, look, skip, many_from, many}
use Rattle.ss_words.specs.Marks.{is, expect, eat, a_name}
use Rattle.ss_words.specs.Lists.{Several, spell_names, spell_names_behind, names, names_behind}
use Rattle.ss_words.proofs.Marks.{expect_read_back, eat_read_back, not_eaten, name_read_back}
use Rattle.ss_words.proofs.ReadBack.{then, many_ends, many_goes}
use Rattle.ss_words.proofs.Lists.{no_comma, names-read_back, names_behind-read_back}
use Rattle.ss_preamble.specs.declared.item.Heading.{Heading}
use Rattle.ss_preamble.specs.declared.item.Heading.TheVariants as h
use Rattle.ss_words.specs.declared.terms.Rank.{Rank}
use Rattle.ss_words.specs.declared.terms.Rank.TheVariants as k
use Rattle.ss_preamble.specs.Tree.{Key, Clause, Has, Owns, BelongsTo, SetDiscipline, Fifo, Lifo, Ranked, Definition}
use Rattle.ss_preamble.specs.Tree.{Variables, Sets, PriorityOrder, BreakTies, ExternalEvents, Item, Normally, Headed}
use Rattle.ss_preamble.specs.Tree.{OfEvery, OfSystem, Defines, Orders, Preamble}
use Rattle.ss_preamble.specs.Spelling.{word, spell_clause, spell_other_clauses, spell_clauses, spell_rank, spell_key}
use Rattle.ss_preamble.specs.Spelling.{spell_other_keys, spell_keys, spell_set_discipline, spell_item, spell_items}
use Rattle.ss_preamble.specs.Spelling.{spell}
use Rattle.ss_preamble.specs.ItemReading.{clause_by, next_clause, a_clause, other_clauses, clauses, a_rank, a_key}
use Rattle.ss_preamble.specs.ItemReading.{next_key, other_keys, keys, heading_with, definition_of, definition_with}
use Rattle.ss_preamble.specs.ItemReading.{normally_with, every_with, priority_with, break_with, external_with}
use Rattle.ss_preamble.specs.ItemReading.{next_item, items_with, preamble_with}
use Rattle.ss_preamble.proofs.ReadingIsLocal.{some_clause, some_item}

-- a text that goes on with no part of an item
record Ends (y : List Plain) : Type 0 where
  pub comma : no_comma y
  pub include : is (m.Reserved r.Include) (first y) ≡ false
  pub further : is (m.Reserved r.Then) (first y) ≡ false
  pub clause : clause_by (first y) ≡ pure None

-- the part after a word that was expected
behind : {A : Type 0} (w : Mark) (p : Unit {0} → Reading A) (y : List Plain) → bind (expect w) p (mark w ∷ y) ≡ p tt y
behind w p y = then (expect w) p tt (mark w ∷ y) y (expect_read_back w y)

-- ---- clauses

clause_comma : (cs : List Clause) (y : List Plain) → no_comma y → no_comma (spell_other_clauses cs ++ y)
clause_comma [] y h = h
clause_comma (Has ns ∷ cs) y h = refl
clause_comma (Owns ns ∷ cs) y h = refl
clause_comma (BelongsTo ns ∷ cs) y h = refl

clause_read_back : (c : Clause) (y : List Plain) → no_comma y → next_clause (spell_clause c ++ y) ≡ (Ok (Some c), y)
unfolding next_clause look skip pure
clause_read_back (Has ns) y h = then names _ ns (spell_names ns ++ y) y (names-read_back ns y h)
clause_read_back (Owns ns) y h = then names _ ns (spell_names ns ++ y) y (names-read_back ns y h)
clause_read_back (BelongsTo ns) y h =
    behind (m.Reserved r.To) _ (spell_names ns ++ y) ∙ then names _ ns (spell_names ns ++ y) y (names-read_back ns y h)

no_clause : (y : List Plain) → clause_by (first y) ≡ pure None → next_clause y ≡ (Ok None, y)
unfolding next_clause look pure
no_clause y e = ap (λ (p : Reading (Option Clause)). p y) e

others_read_back : (cs : List Clause) (y : List Plain) (n : ℕ) → Ends y → length (spell_other_clauses cs ++ y) < n
    → many_from next_clause [] (λ c cs. c ∷ cs) n (spell_other_clauses cs ++ y) ≡ (Ok cs, y)
others_read_back [] y zero e lt = absurd (omega arith)
others_read_back [] y (suc n) e lt = many_ends next_clause [] (λ c cs. c ∷ cs) n y y (no_clause y e.clause)
others_read_back (c ∷ cs) y zero e lt = absurd (omega arith)
others_read_back (c ∷ cs) y (suc n) e lt =
    let z = spell_other_clauses cs ++ y in
    ap (many_from next_clause [] (λ c cs. c ∷ cs) (suc n)) (append_assoc (spell_clause c) (spell_other_clauses cs) y)
    ∙ many_goes next_clause [] (λ c cs. c ∷ cs) n c cs (spell_clause c ++ z) z y
    (clause_read_back c z (clause_comma cs y e.comma))
    (others_read_back cs y n e (omega (
      arith,
      some_clause c,
      length-append (spell_clause c ++ spell_other_clauses cs) y,
      length-append
          (spell_clause c) (spell_other_clauses cs),
      length-append (spell_other_clauses cs) y,
    )))

a_clause-read_back : (c : Clause) (y : List Plain) → no_comma y → a_clause (spell_clause c ++ y) ≡ (Ok c, y)
unfolding a_clause pure
a_clause-read_back c y h = then next_clause _ (Some c) (spell_clause c ++ y) y (clause_read_back c y h)

clauses-read_back : (cs : Several Clause) (y : List Plain) → Ends y → clauses (spell_clauses cs ++ y) ≡ (Ok cs, y)
unfolding clauses other_clauses many pure
clauses-read_back cs y e =
    let z = spell_other_clauses cs.others ++ y in
    ap clauses (append_assoc (spell_clause cs.first) (spell_other_clauses cs.others) y)
    ∙ then a_clause _ cs.first (spell_clause cs.first ++ z) z
    (a_clause-read_back cs.first z (clause_comma cs.others y e.comma))
    ∙ then other_clauses _ cs.others z y (others_read_back cs.others y (suc (length z)) e (omega arith))

-- ---- keys

rank_read_back : (b : Rank) (y : List Plain) → a_rank (spell_rank b ∷ y) ≡ (Ok b, y)
unfolding a_rank pure
rank_read_back k.High y =
    then (eat (m.Reserved r.High)) _ true (word r.High ∷ y) y (eat_read_back (m.Reserved r.High) y)
rank_read_back k.Low y =
    then (eat (m.Reserved r.High)) _ false (word r.Low ∷ y) (word r.Low ∷ y)
    (not_eaten (m.Reserved r.High) (word r.Low ∷ y) refl) ∙ behind (m.Reserved r.Low) _ y

key_read_back : (a : Key) (y : List Plain) → a_key (spell_key a ++ y) ≡ (Ok a, y)
unfolding a_key pure
key_read_back a y =
    behind (m.Reserved r.By) _ (spell_rank a.rank ∷ name a.name ∷ y)
    ∙ then a_rank _ a.rank (spell_rank a.rank ∷ name a.name ∷ y) (name a.name ∷ y)
    (rank_read_back a.rank (name a.name ∷ y))
    ∙ then a_name _ a.name (name a.name ∷ y) y (name_read_back a.name y)

other_keys_read_back : (ks : List Key) (y : List Plain) (n : ℕ) → Ends y → length (spell_other_keys ks ++ y) < n
    → many_from next_key [] (λ a ks. a ∷ ks) n (spell_other_keys ks ++ y) ≡ (Ok ks, y)
unfolding next_key pure
other_keys_read_back [] y zero e lt = absurd (omega arith)
other_keys_read_back [] y (suc n) e lt =
    many_ends next_key [] (λ a ks. a ∷ ks) n y y
    (then (eat (m.Reserved r.Then)) _ false y y (not_eaten (m.Reserved r.Then) y e.further))
other_keys_read_back (a ∷ ks) y zero e lt = absurd (omega arith)
other_keys_read_back (a ∷ ks) y (suc n) e lt =
    let z = spell_other_keys ks ++ y in
    many_goes next_key [] (λ a ks. a ∷ ks) n a ks (word r.Then ∷ (spell_key a ++ z)) z y
    (then (eat (m.Reserved r.Then)) _ true (word r.Then ∷ (spell_key a ++ z)) (spell_key a ++ z)
    (eat_read_back (m.Reserved r.Then) _) ∙ then a_key _ a (spell_key a ++ z) z (key_read_back a z))
    (other_keys_read_back ks y n e (omega arith))

keys-read_back : (ks : Several Key) (y : List Plain) → Ends y → keys (spell_keys ks ++ y) ≡ (Ok ks, y)
unfolding keys other_keys many pure
keys-read_back ks y e =
    let z = spell_other_keys ks.others ++ y in
    then a_key _ ks.first (spell_key ks.first ++ z) z (key_read_back ks.first z)
    ∙ then other_keys _ ks.others z y (other_keys_read_back ks.others y (suc (length z)) e (omega arith))

-- ---- items

heading-read_back : (x : Heading) (b : Mark) (ns : Option (Several _)) (y : List Plain) → Ends y
    → heading_with x b (mark b ∷ (spell_names_behind (m.Reserved r.Include) ns ++ y)) ≡ (Ok (Headed x ns), y)
unfolding heading_with pure
heading-read_back x b ns y e =
    let z = spell_names_behind (m.Reserved r.Include) ns ++ y in
    behind b _ z ∙ then (names_behind (m.Reserved r.Include)) _ ns z y
    (names_behind-read_back (m.Reserved r.Include) ns y e.comma e.include)

kind-read_back : (ns : Several _) (x : SetDiscipline) (y : List Plain) → Ends y
    → definition_of ns (spell_set_discipline x ++ y) ≡ (Ok (Sets ns x), y)
unfolding definition_of look skip pure
kind-read_back ns Fifo y e = behind (m.Reserved r.Sets) _ y
kind-read_back ns Lifo y e = behind (m.Reserved r.Sets) _ y
kind-read_back ns (Ranked ks) y e =
    behind (m.Reserved r.Ranked) _ (spell_keys ks ++ y) ∙ then keys _ ks (spell_keys ks ++ y) y (keys-read_back ks y e)

defined-read_back : (ns : Several _) (z : List Plain)
    → definition_with (spell_names ns ++ word r.As ∷ z) ≡ definition_of ns z
unfolding definition_with
defined-read_back ns z =
    then names _ ns (spell_names ns ++ word r.As ∷ z) (word r.As ∷ z) (names-read_back ns (word r.As ∷ z) refl)
    ∙ behind (m.Reserved r.As) _ z

-- after DEFINE
abbrev rest_of_definition : Definition → List Plain
rest_of_definition (Variables ns) = spell_names ns ++ word r.As ∷ word r.Integer ∷ word r.Variables ∷ []
rest_of_definition (Sets ns x) = spell_names ns ++ word r.As ∷ spell_set_discipline x

definition-read_back : (d : Definition) (y : List Plain) → Ends y
    → definition_with (rest_of_definition d ++ y) ≡ (Ok d, y)
unfolding definition_of look skip pure
definition-read_back (Variables ns) y e =
    ap definition_with (append_assoc (spell_names ns) (word r.As ∷ word r.Integer ∷ word r.Variables ∷ []) y)
    ∙ defined-read_back ns (word r.Integer ∷ word r.Variables ∷ y) ∙ behind (m.Reserved r.Variables) _ y
definition-read_back (Sets ns x) y e =
    ap definition_with (append_assoc (spell_names ns) (word r.As ∷ spell_set_discipline x) y)
    ∙ defined-read_back ns (spell_set_discipline x ++ y) ∙ kind-read_back ns x y e

-- an item whose first word was passed
some_read_back : {A : Type 0} (f : A → Item) (p : Reading A) (a : A) (z y : List Plain) → p z ≡ (Ok a, y)
    → bind p (λ a. pure (Some (f a))) z ≡ (Ok (Some (f a)), y)
unfolding pure
some_read_back f p a z y e = then p _ a z y e

normally-read_back : (y : List Plain) → normally_with (word r.Mode ∷ word r.Is ∷ word r.Integer ∷ y) ≡ (Ok Normally, y)
unfolding normally_with pure
normally-read_back y =
    behind (m.Reserved r.Mode) _ (word r.Is ∷ word r.Integer ∷ y) ∙ behind (m.Reserved r.Is) _ (word r.Integer ∷ y)
    ∙ behind (m.Reserved r.Integer) _ y

every-read_back : (n : List ℕ) (cs : Several Clause) (y : List Plain) → Ends y
    → every_with (name n ∷ (spell_clauses cs ++ y)) ≡ (Ok (OfEvery n cs), y)
unfolding every_with pure
every-read_back n cs y e =
    then a_name _ n (name n ∷ (spell_clauses cs ++ y)) (spell_clauses cs ++ y) (name_read_back n _)
    ∙ then clauses _ cs (spell_clauses cs ++ y) y (clauses-read_back cs y e)

priority-read_back : (ns : Several _) (y : List Plain) → Ends y
    → priority_with (word r.Order ∷ word r.Is ∷ (spell_names ns ++ y)) ≡ (Ok (PriorityOrder ns), y)
unfolding priority_with pure
priority-read_back ns y e =
    behind (m.Reserved r.Order) _ (word r.Is ∷ (spell_names ns ++ y)) ∙ behind (m.Reserved r.Is) _ (spell_names ns ++ y)
    ∙ then names _ ns (spell_names ns ++ y) y (names-read_back ns y e.comma)

break-read_back : (n : List ℕ) (ks : Several Key) (y : List Plain) → Ends y
    → break_with (name n ∷ word r.Ties ∷ (spell_keys ks ++ y)) ≡ (Ok (BreakTies n ks), y)
unfolding break_with pure
break-read_back n ks y e =
    then a_name _ n (name n ∷ word r.Ties ∷ (spell_keys ks ++ y)) (word r.Ties ∷ (spell_keys ks ++ y))
    (name_read_back n _) ∙ behind (m.Reserved r.Ties) _ (spell_keys ks ++ y)
    ∙ then keys _ ks (spell_keys ks ++ y) y (keys-read_back ks y e)

external-read_back : (ns : Several _) (y : List Plain) → Ends y
    → external_with (word r.Events ∷ word r.Are ∷ (spell_names ns ++ y)) ≡ (Ok (ExternalEvents ns), y)
unfolding external_with pure
external-read_back ns y e =
    behind (m.Reserved r.Events) _ (word r.Are ∷ (spell_names ns ++ y))
    ∙ behind (m.Reserved r.Are) _ (spell_names ns ++ y)
    ∙ then names _ ns (spell_names ns ++ y) y (names-read_back ns y e.comma)

item_read_back : (i : Item) (y : List Plain) → Ends y → next_item (spell_item i ++ y) ≡ (Ok (Some i), y)
unfolding next_item look skip
item_read_back Normally y e = some_read_back (λ i. i) normally_with Normally _ y (normally-read_back y)
item_read_back (Headed h.PermanentEntities ns) y e =
    some_read_back (λ i. i) _ (Headed h.PermanentEntities ns) _ y
    (heading-read_back h.PermanentEntities (m.Reserved r.Entities) ns y e)
item_read_back (Headed h.TemporaryEntities ns) y e =
    some_read_back (λ i. i) _ (Headed h.TemporaryEntities ns) _ y
    (heading-read_back h.TemporaryEntities (m.Reserved r.Entities) ns y e)
item_read_back (Headed h.EventNotices ns) y e =
    some_read_back (λ i. i) _ (Headed h.EventNotices ns) _ y
    (heading-read_back h.EventNotices (m.Reserved r.Notices) ns y e)
item_read_back (OfEvery n cs) y e = some_read_back (λ i. i) every_with (OfEvery n cs) _ y (every-read_back n cs y e)
item_read_back (OfSystem cs) y e = some_read_back OfSystem clauses cs _ y (clauses-read_back cs y e)
item_read_back (Defines (Variables ns)) y e =
    some_read_back Defines definition_with (Variables ns) _ y (definition-read_back (Variables ns) y e)
item_read_back (Defines (Sets ns x)) y e =
    some_read_back Defines definition_with (Sets ns x) _ y (definition-read_back (Sets ns x) y e)
item_read_back (Orders (PriorityOrder ns)) y e =
    some_read_back Orders priority_with (PriorityOrder ns) _ y (priority-read_back ns y e)
item_read_back (Orders (BreakTies n ks)) y e =
    some_read_back Orders break_with (BreakTies n ks) _ y (break-read_back n ks y e)
item_read_back (Orders (ExternalEvents ns)) y e =
    some_read_back Orders external_with (ExternalEvents ns) _ y (external-read_back ns y e)

item_ends : (i : Item) (y : List Plain) → Ends (spell_item i ++ y)
item_ends Normally y = record { comma = refl; include = refl; further = refl; clause = refl }
item_ends (Headed h.PermanentEntities ns) y = record { comma = refl; include = refl; further = refl; clause = refl }
item_ends (Headed h.TemporaryEntities ns) y = record { comma = refl; include = refl; further = refl; clause = refl }
item_ends (Headed h.EventNotices ns) y = record { comma = refl; include = refl; further = refl; clause = refl }
item_ends (OfEvery n cs) y = record { comma = refl; include = refl; further = refl; clause = refl }
item_ends (OfSystem cs) y = record { comma = refl; include = refl; further = refl; clause = refl }
item_ends (Defines (Variables ns)) y = record { comma = refl; include = refl; further = refl; clause = refl }
item_ends (Defines (Sets ns x)) y = record { comma = refl; include = refl; further = refl; clause = refl }
item_ends (Orders (PriorityOrder ns)) y = record { comma = refl; include = refl; further = refl; clause = refl }
item_ends (Orders (BreakTies n ks)) y = record { comma = refl; include = refl; further = refl; clause = refl }
item_ends (Orders (ExternalEvents ns)) y = record { comma = refl; include = refl; further = refl; clause = refl }

-- items, and the END after them
items_end : (is : List Item) (y : List Plain) → Ends (spell_items is ++ word r.End ∷ y)
items_end [] y = record { comma = refl; include = refl; further = refl; clause = refl }
items_end (i ∷ is) y =
    let e : (spell_item i ++ spell_items is) ++ word r.End ∷ y ≡ spell_item i ++ (spell_items is ++ word r.End ∷ y) =
    append_assoc (spell_item i) (spell_items is) (word r.End ∷ y) in
    rw e (item_ends i (spell_items is ++ word r.End ∷ y))

no_item : (y : List Plain) → next_item (word r.End ∷ y) ≡ (Ok None, word r.End ∷ y)
unfolding next_item look pure
no_item y = refl

items_read_back : (is : List Item) (y : List Plain) (n : ℕ) → length (spell_items is ++ word r.End ∷ y) < n
    → many_from next_item [] (λ i is. i ∷ is) n (spell_items is ++ word r.End ∷ y) ≡ (Ok is, word r.End ∷ y)
items_read_back [] y zero lt = absurd (omega arith)
items_read_back [] y (suc n) lt =
    many_ends next_item [] (λ i is. i ∷ is) n (word r.End ∷ y) (word r.End ∷ y) (no_item y)
items_read_back (i ∷ is) y zero lt = absurd (omega arith)
items_read_back (i ∷ is) y (suc n) lt =
    let z = spell_items is ++ word r.End ∷ y in
    ap (many_from next_item [] (λ i is. i ∷ is) (suc n)) (append_assoc (spell_item i) (spell_items is) (word r.End ∷ y))
    ∙ many_goes next_item [] (λ i is. i ∷ is) n i is (spell_item i ++ z) z (word r.End ∷ y)
    (item_read_back i z (items_end is y))
    (items_read_back is y n (omega (
      arith,
      some_item i,
      length-append (spell_item i ++ spell_items is) (word r.End ∷ y),
      length-append
          (spell_item i) (spell_items is),
      length-append (spell_items is) (word r.End ∷ y),
    )))

pub preamble-read_back : (is : Preamble) (y : List Plain) → preamble_with (spell is ++ y) ≡ (Ok is, y)
unfolding preamble_with items_with many pure
preamble-read_back is y =
    let z = spell_items is ++ word r.End ∷ y in
    ap (λ (u : List Plain). preamble_with (word r.Preamble ∷ u)) (append_assoc (spell_items is) (word r.End ∷ []) y)
    ∙ behind (m.Reserved r.Preamble) _ z
    ∙ then items_with _ is z (word r.End ∷ y) (items_read_back is y (suc (length z)) (omega arith))
    ∙ behind (m.Reserved r.End) _ y
