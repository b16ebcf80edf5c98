-- Reading items from left to right.
use Rattle.std.specs.Prelude.{true, false, List, [], ◌∷◌, Option, Some, None}
use Rattle.ss_words.specs.declared.mark.Mark.{Mark}
use Rattle.ss_words.specs.declared.mark.Mark.TheVariants as m
use Rattle.ss_words.specs.declared.reserved.Reserved.TheVariants as r
use Rattle.ss_words.specs.declared.refusal.Refusal.TheVariants.{Unexpected}
use Rattle.ss_words.specs.Plain.{Plain, mark}
use Rattle.ss_words.specs.Reading.{Reading, ◌>>=◌, pure, refuse, look, skip, many}
use Rattle.ss_words.specs.Marks.{expect, eat, a_name}
use Rattle.ss_words.specs.Lists.{Name, Several, names, names_behind}
use Rattle.ss_preamble.specs.declared.item.Heading.{Heading}
use Rattle.ss_preamble.specs.declared.item.Heading.TheVariants as h
use Rattle.ss_words.specs.declared.terms.Rank.{Rank}
use Rattle.ss_words.specs.declared.terms.Rank.TheVariants as k
use Rattle.ss_preamble.specs.Tree.{Key, Clause, Has, Owns, BelongsTo, Fifo, Lifo, Ranked, Definition, Variables, Sets}
use Rattle.ss_preamble.specs.Tree.{EventRule, PriorityOrder, BreakTies, ExternalEvents, Item, Normally, Headed}
use Rattle.ss_preamble.specs.Tree.{OfEvery, OfSystem, Defines, Orders, Preamble}

-- ---- clauses

-- a clause by its first word
abbrev pub clause_by : Option Plain → Reading (Option Clause)
clause_by (Some (mark (m.Reserved r.Has))) = skip (names >>= λ ns. pure (Some (Has ns)))
clause_by (Some (mark (m.Reserved r.Owns))) = skip (names >>= λ ns. pure (Some (Owns ns)))
clause_by (Some (mark (m.Reserved r.Belongs))) =
    skip (expect (m.Reserved r.To) >>= λ _. names >>= λ ns. pure (Some (BelongsTo ns)))
clause_by _ = pure None

-- a clause, if one is here
unfoldable pub next_clause : Reading (Option Clause)
next_clause = look clause_by

-- a clause
unfoldable pub a_clause : Reading Clause
a_clause = next_clause >>= λ o. elim o [ Some c ↦ pure c | None ↦ refuse Unexpected ]

-- clauses, as long as there are
unfoldable pub other_clauses : Reading (List Clause)
other_clauses = many next_clause [] (λ c cs. c ∷ cs)

-- one or more clauses
unfoldable pub clauses : Reading (Several Clause)
clauses = a_clause >>= λ c. other_clauses >>= λ cs. pure (record { first = c; others = cs })

-- ---- keys

-- HIGH or LOW
unfoldable pub a_rank : Reading Rank
a_rank =
    eat (m.Reserved r.High) >>= λ b. elim b [
      | true ↦ pure k.High
      | false ↦ (expect (m.Reserved r.Low) >>= λ _.
          pure k.Low)
    ]

-- a key
unfoldable pub a_key : Reading Key
a_key = expect (m.Reserved r.By) >>= λ _. a_rank >>= λ b. a_name >>= λ n. pure (record { rank = b; name = n })

-- THEN and a key, or nothing
unfoldable pub next_key : Reading (Option Key)
next_key = eat (m.Reserved r.Then) >>= λ b. elim b [ true ↦ (a_key >>= λ a. pure (Some a)) | false ↦ pure None ]

-- keys, each after its THEN
unfoldable pub other_keys : Reading (List Key)
other_keys = many next_key [] (λ a ks. a ∷ ks)

-- keys with THEN between
unfoldable pub keys : Reading (Several Key)
keys = a_key >>= λ a. other_keys >>= λ ks. pure (record { first = a; others = ks })

-- ---- items

-- the rest of a heading, whose second word this is
unfoldable pub heading_with : Heading → Mark → Reading Item
heading_with heading wanted =
    expect wanted >>= λ _. names_behind (m.Reserved r.Include) >>= λ ns. pure (Headed heading ns)

-- after the names of a DEFINE and its AS, by the next word
abbrev pub definition_by : Several Name → Option Plain → Reading Definition
definition_by ns (Some (mark (m.Reserved r.Integer))) =
    skip (expect (m.Reserved r.Variables) >>= λ _. pure (Variables ns))
definition_by ns (Some (mark (m.Reserved r.Fifo))) = skip (expect (m.Reserved r.Sets) >>= λ _. pure (Sets ns Fifo))
definition_by ns (Some (mark (m.Reserved r.Lifo))) = skip (expect (m.Reserved r.Sets) >>= λ _. pure (Sets ns Lifo))
definition_by ns (Some (mark (m.Reserved r.Sets))) =
    skip (expect (m.Reserved r.Ranked) >>= λ _. keys >>= λ ks. pure (Sets ns (Ranked ks)))
definition_by ns _ = refuse Unexpected

-- after the names of a DEFINE and its AS
unfoldable pub definition_of : Several Name → Reading Definition
definition_of ns = look (definition_by ns)

-- after DEFINE
unfoldable pub definition_with : Reading Definition
definition_with = names >>= λ ns. expect (m.Reserved r.As) >>= λ _. definition_of ns

-- after NORMALLY
unfoldable pub normally_with : Reading Item
normally_with =
    expect (m.Reserved r.Mode) >>= λ _. expect (m.Reserved r.Is) >>= λ _. expect (m.Reserved r.Integer) >>= λ _.
    pure Normally

-- after EVERY
unfoldable pub every_with : Reading Item
every_with = a_name >>= λ n. clauses >>= λ cs. pure (OfEvery n cs)

-- after PRIORITY
unfoldable pub priority_with : Reading EventRule
priority_with =
    expect (m.Reserved r.Order) >>= λ _. expect (m.Reserved r.Is) >>= λ _. names >>= λ ns. pure (PriorityOrder ns)

-- after BREAK
unfoldable pub break_with : Reading EventRule
break_with = a_name >>= λ n. expect (m.Reserved r.Ties) >>= λ _. keys >>= λ ks. pure (BreakTies n ks)

-- after EXTERNAL
unfoldable pub external_with : Reading EventRule
external_with =
    expect (m.Reserved r.Events) >>= λ _. expect (m.Reserved r.Are) >>= λ _. names >>= λ ns. pure (ExternalEvents ns)

-- an item by its first word
abbrev pub item_by : Option Plain → Reading (Option Item)
item_by (Some (mark (m.Reserved r.Normally))) = skip (normally_with >>= λ i. pure (Some i))
item_by (Some (mark (m.Reserved r.Permanent))) =
    skip (heading_with h.PermanentEntities (m.Reserved r.Entities) >>= λ i. pure (Some i))
item_by (Some (mark (m.Reserved r.Temporary))) =
    skip (heading_with h.TemporaryEntities (m.Reserved r.Entities) >>= λ i. pure (Some i))
item_by (Some (mark (m.Reserved r.Event))) =
    skip (heading_with h.EventNotices (m.Reserved r.Notices) >>= λ i. pure (Some i))
item_by (Some (mark (m.Reserved r.Every))) = skip (every_with >>= λ i. pure (Some i))
item_by (Some (mark (m.Reserved r.System))) = skip (clauses >>= λ cs. pure (Some (OfSystem cs)))
item_by (Some (mark (m.Reserved r.Define))) = skip (definition_with >>= λ d. pure (Some (Defines d)))
item_by (Some (mark (m.Reserved r.Priority))) = skip (priority_with >>= λ e. pure (Some (Orders e)))
item_by (Some (mark (m.Reserved r.Break))) = skip (break_with >>= λ e. pure (Some (Orders e)))
item_by (Some (mark (m.Reserved r.External))) = skip (external_with >>= λ e. pure (Some (Orders e)))
item_by _ = pure None

-- an item, if one is here
unfoldable pub next_item : Reading (Option Item)
next_item = look item_by

-- items, as long as there are
unfoldable pub items_with : Reading (List Item)
items_with = many next_item [] (λ i is. i ∷ is)

-- a preamble
unfoldable pub preamble_with : Reading Preamble
preamble_with = expect (m.Reserved r.Preamble) >>= λ _. items_with >>= λ is. expect (m.Reserved r.End) >>= λ _. pure is
