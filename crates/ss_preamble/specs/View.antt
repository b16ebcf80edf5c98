-- The pure data for items.
use Rattle.std.specs.Prelude.{List, map}
use Rattle.ss_words.specs.Reading.{option_view}
use Rattle.ss_words.specs.Lists.{several_view}
use Rattle.ss_preamble.specs.declared.item.Clause.{Clause as CodeClause}
use Rattle.ss_preamble.specs.declared.item.Clause.TheVariants as c
use Rattle.ss_preamble.specs.declared.item.Key.{Key as CodeKey}
use Rattle.ss_preamble.specs.declared.item.SetDiscipline.{SetDiscipline as CodeSetKind}
use Rattle.ss_preamble.specs.declared.item.SetDiscipline.TheVariants as s
use Rattle.ss_preamble.specs.declared.item.Definition.{Definition as CodeDefinition}
use Rattle.ss_preamble.specs.declared.item.Definition.TheVariants as d
use Rattle.ss_preamble.specs.declared.item.EventRule.{EventRule as CodeEventRule}
use Rattle.ss_preamble.specs.declared.item.EventRule.TheVariants as e
use Rattle.ss_preamble.specs.declared.item.Item.{Item as CodeItem}
use Rattle.ss_preamble.specs.declared.item.Item.TheVariants as i
use Rattle.ss_preamble.specs.declared.item.ItemAt.{ItemAt as CodeItemAt}
use Rattle.ss_preamble.specs.declared.item.Decls.{Decls as CodeDecls}
use Rattle.ss_preamble.specs.Tree.{Key, Clause, Has, Owns, BelongsTo, SetDiscipline, Fifo, Lifo, Ranked, Definition}
use Rattle.ss_preamble.specs.Tree.{Variables, Sets, EventRule, PriorityOrder, BreakTies, ExternalEvents, Item}
use Rattle.ss_preamble.specs.Tree.{Normally, Headed, OfEvery, OfSystem, Defines, Orders, ItemAt, Decls}

-- a clause
abbrev pub clause_view : CodeClause → Clause
clause_view (c.Has ns) = Has (several_view (λ n. n) ns)
clause_view (c.Owns ns) = Owns (several_view (λ n. n) ns)
clause_view (c.BelongsTo ns) = BelongsTo (several_view (λ n. n) ns)

-- a key
abbrev pub key_view : CodeKey → Key
key_view k = record { rank = k.rank; name = k.name }

-- the discipline of the sets of a DEFINE
abbrev pub set_discipline_view : CodeSetKind → SetDiscipline
set_discipline_view s.Fifo = Fifo
set_discipline_view s.Lifo = Lifo
set_discipline_view (s.Ranked ks) = Ranked (several_view key_view ks)

-- a DEFINE
abbrev pub definition_view : CodeDefinition → Definition
definition_view (d.Variables ns) = Variables (several_view (λ n. n) ns)
definition_view (d.Sets ns k) = Sets (several_view (λ n. n) ns) (set_discipline_view k)

-- an item on events
abbrev pub event_rule_view : CodeEventRule → EventRule
event_rule_view (e.PriorityOrder ns) = PriorityOrder (several_view (λ n. n) ns)
event_rule_view (e.BreakTies n ks) = BreakTies n (several_view key_view ks)
event_rule_view (e.ExternalEvents ns) = ExternalEvents (several_view (λ n. n) ns)

-- an item
abbrev pub item_view : CodeItem → Item
item_view i.Normally = Normally
item_view (i.Headed h ns) = Headed h (option_view (λ xs. several_view (λ n. n) xs) ns)
item_view (i.OfEvery n cs) = OfEvery n (several_view clause_view cs)
item_view (i.OfSystem cs) = OfSystem (several_view clause_view cs)
item_view (i.Defines d) = Defines (definition_view d)
item_view (i.Orders e) = Orders (event_rule_view e)

-- an item with its line
abbrev pub item_at_view : CodeItemAt → ItemAt
item_at_view a = record { line = a.line; item = item_view a.item }

-- items with their lines
abbrev pub items_view : List CodeItemAt → List ItemAt
items_view xs = map item_at_view xs

-- the declarations of a text
abbrev pub decls_view : CodeDecls → Decls
decls_view d = record { items = items_view d.items.items; end = d.end }
