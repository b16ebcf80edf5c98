-- The plain words that a preamble spells.
use Rattle.std.specs.Prelude.{List, [], ◌∷◌, ◌++◌}
use Rattle.std.specs.List.{flat_map}
use Rattle.ss_words.specs.declared.mark.Mark.TheVariants as m
use Rattle.ss_words.specs.declared.reserved.Reserved.{Reserved}
use Rattle.ss_words.specs.declared.reserved.Reserved.TheVariants as r
use Rattle.ss_words.specs.Plain.{Plain, name, mark}
use Rattle.ss_words.specs.Lists.{Several, spell_names, spell_names_behind}
use Rattle.ss_preamble.specs.declared.item.Heading.{Heading}
use Rattle.ss_preamble.specs.declared.item.Heading.TheVariants as h
use Rattle.ss_words.specs.declared.terms.Rank.{Rank}
use Rattle.ss_words.specs.declared.terms.Rank.TheVariants as rank
use Rattle.ss_preamble.specs.Tree.{Key, Clause, Has, Owns, BelongsTo, SetDiscipline, Fifo, Lifo, Ranked, Definition}
use Rattle.ss_preamble.specs.Tree.{Variables, Sets, EventRule, PriorityOrder, BreakTies, ExternalEvents, Item}
use Rattle.ss_preamble.specs.Tree.{Normally, Headed, OfEvery, OfSystem, Defines, Orders, Preamble}

-- a reserved word
abbrev pub word : Reserved → Plain
word w = mark (m.Reserved w)

-- the two words of a heading
abbrev pub spell_heading : Heading → List Plain
spell_heading h.PermanentEntities = word r.Permanent ∷ word r.Entities ∷ []
spell_heading h.TemporaryEntities = word r.Temporary ∷ word r.Entities ∷ []
spell_heading h.EventNotices = word r.Event ∷ word r.Notices ∷ []

-- a clause of EVERY or SYSTEM
abbrev pub spell_clause : Clause → List Plain
spell_clause (Has ns) = word r.Has ∷ spell_names ns
spell_clause (Owns ns) = word r.Owns ∷ spell_names ns
spell_clause (BelongsTo ns) = word r.Belongs ∷ word r.To ∷ spell_names ns

-- clauses one after the other
abbrev pub spell_other_clauses : List Clause → List Plain
spell_other_clauses cs = flat_map spell_clause cs

-- clauses are without commas
abbrev pub spell_clauses : Several Clause → List Plain
spell_clauses cs = spell_clause cs.first ++ spell_other_clauses cs.others

-- HIGH or LOW
abbrev pub spell_rank : Rank → Plain
spell_rank rank.High = word r.High
spell_rank rank.Low = word r.Low

-- a key
abbrev pub spell_key : Key → List Plain
spell_key key = word r.By ∷ spell_rank key.rank ∷ name key.name ∷ []

-- a key after THEN
abbrev pub spell_next_key : Key → List Plain
spell_next_key key = word r.Then ∷ spell_key key

-- keys, each after its THEN
abbrev pub spell_other_keys : List Key → List Plain
spell_other_keys ks = flat_map spell_next_key ks

-- keys with THEN between
abbrev pub spell_keys : Several Key → List Plain
spell_keys ks = spell_key ks.first ++ spell_other_keys ks.others

-- the words of a DEFINE for the discipline of its sets
abbrev pub spell_set_discipline : SetDiscipline → List Plain
spell_set_discipline Fifo = word r.Fifo ∷ word r.Sets ∷ []
spell_set_discipline Lifo = word r.Lifo ∷ word r.Sets ∷ []
spell_set_discipline (Ranked ks) = word r.Sets ∷ word r.Ranked ∷ spell_keys ks

-- DEFINE
abbrev pub spell_definition : Definition → List Plain
spell_definition (Variables ns) = word r.Define ∷ (spell_names ns ++ word r.As ∷ word r.Integer ∷ word r.Variables ∷ [])
spell_definition (Sets ns k) = word r.Define ∷ (spell_names ns ++ word r.As ∷ spell_set_discipline k)

-- an item on events
abbrev pub spell_event_rule : EventRule → List Plain
spell_event_rule (PriorityOrder ns) = word r.Priority ∷ word r.Order ∷ word r.Is ∷ spell_names ns
spell_event_rule (BreakTies n ks) = word r.Break ∷ name n ∷ word r.Ties ∷ spell_keys ks
spell_event_rule (ExternalEvents ns) = word r.External ∷ word r.Events ∷ word r.Are ∷ spell_names ns

-- an item
abbrev pub spell_item : Item → List Plain
spell_item Normally = word r.Normally ∷ word r.Mode ∷ word r.Is ∷ word r.Integer ∷ []
spell_item (Headed h ns) = spell_heading h ++ spell_names_behind (m.Reserved r.Include) ns
spell_item (OfEvery n cs) = word r.Every ∷ name n ∷ spell_clauses cs
spell_item (OfSystem cs) = word r.System ∷ spell_clauses cs
spell_item (Defines d) = spell_definition d
spell_item (Orders e) = spell_event_rule e

-- items one after the other
abbrev pub spell_items : List Item → List Plain
spell_items is = flat_map spell_item is

-- a preamble, up to its END
abbrev pub spell : Preamble → List Plain
spell is = word r.Preamble ∷ (spell_items is ++ word r.End ∷ [])
