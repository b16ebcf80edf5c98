-- Reading a preamble looks no further than the word at which it stops.
use Rattle.std.proofs.Common.{◌<◌, true, false, [], ◌∷◌, length, Option, Some, None, arith}
use Rattle.ss_words.specs.declared.mark.Mark.{Mark}
use Rattle.ss_words.specs.declared.mark.Mark.TheVariants as m
use Rattle.ss_words.specs.declared.reserved.Reserved.TheVariants as r
use Rattle.ss_words.specs.Plain.{Plain, mark}
use Rattle.ss_words.specs.Reading.{Reading, bind, pure}
use Rattle.ss_words.specs.Marks.{expect, eat, a_name}
use Rattle.ss_words.specs.Lists.{Several, names, names_behind}
use Rattle.ss_words.proofs.Laws.{Any, fits_option}
use Rattle.ss_words.proofs.Local.{Rooms, Local, LocalAt, anywhere, pure_local, refuse_local, bind_local, look_local}
use Rattle.ss_words.proofs.Local.{skip_local, many_local}
use Rattle.ss_words.proofs.Marks.{expect_local, eat_local, name_local}
use Rattle.ss_words.proofs.Lists.{names-local, names_behind-local}
use Rattle.ss_preamble.specs.declared.item.Heading.{Heading}
use Rattle.ss_preamble.specs.declared.item.Heading.TheVariants as h
use Rattle.ss_words.specs.declared.terms.Rank.TheVariants as k
use Rattle.ss_preamble.specs.Tree.{Clause, Has, Owns, BelongsTo, Fifo, Lifo, Ranked, Variables, Sets, PriorityOrder}
use Rattle.ss_preamble.specs.Tree.{BreakTies, ExternalEvents, Item, Normally, Headed, OfEvery, OfSystem, Defines}
use Rattle.ss_preamble.specs.Tree.{Orders}
use Rattle.ss_preamble.specs.Spelling.{spell_clause, spell_next_key, spell_item}
use Rattle.ss_preamble.specs.ItemReading.{clause_by, next_clause, a_clause, other_clauses, clauses, a_rank, a_key}
use Rattle.ss_preamble.specs.ItemReading.{next_key, other_keys, keys, heading_with, definition_by, definition_of}
use Rattle.ss_preamble.specs.ItemReading.{definition_with, normally_with, every_with, priority_with, break_with}
use Rattle.ss_preamble.specs.ItemReading.{external_with, item_by, next_item, items_with, preamble_with}
use Rattle.ss_preamble.proofs.ReadIsSpelled.{next_clause-good, next_key-good, next_item-good}

pub some_clause : (c : Clause) → 0 < length (spell_clause c)
some_clause (Has ns) = omega arith
some_clause (Owns ns) = omega arith
some_clause (BelongsTo ns) = omega arith

pub some_item : (i : Item) → 0 < length (spell_item i)
some_item Normally = omega arith
some_item (Headed h.PermanentEntities ns) = omega arith
some_item (Headed h.TemporaryEntities ns) = omega arith
some_item (Headed h.EventNotices ns) = omega arith
some_item (OfEvery n cs) = omega arith
some_item (OfSystem cs) = omega arith
some_item (Defines (Variables ns)) = omega arith
some_item (Defines (Sets ns s)) = omega arith
some_item (Orders (PriorityOrder ns)) = omega arith
some_item (Orders (BreakTies n ks)) = omega arith
some_item (Orders (ExternalEvents ns)) = omega arith

module _ (rooms : Rooms) where
  -- a word and the part after it
  expect_then : {A : Type 0} (w : Mark) (p : Unit {0} → Reading A) → Local rooms (p tt) (p tt)
      → Local rooms (bind (expect w) p) (bind (expect w) p)
  expect_then w p l = bind_local rooms p p (λ u. l) (expect w) (expect w) (expect_local rooms w)

  -- the last part of something
  last_part : {A B : Type 0} (f : A → B) (p : Reading A) → Local rooms p p
      → Local rooms (bind p (λ a. pure (f a))) (bind p (λ a. pure (f a)))
  last_part f p l = bind_local rooms (λ a. pure (f a)) (λ a. pure (f a)) (λ a. pure_local rooms (f a)) p p l

  clause_at : (w : Option Plain) → LocalAt rooms w (clause_by w) (clause_by w)
  clause_at (Some (mark (m.Reserved r.Has))) =
      skip_local rooms (mark (m.Reserved r.Has)) _ _ (last_part (λ ns. Some (Has ns)) names (names-local rooms))
  clause_at (Some (mark (m.Reserved r.Owns))) =
      skip_local rooms (mark (m.Reserved r.Owns)) _ _ (last_part (λ ns. Some (Owns ns)) names (names-local rooms))
  clause_at (Some (mark (m.Reserved r.Belongs))) =
      skip_local rooms (mark (m.Reserved r.Belongs)) _ _
      (expect_then (m.Reserved r.To) _ (last_part (λ ns. Some (BelongsTo ns)) names (names-local rooms)))
  clause_at _ = anywhere rooms _ _ _ (pure_local rooms None)

  next_clause-local : Local rooms next_clause next_clause
  unfolding next_clause
  next_clause-local = look_local rooms _ _ clause_at

  a_clause-local : Local rooms a_clause a_clause
  unfolding a_clause
  a_clause-local =
      bind_local rooms _ _ (elim [ Some c ↦ pure_local rooms c | None ↦ refuse_local rooms ]) next_clause next_clause
      next_clause-local

  other_clauses-local : Local rooms other_clauses other_clauses
  unfolding other_clauses
  other_clauses-local =
      many_local rooms (fits_option Any) spell_clause next_clause next_clause [] (λ c cs. c ∷ cs) next_clause-good
      next_clause-local some_clause

  clauses-local : Local rooms clauses clauses
  unfolding clauses
  clauses-local =
      bind_local rooms _ _ (λ c. last_part (λ cs. record { first = c; others = cs }) other_clauses other_clauses-local)
      a_clause a_clause a_clause-local

  a_rank-local : Local rooms a_rank a_rank
  unfolding a_rank
  a_rank-local =
      bind_local rooms _ _
      (elim [ true ↦ pure_local rooms k.High | false ↦ expect_then (m.Reserved r.Low) _ (pure_local rooms k.Low) ])
      (eat (m.Reserved r.High)) (eat (m.Reserved r.High)) (eat_local rooms (m.Reserved r.High))

  a_key-local : Local rooms a_key a_key
  unfolding a_key
  a_key-local =
      expect_then (m.Reserved r.By) _
      (bind_local rooms _ _ (λ b. last_part (λ n. record { rank = b; name = n }) a_name (name_local rooms)) a_rank
      a_rank a_rank-local)

  next_key-local : Local rooms next_key next_key
  unfolding next_key
  next_key-local =
      bind_local rooms _ _ (elim [ true ↦ last_part (λ a. Some a) a_key a_key-local | false ↦ pure_local rooms None ])
      (eat (m.Reserved r.Then)) (eat (m.Reserved r.Then)) (eat_local rooms (m.Reserved r.Then))

  other_keys-local : Local rooms other_keys other_keys
  unfolding other_keys
  other_keys-local =
      many_local rooms (fits_option Any) spell_next_key next_key next_key [] (λ a ks. a ∷ ks) next_key-good
      next_key-local (λ a. omega arith)

  keys-local : Local rooms keys keys
  unfolding keys
  keys-local =
      bind_local rooms _ _ (λ a. last_part (λ ks. record { first = a; others = ks }) other_keys other_keys-local) a_key
      a_key a_key-local

  heading-local : (x : Heading) (b : Mark) → Local rooms (heading_with x b) (heading_with x b)
  unfolding heading_with
  heading-local x b =
      expect_then b _ (last_part (Headed x) (names_behind (m.Reserved r.Include))
      (names_behind-local rooms (m.Reserved r.Include)))

  definition_at : (ns : Several _) (w : Option Plain) → LocalAt rooms w (definition_by ns w) (definition_by ns w)
  definition_at ns (Some (mark (m.Reserved r.Integer))) =
      skip_local rooms (mark (m.Reserved r.Integer)) _ _
      (expect_then (m.Reserved r.Variables) _ (pure_local rooms (Variables ns)))
  definition_at ns (Some (mark (m.Reserved r.Fifo))) =
      skip_local rooms (mark (m.Reserved r.Fifo)) _ _
      (expect_then (m.Reserved r.Sets) _ (pure_local rooms (Sets ns Fifo)))
  definition_at ns (Some (mark (m.Reserved r.Lifo))) =
      skip_local rooms (mark (m.Reserved r.Lifo)) _ _
      (expect_then (m.Reserved r.Sets) _ (pure_local rooms (Sets ns Lifo)))
  definition_at ns (Some (mark (m.Reserved r.Sets))) =
      skip_local rooms (mark (m.Reserved r.Sets)) _ _
      (expect_then (m.Reserved r.Ranked) _ (last_part (λ ks. Sets ns (Ranked ks)) keys keys-local))
  definition_at ns _ = anywhere rooms _ _ _ (refuse_local rooms)

  definition_of-local : (ns : Several _) → Local rooms (definition_of ns) (definition_of ns)
  unfolding definition_of
  definition_of-local ns = look_local rooms _ _ (definition_at ns)

  definition-local : Local rooms definition_with definition_with
  unfolding definition_with
  definition-local =
      bind_local rooms _ _ (λ ns. expect_then (m.Reserved r.As) _ (definition_of-local ns)) names names
      (names-local rooms)

  normally-local : Local rooms normally_with normally_with
  unfolding normally_with
  normally-local =
      expect_then (m.Reserved r.Mode) _
      (expect_then (m.Reserved r.Is) _ (expect_then (m.Reserved r.Integer) _ (pure_local rooms Normally)))

  every-local : Local rooms every_with every_with
  unfolding every_with
  every-local = bind_local rooms _ _ (λ n. last_part (OfEvery n) clauses clauses-local) a_name a_name (name_local rooms)

  priority-local : Local rooms priority_with priority_with
  unfolding priority_with
  priority-local =
      expect_then (m.Reserved r.Order) _
      (expect_then (m.Reserved r.Is) _ (last_part PriorityOrder names (names-local rooms)))

  break-local : Local rooms break_with break_with
  unfolding break_with
  break-local =
      bind_local rooms _ _ (λ n. expect_then (m.Reserved r.Ties) _ (last_part (BreakTies n) keys keys-local)) a_name
      a_name (name_local rooms)

  external-local : Local rooms external_with external_with
  unfolding external_with
  external-local =
      expect_then (m.Reserved r.Events) _
      (expect_then (m.Reserved r.Are) _ (last_part ExternalEvents names (names-local rooms)))

  item_at : (w : Option Plain) → LocalAt rooms w (item_by w) (item_by w)
  item_at (Some (mark (m.Reserved r.Normally))) =
      skip_local rooms (mark (m.Reserved r.Normally)) _ _ (last_part (λ i. Some i) _ normally-local)
  item_at (Some (mark (m.Reserved r.Permanent))) =
      skip_local rooms (mark (m.Reserved r.Permanent)) _ _
      (last_part (λ i. Some i) _ (heading-local h.PermanentEntities (m.Reserved r.Entities)))
  item_at (Some (mark (m.Reserved r.Temporary))) =
      skip_local rooms (mark (m.Reserved r.Temporary)) _ _
      (last_part (λ i. Some i) _ (heading-local h.TemporaryEntities (m.Reserved r.Entities)))
  item_at (Some (mark (m.Reserved r.Event))) =
      skip_local rooms (mark (m.Reserved r.Event)) _ _
      (last_part (λ i. Some i) _ (heading-local h.EventNotices (m.Reserved r.Notices)))
  item_at (Some (mark (m.Reserved r.Every))) =
      skip_local rooms (mark (m.Reserved r.Every)) _ _ (last_part (λ i. Some i) _ every-local)
  item_at (Some (mark (m.Reserved r.System))) =
      skip_local rooms (mark (m.Reserved r.System)) _ _ (last_part (λ cs. Some (OfSystem cs)) _ clauses-local)
  item_at (Some (mark (m.Reserved r.Define))) =
      skip_local rooms (mark (m.Reserved r.Define)) _ _ (last_part (λ d. Some (Defines d)) _ definition-local)
  item_at (Some (mark (m.Reserved r.Priority))) =
      skip_local rooms (mark (m.Reserved r.Priority)) _ _ (last_part (λ e. Some (Orders e)) _ priority-local)
  item_at (Some (mark (m.Reserved r.Break))) =
      skip_local rooms (mark (m.Reserved r.Break)) _ _ (last_part (λ e. Some (Orders e)) _ break-local)
  item_at (Some (mark (m.Reserved r.External))) =
      skip_local rooms (mark (m.Reserved r.External)) _ _ (last_part (λ e. Some (Orders e)) _ external-local)
  item_at _ = anywhere rooms _ _ _ (pure_local rooms None)

  next_item-local : Local rooms next_item next_item
  unfolding next_item
  next_item-local = look_local rooms _ _ item_at

  items-local : Local rooms items_with items_with
  unfolding items_with
  items-local =
      many_local rooms (fits_option Any) spell_item next_item next_item [] (λ i is. i ∷ is) next_item-good
      next_item-local some_item

  pub preamble-local : Local rooms preamble_with preamble_with
  unfolding preamble_with
  preamble-local =
      expect_then (m.Reserved r.Preamble) _
      (bind_local rooms _ _ (λ is. expect_then (m.Reserved r.End) _ (pure_local rooms is)) items_with items_with
      items-local)
