-- The part that is read is spelled so, and if reading fails some preamble's spelling begins so.
use Rattle.std.proofs.Common.{◌≡◌, true, false, List, [], ◌∷◌, ◌++◌, Option, Some, None, refl, append_assoc}
use Rattle.ss_words.specs.declared.mark.Mark.{Mark}
use Rattle.ss_words.specs.declared.mark.Mark.TheVariants as m
use Rattle.ss_words.specs.declared.reserved.Reserved.TheVariants as r
use Rattle.ss_words.specs.declared.refusal.Refusal.TheVariants.{Unexpected}
use Rattle.ss_words.specs.Plain.{Plain, name, mark}
use Rattle.ss_words.specs.Reading.{Reading, bind, pure}
use Rattle.ss_words.specs.Marks.{expect, eat, a_name}
use Rattle.ss_words.specs.Lists.{Name, Several, spell_names, spell_names_behind, names, names_behind}
use Rattle.ss_words.proofs.Laws.{Good, GoodAt, Any, fits_option, pure_good, refuse_good, bind_good, then_good}
use Rattle.ss_words.proofs.Laws.{look_good, skip_good, good_at, many_read, spell_option}
use Rattle.ss_words.proofs.Marks.{spell_mark, spell_eaten, spell_name, expect_good, eat_good, name_good}
use Rattle.ss_words.proofs.Lists.{names-good, names_behind-good}
use Rattle.ss_preamble.specs.declared.item.Heading.{Heading}
use Rattle.ss_preamble.specs.declared.item.Heading.TheVariants as h
use Rattle.ss_words.specs.declared.terms.Rank.{Rank}
use Rattle.ss_words.specs.declared.terms.Rank.TheVariants as k
use Rattle.ss_preamble.specs.Tree.{Has, Owns, BelongsTo, Fifo, Lifo, Ranked, Variables, Sets, PriorityOrder}
use Rattle.ss_preamble.specs.Tree.{BreakTies, ExternalEvents, Item, Normally, Headed, OfEvery, OfSystem, Defines}
use Rattle.ss_preamble.specs.Tree.{Orders}
use Rattle.ss_preamble.specs.Spelling.{word, spell_heading, spell_clause, spell_other_clauses, spell_clauses}
use Rattle.ss_preamble.specs.Spelling.{spell_rank, spell_key, spell_next_key, spell_other_keys, spell_keys}
use Rattle.ss_preamble.specs.Spelling.{spell_set_discipline, spell_definition, spell_event_rule, spell_item}
use Rattle.ss_preamble.specs.Spelling.{spell_items}
use Rattle.ss_preamble.specs.Spelling.{spell}
use Rattle.ss_preamble.specs.ItemReading.{clause_by, next_clause, a_clause, other_clauses, clauses, a_rank, a_key}
use Rattle.ss_preamble.specs.ItemReading.{next_key, other_keys, keys, heading_with, definition_by, definition_of}
use Rattle.ss_preamble.specs.ItemReading.{definition_with, normally_with, every_with, priority_with, break_with}
use Rattle.ss_preamble.specs.ItemReading.{external_with, item_by, next_item, items_with, preamble_with}

-- some names
abbrev one_name : Several Name
one_name = record { first = []; others = [] }

-- a word and the part after it, without the part that is read of the word
expect_then : {A : Type 0} (sp : A → List Plain) (pre : List Plain) (w : Mark) (p : Unit {0} → Reading A)
    → Good Any sp (pre ++ mark w ∷ []) (p tt) → Good Any sp pre (bind (expect w) p)
expect_then sp pre w p g = bind_good Any Any (spell_mark w) sp pre p (λ u v. g) (expect w) (expect_good w)

-- the last part of something
last_part : {A B : Type 0} (spA : A → List Plain) (sp : B → List Plain) (pre : List Plain) (f : A → B)
    → ((a : A) → pre ++ spA a ≡ sp (f a)) → (p : Reading A) → Good Any spA [] p
    → Good Any sp pre (bind p (λ a. pure (f a)))
last_part spA sp pre f same p g = bind_good Any Any spA sp pre _ (λ a u. pure_good Any sp _ (f a) tt (same a)) p g

-- ---- clauses

clause_at : (w : Option Plain) → GoodAt (fits_option Any) (spell_option spell_clause) [] w (clause_by w)
clause_at (Some (mark (m.Reserved r.Has))) =
    skip_good _ (spell_option spell_clause) [] (word r.Has) _
    (bind_good Any (fits_option Any) spell_names (spell_option spell_clause) (word r.Has ∷ []) _
    (λ ns u. pure_good _ _ _ (Some (Has ns)) tt refl) names names-good)
clause_at (Some (mark (m.Reserved r.Owns))) =
    skip_good _ (spell_option spell_clause) [] (word r.Owns) _
    (bind_good Any (fits_option Any) spell_names (spell_option spell_clause) (word r.Owns ∷ []) _
    (λ ns u. pure_good _ _ _ (Some (Owns ns)) tt refl) names names-good)
clause_at (Some (mark (m.Reserved r.Belongs))) =
    skip_good _ (spell_option spell_clause) [] (word r.Belongs) _
    (bind_good Any (fits_option Any) (spell_mark (m.Reserved r.To)) (spell_option spell_clause) (word r.Belongs ∷ []) _
    (λ u v.
    bind_good Any (fits_option Any) spell_names (spell_option spell_clause) (word r.Belongs ∷ word r.To ∷ []) _
    (λ ns u. pure_good _ _ _ (Some (BelongsTo ns)) tt refl) names names-good) (expect (m.Reserved r.To))
    (expect_good (m.Reserved r.To)))
clause_at _ = good_at _ _ [] _ _ (pure_good _ _ _ None tt refl)

pub next_clause-good : Good (fits_option Any) (spell_option spell_clause) [] next_clause
unfolding next_clause
next_clause-good = look_good (fits_option Any) (spell_option spell_clause) [] clause_by None tt [] refl clause_at

a_clause-good : Good Any spell_clause [] a_clause
unfolding a_clause
a_clause-good = bind_good (fits_option Any) Any (spell_option spell_clause) spell_clause [] _ (elim [
  | Some c ↦ (λ u. pure_good Any spell_clause _ c tt refl)
  | None ↦ (λ u. refuse_good Any spell_clause [] Unexpected (Has one_name) tt (spell_clause (Has one_name)) refl)
]) next_clause next_clause-good

pub other_clauses-good : Good Any spell_other_clauses [] other_clauses
unfolding other_clauses
other_clauses-good =
    many_read Any Any spell_clause spell_other_clauses next_clause [] (λ c cs. c ∷ cs) next_clause-good tt
    (λ c cs u v. tt) refl (λ c cs. refl)

pub clauses-good : Good Any spell_clauses [] clauses
unfolding clauses
clauses-good =
    bind_good Any Any spell_clause spell_clauses [] _
    (λ c u. last_part spell_other_clauses spell_clauses (spell_clause c) (λ cs. record { first = c; others = cs })
    (λ cs. refl) other_clauses other_clauses-good) a_clause a_clause-good

-- ---- keys

-- HIGH or LOW, as a list
abbrev rank_word : Rank → List Plain
rank_word b = spell_rank b ∷ []

a_rank-good : Good Any rank_word [] a_rank
unfolding a_rank
a_rank-good = bind_good Any Any (spell_eaten (m.Reserved r.High)) rank_word [] _ (elim [
  | true ↦ (λ u. pure_good Any rank_word _ k.High tt refl)
  | false ↦ (λ u. expect_then rank_word [] (m.Reserved r.Low) _ (pure_good Any rank_word _ k.Low tt refl))
]) (eat (m.Reserved r.High)) (eat_good (m.Reserved r.High))

a_key-good : Good Any spell_key [] a_key
unfolding a_key
a_key-good =
    expect_then spell_key [] (m.Reserved r.By) _
    (bind_good Any Any rank_word spell_key (word r.By ∷ []) _
    (λ b u. last_part spell_name spell_key (word r.By ∷ rank_word b) (λ n. record { rank = b; name = n }) (λ n. refl)
    a_name name_good) a_rank a_rank-good)

pub next_key-good : Good (fits_option Any) (spell_option spell_next_key) [] next_key
unfolding next_key
next_key-good =
    bind_good Any (fits_option Any) (spell_eaten (m.Reserved r.Then)) (spell_option spell_next_key) [] _ (elim [
      | true ↦ (λ u. bind_good Any (fits_option Any) spell_key (spell_option spell_next_key) (word r.Then ∷ []) _
          (λ a v. pure_good _ _ _ (Some a) tt refl) a_key a_key-good)
      | false ↦ (λ u. pure_good _ _ _ None tt refl)
    ]) (eat (m.Reserved r.Then)) (eat_good (m.Reserved r.Then))

other_keys-good : Good Any spell_other_keys [] other_keys
unfolding other_keys
other_keys-good =
    many_read Any Any spell_next_key spell_other_keys next_key [] (λ a ks. a ∷ ks) next_key-good tt (λ a ks u v. tt)
    refl (λ a ks. refl)

keys-good : Good Any spell_keys [] keys
unfolding keys
keys-good =
    bind_good Any Any spell_key spell_keys [] _
    (λ a u. last_part spell_other_keys spell_keys (spell_key a) (λ ks. record { first = a; others = ks }) (λ ks. refl)
    other_keys other_keys-good) a_key a_key-good

-- ---- items

heading-good : (x : Heading) (a b : Mark) → spell_heading x ≡ mark a ∷ mark b ∷ []
    → Good Any spell_item (mark a ∷ []) (heading_with x b)
unfolding heading_with
heading-good x a b e =
    expect_then spell_item (mark a ∷ []) b _
    (last_part (spell_names_behind (m.Reserved r.Include)) spell_item (mark a ∷ mark b ∷ []) (Headed x)
    (λ ns. rw e refl) (names_behind (m.Reserved r.Include)) (names_behind-good (m.Reserved r.Include)))

module _ (ns : Several Name) where
  -- a DEFINE up to AS
  abbrev defined_front : List Plain
  defined_front = word r.Define ∷ (spell_names ns ++ word r.As ∷ [])

  definition_at : (w : Option Plain) → GoodAt Any spell_definition defined_front w (definition_by ns w)
  definition_at (Some (mark (m.Reserved r.Integer))) =
      skip_good Any spell_definition defined_front (word r.Integer) _
      (expect_then spell_definition _ (m.Reserved r.Variables) _
      (pure_good Any spell_definition _ (Variables ns) tt (simp append_assoc refl)))
  definition_at (Some (mark (m.Reserved r.Fifo))) =
      skip_good Any spell_definition defined_front (word r.Fifo) _
      (expect_then spell_definition _ (m.Reserved r.Sets) _
      (pure_good Any spell_definition _ (Sets ns Fifo) tt (simp append_assoc refl)))
  definition_at (Some (mark (m.Reserved r.Lifo))) =
      skip_good Any spell_definition defined_front (word r.Lifo) _
      (expect_then spell_definition _ (m.Reserved r.Sets) _
      (pure_good Any spell_definition _ (Sets ns Lifo) tt (simp append_assoc refl)))
  definition_at (Some (mark (m.Reserved r.Sets))) =
      skip_good Any spell_definition defined_front (word r.Sets) _
      (expect_then spell_definition _ (m.Reserved r.Ranked) _
      (last_part spell_keys spell_definition _ (λ ks. Sets ns (Ranked ks)) (λ ks. simp append_assoc refl) keys
      keys-good))
  definition_at _ =
      good_at Any spell_definition defined_front _ _
      (refuse_good Any spell_definition defined_front Unexpected (Sets ns Fifo) tt (spell_set_discipline Fifo)
      (simp append_assoc refl))

  definition_of-good : Good Any spell_definition defined_front (definition_of ns)
  unfolding definition_of
  definition_of-good =
      look_good Any spell_definition defined_front (definition_by ns) (Sets ns Fifo) tt (spell_set_discipline Fifo)
      (simp append_assoc refl) definition_at

definition-good : Good Any spell_definition (word r.Define ∷ []) definition_with
unfolding definition_with
definition-good =
    bind_good Any Any spell_names spell_definition (word r.Define ∷ []) _
    (λ ns u. expect_then spell_definition (word r.Define ∷ spell_names ns) (m.Reserved r.As) _ (definition_of-good ns))
    names names-good

normally-good : Good Any spell_item (word r.Normally ∷ []) normally_with
unfolding normally_with
normally-good =
    expect_then spell_item _ (m.Reserved r.Mode) _
    (expect_then spell_item _ (m.Reserved r.Is) _
    (expect_then spell_item _ (m.Reserved r.Integer) _ (pure_good Any spell_item _ Normally tt refl)))

every-good : Good Any spell_item (word r.Every ∷ []) every_with
unfolding every_with
every-good =
    bind_good Any Any spell_name spell_item (word r.Every ∷ []) _
    (λ n u. last_part spell_clauses spell_item (word r.Every ∷ name n ∷ []) (OfEvery n) (λ cs. refl) clauses
    clauses-good) a_name name_good

priority-good : Good Any spell_event_rule (word r.Priority ∷ []) priority_with
unfolding priority_with
priority-good =
    expect_then spell_event_rule _ (m.Reserved r.Order) _
    (expect_then spell_event_rule _ (m.Reserved r.Is) _
    (last_part spell_names spell_event_rule _ PriorityOrder (λ ns. refl) names names-good))

break-good : Good Any spell_event_rule (word r.Break ∷ []) break_with
unfolding break_with
break-good =
    bind_good Any Any spell_name spell_event_rule (word r.Break ∷ []) _
    (λ n u. expect_then spell_event_rule (word r.Break ∷ name n ∷ []) (m.Reserved r.Ties) _
    (last_part spell_keys spell_event_rule _ (BreakTies n) (λ ks. refl) keys keys-good)) a_name name_good

external-good : Good Any spell_event_rule (word r.External ∷ []) external_with
unfolding external_with
external-good =
    expect_then spell_event_rule _ (m.Reserved r.Events) _
    (expect_then spell_event_rule _ (m.Reserved r.Are) _
    (last_part spell_names spell_event_rule _ ExternalEvents (λ ns. refl) names names-good))

-- an item, if one is there
abbrev spell_next : Option Item → List Plain
spell_next = spell_option spell_item

-- an item whose first word was passed
some_item : {A : Type 0} (spA : A → List Plain) (w : Plain) (f : A → Item) → ((a : A) → spA a ≡ spell_item (f a))
    → (p : Reading A) → Good Any spA (w ∷ []) p
    → Good (fits_option Any) spell_next (w ∷ []) (bind p (λ a. pure (Some (f a))))
some_item spA w f same p g =
    then_good Any (fits_option Any) spA spell_next (w ∷ []) _
    (λ a u. pure_good (fits_option Any) spell_next _ (Some (f a)) tt (same a)) p g

item_at : (w : Option Plain) → GoodAt (fits_option Any) spell_next [] w (item_by w)
item_at (Some (mark (m.Reserved r.Normally))) =
    skip_good _ spell_next [] (word r.Normally) _
    (some_item spell_item (word r.Normally) (λ i. i) (λ i. refl) normally_with normally-good)
item_at (Some (mark (m.Reserved r.Permanent))) =
    skip_good _ spell_next [] (word r.Permanent) _
    (some_item spell_item (word r.Permanent) (λ i. i) (λ i. refl) _
    (heading-good h.PermanentEntities (m.Reserved r.Permanent) (m.Reserved r.Entities) refl))
item_at (Some (mark (m.Reserved r.Temporary))) =
    skip_good _ spell_next [] (word r.Temporary) _
    (some_item spell_item (word r.Temporary) (λ i. i) (λ i. refl) _
    (heading-good h.TemporaryEntities (m.Reserved r.Temporary) (m.Reserved r.Entities) refl))
item_at (Some (mark (m.Reserved r.Event))) =
    skip_good _ spell_next [] (word r.Event) _
    (some_item spell_item (word r.Event) (λ i. i) (λ i. refl) _
    (heading-good h.EventNotices (m.Reserved r.Event) (m.Reserved r.Notices) refl))
item_at (Some (mark (m.Reserved r.Every))) =
    skip_good _ spell_next [] (word r.Every) _
    (some_item spell_item (word r.Every) (λ i. i) (λ i. refl) every_with every-good)
item_at (Some (mark (m.Reserved r.System))) =
    skip_good _ spell_next [] (word r.System) _
    (bind_good Any (fits_option Any) spell_clauses spell_next (word r.System ∷ []) _
    (λ cs u. pure_good (fits_option Any) spell_next _ (Some (OfSystem cs)) tt refl) clauses clauses-good)
item_at (Some (mark (m.Reserved r.Define))) =
    skip_good _ spell_next [] (word r.Define) _
    (some_item spell_definition (word r.Define) Defines (λ d. refl) definition_with definition-good)
item_at (Some (mark (m.Reserved r.Priority))) =
    skip_good _ spell_next [] (word r.Priority) _
    (some_item spell_event_rule (word r.Priority) Orders (λ e. refl) priority_with priority-good)
item_at (Some (mark (m.Reserved r.Break))) =
    skip_good _ spell_next [] (word r.Break) _
    (some_item spell_event_rule (word r.Break) Orders (λ e. refl) break_with break-good)
item_at (Some (mark (m.Reserved r.External))) =
    skip_good _ spell_next [] (word r.External) _
    (some_item spell_event_rule (word r.External) Orders (λ e. refl) external_with external-good)
item_at _ = good_at _ _ [] _ _ (pure_good _ _ _ None tt refl)

pub next_item-good : Good (fits_option Any) spell_next [] next_item
unfolding next_item
next_item-good = look_good (fits_option Any) spell_next [] item_by None tt [] refl item_at

pub items-good : Good Any spell_items [] items_with
unfolding items_with
items-good =
    many_read Any Any spell_item spell_items next_item [] (λ i is. i ∷ is) next_item-good tt (λ i is u v. tt) refl
    (λ i is. refl)

pub preamble-good : Good Any spell [] preamble_with
unfolding preamble_with
preamble-good =
    expect_then spell [] (m.Reserved r.Preamble) _
    (bind_good Any Any spell_items spell (word r.Preamble ∷ []) _
    (λ is u. expect_then spell (word r.Preamble ∷ spell_items is) (m.Reserved r.End) _
    (pure_good Any spell _ is tt refl)) items_with items-good)
