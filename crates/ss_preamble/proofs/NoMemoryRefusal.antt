-- Reading a preamble takes no memory: it reads, or refuses a word.
use Rattle.std.proofs.Common.{ℕ, zero, suc, Bool, true, false, List, length, Option, Some, None, Result, Ok, Err}
use Rattle.ss_words.specs.declared.refusal.Refusal.{Refusal}
use Rattle.ss_words.specs.declared.refusal.Refusal.TheVariants.{Unexpected, PastLimit, Memory}
use Rattle.ss_words.specs.declared.mark.Mark.{Mark}
use Rattle.ss_words.specs.declared.mark.Mark.TheVariants as m
use Rattle.ss_words.specs.declared.word.Sign.TheVariants as s
use Rattle.ss_words.specs.declared.reserved.Reserved.TheVariants as r
use Rattle.ss_words.specs.Plain.{Plain, name, mark, first}
use Rattle.ss_words.specs.Reading.{Reading, goes_on, bind, pure, refuse, look, skip, rest_of, many_from, many}
use Rattle.ss_words.specs.Marks.{is, expect, eat, a_name, name_by}
use Rattle.ss_words.specs.Lists.{Several, next_name, other_names, names, names_behind}
use Rattle.ss_preamble.specs.declared.item.Heading.{Heading}
use Rattle.ss_preamble.specs.ItemReading.{clause_by, next_clause, a_clause, other_clauses, clauses, a_rank, a_key}
use Rattle.ss_preamble.specs.ItemReading.{next_key, other_keys, keys, heading_with, definition_by, definition_of}
use Rattle.ss_preamble.specs.ItemReading.{definition_with, normally_with, every_with, priority_with, break_with}
use Rattle.ss_preamble.specs.ItemReading.{external_with, item_by, next_item, items_with, preamble_with}

-- an answer but for memory
abbrev pub IsSure : {A : Type 0} → Result A Refusal → Type 0
IsSure (Err Memory) = ⊥
IsSure _ = Unit {0}

-- a reading that never answers Memory
pub record Sure {A : Type 0} (p : Reading A) : Type 0 where
  -- the answer on each list of words
  pub at : (ws : List Plain) → IsSure (p ws).0

-- ---- the steps of a reading

pure_sure : {A : Type 0} (a : A) → Sure (pure a)
unfolding pure
pure_sure a = record { at = λ ws. tt }

refuse_sure : {A : Type 0} → Sure {A = A} (refuse Unexpected)
unfolding refuse
refuse_sure = record { at = λ ws. tt }

look_sure : {A : Type 0} (f : Option Plain → Reading A) → ((w : Option Plain) → Sure (f w)) → Sure (look f)
unfolding look
look_sure f sure = record { at = λ ws. (sure (first ws)).at ws }

skip_sure : {A : Type 0} (p : Reading A) → Sure p → Sure (skip p)
unfolding skip
skip_sure p sure = record { at = λ ws. sure.at (rest_of ws) }

module _ {A B : Type 0} (p : Reading A) (f : A → Reading B) (sure : Sure p) (then : (a : A) → Sure (f a)) where
  bind_sure : Sure (bind p f)
  unfolding bind
  bind_sure = record { at = λ ws. on (p ws).0 (p ws).1 (sure.at ws) }
    where
      on : (o : Result A Refusal) (ws : List Plain) → IsSure o → IsSure (goes_on f o ws).0
      on (Ok a) ws h = (then a).at ws
      on (Err Unexpected) ws h = tt
      on (Err PastLimit) ws h = tt
      on (Err Memory) ws h = h

-- the last part of something
last_sure : {A B : Type 0} (p : Reading A) (f : A → B) → Sure p → Sure (bind p (λ a. pure (f a)))
last_sure p f sure = bind_sure p (λ a. pure (f a)) sure (λ a. pure_sure (f a))

module _ {A B : Type 0} (item : Reading (Option A)) (none : B) (one : A → B → B) (sure : Sure item) where
  many_from_sure : (n : ℕ) → Sure (many_from item none one n)
  unfolding many_from
  many_from_sure zero = pure_sure none
  many_from_sure (suc n) = bind_sure item _ sure (elim [
    | Some a ↦ last_sure (many_from item none one n) (one a) (many_from_sure n)
    | None ↦ pure_sure none
  ])

  many_sure : Sure (many item none one)
  unfolding many
  many_sure = record { at = λ ws. (many_from_sure (suc (length ws))).at ws }

-- ---- words and names

-- a mark that must be here, by whether it is
abbrev expected : Bool → Reading (Unit {0})
expected b = elim b [ true ↦ skip (pure tt) | false ↦ refuse Unexpected ]

expect_sure : (k : Mark) → Sure (expect k)
unfolding expect
expect_sure k = look_sure (λ w. expected (is k w)) (λ w. at (is k w))
  where
    at : (b : Bool) → Sure (expected b)
    at true = skip_sure (pure tt) (pure_sure tt)
    at false = refuse_sure

-- a word and the part after it
behind_sure : {A : Type 0} (k : Mark) (p : Reading A) → Sure p → Sure (bind (expect k) (λ u. p))
behind_sure k p sure = bind_sure (expect k) (λ u. p) (expect_sure k) (λ u. sure)

-- a mark that may be here, by whether it is
abbrev eaten : Bool → Reading Bool
eaten b = elim b [ true ↦ skip (pure true) | false ↦ pure false ]

eat_sure : (k : Mark) → Sure (eat k)
unfolding eat
eat_sure k = look_sure (λ w. eaten (is k w)) (λ w. at (is k w))
  where
    at : (b : Bool) → Sure (eaten b)
    at true = skip_sure (pure true) (pure_sure true)
    at false = pure_sure false

name_sure : Sure a_name
unfolding a_name
name_sure = look_sure name_by at
  where
    at : (w : Option Plain) → Sure (name_by w)
    at (Some (name n)) = skip_sure (pure n) (pure_sure n)
    at _ = refuse_sure

next_name_sure : Sure next_name
unfolding next_name
next_name_sure = bind_sure (eat (m.Sign s.Comma)) _ (eat_sure (m.Sign s.Comma)) (elim [
  | true ↦ last_sure a_name (λ n. Some n) name_sure
  | false ↦ pure_sure None
])

other_names_sure : Sure other_names
unfolding other_names
other_names_sure = many_sure next_name _ _ next_name_sure

names_sure : Sure names
unfolding names
names_sure = bind_sure a_name _ name_sure (λ n. last_sure other_names _ other_names_sure)

names_behind_sure : (k : Mark) → Sure (names_behind k)
unfolding names_behind
names_behind_sure k = bind_sure (eat k) _ (eat_sure k) (elim [
  | true ↦ last_sure names (λ ns. Some ns) names_sure
  | false ↦ pure_sure None
])

-- ---- clauses and keys

clause_at : (w : Option Plain) → Sure (clause_by w)
clause_at (Some (mark (m.Reserved r.Has))) = skip_sure _ (last_sure names _ names_sure)
clause_at (Some (mark (m.Reserved r.Owns))) = skip_sure _ (last_sure names _ names_sure)
clause_at (Some (mark (m.Reserved r.Belongs))) =
    skip_sure _ (behind_sure (m.Reserved r.To) _ (last_sure names _ names_sure))
clause_at _ = pure_sure None

next_clause_sure : Sure next_clause
unfolding next_clause
next_clause_sure = look_sure clause_by clause_at

a_clause_sure : Sure a_clause
unfolding a_clause
a_clause_sure = bind_sure next_clause _ next_clause_sure (elim [ Some c ↦ pure_sure c | None ↦ refuse_sure ])

other_clauses_sure : Sure other_clauses
unfolding other_clauses
other_clauses_sure = many_sure next_clause _ _ next_clause_sure

clauses_sure : Sure clauses
unfolding clauses
clauses_sure = bind_sure a_clause _ a_clause_sure (λ c. last_sure other_clauses _ other_clauses_sure)

a_rank_sure : Sure a_rank
unfolding a_rank
a_rank_sure = bind_sure (eat (m.Reserved r.High)) _ (eat_sure (m.Reserved r.High)) (elim [
  | true ↦ pure_sure _
  | false ↦ behind_sure (m.Reserved r.Low) _ (pure_sure _)
])

a_key_sure : Sure a_key
unfolding a_key
a_key_sure =
    behind_sure (m.Reserved r.By) _ (bind_sure a_rank _ a_rank_sure (λ b. last_sure a_name _ name_sure))

next_key_sure : Sure next_key
unfolding next_key
next_key_sure = bind_sure (eat (m.Reserved r.Then)) _ (eat_sure (m.Reserved r.Then)) (elim [
  | true ↦ last_sure a_key (λ a. Some a) a_key_sure
  | false ↦ pure_sure None
])

other_keys_sure : Sure other_keys
unfolding other_keys
other_keys_sure = many_sure next_key _ _ next_key_sure

keys_sure : Sure keys
unfolding keys
keys_sure = bind_sure a_key _ a_key_sure (λ a. last_sure other_keys _ other_keys_sure)

-- ---- items

heading_sure : (h : Heading) (k : Mark) → Sure (heading_with h k)
unfolding heading_with
heading_sure h k =
    behind_sure k _ (last_sure (names_behind (m.Reserved r.Include)) _ (names_behind_sure (m.Reserved r.Include)))

definition_at : (ns : Several _) (w : Option Plain) → Sure (definition_by ns w)
definition_at ns (Some (mark (m.Reserved r.Integer))) =
    skip_sure _ (behind_sure (m.Reserved r.Variables) _ (pure_sure _))
definition_at ns (Some (mark (m.Reserved r.Fifo))) = skip_sure _ (behind_sure (m.Reserved r.Sets) _ (pure_sure _))
definition_at ns (Some (mark (m.Reserved r.Lifo))) = skip_sure _ (behind_sure (m.Reserved r.Sets) _ (pure_sure _))
definition_at ns (Some (mark (m.Reserved r.Sets))) =
    skip_sure _ (behind_sure (m.Reserved r.Ranked) _ (last_sure keys _ keys_sure))
definition_at ns _ = refuse_sure

definition_of_sure : (ns : Several _) → Sure (definition_of ns)
unfolding definition_of
definition_of_sure ns = look_sure (definition_by ns) (definition_at ns)

definition_sure : Sure definition_with
unfolding definition_with
definition_sure = bind_sure names _ names_sure (λ ns. behind_sure (m.Reserved r.As) _ (definition_of_sure ns))

normally_sure : Sure normally_with
unfolding normally_with
normally_sure =
    behind_sure (m.Reserved r.Mode) _
    (behind_sure (m.Reserved r.Is) _ (behind_sure (m.Reserved r.Integer) _ (pure_sure _)))

every_sure : Sure every_with
unfolding every_with
every_sure = bind_sure a_name _ name_sure (λ n. last_sure clauses _ clauses_sure)

priority_sure : Sure priority_with
unfolding priority_with
priority_sure = behind_sure (m.Reserved r.Order) _ (behind_sure (m.Reserved r.Is) _ (last_sure names _ names_sure))

break_sure : Sure break_with
unfolding break_with
break_sure = bind_sure a_name _ name_sure (λ n. behind_sure (m.Reserved r.Ties) _ (last_sure keys _ keys_sure))

external_sure : Sure external_with
unfolding external_with
external_sure = behind_sure (m.Reserved r.Events) _ (behind_sure (m.Reserved r.Are) _ (last_sure names _ names_sure))

item_at : (w : Option Plain) → Sure (item_by w)
item_at (Some (mark (m.Reserved r.Normally))) = skip_sure _ (last_sure normally_with _ normally_sure)
item_at (Some (mark (m.Reserved r.Permanent))) = skip_sure _ (last_sure _ _ (heading_sure _ (m.Reserved r.Entities)))
item_at (Some (mark (m.Reserved r.Temporary))) = skip_sure _ (last_sure _ _ (heading_sure _ (m.Reserved r.Entities)))
item_at (Some (mark (m.Reserved r.Event))) = skip_sure _ (last_sure _ _ (heading_sure _ (m.Reserved r.Notices)))
item_at (Some (mark (m.Reserved r.Every))) = skip_sure _ (last_sure every_with _ every_sure)
item_at (Some (mark (m.Reserved r.System))) = skip_sure _ (last_sure clauses _ clauses_sure)
item_at (Some (mark (m.Reserved r.Define))) = skip_sure _ (last_sure definition_with _ definition_sure)
item_at (Some (mark (m.Reserved r.Priority))) = skip_sure _ (last_sure priority_with _ priority_sure)
item_at (Some (mark (m.Reserved r.Break))) = skip_sure _ (last_sure break_with _ break_sure)
item_at (Some (mark (m.Reserved r.External))) = skip_sure _ (last_sure external_with _ external_sure)
item_at _ = pure_sure None

next_item_sure : Sure next_item
unfolding next_item
next_item_sure = look_sure item_by item_at

items_sure : Sure items_with
unfolding items_with
items_sure = many_sure next_item _ _ next_item_sure

pub preamble_sure : Sure preamble_with
unfolding preamble_with
preamble_sure =
    behind_sure (m.Reserved r.Preamble) _
    (bind_sure items_with _ items_sure (λ is. behind_sure (m.Reserved r.End) _ (pure_sure is)))
