-- FOR phrases, the question of an IF and the contents of a COMPUTE, with their plain words and how
-- deep their parentheses nest.
use Rattle.std.specs.Prelude.{ℕ, max, List, [], ◌∷◌, ◌++◌, Option}
use Rattle.std.specs.List.{flat_map}
use Rattle.ss_words.specs.declared.mark.Mark.TheVariants as m
use Rattle.ss_words.specs.declared.word.Sign.TheVariants as s
use Rattle.ss_words.specs.declared.reserved.Reserved.TheVariants as r
use Rattle.ss_words.specs.Plain.{Plain, name, mark}
use Rattle.ss_words.specs.Lists.{Name, Several, spell_several}
use Rattle.ss_words.specs.declared.terms.Direction.{Direction}
use Rattle.ss_words.specs.declared.terms.Direction.TheVariants.{Onward, Backward}
use Rattle.ss_words.specs.declared.terms.QualifierWord.{QualifierWord}
use Rattle.ss_words.specs.declared.terms.QualifierWord.TheVariants.{With, Unless, While, Until}
use Rattle.ss_words.specs.declared.terms.Statistic.{Statistic}
use Rattle.ss_words.specs.declared.terms.Statistic.TheVariants.{Number, Sum, Maximum, Minimum}
use Rattle.ss_routines.specs.Expr.{Expr, spell_expr, depth_expr}
use Rattle.ss_routines.specs.Condition.{Reference, Condition, spell_reference, spell_condition, depth_reference}
use Rattle.ss_routines.specs.Condition.{depth_condition}
use Rattle.ss_routines.specs.SimpleSpelling.{spell_option, greatest, greatest_of, if_there}

-- a set's phrase begins at an end of its list, FROM a member, or AFTER one
pub data WalkStart : Type 0 where
  AtEnd : WalkStart
  From After : Expr → WalkStart

-- v = a TO b [BY c], or v BACK FROM a TO b [BY c]; EVERY c [CALLED v]; EVERY v IN s, with IN REVERSE ORDER or without
pub data Range : Type 0 where
  Counting : Direction → Name → Expr → Expr → Option Expr → Range
  Each : Name → Option Name → Range
  Walking : Direction → Name → Reference → WalkStart → Range

-- WITH, UNLESS, WHILE or UNTIL, and a condition
pub record Qualifier : Type 0 where
  -- which of the four words
  pub word : QualifierWord
  -- the condition that it asks of each turn
  pub condition : Condition

-- FOR, its range, and its qualifiers
pub record Phrase : Type 0 where
  -- the range that it goes through
  pub range : Range
  -- its qualifiers, in order
  pub qualifiers : List Qualifier

-- a target of COMPUTE and the statistic that it is given
pub record Computed : Type 0 where
  -- the reference that is set
  pub target : Reference
  -- the statistic to which it is set
  pub statistic : Statistic

-- the question of an IF: a condition, FOUND or NONE
pub data Question : Type 0 where
  Holds : Condition → Question
  Found NoneFound : Question

-- ---- plain words

-- FROM or AFTER a member, or nothing
abbrev pub spell_walk_start : WalkStart → List Plain
spell_walk_start AtEnd = []
spell_walk_start (From e) = mark (m.Reserved r.From) ∷ spell_expr e
spell_walk_start (After e) = mark (m.Reserved r.After) ∷ spell_expr e

-- a counting phrase begins with = or with BACK FROM
abbrev pub spell_direction : Direction → List Plain
spell_direction Onward = mark (m.Sign s.Equal) ∷ []
spell_direction Backward = mark (m.Reserved r.Back) ∷ mark (m.Reserved r.From) ∷ []

-- IN REVERSE ORDER, or nothing
abbrev pub spell_order : Direction → List Plain
spell_order Onward = []
spell_order Backward = mark (m.Reserved r.In) ∷ mark (m.Reserved r.Reverse) ∷ mark (m.Reserved r.Order) ∷ []

-- a name
abbrev pub spell_name : Name → List Plain
spell_name n = name n ∷ []

-- the range of a FOR phrase
abbrev pub spell_range : Range → List Plain
spell_range (Counting d n a b c) =
    name n ∷ (spell_direction d ++ spell_expr a ++ mark
    (m.Reserved r.To) ∷ (spell_expr b ++ spell_option (m.Reserved r.By) spell_expr c))
spell_range (Each c v) = mark (m.Reserved r.Every) ∷ name c ∷ spell_option (m.Reserved r.Called) spell_name v
spell_range (Walking d n v b) =
    mark (m.Reserved r.Every) ∷ name n ∷ mark (m.Reserved r.In) ∷ (spell_reference v ++ spell_walk_start b
    ++ spell_order d)

-- WITH, UNLESS, WHILE or UNTIL
abbrev pub spell_qualifier_word : QualifierWord → Plain
spell_qualifier_word With = mark (m.Reserved r.With)
spell_qualifier_word Unless = mark (m.Reserved r.Unless)
spell_qualifier_word While = mark (m.Reserved r.While)
spell_qualifier_word Until = mark (m.Reserved r.Until)

-- a qualifier
abbrev pub spell_qualifier : Qualifier → List Plain
spell_qualifier qualifier = spell_qualifier_word qualifier.word ∷ spell_condition qualifier.condition

-- a FOR phrase
abbrev pub spell_phrase : Phrase → List Plain
spell_phrase phrase = mark (m.Reserved r.For) ∷ (spell_range phrase.range ++ flat_map spell_qualifier phrase.qualifiers)

-- NUMBER, SUM, MAXIMUM or MINIMUM
abbrev pub spell_statistic : Statistic → Plain
spell_statistic Number = mark (m.Reserved r.Number)
spell_statistic Sum = mark (m.Reserved r.Sum)
spell_statistic Maximum = mark (m.Reserved r.Maximum)
spell_statistic Minimum = mark (m.Reserved r.Minimum)

-- a target AS a statistic
abbrev pub spell_computed : Computed → List Plain
spell_computed t = spell_reference t.target ++ mark (m.Reserved r.As) ∷ spell_statistic t.statistic ∷ []

-- COMPUTE, its targets and its expression
abbrev pub spell_compute : Several Computed → Expr → List Plain
spell_compute ts expression =
    mark (m.Reserved r.Compute) ∷ (spell_several spell_computed ts ++ mark (m.Reserved r.In) ∷ spell_expr expression)

-- the part after IF
abbrev pub spell_question : Question → List Plain
spell_question (Holds c) = spell_condition c
spell_question Found = mark (m.Reserved r.Found) ∷ []
spell_question NoneFound = mark (m.Reserved r.NoneFound) ∷ []

-- ---- the greatest number of parentheses open at once

-- in FROM or AFTER a member
abbrev pub depth_walk_start : WalkStart → ℕ
depth_walk_start AtEnd = 0
depth_walk_start (From e) = depth_expr e
depth_walk_start (After e) = depth_expr e

-- in the range of a FOR phrase
abbrev pub depth_range : Range → ℕ
depth_range (Counting d n a b c) = max (depth_expr a) (max (depth_expr b) (if_there depth_expr c))
depth_range (Each c v) = 0
depth_range (Walking d n v b) = max (depth_reference v) (depth_walk_start b)

-- in a qualifier
abbrev pub depth_qualifier : Qualifier → ℕ
depth_qualifier qualifier = depth_condition qualifier.condition

-- in a FOR phrase
abbrev pub depth_phrase : Phrase → ℕ
depth_phrase phrase = max (depth_range phrase.range) (greatest depth_qualifier phrase.qualifiers)

-- in a target of COMPUTE
abbrev pub depth_computed : Computed → ℕ
depth_computed t = depth_reference t.target

-- in COMPUTE
abbrev pub depth_compute : Several Computed → Expr → ℕ
depth_compute ts expression = max (greatest_of depth_computed ts) (depth_expr expression)

-- in the question of an IF
abbrev pub depth_question : Question → ℕ
depth_question (Holds c) = depth_condition c
depth_question Found = 0
depth_question NoneFound = 0
