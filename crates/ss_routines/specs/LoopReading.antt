-- Reading FOR phrases, the question of an IF and COMPUTE from left to right.
use Rattle.std.specs.Prelude.{◌⊎◌, ℕ, List, Option, Some, None}
use mathlib.Core.Logic.{inl, inr}
use Rattle.ss_words.specs.declared.mark.Mark.TheVariants as m
use Rattle.ss_words.specs.declared.word.Sign.TheVariants as s
use Rattle.ss_words.specs.declared.reserved.Reserved.TheVariants as r
use Rattle.ss_words.specs.Plain.{Plain, mark}
use Rattle.ss_words.specs.Lists.{Name, Several}
use Rattle.ss_words.specs.Reading.{Reading, pure}
use Rattle.ss_words.specs.Marks.{a_name}
use Rattle.ss_words.specs.declared.terms.Direction.{Direction}
use Rattle.ss_words.specs.declared.terms.Direction.TheVariants.{Onward, Backward}
use Rattle.ss_words.specs.declared.terms.QualifierWord.{QualifierWord}
use Rattle.ss_words.specs.declared.terms.QualifierWord.TheVariants.{With, Unless, While, Until}
use Rattle.ss_words.specs.declared.terms.Statistic.{Statistic}
use Rattle.ss_words.specs.declared.terms.Statistic.TheVariants as statistic
use Rattle.ss_routines.specs.Combined.{pair, behind, before, made, if_mark, if_word, either, star, by_table, several}
use Rattle.ss_routines.specs.Combined.{made_of, must}
use Rattle.ss_routines.specs.Expr.{Expr}
use Rattle.ss_routines.specs.ExprReading.{expr_at}
use Rattle.ss_routines.specs.Condition.{Reference, Condition}
use Rattle.ss_routines.specs.SimpleReading.{reference_at}
use Rattle.ss_routines.specs.ConditionReading.{condition_at}
use Rattle.ss_routines.specs.Loops.{WalkStart, AtEnd, From, After, Range, Counting, Each, Walking}
use Rattle.ss_routines.specs.Loops.{Qualifier, Phrase, Computed, Question, Holds, Found, NoneFound}

-- WITH, UNLESS, WHILE or UNTIL
abbrev pub qualifier_of : Option Plain → Option QualifierWord
qualifier_of (Some (mark (m.Reserved r.With))) = Some With
qualifier_of (Some (mark (m.Reserved r.Unless))) = Some Unless
qualifier_of (Some (mark (m.Reserved r.While))) = Some While
qualifier_of (Some (mark (m.Reserved r.Until))) = Some Until
qualifier_of _ = None

-- NUMBER, SUM, MAXIMUM or MINIMUM
abbrev pub statistic_of : Option Plain → Option Statistic
statistic_of (Some (mark (m.Reserved r.Number))) = Some statistic.Number
statistic_of (Some (mark (m.Reserved r.Sum))) = Some statistic.Sum
statistic_of (Some (mark (m.Reserved r.Maximum))) = Some statistic.Maximum
statistic_of (Some (mark (m.Reserved r.Minimum))) = Some statistic.Minimum
statistic_of _ = None

-- the start of a walk
abbrev pub start_of : Expr ⊎ Option Expr → WalkStart
start_of (inl e) = From e
start_of (inr (Some e)) = After e
start_of (inr None) = AtEnd

-- IN REVERSE ORDER or nothing
abbrev pub order_of : Option (Unit {0}) → Direction
order_of None = Onward
order_of (Some u) = Backward

-- BACK FROM or =
abbrev pub direction_of : Unit {0} ⊎ Unit {0} → Direction
direction_of (inl u) = Backward
direction_of (inr u) = Onward

-- after EVERY name: a set, the start of its walk and its direction; or a variable or none
abbrev pub Walk : Type 0
Walk = (Reference × (WalkStart × Direction)) ⊎ Option Name

-- a variable, the way in which it counts, the first value, the last one, and the step if it is written
abbrev pub Count : Type 0
Count = Name × (Direction × (Expr × (Expr × Option Expr)))

-- which range
abbrev pub range_of : (Name × Walk) ⊎ Count → Range
range_of (inl (c, inl (v, (b, d)))) = Walking d c v b
range_of (inl (c, inr v)) = Each c v
range_of (inr (v, (d, (a, (b, c))))) = Counting d v a b c

-- the question of an IF
abbrev pub question_of : Unit {0} ⊎ (Unit {0} ⊎ Condition) → Question
question_of (inl u) = Found
question_of (inr (inl u)) = NoneFound
question_of (inr (inr c)) = Holds c

-- [IN REVERSE ORDER]
unfoldable pub an_order : Reading Direction
an_order =
    made order_of (if_mark (m.Reserved r.In) (behind (m.Reserved r.Reverse) (behind (m.Reserved r.Order) (pure tt))))

-- "=" or BACK FROM
unfoldable pub a_direction : Reading Direction
a_direction = made direction_of
    (either (if_mark (m.Reserved r.Back) (behind (m.Reserved r.From) (pure tt))) (behind (m.Sign s.Equal) (pure tt)))

-- with at most n parentheses open at once
module _ (n : ℕ) where
  -- [(FROM | AFTER) expr]
  unfoldable pub start_at : Reading WalkStart
  start_at = made start_of (either (if_mark (m.Reserved r.From) (expr_at n)) (if_mark (m.Reserved r.After) (expr_at n)))

  -- after EVERY name: IN ref [(FROM | AFTER) expr] [IN REVERSE ORDER], or [CALLED name]
  unfoldable pub walk_at : Reading Walk
  walk_at = either (if_mark (m.Reserved r.In) (pair (reference_at n) (pair start_at an_order)))
      (if_mark (m.Reserved r.Called) a_name)

  -- name ("=" | BACK FROM) expr TO expr [BY expr]
  unfoldable pub counting_at : Reading Count
  counting_at = pair a_name (pair a_direction
      (pair (before (expr_at n) (m.Reserved r.To)) (pair (expr_at n) (if_mark (m.Reserved r.By) (expr_at n)))))

  -- the range of a FOR phrase
  unfoldable pub range_at : Reading Range
  range_at = made range_of (either (if_mark (m.Reserved r.Every) (pair a_name walk_at)) counting_at)

  -- (WITH | UNLESS | WHILE | UNTIL) cond, if one is here
  abbrev pub next_qualifier : Reading (Option Qualifier)
  next_qualifier =
      made_of (λ x. record { word = x.0; condition = x.1 }) (if_word (by_table qualifier_of) (condition_at n))

  -- {(WITH | UNLESS | WHILE | UNTIL) cond}
  unfoldable pub qualifiers_at : Reading (List Qualifier)
  qualifiers_at = star next_qualifier

  -- a FOR phrase, after FOR
  unfoldable pub phrase_at : Reading Phrase
  phrase_at = made (λ x. record { range = x.0; qualifiers = x.1 }) (pair range_at qualifiers_at)

  -- ref AS (NUMBER | SUM | MAXIMUM | MINIMUM)
  unfoldable pub computed_at : Reading Computed
  computed_at = made (λ x. record { target = x.0; statistic = x.1 })
      (pair (before (reference_at n) (m.Reserved r.As)) (must (by_table statistic_of)))

  -- after COMPUTE: ref AS stat {"," ref AS stat} IN expr
  unfoldable pub compute_at : Reading (Several Computed × Expr)
  compute_at = pair (before (several computed_at) (m.Reserved r.In)) (expr_at n)

  -- FOUND, NONE or a condition
  unfoldable pub question_at : Reading Question
  question_at = made question_of
      (either (if_mark (m.Reserved r.Found) (pure tt))
      (either (if_mark (m.Reserved r.NoneFound) (pure tt)) (condition_at n)))
