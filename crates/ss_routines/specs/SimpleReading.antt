-- Reading statements that hold no other from left to right.
use Rattle.std.specs.Prelude.{◌⊎◌, ℕ, true, false, List, [], Option, Some, None}
use mathlib.Core.Logic.{inl, inr}
use Rattle.ss_words.specs.declared.mark.Mark.{Mark}
use Rattle.ss_words.specs.declared.mark.Mark.TheVariants as m
use Rattle.ss_words.specs.declared.word.Sign.TheVariants as s
use Rattle.ss_words.specs.declared.reserved.Reserved.TheVariants as r
use Rattle.ss_words.specs.Plain.{Plain, name, mark}
use Rattle.ss_words.specs.Lists.{Name, Several, all_of}
use Rattle.ss_words.specs.Reading.{Reading, pure}
use Rattle.ss_words.specs.Marks.{a_name, a_number, a_picture}
use Rattle.ss_words.specs.declared.terms.SetEnd.{SetEnd}
use Rattle.ss_words.specs.declared.terms.SetEnd.TheVariants as end
use Rattle.ss_routines.specs.declared.tree.simple.Article.{Article}
use Rattle.ss_routines.specs.declared.tree.simple.Article.TheVariants as article
use Rattle.ss_routines.specs.Combined.{pair, behind, before, made, if_mark, if_word, either, by_table, if_open, several}
use Rattle.ss_routines.specs.Combined.{either_of, made_of}
use Rattle.ss_routines.specs.Expr.{Expr}
use Rattle.ss_routines.specs.ExprReading.{expr_at, inner_at}
use Rattle.ss_routines.specs.Condition.{Reference}
use Rattle.ss_routines.specs.Simple.{Assign, Let, Add, Subtract, Making, Create, CreateEvery, Destroy}
use Rattle.ss_routines.specs.Simple.{FilePlace, ByDiscipline, AtEnd, Before, After}
use Rattle.ss_routines.specs.Simple.{Filing, File, FileAt, RemoveEnd, Remove}
use Rattle.ss_routines.specs.Simple.{Listing, Unwritten, BehindGiven, InParentheses, Transfer, Call, Return, Stop}
use Rattle.ss_routines.specs.Simple.{Details, ValuesFirst, CalledFirst, When, At, Now, In}
use Rattle.ss_routines.specs.Simple.{Timing, Schedule, Cancel, StartSimulation, Exchange, Read, Print, Skip}
use Rattle.ss_routines.specs.Simple.{Simple, Assigns, Makes, Files, Transfers, Times, Exchanges}

-- FIRST or LAST
abbrev pub end_of : Option Plain → Option SetEnd
end_of (Some (mark (m.Reserved r.First))) = Some end.First
end_of (Some (mark (m.Reserved r.Last))) = Some end.Last
end_of _ = None

-- a name
abbrev pub name_of : Option Plain → Option Name
name_of (Some (name n)) = Some n
name_of _ = None

-- the listing that is written
abbrev pub listing_of : {A : Type 0} → Several A ⊎ Option (Several A) → Listing A
listing_of (inl xs) = BehindGiven xs
listing_of (inr (Some xs)) = InParentheses xs
listing_of (inr None) = Unwritten

-- an optional part, as a list
abbrev pub list_of : {A : Type 0} → Option (Several A) → List A
list_of None = []
list_of (Some xs) = all_of xs

-- [mark x {"," x}]
unfoldable pub list_behind : {A : Type 0} → Mark → Reading A → Reading (List A)
list_behind wanted p = made list_of (if_mark wanted (several p))

-- [GIVEN x {"," x} | "(" x {"," x} ")"]; inner reads in the parentheses
unfoldable pub listing_with : {A : Type 0} → ℕ → Reading A → Reading A → Reading (Listing A)
listing_with n p inner = made listing_of (either (if_mark (m.Reserved r.Given) (several p)) (if_open n (several inner)))

-- which assignment
abbrev pub assign_of :
    (Reference × Expr) ⊎ ((Expr × Reference) ⊎ ((Expr × Reference) ⊎ (Name × (Option Expr × Expr)))) → Assign
assign_of (inl (v, e)) = Let true v e
assign_of (inr (inl (e, v))) = Add e v
assign_of (inr (inr (inl (e, v)))) = Subtract e v
assign_of (inr (inr (inr (n, (i, e))))) = Let false (record { name = n; subscript = i }) e

-- which making
abbrev pub making_of : ((Name × Option Expr) ⊎ (Name × Option Reference)) ⊎ (Name × Option Reference) → Making
making_of (inl (inl (c, e))) = CreateEvery c e
making_of (inl (inr (c, v))) = Create c v
making_of (inr (c, v)) = Destroy c v

-- which place in a set
abbrev pub file_place_of : SetEnd ⊎ (Expr ⊎ Option Expr) → FilePlace
file_place_of (inl b) = AtEnd b
file_place_of (inr (inl e)) = Before e
file_place_of (inr (inr (Some e))) = After e
file_place_of (inr (inr None)) = ByDiscipline

-- after FILE: an end, a member and a set; or a member, its place and a set
abbrev pub Filed : Type 0
Filed = (SetEnd × (Expr × Reference)) ⊎ (Expr × (FilePlace × Reference))

-- after REMOVE: an end, a target and a set; or a member and a set
abbrev pub Removed : Type 0
Removed = (SetEnd × (Reference × Reference)) ⊎ (Expr × Reference)

-- which filing
abbrev pub filing_of : Filed ⊎ Removed → Filing
filing_of (inl (inl (b, (e, v)))) = FileAt b e v
filing_of (inl (inr (e, (h, v)))) = File e h v
filing_of (inr (inl (b, (u, v)))) = RemoveEnd b u v
filing_of (inr (inr (e, v))) = Remove e v

-- which transfer
abbrev pub transfer_of : (Name × (Listing Expr × List Reference)) ⊎ (Unit {0} ⊎ Unit {0}) → Transfer
transfer_of (inl (n, (es, vs))) = Call n es vs
transfer_of (inr (inl u)) = Return
transfer_of (inr (inr u)) = Stop

-- which article
abbrev pub article_of : Unit {0} ⊎ Unit {0} → Article
article_of (inl u) = article.A
article_of (inr u) = article.The

-- which order of values and reference
abbrev pub details_of : (Several Expr × Option Reference) ⊎ (Option Reference × List Expr) → Details
details_of (inl (es, v)) = ValuesFirst es v
details_of (inr (v, es)) = CalledFirst v es

-- which time
abbrev pub when_of : Expr ⊎ (Unit {0} ⊎ Expr) → When
when_of (inl e) = At e
when_of (inr (inl u)) = Now
when_of (inr (inr e)) = In e

-- which statement on events
abbrev pub timing_of : (Article × (Name × (Details × When))) ⊎ ((Name × Option Reference) ⊎ Unit {0}) → Timing
timing_of (inl (a, (c, (d, w)))) = Schedule a c d w
timing_of (inr (inl (c, v))) = Cancel c v
timing_of (inr (inr u)) = StartSimulation

-- which exchange
abbrev pub exchange_of : Several Reference ⊎ ((ℕ × (List Expr × List (List ℕ))) ⊎ Expr) → Exchange
exchange_of (inl vs) = Read vs
exchange_of (inr (inl (n, (es, p)))) = Print n es p
exchange_of (inr (inr e)) = Skip e

-- which theme
abbrev pub simple_of : Making ⊎ (Filing ⊎ (Transfer ⊎ (Timing ⊎ (Exchange ⊎ Assign)))) → Simple
simple_of (inl a) = Makes a
simple_of (inr (inl a)) = Files a
simple_of (inr (inr (inl a))) = Transfers a
simple_of (inr (inr (inr (inl a)))) = Times a
simple_of (inr (inr (inr (inr (inl a))))) = Exchanges a
simple_of (inr (inr (inr (inr (inr a))))) = Assigns a

-- A or THE
unfoldable pub an_article : Reading Article
an_article = made article_of (either (if_mark (m.Reserved r.A) (pure tt)) (behind (m.Reserved r.The) (pure tt)))

-- with at most n parentheses open at once
module _ (n : ℕ) where
  -- an expression in parentheses, if one opens here
  unfoldable pub subscript_at : Reading (Option Expr)
  subscript_at = if_open n (inner_at n)

  -- name ["(" expr ")"]
  unfoldable pub reference_at : Reading Reference
  reference_at = made (λ x. record { name = x.0; subscript = x.1 }) (pair a_name subscript_at)

  -- [CALLED ref]
  unfoldable pub called_at : Reading (Option Reference)
  called_at = if_mark (m.Reserved r.Called) reference_at

  -- ref "=" expr
  unfoldable pub equation_at : Reading (Reference × Expr)
  equation_at = pair (before reference_at (m.Sign s.Equal)) (expr_at n)

  -- expr k ref
  unfoldable pub moved_at : Mark → Reading (Expr × Reference)
  moved_at k = pair (before (expr_at n) k) reference_at

  -- LET ref "=" expr, ADD expr TO ref, SUBTRACT expr FROM ref, or ref "=" expr
  unfoldable pub assign_at : Reading (Option Assign)
  assign_at = made_of assign_of
      (either_of (if_mark (m.Reserved r.Let) equation_at)
      (either_of (if_mark (m.Reserved r.Add) (moved_at (m.Reserved r.To)))
      (either_of (if_mark (m.Reserved r.Subtract) (moved_at (m.Reserved r.From)))
      (if_word (by_table name_of) (pair (before subscript_at (m.Sign s.Equal)) (expr_at n))))))

  -- name [CALLED ref]
  unfoldable pub named_at : Reading (Name × Option Reference)
  named_at = pair a_name called_at

  -- CREATE EVERY name ["(" expr ")"], CREATE name [CALLED ref], or DESTROY name [CALLED ref]
  unfoldable pub making_at : Reading (Option Making)
  making_at = made_of making_of
      (either_of
      (if_mark (m.Reserved r.Create) (either (if_mark (m.Reserved r.Every) (pair a_name subscript_at)) named_at))
      (if_mark (m.Reserved r.Destroy) named_at))

  -- [FIRST | LAST | (BEFORE | AFTER) expr]
  unfoldable pub file_place_at : Reading FilePlace
  file_place_at = made file_place_of
      (either (by_table end_of)
      (either (if_mark (m.Reserved r.Before) (expr_at n)) (if_mark (m.Reserved r.After) (expr_at n))))

  -- after FILE: (FIRST | LAST) expr IN ref, or expr [FIRST | LAST | (BEFORE | AFTER) expr] IN ref
  unfoldable pub file_at : Reading Filed
  file_at = either (if_word (by_table end_of) (moved_at (m.Reserved r.In)))
      (pair (expr_at n) (pair (before file_place_at (m.Reserved r.In)) reference_at))

  -- after REMOVE: (FIRST | LAST) ref FROM ref, or expr FROM ref
  unfoldable pub remove_at : Reading Removed
  remove_at = either (if_word (by_table end_of) (pair (before reference_at (m.Reserved r.From)) reference_at))
      (moved_at (m.Reserved r.From))

  -- FILE or REMOVE
  unfoldable pub filing_at : Reading (Option Filing)
  filing_at =
      made_of filing_of (either_of (if_mark (m.Reserved r.File) file_at) (if_mark (m.Reserved r.Remove) remove_at))

  -- after CALL: name [GIVEN exprs | "(" exprs ")"] [YIELDING refs]
  unfoldable pub call_at : Reading (Name × (Listing Expr × List Reference))
  call_at =
      pair a_name (pair (listing_with n (expr_at n) (inner_at n)) (list_behind (m.Reserved r.Yielding) reference_at))

  -- CALL, RETURN or STOP
  unfoldable pub transfer_at : Reading (Option Transfer)
  transfer_at = made_of transfer_of
      (either_of (if_mark (m.Reserved r.Call) call_at)
      (either_of (if_mark (m.Reserved r.Return) (pure tt)) (if_mark (m.Reserved r.Stop) (pure tt))))

  -- "(" exprs ")" [CALLED ref], or [CALLED ref] [GIVEN exprs]
  unfoldable pub details_at : Reading Details
  details_at = made details_of
      (either (if_word (if_open n (several (inner_at n))) called_at)
      (pair called_at (list_behind (m.Reserved r.Given) (expr_at n))))

  -- AT expr, NOW, or IN expr DAYS
  unfoldable pub when_at : Reading When
  when_at = made when_of
      (either (if_mark (m.Reserved r.At) (expr_at n))
      (either (if_mark (m.Reserved r.Now) (pure tt))
      (behind (m.Reserved r.In) (before (expr_at n) (m.Reserved r.Days)))))

  -- after SCHEDULE: (A | THE) name details time
  unfoldable pub schedule_at : Reading (Article × (Name × (Details × When)))
  schedule_at = pair an_article (pair a_name (pair details_at when_at))

  -- SCHEDULE, CANCEL name [CALLED ref], or START SIMULATION
  unfoldable pub timing_at : Reading (Option Timing)
  timing_at = made_of timing_of
      (either_of (if_mark (m.Reserved r.Schedule) schedule_at)
      (either_of (if_mark (m.Reserved r.Cancel) named_at)
      (if_mark (m.Reserved r.Start) (behind (m.Reserved r.Simulation) (pure tt)))))

  -- after PRINT: number LINES [WITH exprs] THUS picture
  unfoldable pub print_at : Reading (ℕ × (List Expr × List (List ℕ)))
  print_at = pair (before a_number (m.Reserved r.Lines))
      (pair (before (list_behind (m.Reserved r.With) (expr_at n)) (m.Reserved r.Thus)) a_picture)

  -- READ refs, PRINT, or SKIP expr LINES
  unfoldable pub exchange_at : Reading (Option Exchange)
  exchange_at = made_of exchange_of
      (either_of (if_mark (m.Reserved r.Read) (several reference_at))
      (either_of (if_mark (m.Reserved r.Print) print_at)
      (if_mark (m.Reserved r.Skip) (before (expr_at n) (m.Reserved r.Lines)))))

  -- a statement that holds no other, if one is here
  unfoldable pub simple_at : Reading (Option Simple)
  simple_at = made_of simple_of
      (either_of making_at
      (either_of filing_at
      (either_of transfer_at
      (either_of timing_at
      (either_of exchange_at assign_at)))))
