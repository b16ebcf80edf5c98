-- How each place of a section uses names, in the order in which they are written.
use Rattle.std.specs.Prelude.{ℕ, ◌+◌, Bool, List, [], ◌∷◌, ◌++◌, length, Option, Some, None, is_some}
use Rattle.std.specs.List.{flat_map}
use Rattle.ss_words.specs.Lists.{Name, all_of}
use Rattle.ss_routines.specs.declared.tree.simple.Article.{Article}
use Rattle.ss_routines.specs.declared.tree.simple.Article.TheVariants as article
use Rattle.ss_routines.specs.Expr.{Expr, expr, Sums, no_sums, sum, Term, term, Products, no_products, product, Factor}
use Rattle.ss_routines.specs.Expr.{digits, named, applied, within, Exprs, no_exprs, exprs}
use Rattle.ss_routines.specs.Condition.{Reference, Condition, condition, Alternatives, no_alternatives, alternative}
use Rattle.ss_routines.specs.Condition.{Conjunction, conjunction, Additions, no_additions, addition, Relation, compared}
use Rattle.ss_routines.specs.Condition.{is_empty, is_in, nested}
use Rattle.ss_routines.specs.Simple.{Assign, Let, Add, Subtract, Making, Create, CreateEvery, Destroy, FilePlace}
use Rattle.ss_routines.specs.Simple.{Before, After, Filing, File, FileAt, RemoveEnd, Remove, Transfer, Call, Details}
use Rattle.ss_routines.specs.Simple.{ValuesFirst, CalledFirst, When, At, In, Timing, Schedule, Cancel, StartSimulation}
use Rattle.ss_routines.specs.Simple.{Exchange, Read, Print, Skip, Simple, Assigns, Makes, Files, Transfers, Times}
use Rattle.ss_routines.specs.Simple.{Exchanges}
use Rattle.ss_routines.specs.Loops as loops
use Rattle.ss_routines.specs.Tree.{listing_names}
use Rattle.ss_routines.specs.Places.{Branch, If, Loop, For, Gather, Compute, Place, Simply, Branches, Loops}
use Rattle.ss_check.specs.ClassNeed.{ClassNeed}
use Rattle.ss_check.specs.ClassNeed.{Permanent, Ending, Event}

-- a value, with how many arguments, if there are parentheses; a target, and a set, with whether
-- there is a subscript; a loop's variable; a class of the kind needed; an event class with a number
-- of values; a routine with numbers of values and targets
pub data Use : Type 0 where
  Value : Name → Option ℕ → Use
  Target InSet : Name → Bool → Use
  LoopVariable : Name → Use
  OfClass : ClassNeed → Name → Use
  Notice : Name → ℕ → Use
  Routine : Name → ℕ → ℕ → Use

-- ---- expressions

-- how many arguments
abbrev pub count : Exprs → ℕ
count no_exprs = 0
count (exprs e es) = 1 + count es

-- in an expression, and in each part of it
abbrev mutual
  -- in an expression
  pub uses_expr : Expr → List Use
  uses_expr (expr sign t ss) = uses_term t ++ uses_sums ss

  -- in the terms after the first
  pub uses_sums : Sums → List Use
  uses_sums no_sums = []
  uses_sums (sum sign t ss) = uses_term t ++ uses_sums ss

  -- in a term
  pub uses_term : Term → List Use
  uses_term (term f ps) = uses_factor f ++ uses_products ps

  -- in the factors after the first
  pub uses_products : Products → List Use
  uses_products no_products = []
  uses_products (product f ps) = uses_factor f ++ uses_products ps

  -- in a factor
  pub uses_factor : Factor → List Use
  uses_factor (digits n) = []
  uses_factor (named n) = Value n None ∷ []
  uses_factor (applied n e es) = Value n (Some (1 + count es)) ∷ (uses_expr e ++ uses_exprs es)
  uses_factor (within e) = uses_expr e

  -- in the arguments after the first
  pub uses_exprs : Exprs → List Use
  uses_exprs no_exprs = []
  uses_exprs (exprs e es) = uses_expr e ++ uses_exprs es

-- in an expression, if there is one
abbrev pub uses_option : Option Expr → List Use
uses_option None = []
uses_option (Some e) = uses_expr e

-- ---- references

-- as a target
abbrev pub uses_target : Reference → List Use
uses_target reference = Target reference.name (is_some reference.subscript) ∷ uses_option reference.subscript

-- as a set
abbrev pub uses_set : Reference → List Use
uses_set reference = InSet reference.name (is_some reference.subscript) ∷ uses_option reference.subscript

-- as a value
abbrev pub uses_value : Name → Option Expr → List Use
uses_value name None = Value name None ∷ []
uses_value name (Some e) = Value name (Some 1) ∷ uses_expr e

-- after CALLED, as a target
abbrev pub uses_called_target : Option Reference → List Use
uses_called_target None = []
uses_called_target (Some v) = uses_target v

-- after CALLED, as a value
abbrev pub uses_called_value : Option Reference → List Use
uses_called_value None = []
uses_called_value (Some v) = uses_value v.name v.subscript

-- ---- conditions

-- in a condition, and in each part of it
abbrev mutual
  -- in a condition
  pub uses_condition : Condition → List Use
  uses_condition (condition c cs) = uses_conjunction c ++ uses_alternatives cs

  -- in the alternatives after the first
  pub uses_alternatives : Alternatives → List Use
  uses_alternatives no_alternatives = []
  uses_alternatives (alternative c cs) = uses_conjunction c ++ uses_alternatives cs

  -- in an alternative
  pub uses_conjunction : Conjunction → List Use
  uses_conjunction (conjunction q qs) = uses_relation q ++ uses_additions qs

  -- in the relations after the first
  pub uses_additions : Additions → List Use
  uses_additions no_additions = []
  uses_additions (addition q qs) = uses_relation q ++ uses_additions qs

  -- in a relation
  pub uses_relation : Relation → List Use
  uses_relation (compared e how f) = uses_expr e ++ uses_expr f
  uses_relation (is_empty s how) = uses_set s
  uses_relation (is_in e how s) = uses_expr e ++ uses_set s
  uses_relation (nested c) = uses_condition c

-- ---- statements that hold no other

-- LET, ADD, SUBTRACT
abbrev pub uses_assign : Assign → List Use
uses_assign (Let b v e) = uses_target v ++ uses_expr e
uses_assign (Add e v) = uses_expr e ++ uses_target v
uses_assign (Subtract e v) = uses_expr e ++ uses_target v

-- CREATE, CREATE EVERY, DESTROY
abbrev pub uses_making : Making → List Use
uses_making (Create c v) = OfClass Ending c ∷ uses_called_target v
uses_making (CreateEvery c e) = OfClass Permanent c ∷ uses_option e
uses_making (Destroy c v) = OfClass Ending c ∷ uses_called_value v

-- BEFORE or AFTER another member
abbrev pub uses_file_place : FilePlace → List Use
uses_file_place (Before e) = uses_expr e
uses_file_place (After e) = uses_expr e
uses_file_place _ = []

-- FILE and REMOVE
abbrev pub uses_filing : Filing → List Use
uses_filing (File e how s) = uses_expr e ++ uses_file_place how ++ uses_set s
uses_filing (FileAt end e s) = uses_expr e ++ uses_set s
uses_filing (RemoveEnd end v s) = uses_target v ++ uses_set s
uses_filing (Remove e s) = uses_expr e ++ uses_set s

-- CALL
abbrev pub uses_transfer : Transfer → List Use
uses_transfer (Call r values targets) =
    Routine r (length (listing_names values)) (length targets) ∷
    (flat_map uses_expr (listing_names values) ++ flat_map uses_target targets)
uses_transfer _ = []

-- the reference after CALLED: a target after A, a value after THE
abbrev pub uses_called : Article → Option Reference → List Use
uses_called article.A v = uses_called_target v
uses_called article.The v = uses_called_value v

-- the values of a notice
abbrev pub values_of : Details → List Expr
values_of (ValuesFirst values v) = all_of values
values_of (CalledFirst v values) = values

-- the values of a notice and its reference after CALLED, as written
abbrev pub uses_details : Article → Details → List Use
uses_details article (ValuesFirst values v) = flat_map uses_expr (all_of values) ++ uses_called article v
uses_details article (CalledFirst v values) = uses_called article v ++ flat_map uses_expr values

-- the time of a notice
abbrev pub uses_when : When → List Use
uses_when (At e) = uses_expr e
uses_when (In e) = uses_expr e
uses_when _ = []

-- SCHEDULE and CANCEL
abbrev pub uses_timing : Timing → List Use
uses_timing (Schedule b c details when) =
    OfClass Event c ∷ Notice c (length (values_of details)) ∷ (uses_details b details ++ uses_when when)
uses_timing (Cancel c v) = OfClass Event c ∷ uses_called_value v
uses_timing StartSimulation = []

-- READ, PRINT, SKIP
abbrev pub uses_exchange : Exchange → List Use
uses_exchange (Read targets) = flat_map uses_target (all_of targets)
uses_exchange (Print n values picture) = flat_map uses_expr values
uses_exchange (Skip e) = uses_expr e

-- a statement that holds no other
abbrev pub uses_simple : Simple → List Use
uses_simple (Assigns x) = uses_assign x
uses_simple (Makes x) = uses_making x
uses_simple (Files x) = uses_filing x
uses_simple (Transfers x) = uses_transfer x
uses_simple (Times x) = uses_timing x
uses_simple (Exchanges x) = uses_exchange x

-- ---- FOR phrases

-- FROM or AFTER a member
abbrev pub uses_start : loops.WalkStart → List Use
uses_start (loops.From e) = uses_expr e
uses_start (loops.After e) = uses_expr e
uses_start _ = []

-- the loop variable after CALLED
abbrev pub uses_loop_variable : Option Name → List Use
uses_loop_variable None = []
uses_loop_variable (Some v) = LoopVariable v ∷ []

-- the range of a phrase
abbrev pub uses_range : loops.Range → List Use
uses_range (loops.Counting way v x y z) = LoopVariable v ∷ (uses_expr x ++ uses_expr y ++ uses_option z)
uses_range (loops.Each c v) = OfClass Permanent c ∷ uses_loop_variable v
uses_range (loops.Walking way v s start) = LoopVariable v ∷ (uses_set s ++ uses_start start)

-- a phrase with its qualifiers
abbrev pub uses_phrase : loops.Phrase → List Use
uses_phrase phrase = uses_range phrase.range ++ flat_map (λ q. uses_condition q.condition) phrase.qualifiers

-- ---- places

-- the question of an IF
abbrev pub uses_question : loops.Question → List Use
uses_question (loops.Holds c) = uses_condition c
uses_question _ = []

-- IF
abbrev pub uses_branch : Branch → List Use
uses_branch (If q) = uses_question q
uses_branch _ = []

-- a phrase, and the two places of a COMPUTE
abbrev pub uses_loop : Loop → List Use
uses_loop (For f repeats) = uses_phrase f
uses_loop (Gather e) = uses_expr e
uses_loop (Compute ts) = flat_map (λ t. uses_target t.target) (all_of ts)
uses_loop _ = []

-- a place
abbrev pub uses : Place → List Use
uses (Simply x) = uses_simple x
uses (Branches x) = uses_branch x
uses (Loops x) = uses_loop x
uses _ = []
