-- The plain words of statements that hold no other, and how deep their parentheses nest.
use Rattle.std.specs.Prelude.{ℕ, suc, max, Bool, true, false, List, [], ◌∷◌, ◌++◌, Option, Some, None}
use Rattle.ss_words.specs.declared.mark.Mark.{Mark}
use Rattle.ss_words.specs.declared.mark.Mark.TheVariants as m
use Rattle.ss_words.specs.declared.word.Sign.TheVariants as s
use Rattle.ss_words.specs.declared.reserved.Reserved.TheVariants as r
use Rattle.ss_words.specs.Plain.{Plain, name, number, mark, picture}
use Rattle.ss_words.specs.Lists.{Several, spell_others, spell_several}
use Rattle.ss_words.specs.declared.terms.SetEnd.{SetEnd}
use Rattle.ss_words.specs.declared.terms.SetEnd.TheVariants as end
use Rattle.ss_routines.specs.declared.tree.simple.Article.{Article}
use Rattle.ss_routines.specs.declared.tree.simple.Article.TheVariants as article
use Rattle.ss_routines.specs.Expr.{spell_within, spell_expr, depth_expr}
use Rattle.ss_routines.specs.Condition.{Reference, spell_subscript, spell_reference, depth_subscript, depth_reference}
use Rattle.ss_routines.specs.Simple.{Assign, Let, Add, Subtract, Making, Create, CreateEvery, Destroy, FilePlace}
use Rattle.ss_routines.specs.Simple.{ByDiscipline, AtEnd, Before, After, Filing, File, FileAt, RemoveEnd, Remove}
use Rattle.ss_routines.specs.Simple.{Listing, Unwritten, BehindGiven, InParentheses, Transfer, Call, Return, Stop}
use Rattle.ss_routines.specs.Simple.{Details, ValuesFirst, CalledFirst, When, At, Now, In, Timing, Schedule, Cancel}
use Rattle.ss_routines.specs.Simple.{StartSimulation, Exchange, Read, Print, Skip, Simple, Assigns, Makes, Files}
use Rattle.ss_routines.specs.Simple.{Transfers, Times, Exchanges}

-- ---- lists and optional parts

-- one or more after a word, or nothing
abbrev pub spell_behind : {A : Type 0} → Mark → (A → List Plain) → List A → List Plain
spell_behind before spell [] = []
spell_behind before spell (x ∷ xs) = mark before ∷ (spell x ++ spell_others spell xs)

-- one after a word, or nothing
abbrev pub spell_option : {A : Type 0} → Mark → (A → List Plain) → Option A → List Plain
spell_option before spell None = []
spell_option before spell (Some x) = mark before ∷ spell x

-- nothing, or after GIVEN, or in parentheses
abbrev pub spell_listing : {A : Type 0} → (A → List Plain) → Listing A → List Plain
spell_listing spell Unwritten = []
spell_listing spell (BehindGiven xs) = mark (m.Reserved r.Given) ∷ spell_several spell xs
spell_listing spell (InParentheses xs) = spell_within (spell_several spell xs)

-- CALLED and a reference, or nothing
abbrev pub spell_called : Option Reference → List Plain
spell_called v = spell_option (m.Reserved r.Called) spell_reference v

-- ---- the statements

-- LET, if it is written
abbrev pub spell_let : Bool → List Plain
spell_let true = mark (m.Reserved r.Let) ∷ []
spell_let false = []

-- LET, ADD, SUBTRACT
abbrev pub spell_assign : Assign → List Plain
spell_assign (Let b v e) = spell_let b ++ spell_reference v ++ mark (m.Sign s.Equal) ∷ spell_expr e
spell_assign (Add e v) = mark (m.Reserved r.Add) ∷ (spell_expr e ++ mark (m.Reserved r.To) ∷ spell_reference v)
spell_assign (Subtract e v) =
    mark (m.Reserved r.Subtract) ∷ (spell_expr e ++ mark (m.Reserved r.From) ∷ spell_reference v)

-- CREATE, CREATE EVERY, DESTROY
abbrev pub spell_making : Making → List Plain
spell_making (Create c v) = mark (m.Reserved r.Create) ∷ name c ∷ spell_called v
spell_making (CreateEvery c e) = mark (m.Reserved r.Create) ∷ mark (m.Reserved r.Every) ∷ name c ∷ spell_subscript e
spell_making (Destroy c v) = mark (m.Reserved r.Destroy) ∷ name c ∷ spell_called v

-- FIRST or LAST
abbrev pub spell_end : SetEnd → Plain
spell_end end.First = mark (m.Reserved r.First)
spell_end end.Last = mark (m.Reserved r.Last)

-- the place at which a member is filed
abbrev pub spell_file_place : FilePlace → List Plain
spell_file_place ByDiscipline = []
spell_file_place (AtEnd b) = spell_end b ∷ []
spell_file_place (Before e) = mark (m.Reserved r.Before) ∷ spell_expr e
spell_file_place (After e) = mark (m.Reserved r.After) ∷ spell_expr e

-- FILE and REMOVE
abbrev pub spell_filing : Filing → List Plain
spell_filing (File e h v) =
    mark (m.Reserved r.File) ∷ (spell_expr e ++ spell_file_place h ++ mark (m.Reserved r.In) ∷ spell_reference v)
spell_filing (FileAt b e v) =
    mark (m.Reserved r.File) ∷ spell_end b ∷ (spell_expr e ++ mark (m.Reserved r.In) ∷ spell_reference v)
spell_filing (RemoveEnd b u v) =
    mark (m.Reserved r.Remove) ∷ spell_end b ∷ (spell_reference u ++ mark (m.Reserved r.From) ∷ spell_reference v)
spell_filing (Remove e v) = mark (m.Reserved r.Remove) ∷ (spell_expr e ++ mark (m.Reserved r.From) ∷ spell_reference v)

-- CALL, RETURN, STOP
abbrev pub spell_transfer : Transfer → List Plain
spell_transfer (Call n es vs) =
    mark (m.Reserved r.Call) ∷ name n ∷ (spell_listing spell_expr es ++ spell_behind (m.Reserved r.Yielding)
    spell_reference vs)
spell_transfer Return = mark (m.Reserved r.Return) ∷ []
spell_transfer Stop = mark (m.Reserved r.Stop) ∷ []

-- A or THE
abbrev pub spell_article : Article → Plain
spell_article article.A = mark (m.Reserved r.A)
spell_article article.The = mark (m.Reserved r.The)

-- the values and the reference of a SCHEDULE, in the order in which they are written
abbrev pub spell_details : Details → List Plain
spell_details (ValuesFirst es v) = spell_within (spell_several spell_expr es) ++ spell_called v
spell_details (CalledFirst v es) = spell_called v ++ spell_behind (m.Reserved r.Given) spell_expr es

-- the time of a SCHEDULE
abbrev pub spell_when : When → List Plain
spell_when (At e) = mark (m.Reserved r.At) ∷ spell_expr e
spell_when Now = mark (m.Reserved r.Now) ∷ []
spell_when (In e) = mark (m.Reserved r.In) ∷ (spell_expr e ++ mark (m.Reserved r.Days) ∷ [])

-- SCHEDULE, CANCEL, START SIMULATION
abbrev pub spell_timing : Timing → List Plain
spell_timing (Schedule a c d w) =
    mark (m.Reserved r.Schedule) ∷ spell_article a ∷ name c ∷ (spell_details d ++ spell_when w)
spell_timing (Cancel c v) = mark (m.Reserved r.Cancel) ∷ name c ∷ spell_called v
spell_timing StartSimulation = mark (m.Reserved r.Start) ∷ mark (m.Reserved r.Simulation) ∷ []

-- READ, PRINT and SKIP
abbrev pub spell_exchange : Exchange → List Plain
spell_exchange (Read vs) = mark (m.Reserved r.Read) ∷ spell_several spell_reference vs
spell_exchange (Print n es p) =
    mark (m.Reserved r.Print) ∷ number n ∷ mark (m.Reserved r.Lines)
    ∷ (spell_behind (m.Reserved r.With) spell_expr es ++ mark (m.Reserved r.Thus) ∷ picture p ∷ [])
spell_exchange (Skip e) = mark (m.Reserved r.Skip) ∷ (spell_expr e ++ mark (m.Reserved r.Lines) ∷ [])

-- a statement that holds no other
abbrev pub spell_simple : Simple → List Plain
spell_simple (Assigns a) = spell_assign a
spell_simple (Makes a) = spell_making a
spell_simple (Files a) = spell_filing a
spell_simple (Transfers a) = spell_transfer a
spell_simple (Times a) = spell_timing a
spell_simple (Exchanges a) = spell_exchange a

-- ---- the greatest number of parentheses open at once

-- in a list
abbrev pub greatest : {A : Type 0} → (A → ℕ) → List A → ℕ
greatest f [] = 0
greatest f (x ∷ xs) = max (f x) (greatest f xs)

-- in one or more
abbrev pub greatest_of : {A : Type 0} → (A → ℕ) → Several A → ℕ
greatest_of f xs = max (f xs.first) (greatest f xs.others)

-- in an optional part
abbrev pub if_there : {A : Type 0} → (A → ℕ) → Option A → ℕ
if_there f None = 0
if_there f (Some x) = f x

-- in a written list
abbrev pub depth_listing : {A : Type 0} → (A → ℕ) → Listing A → ℕ
depth_listing f Unwritten = 0
depth_listing f (BehindGiven xs) = greatest_of f xs
depth_listing f (InParentheses xs) = suc (greatest_of f xs)

-- in CALLED and a reference
abbrev pub depth_called : Option Reference → ℕ
depth_called v = if_there depth_reference v

-- in LET, ADD, SUBTRACT
abbrev pub depth_assign : Assign → ℕ
depth_assign (Let b v e) = max (depth_reference v) (depth_expr e)
depth_assign (Add e v) = max (depth_expr e) (depth_reference v)
depth_assign (Subtract e v) = max (depth_expr e) (depth_reference v)

-- in CREATE, CREATE EVERY, DESTROY
abbrev pub depth_making : Making → ℕ
depth_making (Create c v) = depth_called v
depth_making (CreateEvery c e) = depth_subscript e
depth_making (Destroy c v) = depth_called v

-- the place at which a member is filed
abbrev pub depth_file_place : FilePlace → ℕ
depth_file_place ByDiscipline = 0
depth_file_place (AtEnd b) = 0
depth_file_place (Before e) = depth_expr e
depth_file_place (After e) = depth_expr e

-- in FILE and REMOVE
abbrev pub depth_filing : Filing → ℕ
depth_filing (File e h v) = max (depth_expr e) (max (depth_file_place h) (depth_reference v))
depth_filing (FileAt b e v) = max (depth_expr e) (depth_reference v)
depth_filing (RemoveEnd b u v) = max (depth_reference u) (depth_reference v)
depth_filing (Remove e v) = max (depth_expr e) (depth_reference v)

-- in CALL, RETURN, STOP
abbrev pub depth_transfer : Transfer → ℕ
depth_transfer (Call n es vs) = max (depth_listing depth_expr es) (greatest depth_reference vs)
depth_transfer Return = 0
depth_transfer Stop = 0

-- in the values and the reference of a SCHEDULE
abbrev pub depth_details : Details → ℕ
depth_details (ValuesFirst es v) = max (suc (greatest_of depth_expr es)) (depth_called v)
depth_details (CalledFirst v es) = max (depth_called v) (greatest depth_expr es)

-- in the time of a SCHEDULE
abbrev pub depth_when : When → ℕ
depth_when (At e) = depth_expr e
depth_when Now = 0
depth_when (In e) = depth_expr e

-- in SCHEDULE, CANCEL, START SIMULATION
abbrev pub depth_timing : Timing → ℕ
depth_timing (Schedule a c d w) = max (depth_details d) (depth_when w)
depth_timing (Cancel c v) = depth_called v
depth_timing StartSimulation = 0

-- in READ, PRINT and SKIP
abbrev pub depth_exchange : Exchange → ℕ
depth_exchange (Read vs) = greatest_of depth_reference vs
depth_exchange (Print n es p) = greatest depth_expr es
depth_exchange (Skip e) = depth_expr e

-- in a statement that holds no other
abbrev pub depth_simple : Simple → ℕ
depth_simple (Assigns a) = depth_assign a
depth_simple (Makes a) = depth_making a
depth_simple (Files a) = depth_filing a
depth_simple (Transfers a) = depth_transfer a
depth_simple (Times a) = depth_timing a
depth_simple (Exchanges a) = depth_exchange a
