-- The pure data for expressions, conditions, statements, places and sections of the code.
use Rattle.std.specs.Prelude.{List, map}
use Rattle.ss_words.specs.Lists.{Name, several_view}
use Rattle.ss_words.specs.Reading.{option_view}
use Rattle.ss_words.specs.declared.terms.TermSign.{TermSign}
use Rattle.ss_routines.specs.declared.tree.expr.Expr.{Expr as CodeExpr, fold-Expr}
use Rattle.ss_routines.specs.declared.tree.expr.Term.{Term as CodeTerm, fold-Term}
use Rattle.ss_routines.specs.declared.tree.expr.Added.{Added as CodeAdded, fold-Added}
use Rattle.ss_routines.specs.declared.tree.expr.Application.{Application as CodeApplication, fold-Application}
use Rattle.ss_routines.specs.declared.tree.expr.Factor.{Factor as CodeFactor, fold-Factor}
use Rattle.ss_routines.specs.declared.tree.expr.Factor.TheOpen.{Factor-F, Added-F, Application-F, Expr-F, Term-F}
use Rattle.ss_routines.specs.declared.tree.condition.Reference.{Reference as CodeReference}
use Rattle.ss_routines.specs.declared.tree.condition.Condition.{Condition as CodeCondition, fold-Condition}
use Rattle.ss_routines.specs.declared.tree.condition.Conjunction.{Conjunction as CodeConjunction, fold-Conjunction}
use Rattle.ss_routines.specs.declared.tree.condition.Relation.{Relation as CodeRelation, fold-Relation}
use Rattle.ss_routines.specs.declared.tree.condition.Relation.TheOpen.{Condition-F, Conjunction-F, Relation-F}
use Rattle.ss_routines.specs.declared.tree.simple.Assign.{Assign as CodeAssign}
use Rattle.ss_routines.specs.declared.tree.simple.Assign.TheVariants as assign
use Rattle.ss_routines.specs.declared.tree.simple.Making.{Making as CodeMaking}
use Rattle.ss_routines.specs.declared.tree.simple.Making.TheVariants as making
use Rattle.ss_routines.specs.declared.tree.simple.FilePlace.{FilePlace as CodeFilePlace}
use Rattle.ss_routines.specs.declared.tree.simple.FilePlace.TheVariants as place
use Rattle.ss_routines.specs.declared.tree.simple.Filing.{Filing as CodeFiling}
use Rattle.ss_routines.specs.declared.tree.simple.Filing.TheVariants as filing
use Rattle.ss_routines.specs.declared.tree.simple.Listing.{Listing as CodeListing}
use Rattle.ss_routines.specs.declared.tree.simple.Listing.TheVariants as listing
use Rattle.ss_routines.specs.declared.tree.simple.Transfer.{Transfer as CodeTransfer}
use Rattle.ss_routines.specs.declared.tree.simple.Transfer.TheVariants as transfer
use Rattle.ss_routines.specs.declared.tree.simple.Details.{Details as CodeDetails}
use Rattle.ss_routines.specs.declared.tree.simple.Details.TheVariants as details
use Rattle.ss_routines.specs.declared.tree.simple.When.{When as CodeWhen}
use Rattle.ss_routines.specs.declared.tree.simple.When.TheVariants as when
use Rattle.ss_routines.specs.declared.tree.simple.Timing.{Timing as CodeTiming}
use Rattle.ss_routines.specs.declared.tree.simple.Timing.TheVariants as timing
use Rattle.ss_routines.specs.declared.tree.simple.Exchange.{Exchange as CodeExchange}
use Rattle.ss_routines.specs.declared.tree.simple.Exchange.TheVariants as exchange
use Rattle.ss_routines.specs.declared.tree.simple.Simple.{Simple as CodeSimple}
use Rattle.ss_routines.specs.declared.tree.simple.Simple.TheVariants as simple
use Rattle.ss_routines.specs.declared.tree.place.WalkStart.{WalkStart as CodeWalkStart}
use Rattle.ss_routines.specs.declared.tree.place.WalkStart.TheVariants as start
use Rattle.ss_routines.specs.declared.tree.place.Range.{Range as CodeRange}
use Rattle.ss_routines.specs.declared.tree.place.Range.TheVariants as range
use Rattle.ss_routines.specs.declared.tree.place.Qualifier.{Qualifier as CodeQualifier}
use Rattle.ss_routines.specs.declared.tree.place.Phrase.{Phrase as CodePhrase}
use Rattle.ss_routines.specs.declared.tree.place.Computed.{Computed as CodeComputed}
use Rattle.ss_routines.specs.declared.tree.place.Question.{Question as CodeQuestion}
use Rattle.ss_routines.specs.declared.tree.place.Question.TheVariants as question
use Rattle.ss_routines.specs.declared.tree.place.Branch.{Branch as CodeBranch}
use Rattle.ss_routines.specs.declared.tree.place.Branch.TheVariants as branch
use Rattle.ss_routines.specs.declared.tree.place.Loop.{Loop as CodeLoop}
use Rattle.ss_routines.specs.declared.tree.place.Loop.TheVariants as loop
use Rattle.ss_routines.specs.declared.tree.place.Place.{Place as CodePlace}
use Rattle.ss_routines.specs.declared.tree.place.Place.TheVariants as at
use Rattle.ss_routines.specs.declared.tree.place.Spot.{Spot as CodeSpot}
use Rattle.ss_routines.specs.declared.tree.section.SectionKind.{SectionKind as CodeKind}
use Rattle.ss_routines.specs.declared.tree.section.SectionKind.TheVariants as kind
use Rattle.ss_routines.specs.declared.tree.section.LocalNames.{LocalNames as CodeLocalNames}
use Rattle.ss_routines.specs.declared.tree.section.Section.{Section as CodeSection}
use Rattle.ss_routines.specs.Expr.{Expr, expr, Term, term, Factor}
use Rattle.ss_routines.specs.Expr.{digits, named, applied, within, sums_of, products_of}
use Rattle.ss_routines.specs.Expr.{exprs_of}
use Rattle.ss_routines.specs.Condition.{Reference, Condition, condition}
use Rattle.ss_routines.specs.Condition.{Conjunction, conjunction, Relation, compared}
use Rattle.ss_routines.specs.Condition.{is_empty, is_in, nested}
use Rattle.ss_routines.specs.Condition.{alternatives_of, additions_of}
use Rattle.ss_routines.specs.Simple as s
use Rattle.ss_routines.specs.Loops as l
use Rattle.ss_routines.specs.Tree.{Head, MainHead, RoutineHead, EventHead}
use Rattle.ss_routines.specs.Places as p

-- ---- expressions

-- a factor, with each part already seen as its tree
abbrev pub factor_step : Factor-F Factor (TermSign × Term) Factor Expr Term → Factor
factor_step (Factor-F.Number n) = digits n
factor_step (Factor-F.Name n) = named n
factor_step (Factor-F.Applied a) = a.value
factor_step (Factor-F.Within e) = within e.value

-- a further term
abbrev pub added_step : Added-F Factor (TermSign × Term) Factor Expr Term → TermSign × Term
added_step a = (a.sign, a.term)

-- a name with its arguments
abbrev pub application_step : Application-F Factor (TermSign × Term) Factor Expr Term → Factor
application_step a = applied a.name a.first.value (exprs_of a.others.items)

-- an expression
abbrev pub expr_step : Expr-F Factor (TermSign × Term) Factor Expr Term → Expr
expr_step e = expr e.sign e.first (sums_of e.more.items)

-- a term
abbrev pub term_step : Term-F Factor (TermSign × Term) Factor Expr Term → Term
term_step t = term t.first (products_of t.more.items)

-- an expression of the code
abbrev pub expr_view : CodeExpr → Expr
expr_view =
    fold-Expr Factor (TermSign × Term) Factor Expr Term factor_step added_step application_step expr_step term_step

-- a term of the code
abbrev pub term_view : CodeTerm → Term
term_view =
    fold-Term Factor (TermSign × Term) Factor Expr Term factor_step added_step application_step expr_step term_step

-- a factor of the code
abbrev pub factor_view : CodeFactor → Factor
factor_view =
    fold-Factor Factor (TermSign × Term) Factor Expr Term factor_step added_step application_step expr_step term_step

-- a name of the code with its arguments
abbrev pub application_view : CodeApplication → Factor
application_view =
    fold-Application Factor (TermSign × Term) Factor Expr Term factor_step added_step application_step expr_step
    term_step

-- a further term of the code
abbrev pub added_view : CodeAdded → TermSign × Term
added_view =
    fold-Added Factor (TermSign × Term) Factor Expr Term factor_step added_step application_step expr_step term_step

-- ---- conditions

-- a reference of the code
abbrev pub reference_view : CodeReference → Reference
reference_view v = record { name = v.name; subscript = option_view (λ b. expr_view b.value) v.subscript }

-- a relation, with each part already seen as its tree
abbrev pub relation_step : Relation-F Relation Condition Conjunction → Relation
relation_step (Relation-F.Compared e c f) = compared (expr_view e) c (expr_view f)
relation_step (Relation-F.Empty v c) = is_empty (reference_view v) c
relation_step (Relation-F.Member e c v) = is_in (expr_view e) c (reference_view v)
relation_step (Relation-F.Within c) = nested c.value

-- a condition
abbrev pub condition_step : Condition-F Relation Condition Conjunction → Condition
condition_step c = condition c.first (alternatives_of c.more.items)

-- a conjunction
abbrev pub conjunction_step : Conjunction-F Relation Condition Conjunction → Conjunction
conjunction_step c = conjunction c.first (additions_of c.more.items)

-- a condition of the code
abbrev pub condition_view : CodeCondition → Condition
condition_view = fold-Condition Relation Condition Conjunction relation_step condition_step conjunction_step

-- a conjunction of the code
abbrev pub conjunction_view : CodeConjunction → Conjunction
conjunction_view = fold-Conjunction Relation Condition Conjunction relation_step condition_step conjunction_step

-- a relation of the code
abbrev pub relation_view : CodeRelation → Relation
relation_view = fold-Relation Relation Condition Conjunction relation_step condition_step conjunction_step

-- ---- simple statements

-- a written list of the code
abbrev pub listing_view : {X A : Type 0} → (X → A) → CodeListing X → s.Listing A
listing_view f listing.Unwritten = s.Unwritten
listing_view f (listing.BehindGiven xs) = s.BehindGiven (several_view f xs)
listing_view f (listing.InParentheses xs) = s.InParentheses (several_view f xs)

-- LET, ADD, SUBTRACT of the code
abbrev pub assign_view : CodeAssign → s.Assign
assign_view (assign.Let b v e) = s.Let b (reference_view v) (expr_view e)
assign_view (assign.Add e v) = s.Add (expr_view e) (reference_view v)
assign_view (assign.Subtract e v) = s.Subtract (expr_view e) (reference_view v)

-- CREATE, CREATE EVERY, DESTROY of the code
abbrev pub making_view : CodeMaking → s.Making
making_view (making.Create c v) = s.Create c (option_view reference_view v)
making_view (making.CreateEvery c e) = s.CreateEvery c (option_view expr_view e)
making_view (making.Destroy c v) = s.Destroy c (option_view reference_view v)

-- the place at which a member is filed, of the code
abbrev pub file_place_view : CodeFilePlace → s.FilePlace
file_place_view place.ByDiscipline = s.ByDiscipline
file_place_view (place.AtEnd b) = s.AtEnd b
file_place_view (place.Before e) = s.Before (expr_view e)
file_place_view (place.After e) = s.After (expr_view e)

-- FILE and REMOVE of the code
abbrev pub filing_view : CodeFiling → s.Filing
filing_view (filing.File e h v) = s.File (expr_view e) (file_place_view h) (reference_view v)
filing_view (filing.FileAt b e v) = s.FileAt b (expr_view e) (reference_view v)
filing_view (filing.RemoveEnd b u v) = s.RemoveEnd b (reference_view u) (reference_view v)
filing_view (filing.Remove e v) = s.Remove (expr_view e) (reference_view v)

-- CALL, RETURN, STOP of the code
abbrev pub transfer_view : CodeTransfer → s.Transfer
transfer_view (transfer.Call n es vs) = s.Call n (listing_view expr_view es) (map reference_view vs.items)
transfer_view transfer.Return = s.Return
transfer_view transfer.Stop = s.Stop

-- the values and the reference of a SCHEDULE of the code
abbrev pub details_view : CodeDetails → s.Details
details_view (details.ValuesFirst es v) = s.ValuesFirst (several_view expr_view es) (option_view reference_view v)
details_view (details.CalledFirst v es) = s.CalledFirst (option_view reference_view v) (map expr_view es.items)

-- the time of a SCHEDULE of the code
abbrev pub when_view : CodeWhen → s.When
when_view (when.At e) = s.At (expr_view e)
when_view when.Now = s.Now
when_view (when.In e) = s.In (expr_view e)

-- SCHEDULE, CANCEL, START SIMULATION of the code
abbrev pub timing_view : CodeTiming → s.Timing
timing_view (timing.Schedule a c d w) = s.Schedule a c (details_view d) (when_view w)
timing_view (timing.Cancel c v) = s.Cancel c (option_view reference_view v)
timing_view timing.StartSimulation = s.StartSimulation

-- READ, PRINT and SKIP of the code
abbrev pub exchange_view : CodeExchange → s.Exchange
exchange_view (exchange.Read vs) = s.Read (several_view reference_view vs)
exchange_view (exchange.Print n es ls) = s.Print n (map expr_view es.items) (map (λ l. l.items) ls.items)
exchange_view (exchange.Skip e) = s.Skip (expr_view e)

-- a statement of the code that holds no other
abbrev pub simple_view : CodeSimple → s.Simple
simple_view (simple.Assign a) = s.Assigns (assign_view a)
simple_view (simple.Make a) = s.Makes (making_view a)
simple_view (simple.File a) = s.Files (filing_view a.value)
simple_view (simple.Transfer a) = s.Transfers (transfer_view a.value)
simple_view (simple.Time a) = s.Times (timing_view a.value)
simple_view (simple.Exchange a) = s.Exchanges (exchange_view a)

-- ---- places

-- the start of a walk, of the code
abbrev pub walk_start_view : CodeWalkStart → l.WalkStart
walk_start_view start.AtEnd = l.AtEnd
walk_start_view (start.From e) = l.From (expr_view e)
walk_start_view (start.After e) = l.After (expr_view e)

-- the range of a FOR phrase of the code
abbrev pub range_view : CodeRange → l.Range
range_view (range.Counting d n a b c) = l.Counting d n (expr_view a) (expr_view b) (option_view expr_view c)
range_view (range.Each c v) = l.Each c (option_view (λ n. n) v)
range_view (range.Walking d n v b) = l.Walking d n (reference_view v) (walk_start_view b)

-- a qualifier of the code
abbrev pub qualifier_view : CodeQualifier → l.Qualifier
qualifier_view q = record { word = q.word; condition = condition_view q.condition }

-- a FOR phrase of the code
abbrev pub phrase_view : CodePhrase → l.Phrase
phrase_view f = record { range = range_view f.range; qualifiers = map qualifier_view f.qualifiers.items }

-- a target of COMPUTE of the code
abbrev pub computed_view : CodeComputed → l.Computed
computed_view t = record { target = reference_view t.target; statistic = t.statistic }

-- the question of an IF of the code
abbrev pub question_view : CodeQuestion → l.Question
question_view (question.Holds c) = l.Holds (condition_view c.value)
question_view question.Found = l.Found
question_view question.NoneFound = l.NoneFound

-- a place of an IF statement of the code
abbrev pub branch_view : CodeBranch → p.Branch
branch_view (branch.If q) = p.If (question_view q)
branch_view branch.Else = p.Else
branch_view branch.Always = p.Always

-- a place of a FOR statement of the code
abbrev pub loop_view : CodeLoop → p.Loop
loop_view (loop.For f b) = p.For (phrase_view f.value) b
loop_view loop.Next = p.Next
loop_view loop.Find = p.Find
loop_view (loop.Gather e) = p.Gather (expr_view e)
loop_view (loop.Compute ts) = p.Compute (several_view computed_view ts)

-- a place of the code
abbrev pub place_view : CodePlace → p.Place
place_view (at.Simple a) = p.Simply (simple_view a)
place_view (at.Branch b) = p.Branches (branch_view b)
place_view (at.Loop b) = p.Loops (loop_view b)
place_view at.End = p.EndOfSection

-- a place of the code, with its line
abbrev pub spot_view : CodeSpot → p.Spot
spot_view s = record { line = s.line; place = place_view s.place }

-- places of the code, with their lines
abbrev pub spots : List CodeSpot → List p.Spot
spots xs = map spot_view xs

-- ---- sections

-- a name of the code
abbrev pub head_view : Name → CodeKind → Head
head_view name kind.Main = MainHead
head_view name (kind.Routine given yielded) =
    RoutineHead name (listing_view (λ name. name) given) yielded.items
head_view name (kind.Event given saving) = EventHead name (listing_view (λ name. name) given) saving

-- a local DEFINE of the code
abbrev pub local_view : CodeLocalNames → p.LocalNames
local_view d = record { line = d.line; names = several_view (λ n. n) d.names }

-- a section of the code
abbrev pub section_view : CodeSection → p.Section
section_view s = record {
  line = s.line;
  head = head_view s.name s.kind;
  locals = map local_view s.locals.items;
  places = spots s.places.items;
}
