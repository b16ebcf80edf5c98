-- Which entity a statement names first of those that are missing.
use Rattle.std.specs.Prelude.{ℕ, ℤ, List, [], ◌∷◌, Option, Some, None}
use Rattle.ss_words.specs.declared.terms.OwnerKept.TheVariants.{Count}
use Rattle.ss_program.specs.declared.target.Target.{Target}
use Rattle.ss_program.specs.declared.target.Target.TheVariants as targets
use Rattle.ss_program.specs.declared.target.SetRef.{SetRef}
use Rattle.ss_program.specs.declared.place.Assign.{Assign}
use Rattle.ss_program.specs.declared.place.Assign.TheVariants.{Let, Add, Subtract}
use Rattle.ss_program.specs.declared.place.Output.{Output}
use Rattle.ss_program.specs.declared.place.Output.TheVariants.{Print, Skip}
use Rattle.ss_program.specs.declared.place.Place.{Place}
use Rattle.ss_program.specs.declared.place.Place.TheVariants as places
use Rattle.ss_program.specs.declared.branch.Question.{Question}
use Rattle.ss_program.specs.declared.branch.Question.TheVariants.{Whether, WasFound, WasNone}
use Rattle.ss_program.specs.declared.branch.Branch.{Branch}
use Rattle.ss_program.specs.declared.branch.Branch.TheVariants.{If, Else, Always}
use Rattle.ss_program.specs.declared.making.Making.{Making}
use Rattle.ss_program.specs.declared.making.Making.TheVariants.{Create, CreateEvery, Destroy}
use Rattle.ss_program.specs.declared.filing.Position.{Position}
use Rattle.ss_program.specs.declared.filing.Position.TheVariants as position
use Rattle.ss_program.specs.declared.filing.Filing.{Filing}
use Rattle.ss_program.specs.declared.filing.Filing.TheVariants.{File, FileAt, RemoveAt, Remove}
use Rattle.ss_program.specs.declared.looping.Looping.{Looping}
use Rattle.ss_program.specs.declared.looping.Looping.TheVariants.{For, Loop, Find, Gather, Tell}
use Rattle.ss_program.specs.declared.timing.Notice.{Notice}
use Rattle.ss_program.specs.declared.timing.Notice.TheVariants.{New, Known}
use Rattle.ss_program.specs.declared.timing.Listing.{Listing}
use Rattle.ss_program.specs.declared.timing.Listing.TheVariants.{InParentheses, Given}
use Rattle.ss_program.specs.declared.timing.When.{When}
use Rattle.ss_program.specs.declared.timing.When.TheVariants.{At, Now, In}
use Rattle.ss_program.specs.declared.timing.Schedule.{Schedule}
use Rattle.ss_program.specs.declared.timing.Timing.{Timing}
use Rattle.ss_program.specs.declared.timing.Timing.TheVariants as timings
use Rattle.ss_program.specs.Program.{ProgramTable, set_of}
use Rattle.ss_program.specs.ProgramExpr.{Expr}
use Rattle.ss_program.specs.ProgramCondition.{Condition, any, no_conjunctions, or_else, Conjunction, all}
use Rattle.ss_program.specs.ProgramCondition.{Relations, no_relations, and_also, Relation, compared, is_empty, is_in}
use Rattle.ss_program.specs.ProgramCondition.{nested}
use Rattle.ss_state.specs.State.{State}
use Rattle.ss_faults.specs.declared.told.Told.{Told}
use Rattle.ss_faults.specs.declared.told.Told.TheVariants.{Value, Untold, Missing, Unclear}
use Rattle.ss_faults.specs.Readings.{told_of, subscript_told, both, at_entity, attribute_told, entity_told, owner_told}

-- a variable, or the entity of an attribute
abbrev pub target_told : ProgramTable → State → Target → Told
target_told program state (targets.Variable x) = Untold
target_told program state (targets.Attribute c a i) =
    at_entity (subscript_told program state i) (attribute_told state c a)

-- expressions, after others
abbrev pub values_told : ProgramTable → State → Told → List Expr → Told
values_told program state a [] = a
values_told program state a (e ∷ es) = values_told program state (both a (told_of program state e)) es

-- an expression that may be left out
abbrev pub option_told : ProgramTable → State → Option Expr → Told
option_told program state None = Untold
option_told program state (Some e) = told_of program state e

-- the entity of class c that an expression names
abbrev pub named_told : ProgramTable → State → ℕ → Expr → Told
named_told program state c expression = at_entity (told_of program state expression) (entity_told state c)

-- the owner of a list
abbrev pub list_told : ProgramTable → State → SetRef → Told
list_told program state set =
    at_entity (subscript_told program state set.owner) (owner_told program state Count set.set)

-- ---- statements

-- LET, ADD and SUBTRACT: the value, and the target
abbrev pub assign_told : ProgramTable → State → Assign → Told
assign_told program state (Let written t e) = both (told_of program state e) (target_told program state t)
assign_told program state (Add e t) = both (told_of program state e) (target_told program state t)
assign_told program state (Subtract e t) = both (told_of program state e) (target_told program state t)

-- CREATE assigns when the entity is made
abbrev pub making_told : ProgramTable → State → Making → Told
making_told program state (Create c is_called t) = Unclear
making_told program state (CreateEvery c e count) = option_told program state e
making_told program state (Destroy c is_called e) = named_told program state c e

-- the member that BEFORE or AFTER names
abbrev pub position_told : ProgramTable → State → Position → Told
position_told program state position.ByRule = Untold
position_told program state (position.AtEnd end) = Untold
position_told program state (position.Before e) = told_of program state e
position_told program state (position.After e) = told_of program state e

-- that member, as an entity of class c
abbrev pub placed_told : ProgramTable → State → ℕ → Position → Told
placed_told program state c position.ByRule = Untold
placed_told program state c (position.AtEnd end) = Untold
placed_told program state c (position.Before e) = named_told program state c e
placed_told program state c (position.After e) = named_told program state c e

-- a member and a list: the values of their subscripts, then the owner, then the member
abbrev pub filed_told : ProgramTable → State → Expr → Told → SetRef → Told
filed_told program state expression between set =
    both (both (both (told_of program state expression) between) (list_told program state set))
    (named_told program state (set_of program set.set).member expression)

-- FILE and REMOVE
abbrev pub filing_told : ProgramTable → State → Filing → Told
filing_told program state (File e how r) =
    both (filed_told program state e (position_told program state how) r)
    (placed_told program state (set_of program r.set).member how)
filing_told program state (FileAt end e r) = filed_told program state e Untold r
filing_told program state (RemoveAt end t r) = list_told program state r
filing_told program state (Remove e r) = filed_told program state e Untold r

-- PRINT and SKIP
abbrev pub output_told : ProgramTable → State → Output → Told
output_told program state (Print count values picture) = values_told program state Untold values
output_told program state (Skip e) = told_of program state e

-- a relation; the finding about one in parentheses is unclear
abbrev pub relation_told : ProgramTable → State → Relation → Told
relation_told program state (compared e c f) = both (told_of program state e) (told_of program state f)
relation_told program state (is_empty r is) = list_told program state r
relation_told program state (is_in e is r) = filed_told program state e Untold r
relation_told program state (nested c) = Unclear

-- relations joined by AND, after others: the fault is in one of them, and those before it hold
abbrev pub relations_told : ProgramTable → State → Told → Relations → Told
relations_told program state a no_relations = a
relations_told program state a (and_also r rs) =
    relations_told program state (both a (relation_told program state r)) rs

-- the relations of a conjunction
abbrev pub conjunction_told : ProgramTable → State → Conjunction → Told
conjunction_told program state (all r rs) = relations_told program state (relation_told program state r) rs

-- the first relation of a conjunction
abbrev pub first_told : ProgramTable → State → Conjunction → Told
first_told program state (all r rs) = relation_told program state r

-- a condition: with OR only its first relation, since those after it may have been passed over
abbrev pub condition_told : ProgramTable → State → Condition → Told
condition_told program state (any c no_conjunctions) = conjunction_told program state c
condition_told program state (any c (or_else d ds)) = first_told program state c

-- IF
abbrev pub question_told : ProgramTable → State → Question → Told
question_told program state (Whether c) = condition_told program state c
question_told program state WasFound = Unclear
question_told program state WasNone = Unclear

-- the statements that begin, part and end an IF
abbrev pub branch_told : ProgramTable → State → Branch → Told
branch_told program state (If q) = question_told program state q
branch_told program state Else = Unclear
branch_told program state Always = Unclear

-- the value that COMPUTE gathers; a FOR phrase also goes on from one entity to the next
abbrev pub looping_told : ProgramTable → State → Looping → Told
looping_told program state (For f) = Unclear
looping_told program state Loop = Unclear
looping_told program state Find = Unclear
looping_told program state (Gather e) = told_of program state e
looping_told program state (Tell ts) = Unclear

-- the value that names the notice of THE
abbrev pub notice_value_told : ProgramTable → State → Notice → Told
notice_value_told program state (New is_called t) = Untold
notice_value_told program state (Known is_called e) = told_of program state e

-- that notice; A makes one
abbrev pub notice_told : ProgramTable → State → ℕ → Notice → Told
notice_told program state c (New is_called t) = Unclear
notice_told program state c (Known is_called e) = named_told program state c e

-- the arguments and the value that names the notice, as they are written
abbrev pub listing_told : ProgramTable → State → Listing → Notice → List Expr → Told
listing_told program state InParentheses notice es =
    both (values_told program state Untold es) (notice_value_told program state notice)
listing_told program state Given notice es = values_told program state (notice_value_told program state notice) es

-- the time
abbrev pub when_told : ProgramTable → State → When → Told
when_told program state (At e) = told_of program state e
when_told program state Now = Untold
when_told program state (In e) = told_of program state e

-- SCHEDULE
abbrev pub schedule_told : ProgramTable → State → Schedule → Told
schedule_told program state schedule =
    both (both (listing_told program state schedule.listing schedule.notice schedule.arguments)
    (when_told program state schedule.when))
    (notice_told program state schedule.class schedule.notice)

-- SCHEDULE, CANCEL and START SIMULATION
abbrev pub timing_told : ProgramTable → State → Timing → Told
timing_told program state (timings.Schedule x) = schedule_told program state x
timing_told program state (timings.Cancel c is_called e) = named_told program state c e
timing_told program state timings.Start = Unclear

-- READ: its first target, since a further one is assigned after it
abbrev pub read_told : ProgramTable → State → List Target → Told
read_told program state [] = Unclear
read_told program state (t ∷ ts) = target_told program state t

-- the entity that a statement names first of those that are missing, as far as it is known
abbrev pub place_told : ProgramTable → State → Place → Told
place_told program state (places.Assign a) = assign_told program state a
place_told program state (places.Making m) = making_told program state m
place_told program state (places.Filing f) = filing_told program state f
place_told program state (places.Output o) = output_told program state o
place_told program state (places.Control c) = Unclear
place_told program state (places.Branch b) = branch_told program state b
place_told program state (places.Looping l) = looping_told program state l
place_told program state (places.Call c) = values_told program state Untold c.given
place_told program state (places.Timing x) = timing_told program state x
place_told program state (places.Read ts) = read_told program state ts
