-- The properties that make a checked program sound; each checked program has them.
use Rattle.std.specs.Prelude.{◌≡◌, ℕ, ◌<◌, ◌≤◌, ◌+◌, ◌^◌, ◌==◌, List, [], ◌∷◌, length, map, count_by, bytes_eq}
use Rattle.std.specs.Prelude.{slice_get, Option, Some, None, Bool, true, false}
use Rattle.std.specs.List.{All, IsDistinct, list_all, list_any}
use Rattle.ss_words.specs.declared.limits.TheConstants.{MOST_CLASSES, MOST_ATTRIBUTES, MOST_SETS, MOST_KEYS}
use Rattle.ss_words.specs.declared.limits.TheConstants.{MOST_PARAMETERS, MOST_PHRASES}
use Rattle.ss_report.specs.Pictures.{field_count, has_decimal_field}
use Rattle.ss_program.specs.declared.variable.Variable.{Variable as AVariable}
use Rattle.ss_program.specs.declared.variable.Variable.TheVariants.{Global, Local, Clock}
use Rattle.ss_program.specs.declared.place.Assign.{Assign as AnAssign}
use Rattle.ss_program.specs.declared.place.Assign.TheVariants.{Let, Add, Subtract}
use Rattle.ss_program.specs.declared.place.Output.{Output as AnOutput}
use Rattle.ss_program.specs.declared.place.Output.TheVariants.{Print, Skip}
use Rattle.ss_program.specs.declared.place.Control.TheVariants.{End}
use Rattle.ss_program.specs.declared.place.Place.{Place}
use Rattle.ss_program.specs.declared.place.Place.TheVariants.{Assign, Making, Filing, Output, Control, Branch, Looping}
use Rattle.ss_program.specs.declared.place.Place.TheVariants.{Call, Timing, Read}
use Rattle.ss_program.specs.declared.branch.Question.{Question}
use Rattle.ss_program.specs.declared.branch.Question.TheVariants.{Whether, WasFound, WasNone}
use Rattle.ss_program.specs.declared.branch.Branch.{Branch as ABranch}
use Rattle.ss_program.specs.declared.branch.Branch.TheVariants.{If, Else, Always}
use Rattle.ss_program.specs.declared.looping.Qualifier.{Qualifier}
use Rattle.ss_program.specs.declared.looping.Phrase.{Phrase}
use Rattle.ss_program.specs.declared.looping.Phrase.TheVariants.{Counting, Each, Walking}
use Rattle.ss_program.specs.declared.looping.Begin.{Begin}
use Rattle.ss_program.specs.declared.looping.Begin.TheVariants.{AtTheEnd, From, After}
use Rattle.ss_program.specs.declared.making.Making.{Making as AMaking}
use Rattle.ss_program.specs.declared.making.Making.TheVariants.{Create, CreateEvery, Destroy}
use Rattle.ss_program.specs.declared.filing.Position.{Position}
use Rattle.ss_program.specs.declared.filing.Position.TheVariants as position
use Rattle.ss_program.specs.declared.filing.Position.TheVariants.{ByRule, AtEnd, Before}
use Rattle.ss_program.specs.declared.filing.Filing.{Filing as AFiling}
use Rattle.ss_program.specs.declared.filing.Filing.TheVariants.{File, FileAt, RemoveAt, Remove}
use Rattle.ss_program.specs.declared.target.SetRef.{SetRef}
use Rattle.ss_program.specs.declared.timing.Notice.{Notice}
use Rattle.ss_program.specs.declared.timing.Notice.TheVariants.{New, Known}
use Rattle.ss_program.specs.declared.timing.When.{When}
use Rattle.ss_program.specs.declared.timing.When.TheVariants.{At, Now, In}
use Rattle.ss_program.specs.declared.timing.Timing.{Timing as ATiming}
use Rattle.ss_program.specs.declared.timing.Timing.TheVariants.{Schedule, Cancel, Start}
use Rattle.ss_program.specs.declared.target.Target.{Target}
use Rattle.ss_program.specs.declared.target.Target.TheVariants.{Variable, Attribute}
use Rattle.ss_program.specs.declared.looping.Telling.{Telling}
use Rattle.ss_program.specs.declared.looping.Looping.{Looping as ALooping}
use Rattle.ss_program.specs.declared.looping.Looping.TheVariants.{For, Loop, Find, Gather, Tell}
use Rattle.ss_program.specs.declared.call.Call.{Call as ACall}
use Rattle.ss_program.specs.declared.ways.Ways.{Ways}
use Rattle.ss_program.specs.ProgramCondition.{Condition, any, Conjunctions, no_conjunctions, or_else, Conjunction, all}
use Rattle.ss_program.specs.ProgramCondition.{Relations, no_relations, and_also, Relation, compared, is_empty, is_in}
use Rattle.ss_program.specs.ProgramCondition.{nested}
use Rattle.ss_program.specs.Match.{ways_of}
use Rattle.ss_program.specs.Nesting.{AreNestedPlaces}
use Rattle.ss_program.specs.declared.place.Spot.{Spot}
use Rattle.ss_program.specs.ProgramExpr.{Expr, expr, Sums, no_sums, sum, Term, term, Products, no_products, product}
use Rattle.ss_program.specs.ProgramExpr.{Factor, digits, variable, absolute, greatest, least, quotient, remainder}
use Rattle.ss_program.specs.ProgramExpr.{attribute, owner_kept, member_kept, within, Subscript, implied, of_system, at}
use Rattle.ss_program.specs.ProgramExpr.{Exprs, no_exprs, exprs}
use Rattle.ss_program.specs.declared.keys.Key.{Key}
use Rattle.ss_program.specs.declared.kinds.ClassKind.{ClassKind}
use Rattle.ss_program.specs.declared.kinds.ClassKind.TheVariants.{Permanent, Temporary, Event}
use Rattle.ss_program.specs.declared.kinds.Discipline.{Discipline}
use Rattle.ss_program.specs.declared.kinds.Discipline.TheVariants.{Fifo, Lifo, Ranked}
use Rattle.ss_program.specs.declared.kinds.Owner.{Owner}
use Rattle.ss_program.specs.declared.kinds.Owner.TheVariants.{System, OwnedBy}
use Rattle.ss_program.specs.EventTable.{EventTable}
use Rattle.ss_program.specs.Program.{ClassTable, SetTable, SectionTable, ProgramTable, is_main, is_routine, class_of}
use Rattle.ss_program.specs.Program.{is_permanent, is_event, is_event_section, section_of, locals_of}

-- the tables that a place may name rows of
pub record Scope : Type 0 where
  -- how many global variables there are
  pub globals : ℕ
  -- how many locals the section has
  pub locals : ℕ
  -- of each class, whether it is permanent
  pub permanent : List Bool
  -- how many sets there are
  pub sets : ℕ

-- the tables that the places of section number q may name rows of
abbrev pub scope_in : ProgramTable → ℕ → Scope
scope_in program q = record {
  globals = length program.globals;
  locals = length (locals_of (slice_get program.sections q));
  permanent = map (λ c. is_permanent c.kind) program.classes;
  sets = length program.sets;
}

-- a variable is one of the global ones, one of the locals, or the clock
abbrev pub IsSoundVariable : Scope → AVariable → Type 0
IsSoundVariable sc (Global i) = i < sc.globals
IsSoundVariable sc (Local i) = i < sc.locals
IsSoundVariable sc Clock = Unit {0}

-- one to which a value may be assigned is one of the global ones or one of the locals
abbrev pub IsSettable : Scope → AVariable → Type 0
IsSettable sc (Global i) = i < sc.globals
IsSettable sc (Local i) = i < sc.locals
IsSettable sc Clock = ⊥

-- a class is one of the table
abbrev pub IsClass : Scope → ℕ → Type 0
IsClass sc c = c < length sc.permanent

-- each variable of an expression is sound
abbrev mutual
  -- of the whole expression
  pub IsSoundExpr : Scope → Expr → Type 0
  IsSoundExpr sc (expr l t ss) = IsSoundTerm sc t × IsSoundSums sc ss

  -- of the terms after the first
  pub IsSoundSums : Scope → Sums → Type 0
  IsSoundSums sc no_sums = Unit {0}
  IsSoundSums sc (sum s t ss) = IsSoundTerm sc t × IsSoundSums sc ss

  -- of a term
  pub IsSoundTerm : Scope → Term → Type 0
  IsSoundTerm sc (term f ps) = IsSoundFactor sc f × IsSoundProducts sc ps

  -- of the factors after the first
  pub IsSoundProducts : Scope → Products → Type 0
  IsSoundProducts sc no_products = Unit {0}
  IsSoundProducts sc (product f ps) = IsSoundFactor sc f × IsSoundProducts sc ps

  -- of a factor, whose class or set is one of the table
  pub IsSoundFactor : Scope → Factor → Type 0
  IsSoundFactor sc (digits k) = Unit {0}
  IsSoundFactor sc (variable x) = IsSoundVariable sc x
  IsSoundFactor sc (absolute e) = IsSoundExpr sc e
  IsSoundFactor sc (greatest e es) = IsSoundExpr sc e × AreSoundArguments sc es
  IsSoundFactor sc (least e es) = IsSoundExpr sc e × AreSoundArguments sc es
  IsSoundFactor sc (quotient e f) = IsSoundExpr sc e × IsSoundExpr sc f
  IsSoundFactor sc (remainder e f) = IsSoundExpr sc e × IsSoundExpr sc f
  IsSoundFactor sc (attribute c a i) = IsClass sc c × IsSoundSubscript sc i
  IsSoundFactor sc (owner_kept kept s i) = (s < sc.sets) × IsSoundSubscript sc i
  IsSoundFactor sc (member_kept kept s i) = (s < sc.sets) × IsSoundSubscript sc i
  IsSoundFactor sc (within e) = IsSoundExpr sc e

  -- of a subscript: a class's variable is a global one
  pub IsSoundSubscript : Scope → Subscript → Type 0
  IsSoundSubscript sc (implied v) = v < sc.globals
  IsSoundSubscript sc of_system = Unit {0}
  IsSoundSubscript sc (at e) = IsSoundExpr sc e

  -- of the arguments after the first
  pub AreSoundArguments : Scope → Exprs → Type 0
  AreSoundArguments sc no_exprs = Unit {0}
  AreSoundArguments sc (exprs e es) = IsSoundExpr sc e × AreSoundArguments sc es

-- each expression of a list is sound
abbrev pub AreSoundExprs : Scope → List Expr → Type 0
AreSoundExprs sc [] = Unit {0}
AreSoundExprs sc (e ∷ es) = IsSoundExpr sc e × AreSoundExprs sc es

-- a target is a variable or an attribute
abbrev pub IsTarget : Scope → Target → Type 0
IsTarget sc (Variable x) = IsSettable sc x
IsTarget sc (Attribute c a i) = IsClass sc c × IsSoundSubscript sc i

-- a set is one of the table, and its owner's subscript is sound
abbrev pub IsSoundSetRef : Scope → SetRef → Type 0
IsSoundSetRef sc set = (set.set < sc.sets) × IsSoundSubscript sc set.owner

-- an assignment has a target and a sound value
abbrev pub IsSoundAssign : Scope → AnAssign → Type 0
IsSoundAssign sc (Let written target value) = IsTarget sc target × IsSoundExpr sc value
IsSoundAssign sc (Add value target) = IsTarget sc target × IsSoundExpr sc value
IsSoundAssign sc (Subtract value target) = IsTarget sc target × IsSoundExpr sc value

-- a PRINT has sound values, as many as its picture has fields, and no decimal field; a SKIP has a sound value
abbrev pub IsSoundOutput : Scope → AnOutput → Type 0
IsSoundOutput sc (Print count values picture) =
    (length values ≡ field_count picture) × (has_decimal_field picture ≡ false) × AreSoundExprs sc values
IsSoundOutput sc (Skip count) = IsSoundExpr sc count

-- each value of a condition is sound
abbrev mutual
  -- of the whole condition
  pub IsSoundCondition : Scope → Condition → Type 0
  IsSoundCondition sc (any c cs) = IsSoundConjunction sc c × AreSoundConjunctions sc cs

  -- of the conjunctions after OR
  pub AreSoundConjunctions : Scope → Conjunctions → Type 0
  AreSoundConjunctions sc no_conjunctions = Unit {0}
  AreSoundConjunctions sc (or_else c cs) = IsSoundConjunction sc c × AreSoundConjunctions sc cs

  -- of a conjunction
  pub IsSoundConjunction : Scope → Conjunction → Type 0
  IsSoundConjunction sc (all r rs) = IsSoundRelation sc r × AreSoundRelations sc rs

  -- of the relations after AND
  pub AreSoundRelations : Scope → Relations → Type 0
  AreSoundRelations sc no_relations = Unit {0}
  AreSoundRelations sc (and_also r rs) = IsSoundRelation sc r × AreSoundRelations sc rs

  -- of a relation
  pub IsSoundRelation : Scope → Relation → Type 0
  IsSoundRelation sc (compared e c f) = IsSoundExpr sc e × IsSoundExpr sc f
  IsSoundRelation sc (is_empty r is) = IsSoundSetRef sc r
  IsSoundRelation sc (is_in e is r) = IsSoundExpr sc e × IsSoundSetRef sc r
  IsSoundRelation sc (nested c) = IsSoundCondition sc c

-- the question of an IF
abbrev pub IsSoundQuestion : Scope → Question → Type 0
IsSoundQuestion sc (Whether c) = IsSoundCondition sc c
IsSoundQuestion sc WasFound = Unit {0}
IsSoundQuestion sc WasNone = Unit {0}

-- IF, ELSE, ALWAYS
abbrev pub IsSoundBranch : Scope → ABranch → Type 0
IsSoundBranch sc (If q) = IsSoundQuestion sc q
IsSoundBranch sc Else = Unit {0}
IsSoundBranch sc Always = Unit {0}

-- the conditions of qualifiers
abbrev pub AreSoundQualifiers : Scope → List Qualifier → Type 0
AreSoundQualifiers sc [] = Unit {0}
AreSoundQualifiers sc (q ∷ qs) = IsSoundCondition sc q.condition × AreSoundQualifiers sc qs

-- an expression that may be left out
abbrev pub IsSoundOption : Scope → Option Expr → Type 0
IsSoundOption sc None = Unit {0}
IsSoundOption sc (Some e) = IsSoundExpr sc e

-- the begin of a walk through a list
abbrev pub IsSoundBegin : Scope → Begin → Type 0
IsSoundBegin sc AtTheEnd = Unit {0}
IsSoundBegin sc (From e) = IsSoundExpr sc e
IsSoundBegin sc (After e) = IsSoundExpr sc e

-- the range of a FOR phrase: its variable is a target, its bounds and its step are sound, and the
-- number of a class's entities is a global variable
abbrev pub IsSoundPhrase : Scope → Phrase → Type 0
IsSoundPhrase sc (Counting d x first last step) =
    IsSettable sc x × IsSoundExpr sc first × IsSoundExpr sc last × IsSoundOption sc step
IsSoundPhrase sc (Each class is_called x count) = IsSettable sc x × (count < sc.globals)
IsSoundPhrase sc (Walking d x r begin) = IsSettable sc x × IsSoundSetRef sc r × IsSoundBegin sc begin

-- the targets of a COMPUTE
abbrev pub AreSoundTellings : Scope → List Telling → Type 0
AreSoundTellings sc [] = Unit {0}
AreSoundTellings sc (t ∷ ts) = IsTarget sc t.target × AreSoundTellings sc ts

-- FOR phrases, and the places that only they control
abbrev pub IsSoundLooping : Scope → ALooping → Type 0
IsSoundLooping sc (For f) = IsSoundPhrase sc f.phrase × AreSoundQualifiers sc f.qualifiers
IsSoundLooping sc Loop = Unit {0}
IsSoundLooping sc Find = Unit {0}
IsSoundLooping sc (Gather e) = IsSoundExpr sc e
IsSoundLooping sc (Tell ts) = AreSoundTellings sc ts

-- the targets of a CALL, or of a READ
abbrev pub AreTargets : Scope → List Target → Type 0
AreTargets sc [] = Unit {0}
AreTargets sc (x ∷ xs) = IsTarget sc x × AreTargets sc xs

-- the values and targets of a CALL
abbrev pub IsSoundCall : Scope → ACall → Type 0
IsSoundCall sc call = AreSoundExprs sc call.given × AreTargets sc call.targets

-- statements that make and end entities: permanent ones are made all at once, and not ended
abbrev pub IsSoundMaking : Scope → AMaking → Type 0
IsSoundMaking sc (Create c is_called t) = (slice_get sc.permanent c ≡ Some false) × IsTarget sc t
IsSoundMaking sc (CreateEvery c e count) =
    (slice_get sc.permanent c ≡ Some true) × IsSoundOption sc e × (count < sc.globals)
IsSoundMaking sc (Destroy c is_called e) = (slice_get sc.permanent c ≡ Some false) × IsSoundExpr sc e

-- the position at which FILE puts a member
abbrev pub IsSoundPosition : Scope → Position → Type 0
IsSoundPosition sc ByRule = Unit {0}
IsSoundPosition sc (AtEnd end) = Unit {0}
IsSoundPosition sc (Before e) = IsSoundExpr sc e
IsSoundPosition sc (position.After e) = IsSoundExpr sc e

-- statements that file and remove members
abbrev pub IsSoundFiling : Scope → AFiling → Type 0
IsSoundFiling sc (File e how r) = IsSoundExpr sc e × IsSoundPosition sc how × IsSoundSetRef sc r
IsSoundFiling sc (FileAt end e r) = IsSoundExpr sc e × IsSoundSetRef sc r
IsSoundFiling sc (RemoveAt end t r) = IsTarget sc t × IsSoundSetRef sc r
IsSoundFiling sc (Remove e r) = IsSoundExpr sc e × IsSoundSetRef sc r

-- which notice is scheduled
abbrev pub IsSoundNotice : Scope → Notice → Type 0
IsSoundNotice sc (New is_called t) = IsTarget sc t
IsSoundNotice sc (Known is_called e) = IsSoundExpr sc e

-- when it is due
abbrev pub IsSoundWhen : Scope → When → Type 0
IsSoundWhen sc (At e) = IsSoundExpr sc e
IsSoundWhen sc Now = Unit {0}
IsSoundWhen sc (In e) = IsSoundExpr sc e

-- statements that schedule notices, take them off, and start events
abbrev pub IsSoundTiming : Scope → ATiming → Type 0
IsSoundTiming sc (Schedule s) =
    (slice_get sc.permanent s.class ≡ Some false)
    × IsSoundNotice sc s.notice × AreSoundExprs sc s.arguments × IsSoundWhen sc s.when
IsSoundTiming sc (Cancel c is_called e) = (slice_get sc.permanent c ≡ Some false) × IsSoundExpr sc e
IsSoundTiming sc Start = Unit {0}

-- a place, by its kind
abbrev pub IsSoundPlace : Scope → Place → Type 0
IsSoundPlace sc (Assign a) = IsSoundAssign sc a
IsSoundPlace sc (Making m) = IsSoundMaking sc m
IsSoundPlace sc (Filing f) = IsSoundFiling sc f
IsSoundPlace sc (Output o) = IsSoundOutput sc o
IsSoundPlace sc (Control c) = Unit {0}
IsSoundPlace sc (Branch b) = IsSoundBranch sc b
IsSoundPlace sc (Looping l) = IsSoundLooping sc l
IsSoundPlace sc (Call c) = IsSoundCall sc c
IsSoundPlace sc (Timing t) = IsSoundTiming sc t
IsSoundPlace sc (Read ts) = AreTargets sc ts

-- each place of a list is sound
abbrev pub AreSoundPlaces : Scope → List Spot → Type 0
AreSoundPlaces sc [] = Unit {0}
AreSoundPlaces sc (s ∷ ss) = IsSoundPlace sc s.place × AreSoundPlaces sc ss

-- the END of a section
abbrev pub is_end : Place → Bool
is_end (Control End) = true
is_end _ = false

-- the last place is END, and no other is
abbrev pub IsEnded : List Spot → Type 0
IsEnded [] = ⊥
IsEnded (s ∷ []) = is_end s.place ≡ true
IsEnded (s ∷ t ∷ ts) = (is_end s.place ≡ false) × IsEnded (t ∷ ts)

-- ---- the ways on from places

-- a place of a section with `count` places goes on to one of them; END goes on nowhere
abbrev pub GoesOn : ℕ → Bool → ℕ → Type 0
GoesOn count true next = Unit {0}
GoesOn count false next = next < count

-- a routine that takes these values and yields to these targets
abbrev pub IsCalledBy : ACall → Option SectionTable → Type 0
IsCalledBy call None = ⊥
IsCalledBy call (Some t) =
    (is_routine t ≡ true) × (length call.given ≡ t.given) × (length call.targets ≡ t.yielded)

-- a place with these ways, in a section with `count` places: its exit is a place, too; FIND closes
-- few loops; a CALL is one of a routine
abbrev pub LeadsOn : List SectionTable → ℕ → Ways → Place → Type 0
LeadsOn sections count ways (Branch (If q)) = ways.exit < count
LeadsOn sections count ways (Looping (For f)) = ways.exit < count
LeadsOn sections count ways (Looping Find) = ways.chain ≤ MOST_PHRASES
LeadsOn sections count ways (Call c) = IsCalledBy c (slice_get sections c.section)
LeadsOn sections count ways other = Unit {0}

-- the properties of the place with these ways
pub record IsLinkedPlace (sections : List SectionTable) (count : ℕ) (ways : Ways) (place : Place) : Type 0 where
  -- it goes on to a place
  pub next : GoesOn count (is_end place) ways.next
  -- its exit leads to a place, too; its chain and its call are sound
  pub leads : LeadsOn sections count ways place

-- the places of a section from number i on
abbrev pub AreLinkedPlaces : List SectionTable → List Spot → ℕ → List Spot → Type 0
AreLinkedPlaces sections places i [] = Unit {0}
AreLinkedPlaces sections places i (x ∷ xs) =
    IsLinkedPlace sections (length places) (ways_of places i x.place) x.place
    × AreLinkedPlaces sections places (i + 1) xs

-- the places of each section
abbrev pub AreLinkedSections : List SectionTable → List SectionTable → Type 0
AreLinkedSections sections [] = Unit {0}
AreLinkedSections sections (s ∷ more) = AreLinkedPlaces sections s.places 0 s.places × AreLinkedSections sections more

-- ---- events

-- class number c is an event class, with this many attributes at least
pub record IsEventClass (program : ProgramTable) (c n : ℕ) : Type 0 where
  -- it is a class of the table
  pub class : c < length program.classes
  -- of event notices
  pub event : is_event (class_of program c).kind ≡ true
  -- its attributes
  pub attributes : n ≤ length (class_of program c).attributes

-- notices are of event classes, with no more arguments than attributes; events start in MAIN
abbrev pub IsTimed : ProgramTable → SectionTable → Place → Type 0
IsTimed program section (Timing (Schedule x)) = IsEventClass program x.class (length x.arguments)
IsTimed program section (Timing (Cancel c is_called e)) = IsEventClass program c 0
IsTimed program section (Timing Start) = is_main section ≡ true
IsTimed program section other = Unit {0}

-- the places of a section are timed soundly
abbrev pub AreTimed : ProgramTable → SectionTable → List Spot → Type 0
AreTimed program section [] = Unit {0}
AreTimed program section (x ∷ xs) = IsTimed program section x.place × AreTimed program section xs

-- no two names of a table are alike
abbrev pub AreDistinct : List (List ℕ) → Type 0
AreDistinct names = IsDistinct bytes_eq names

-- the tables that the places of a section may name rows of
abbrev pub scope_of : ProgramTable → SectionTable → Scope
scope_of program section = record {
  globals = length program.globals;
  locals = length section.locals;
  permanent = map (λ c. is_permanent c.kind) program.classes;
  sets = length program.sets;
}

-- a section of a program
pub record IsSoundSection (program : ProgramTable) (section : SectionTable) : Type 0 where
  -- no two locals have one name
  pub distinct : AreDistinct section.locals
  -- the parameters are locals
  pub parameters : section.given + section.yielded ≤ length section.locals
  -- there are not too many parameters
  pub few_parameters : section.given + section.yielded ≤ MOST_PARAMETERS
  -- its places name only rows that exist
  pub places : AreSoundPlaces (scope_of program section) section.places
  -- END is the last place, and no other one
  pub ended : IsEnded section.places
  -- each place leads to places that may have as many open loops
  pub nested : AreNestedPlaces section.places 0 section.places
  -- notices are of event classes, and events start in MAIN
  pub timed : AreTimed program section section.places
  -- its places can be counted
  pub few : length section.places < 2 ^ 63

-- each section of a list is sound
abbrev pub AreSoundSections : ProgramTable → List SectionTable → Type 0
AreSoundSections program [] = Unit {0}
AreSoundSections program (s ∷ ss) = IsSoundSection program s × AreSoundSections program ss

-- no two attributes of one class are alike
abbrev pub HaveDistinctAttributes : List ClassTable → Type 0
HaveDistinctAttributes [] = Unit {0}
HaveDistinctAttributes (c ∷ cs) = AreDistinct c.attributes × HaveDistinctAttributes cs

-- each of a program's own tables has distinct names, and each class has the name of a global variable
pub record HasSoundNames (program : ProgramTable) : Type 0 where
  -- the global variables
  pub globals : AreDistinct program.globals
  -- the classes
  pub classes : AreDistinct (map (λ c. c.name) program.classes)
  -- the attributes of each class
  pub attributes : HaveDistinctAttributes program.classes
  -- the sets
  pub sets : AreDistinct (map (λ s. s.name) program.sets)
  -- each class's name is one of a global variable
  pub class_variables : list_all (λ c. list_any (bytes_eq c.name) program.globals) program.classes ≡ true

-- ---- classes and sets

-- at most eight keys, each of one of n attributes
pub record AreSoundKeys (n : ℕ) (keys : List Key) : Type 0 where
  -- each key is one of the attributes
  pub attributes : All (λ k. k.attribute < n) keys
  -- there are not too many
  pub few : length keys ≤ MOST_KEYS

-- an event class with n attributes: its section is the section of an event, with at most n parameters, and its ties are
-- broken by its attributes
pub record IsSoundEvent (program : ProgramTable) (n : ℕ) (event : EventTable) : Type 0 where
  -- its section is one of the table
  pub section : event.section < length program.sections
  -- the section of an event
  pub kind : is_event_section (section_of program event.section) ≡ true
  -- each given parameter has an attribute
  pub given : (section_of program event.section).given ≤ n
  -- nothing is yielded
  pub yielded : (section_of program event.section).yielded ≡ 0
  -- its ties
  pub ties : AreSoundKeys n event.ties

-- a kind of class with n attributes
abbrev pub IsSoundKind : ProgramTable → ℕ → ClassKind → Type 0
IsSoundKind program n (Permanent count) = count < length program.globals
IsSoundKind program n Temporary = Unit {0}
IsSoundKind program n (Event e) = IsSoundEvent program n e

-- a class
pub record IsSoundClass (program : ProgramTable) (class : ClassTable) : Type 0 where
  -- the global variable of its name has its name
  pub variable : slice_get program.globals class.variable ≡ Some class.name
  -- its kind
  pub kind : IsSoundKind program (length class.attributes) class.kind
  -- its attributes are not too many
  pub few : length class.attributes ≤ MOST_ATTRIBUTES

-- the system, or one of n classes
abbrev pub IsSoundOwner : ℕ → Owner → Type 0
IsSoundOwner n System = Unit {0}
IsSoundOwner n (OwnedBy c) = c < n

-- a ranked set's keys are of the n attributes of its members
abbrev pub IsSoundDiscipline : ℕ → Discipline → Type 0
IsSoundDiscipline n Fifo = Unit {0}
IsSoundDiscipline n Lifo = Unit {0}
IsSoundDiscipline n (Ranked keys) = AreSoundKeys n keys

-- a set
pub record IsSoundSet (program : ProgramTable) (set : SetTable) : Type 0 where
  -- its owner's class is one of the table
  pub owner : IsSoundOwner (length program.classes) set.owner
  -- so is the class of its members
  pub member : set.member < length program.classes
  -- its keys are attributes of its members
  pub discipline : IsSoundDiscipline (length (class_of program set.member).attributes) set.discipline

-- a class that PRIORITY names
pub record IsSoundPriority (program : ProgramTable) (c : ℕ) : Type 0 where
  -- it is one of the table
  pub class : c < length program.classes
  -- of event notices
  pub event : is_event (class_of program c).kind ≡ true

-- the tables of classes and sets, and the priority
pub record HasSoundTables (program : ProgramTable) : Type 0 where
  -- each class
  pub classes : All (IsSoundClass program) program.classes
  -- each set
  pub sets : All (IsSoundSet program) program.sets
  -- each class that PRIORITY names
  pub priority : All (IsSoundPriority program) program.priority
  -- PRIORITY names no class twice
  pub once : IsDistinct ◌==◌ program.priority
  -- there are not too many classes
  pub few_classes : length program.classes ≤ MOST_CLASSES
  -- nor too many sets
  pub few_sets : length program.sets ≤ MOST_SETS

-- a program
pub record IsSound (program : ProgramTable) : Type 0 where
  -- one section is MAIN
  pub main : count_by is_main program.sections ≡ 1
  -- each section
  pub sections : AreSoundSections program program.sections
  -- the sections can be counted
  pub few : length program.sections < 2 ^ 63
  -- each place goes on to places of its section
  pub linked : AreLinkedSections program.sections program.sections
  -- its names
  pub names : HasSoundNames program
  -- its tables
  pub tables : HasSoundTables program
  -- 32 bits can number its names
  pub few_names : length program.globals + length program.classes + length program.sets < 2 ^ 32
