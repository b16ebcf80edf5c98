-- The program of a tree without a breach: each name replaced by its number in its table.
use Rattle.std.specs.Prelude.{Bool, false, List, [], length, map, codes, Option, Some, None, option_map, is_some}
use Rattle.std.specs.Prelude.{unwrap_or}
use Rattle.std.specs.List.{flat_map}
use Rattle.ss_words.specs.Lists.{Name, all_of}
use Rattle.ss_preamble.specs.declared.item.Heading.TheVariants.{PermanentEntities, EventNotices}
use Rattle.ss_preamble.specs.Tree.{Key as WrittenKey, SetDiscipline, Fifo, Lifo, Ranked, ItemAt, Decls}
use Rattle.ss_routines.specs.declared.tree.simple.Article.{Article}
use Rattle.ss_routines.specs.declared.tree.simple.Article.TheVariants.{A, The}
use Rattle.ss_routines.specs.Expr as text
use Rattle.ss_routines.specs.Condition as text_condition
use Rattle.ss_routines.specs.Simple as simple
use Rattle.ss_routines.specs.Loops as loops
use Rattle.ss_routines.specs.Tree.{Head, MainHead, RoutineHead, EventHead, listing_names}
use Rattle.ss_routines.specs.Places as spots
use Rattle.ss_program.specs.declared.filing.Position.{Position}
use Rattle.ss_program.specs.declared.filing.Position.TheVariants as position
use Rattle.ss_program.specs.declared.filing.Filing.{Filing}
use Rattle.ss_program.specs.declared.filing.Filing.TheVariants as filing
use Rattle.ss_program.specs.declared.looping.Qualifier.{Qualifier}
use Rattle.ss_program.specs.declared.looping.Begin.{Begin}
use Rattle.ss_program.specs.declared.looping.Begin.TheVariants as begin
use Rattle.ss_program.specs.declared.looping.ForPhrase.{ForPhrase}
use Rattle.ss_program.specs.declared.looping.Phrase.{Phrase}
use Rattle.ss_program.specs.declared.looping.Phrase.TheVariants as phrase
use Rattle.ss_program.specs.declared.looping.Telling.{Telling}
use Rattle.ss_program.specs.declared.looping.Looping.{Looping}
use Rattle.ss_program.specs.declared.looping.Looping.TheVariants as looping
use Rattle.ss_program.specs.declared.making.Making.{Making}
use Rattle.ss_program.specs.declared.making.Making.TheVariants as making
use Rattle.ss_program.specs.declared.branch.Question.{Question}
use Rattle.ss_program.specs.declared.branch.Question.TheVariants as question
use Rattle.ss_program.specs.declared.branch.Branch.{Branch}
use Rattle.ss_program.specs.declared.branch.Branch.TheVariants as branch
use Rattle.ss_program.specs.declared.timing.Notice.{Notice}
use Rattle.ss_program.specs.declared.timing.Notice.TheVariants as notice
use Rattle.ss_program.specs.declared.timing.Listing.{Listing}
use Rattle.ss_program.specs.declared.timing.Listing.TheVariants as listing
use Rattle.ss_program.specs.declared.timing.When.{When}
use Rattle.ss_program.specs.declared.timing.When.TheVariants as when
use Rattle.ss_program.specs.declared.timing.Timing.{Timing}
use Rattle.ss_program.specs.declared.timing.Timing.TheVariants as timing
use Rattle.ss_program.specs.declared.place.Assign.{Assign}
use Rattle.ss_program.specs.declared.place.Assign.TheVariants as assign
use Rattle.ss_program.specs.declared.place.Output.TheVariants as output
use Rattle.ss_program.specs.declared.place.Control.TheVariants as control
use Rattle.ss_program.specs.declared.place.Place.{Place}
use Rattle.ss_program.specs.declared.place.Place.TheVariants as place
use Rattle.ss_program.specs.declared.place.Spot.{Spot}
use Rattle.ss_program.specs.declared.target.SetRef.{SetRef}
use Rattle.ss_program.specs.declared.target.Target.{Target}
use Rattle.ss_program.specs.declared.target.Target.TheVariants as target
use Rattle.ss_program.specs.declared.variable.Variable.{Variable}
use Rattle.ss_program.specs.declared.variable.Variable.TheVariants.{Global}
use Rattle.ss_program.specs.declared.keys.Key.{Key}
use Rattle.ss_program.specs.declared.kinds.ClassKind.{ClassKind}
use Rattle.ss_program.specs.declared.kinds.ClassKind.TheVariants as class_kinds
use Rattle.ss_program.specs.declared.kinds.Discipline.{Discipline}
use Rattle.ss_program.specs.declared.kinds.Discipline.TheVariants as disciplines
use Rattle.ss_program.specs.declared.kinds.Owner.{Owner}
use Rattle.ss_program.specs.declared.kinds.Owner.TheVariants.{System, OwnedBy}
use Rattle.ss_program.specs.declared.kinds.SectionKind.{SectionKind}
use Rattle.ss_program.specs.declared.kinds.SectionKind.TheVariants as sections
use Rattle.ss_program.specs.EventTable.{EventTable}
use Rattle.ss_program.specs.Program.{ClassTable, SetTable, DefineTable, SectionTable, ProgramTable}
use Rattle.ss_program.specs.ProgramExpr as tree
use Rattle.ss_program.specs.ProgramCondition as tree_condition
use Rattle.ss_check.specs.Facts.{Fact, is_among, fact_of}
use Rattle.ss_check.specs.NameKind.{NameKind}
use Rattle.ss_check.specs.NameKind as kinds
use Rattle.ss_check.specs.Declarations.{Declared}
use Rattle.ss_check.specs.Declarations.{given_of, yielded_of, heads, declared_by_program, kind_of, disciplines_in}
use Rattle.ss_check.specs.Declarations.{ties_in}
use Rattle.ss_check.specs.ResolvedNames.{Names, names, number, attribute_names, attributes_of, locals_of, class_number}
use Rattle.ss_check.specs.ResolvedNames.{set_number, class_variable, count_variable, routine_number, event_section}
use Rattle.ss_check.specs.ResolvedNames.{resolved_variable, owner_of, member_class, owner_subscript, factor_of}
use Rattle.ss_check.specs.ResolvedNames.{applied_factor, value_factor, target_of}

-- a factor by itself as an expression
abbrev pub alone : tree.Factor → tree.Expr
alone f = tree.expr None (tree.term f tree.no_products) tree.no_sums

-- how a list of arguments or parameters is written
abbrev pub resolved_listing : {A : Type 0} → simple.Listing A → Listing
resolved_listing (simple.InParentheses xs) = listing.InParentheses
resolved_listing _ = listing.Given

-- d: the declarations of the whole program; v: its tables; locals: those of the section
module _ (d : Declared) (v : Names) (locals : List Name) where
  -- ---- expressions

  abbrev mutual
    -- an expression, each name by the thing that it denotes
    pub resolved_expr : text.Expr → tree.Expr
    resolved_expr (text.expr l t ts) = tree.expr l (resolved_term t) (resolved_sums ts)

    -- its further terms
    pub resolved_sums : text.Sums → tree.Sums
    resolved_sums text.no_sums = tree.no_sums
    resolved_sums (text.sum l t ts) = tree.sum l (resolved_term t) (resolved_sums ts)

    -- a product
    pub resolved_term : text.Term → tree.Term
    resolved_term (text.term f fs) = tree.term (resolved_factor f) (resolved_products fs)

    -- its further factors
    pub resolved_products : text.Products → tree.Products
    resolved_products text.no_products = tree.no_products
    resolved_products (text.product f fs) = tree.product (resolved_factor f) (resolved_products fs)

    -- a number, a name, a name with arguments, or an expression in parentheses
    pub resolved_factor : text.Factor → tree.Factor
    resolved_factor (text.digits n) = tree.digits n
    resolved_factor (text.named n) = factor_of d v locals (kind_of d n) n None
    resolved_factor (text.applied n a bs) =
        applied_factor d v locals (kind_of d n) n (resolved_expr a) (resolved_exprs bs)
    resolved_factor (text.within a) = tree.within (resolved_expr a)

    -- the arguments after the first
    pub resolved_exprs : text.Exprs → tree.Exprs
    resolved_exprs text.no_exprs = tree.no_exprs
    resolved_exprs (text.exprs a bs) = tree.exprs (resolved_expr a) (resolved_exprs bs)

  -- an expression that may be left out
  abbrev pub resolved_option : Option text.Expr → Option tree.Expr
  resolved_option a = option_map resolved_expr a

  -- ---- references

  -- as a value
  abbrev pub resolved_value : text_condition.Reference → tree.Expr
  resolved_value r = alone (value_factor d v locals (kind_of d r.name) r.name (resolved_option r.subscript))

  -- as a target
  abbrev pub resolved_target : text_condition.Reference → Target
  resolved_target r = target_of d v locals (kind_of d r.name) r.name (resolved_option r.subscript)

  -- as a set
  abbrev pub resolved_set : text_condition.Reference → SetRef
  resolved_set r = record {
    set = set_number d v locals r.name;
    owner = owner_subscript d v locals r.name (resolved_option r.subscript);
  }

  -- after CALLED, else the variable of the class's name: as a target, and as a value
  abbrev pub called_target : Name → Option text_condition.Reference → Target
  called_target n None = target.Variable (Global (class_variable d v locals n))
  called_target n (Some r) = resolved_target r

  -- after CALLED, else the variable of the class's name, as a value
  abbrev pub called_value : Name → Option text_condition.Reference → tree.Expr
  called_value n None = alone (tree.variable (Global (class_variable d v locals n)))
  called_value n (Some r) = resolved_value r

  -- ---- conditions

  abbrev mutual
    -- a condition
    pub resolved_condition : text_condition.Condition → tree_condition.Condition
    resolved_condition (text_condition.condition a bs) =
        tree_condition.any (resolved_conjunction a) (resolved_alternatives bs)

    -- the conjunctions that OR joins to it
    pub resolved_alternatives : text_condition.Alternatives → tree_condition.Conjunctions
    resolved_alternatives text_condition.no_alternatives = tree_condition.no_conjunctions
    resolved_alternatives (text_condition.alternative a bs) =
        tree_condition.or_else (resolved_conjunction a) (resolved_alternatives bs)

    -- relations that AND joins
    pub resolved_conjunction : text_condition.Conjunction → tree_condition.Conjunction
    resolved_conjunction (text_condition.conjunction r rs) =
        tree_condition.all (resolved_relation r) (resolved_additions rs)

    -- the relations after the first
    pub resolved_additions : text_condition.Additions → tree_condition.Relations
    resolved_additions text_condition.no_additions = tree_condition.no_relations
    resolved_additions (text_condition.addition r rs) =
        tree_condition.and_also (resolved_relation r) (resolved_additions rs)

    -- a comparison, IS EMPTY, IS IN, or a condition in parentheses
    pub resolved_relation : text_condition.Relation → tree_condition.Relation
    resolved_relation (text_condition.compared a how b) =
        tree_condition.compared (resolved_expr a) how (resolved_expr b)
    resolved_relation (text_condition.is_empty r is) = tree_condition.is_empty (resolved_set r) is
    resolved_relation (text_condition.is_in a is r) = tree_condition.is_in (resolved_expr a) is (resolved_set r)
    resolved_relation (text_condition.nested a) = tree_condition.nested (resolved_condition a)

  -- ---- statements that hold no other

  -- LET, ADD and SUBTRACT
  abbrev pub resolved_assign : simple.Assign → Assign
  resolved_assign (simple.Let written r a) = assign.Let written (resolved_target r) (resolved_expr a)
  resolved_assign (simple.Add a r) = assign.Add (resolved_expr a) (resolved_target r)
  resolved_assign (simple.Subtract a r) = assign.Subtract (resolved_expr a) (resolved_target r)

  -- CREATE, CREATE EVERY and DESTROY
  abbrev pub resolved_making : simple.Making → Making
  resolved_making (simple.Create n r) = making.Create (class_number d v locals n) (is_some r) (called_target n r)
  resolved_making (simple.CreateEvery n a) =
      making.CreateEvery (class_number d v locals n) (resolved_option a) (count_variable d v locals n)
  resolved_making (simple.Destroy n r) = making.Destroy (class_number d v locals n) (is_some r) (called_value n r)

  -- the place at which FILE puts a member
  abbrev pub resolved_position : simple.FilePlace → Position
  resolved_position simple.ByDiscipline = position.ByRule
  resolved_position (simple.AtEnd end) = position.AtEnd end
  resolved_position (simple.Before a) = position.Before (resolved_expr a)
  resolved_position (simple.After a) = position.After (resolved_expr a)

  -- FILE and REMOVE
  abbrev pub resolved_filing : simple.Filing → Filing
  resolved_filing (simple.File a how r) = filing.File (resolved_expr a) (resolved_position how) (resolved_set r)
  resolved_filing (simple.FileAt end a r) = filing.FileAt end (resolved_expr a) (resolved_set r)
  resolved_filing (simple.RemoveEnd end q r) = filing.RemoveAt end (resolved_target q) (resolved_set r)
  resolved_filing (simple.Remove a r) = filing.Remove (resolved_expr a) (resolved_set r)

  -- CALL, RETURN and STOP
  abbrev pub resolved_transfer : simple.Transfer → Place
  resolved_transfer (simple.Call n bs rs) = place.Call (record {
    section = routine_number d v locals n;
    given = map resolved_expr (listing_names bs);
    targets = map resolved_target rs;
    listing = resolved_listing bs;
  })
  resolved_transfer simple.Return = place.Control control.Return
  resolved_transfer simple.Stop = place.Control control.Stop

  -- the notice that SCHEDULE A makes, or that SCHEDULE THE names
  abbrev pub resolved_notice : Article → Name → Option text_condition.Reference → Notice
  resolved_notice A n r = notice.New (is_some r) (called_target n r)
  resolved_notice The n r = notice.Known (is_some r) (called_value n r)

  -- when a notice is due
  abbrev pub resolved_when : simple.When → When
  resolved_when (simple.At a) = when.At (resolved_expr a)
  resolved_when simple.Now = when.Now
  resolved_when (simple.In a) = when.In (resolved_expr a)

  -- SCHEDULE, with its values before CALLED or after GIVEN
  abbrev pub resolved_schedule : Article → Name → simple.Details → simple.When → Timing
  resolved_schedule article n (simple.ValuesFirst bs r) at = timing.Schedule (record {
    class = class_number d v locals n;
    notice = resolved_notice article n r;
    listing = listing.InParentheses;
    arguments = map resolved_expr (all_of bs);
    when = resolved_when at;
  })
  resolved_schedule article n (simple.CalledFirst r bs) at = timing.Schedule (record {
    class = class_number d v locals n;
    notice = resolved_notice article n r;
    listing = listing.Given;
    arguments = map resolved_expr bs;
    when = resolved_when at;
  })

  -- SCHEDULE, CANCEL and START SIMULATION
  abbrev pub resolved_timing : simple.Timing → Timing
  resolved_timing (simple.Schedule article n details at) = resolved_schedule article n details at
  resolved_timing (simple.Cancel n r) = timing.Cancel (class_number d v locals n) (is_some r) (called_value n r)
  resolved_timing simple.StartSimulation = timing.Start

  -- READ, PRINT and SKIP
  abbrev pub resolved_exchange : simple.Exchange → Place
  resolved_exchange (simple.Read rs) = place.Read (map resolved_target (all_of rs))
  resolved_exchange (simple.Print n bs picture) = place.Output (output.Print n (map resolved_expr bs) picture)
  resolved_exchange (simple.Skip a) = place.Output (output.Skip (resolved_expr a))

  -- a statement that holds no other
  abbrev pub resolved_simple : simple.Simple → Place
  resolved_simple (simple.Assigns a) = place.Assign (resolved_assign a)
  resolved_simple (simple.Makes a) = place.Making (resolved_making a)
  resolved_simple (simple.Files a) = place.Filing (resolved_filing a)
  resolved_simple (simple.Transfers a) = resolved_transfer a
  resolved_simple (simple.Times a) = place.Timing (resolved_timing a)
  resolved_simple (simple.Exchanges a) = resolved_exchange a

  -- ---- FOR phrases

  -- the start of a walk through a list
  abbrev pub resolved_begin : loops.WalkStart → Begin
  resolved_begin loops.AtEnd = begin.AtTheEnd
  resolved_begin (loops.From a) = begin.From (resolved_expr a)
  resolved_begin (loops.After a) = begin.After (resolved_expr a)

  -- the variable after CALLED, else that of the class's name
  abbrev pub loop_variable : Name → Option Name → Variable
  loop_variable n None = Global (class_variable d v locals n)
  loop_variable n (Some called) = resolved_variable d v locals called

  -- the range of a FOR phrase
  abbrev pub resolved_range : loops.Range → Phrase
  resolved_range (loops.Counting way n a b step) =
      phrase.Counting way (resolved_variable d v locals n) (resolved_expr a) (resolved_expr b)
      (resolved_option step)
  resolved_range (loops.Each n called) =
      phrase.Each (class_number d v locals n) (is_some called) (loop_variable n called) (count_variable d v locals n)
  resolved_range (loops.Walking way n r start) =
      phrase.Walking way (resolved_variable d v locals n) (resolved_set r) (resolved_begin start)

  -- a qualifier with its condition
  abbrev pub resolved_qualifier : loops.Qualifier → Qualifier
  resolved_qualifier q = record { word = q.word; condition = resolved_condition q.condition }

  -- with whether DO is after it
  abbrev pub resolved_phrase : loops.Phrase → Bool → ForPhrase
  resolved_phrase f has_do = record {
    phrase = resolved_range f.range;
    qualifiers = map resolved_qualifier f.qualifiers;
    has_do = has_do;
  }

  -- ---- places

  -- the question of an IF
  abbrev pub resolved_question : loops.Question → Question
  resolved_question (loops.Holds a) = question.Whether (resolved_condition a)
  resolved_question loops.Found = question.WasFound
  resolved_question loops.NoneFound = question.WasNone

  -- IF, ELSE and ALWAYS
  abbrev pub resolved_branch : spots.Branch → Branch
  resolved_branch (spots.If q) = branch.If (resolved_question q)
  resolved_branch spots.Else = branch.Else
  resolved_branch spots.Always = branch.Always

  -- a target of COMPUTE and its statistic
  abbrev pub resolved_telling : loops.Computed → Telling
  resolved_telling t = record { target = resolved_target t.target; statistic = t.statistic }

  -- a FOR phrase, LOOP, FIND, and the two places of COMPUTE
  abbrev pub resolved_loop : spots.Loop → Looping
  resolved_loop (spots.For f has_do) = looping.For (resolved_phrase f has_do)
  resolved_loop spots.Next = looping.Loop
  resolved_loop spots.Find = looping.Find
  resolved_loop (spots.Gather a) = looping.Gather (resolved_expr a)
  resolved_loop (spots.Compute ts) = looping.Tell (map resolved_telling (all_of ts))

  -- a place, by its kind
  abbrev pub resolved_place : spots.Place → Place
  resolved_place (spots.Simply a) = resolved_simple a
  resolved_place (spots.Branches b) = place.Branch (resolved_branch b)
  resolved_place (spots.Loops b) = place.Looping (resolved_loop b)
  resolved_place spots.EndOfSection = place.Control control.End

  -- a place on its line
  abbrev pub resolved_spot : spots.Spot → Spot
  resolved_spot q = record { line = q.line; place = resolved_place q.place }

-- ---- classes and sets

-- the orders that items give
pub record Rankings : Type 0 where
  -- the disciplines of sets
  pub disciplines : List (Fact SetDiscipline)
  -- the keys of the ties that they break
  pub ties : List (Fact (List WrittenKey))

-- those of some items
abbrev pub rankings : List ItemAt → Rankings
rankings is = record {
  disciplines = flat_map (λ i. disciplines_in i.item) is;
  ties = flat_map (λ i. ties_in i.item) is;
}

-- a key: its attribute by its number among those of its class
abbrev pub resolved_key : List Name → WrittenKey → Key
resolved_key attributes key = record { rank = key.rank; attribute = number key.name attributes }

-- the discipline of a set whose members have these attributes; FIFO if none is given
abbrev pub resolved_discipline : List Name → Option SetDiscipline → Discipline
resolved_discipline attributes None = disciplines.Fifo
resolved_discipline attributes (Some Fifo) = disciplines.Fifo
resolved_discipline attributes (Some Lifo) = disciplines.Lifo
resolved_discipline attributes (Some (Ranked keys)) = disciplines.Ranked (map (resolved_key attributes) (all_of keys))

-- the owner of a set's lists, by the names of the classes
abbrev pub resolved_owner : List Name → Option Name → Owner
resolved_owner classes None = System
resolved_owner classes (Some n) = OwnedBy (number n classes)

-- d: the declarations of the whole program; v: its tables; r: its rankings
module _ (d : Declared) (v : Names) (r : Rankings) where
  -- the rest of an event class: its section, its tie-breaking keys, and whether it is external
  abbrev pub event_table : Name → EventTable
  event_table n = record {
    section = event_section d v [] n;
    ties = map (resolved_key (attribute_names v n)) (unwrap_or (fact_of r.ties n) []);
    external = is_among n d.external;
  }

  -- the kind of a class, by the kind as which its name is declared
  abbrev pub class_kind : Name → Option NameKind → ClassKind
  class_kind n (Some (kinds.Class (Some PermanentEntities))) = class_kinds.Permanent (count_variable d v [] n)
  class_kind n (Some (kinds.Class (Some EventNotices))) = class_kinds.Event (event_table n)
  class_kind n _ = class_kinds.Temporary

  -- a class
  abbrev pub class_table : Name → ClassTable
  class_table n = record {
    name = n;
    kind = class_kind n (kind_of d n);
    variable = class_variable d v [] n;
    attributes = attributes_of d n;
  }

  -- a set
  abbrev pub set_table : Name → SetTable
  set_table n = record {
    name = n;
    discipline = resolved_discipline (attribute_names v (member_class d v [] n)) (fact_of r.disciplines n);
    owner = resolved_owner v.classes (owner_of d v [] n);
    member = class_number d v [] (member_class d v [] n);
  }

-- ---- sections

-- the name of a section, MAIN for the main one
abbrev pub section_name : Head → Name
section_name MainHead = codes "MAIN"
section_name (RoutineHead n given yielded) = n
section_name (EventHead n given saving) = n

-- the kind of a section
abbrev pub section_kind : Head → SectionKind
section_kind MainHead = sections.Main
section_kind (RoutineHead n given yielded) = sections.Routine
section_kind (EventHead n given saving) = sections.Event

-- whether an event's head says SAVING
abbrev pub says_saving : Head → Bool
says_saving (EventHead n given saving) = saving
says_saving _ = false

-- how the given parameters of a head are written
abbrev pub head_listing : Head → Listing
head_listing MainHead = listing.Given
head_listing (RoutineHead n given yielded) = resolved_listing given
head_listing (EventHead n given saving) = resolved_listing given

-- a local DEFINE
abbrev pub define_table : spots.LocalNames → DefineTable
define_table x = record { line = x.line; names = all_of x.names }

-- a section with these locals
abbrev pub section_with : Declared → Names → List Name → spots.Section → SectionTable
section_with declared v locals section = record {
  name = section_name section.head;
  kind = section_kind section.head;
  line = section.line;
  given = length (given_of section.head);
  yielded = length (yielded_of section.head);
  saving = says_saving section.head;
  locals = locals;
  places = map (resolved_spot declared v locals) section.places;
  listing = head_listing section.head;
  defines = map define_table section.locals;
}

-- a section of a program
abbrev pub resolved_section : Declared → Names → spots.Section → SectionTable
resolved_section declared v section = section_with declared v (locals_of declared section) section

-- ---- the program

-- with the declarations of the whole program, its tables and its rankings
abbrev pub resolved_with : Declared → Names → Rankings → List spots.Section → ProgramTable
resolved_with declared v rankings qs = record {
  globals = v.globals;
  classes = map (class_table declared v rankings) v.classes;
  sets = map (set_table declared v rankings) v.sets;
  priority = map (class_number declared v []) declared.priority;
  sections = map (resolved_section declared v) qs;
}

-- a program of these items and sections
abbrev pub program_resolved : Decls → List spots.Section → ProgramTable
program_resolved decls qs =
    resolved_with (declared_by_program decls.items qs) (names (declared_by_program decls.items qs) (heads qs))
    (rankings decls.items) qs
