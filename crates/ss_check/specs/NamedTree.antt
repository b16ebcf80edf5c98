-- The text of a program: each number replaced by the name that its table has there.
use Rattle.std.specs.Prelude.{◌≡◌, ℕ, Bool, true, false, List, [], ◌∷◌, ◌++◌, map, take, drop, codes, slice_get, Option}
use Rattle.std.specs.Prelude.{Some, None, option_map, unwrap_or}
use Rattle.ss_words.specs.Lists.{Name, Several}
use Rattle.ss_preamble.specs.Tree.{Decls}
use Rattle.ss_routines.specs.declared.tree.simple.Article.{Article}
use Rattle.ss_routines.specs.declared.tree.simple.Article.TheVariants.{A, The}
use Rattle.ss_words.specs.declared.terms.Statistic.TheVariants as statistics
use Rattle.ss_routines.specs.Expr as text
use Rattle.ss_routines.specs.Condition as text_condition
use Rattle.ss_routines.specs.Condition.{Reference}
use Rattle.ss_routines.specs.Simple as simple
use Rattle.ss_routines.specs.Loops as loops
use Rattle.ss_routines.specs.Tree.{Head, MainHead, RoutineHead, EventHead}
use Rattle.ss_routines.specs.Places as spots
use Rattle.ss_program.specs.declared.filing.Position.{Position}
use Rattle.ss_program.specs.declared.filing.Position.TheVariants as position
use Rattle.ss_program.specs.declared.filing.Filing.{Filing}
use Rattle.ss_program.specs.declared.filing.Filing.TheVariants as filing
use Rattle.ss_program.specs.declared.looping.Qualifier.{Qualifier}
use Rattle.ss_program.specs.declared.looping.Begin.{Begin}
use Rattle.ss_program.specs.declared.looping.Begin.TheVariants as begin
use Rattle.ss_program.specs.declared.looping.ForPhrase.{ForPhrase}
use Rattle.ss_program.specs.declared.looping.Phrase.{Phrase}
use Rattle.ss_program.specs.declared.looping.Phrase.TheVariants as phrase
use Rattle.ss_program.specs.declared.looping.Telling.{Telling}
use Rattle.ss_program.specs.declared.looping.Looping.{Looping}
use Rattle.ss_program.specs.declared.looping.Looping.TheVariants as looping
use Rattle.ss_program.specs.declared.making.Making.{Making}
use Rattle.ss_program.specs.declared.making.Making.TheVariants as making
use Rattle.ss_program.specs.declared.branch.Question.{Question}
use Rattle.ss_program.specs.declared.branch.Question.TheVariants as question
use Rattle.ss_program.specs.declared.branch.Branch.{Branch}
use Rattle.ss_program.specs.declared.branch.Branch.TheVariants as branch
use Rattle.ss_program.specs.declared.call.Call.{Call}
use Rattle.ss_program.specs.declared.timing.Notice.{Notice}
use Rattle.ss_program.specs.declared.timing.Notice.TheVariants as notice
use Rattle.ss_program.specs.declared.timing.Listing.{Listing}
use Rattle.ss_program.specs.declared.timing.Listing.TheVariants as listing
use Rattle.ss_program.specs.declared.timing.When.{When}
use Rattle.ss_program.specs.declared.timing.When.TheVariants as when
use Rattle.ss_program.specs.declared.timing.Timing.{Timing}
use Rattle.ss_program.specs.declared.timing.Timing.TheVariants as timing
use Rattle.ss_program.specs.declared.place.Assign.{Assign}
use Rattle.ss_program.specs.declared.place.Assign.TheVariants as assign
use Rattle.ss_program.specs.declared.place.Output.{Output}
use Rattle.ss_program.specs.declared.place.Output.TheVariants as output
use Rattle.ss_program.specs.declared.place.Control.{Control}
use Rattle.ss_program.specs.declared.place.Control.TheVariants as control
use Rattle.ss_program.specs.declared.place.Place.{Place}
use Rattle.ss_program.specs.declared.place.Place.TheVariants as place
use Rattle.ss_program.specs.declared.place.Spot.{Spot}
use Rattle.ss_program.specs.declared.target.SetRef.{SetRef}
use Rattle.ss_program.specs.declared.target.Target.{Target}
use Rattle.ss_program.specs.declared.target.Target.TheVariants as target
use Rattle.ss_program.specs.declared.variable.Variable.{Variable}
use Rattle.ss_program.specs.declared.variable.Variable.TheVariants.{Global, Local, Clock}
use Rattle.ss_program.specs.declared.kinds.SectionKind.{SectionKind}
use Rattle.ss_program.specs.declared.kinds.SectionKind.TheVariants as sections
use Rattle.ss_words.specs.declared.terms.OwnerKept.{OwnerKept}
use Rattle.ss_words.specs.declared.terms.OwnerKept.TheVariants as owner
use Rattle.ss_words.specs.declared.terms.MemberKept.{MemberKept}
use Rattle.ss_words.specs.declared.terms.MemberKept.TheVariants as member
use Rattle.ss_program.specs.Program.{class_of, set_of, section_of, DefineTable, SectionTable, ProgramTable}
use Rattle.ss_program.specs.ProgramExpr as tree
use Rattle.ss_program.specs.ProgramCondition as tree_condition
use Rattle.ss_check.specs.Breach.{breach}
use Rattle.ss_check.specs.Resolved.{program_resolved}

-- ---- lists

-- a list that is not empty
abbrev pub several : {A : Type 0} → A → List A → Several A
several none [] = record { first = none; others = [] }
several none (a ∷ rest) = record { first = a; others = rest }

-- a list of arguments or parameters, as it is written
abbrev pub listing_of : {A : Type 0} → Listing → List A → simple.Listing A
listing_of how [] = simple.Unwritten
listing_of listing.Given (a ∷ rest) = simple.BehindGiven (record { first = a; others = rest })
listing_of listing.InParentheses (a ∷ rest) = simple.InParentheses (record { first = a; others = rest })

-- ---- names of the language

-- the attribute kept in a set's owner
abbrev pub owner_kept_name : OwnerKept → Name → Name
owner_kept_name owner.First name = codes "F." ++ name
owner_kept_name owner.Last name = codes "L." ++ name
owner_kept_name owner.Count name = codes "N." ++ name

-- the attribute kept in a set's members
abbrev pub member_kept_name : MemberKept → Name → Name
member_kept_name member.Predecessor name = codes "P." ++ name
member_kept_name member.Successor name = codes "S." ++ name
member_kept_name member.Membership name = codes "M." ++ name

-- the name with this number in a table
abbrev pub name_at : List Name → ℕ → Name
name_at table i = unwrap_or (slice_get table i) []

-- the reference that an expression of one name is
abbrev pub reference_of : text.Expr → Reference
reference_of (text.expr None (text.term (text.applied n a text.no_exprs) text.no_products) text.no_sums) =
    record { name = n; subscript = Some a }
reference_of (text.expr None (text.term (text.named n) text.no_products) text.no_sums) =
    record { name = n; subscript = None }
reference_of _ = record { name = []; subscript = None }

-- p: the program; locals: the names of a section's local variables
module _ (p : ProgramTable) (locals : List Name) where
  -- ---- expressions

  -- a variable
  abbrev pub named_variable : Variable → Name
  named_variable (Global i) = name_at p.globals i
  named_variable (Local i) = name_at locals i
  named_variable Clock = codes "TIME.V"

  -- an attribute of a class
  abbrev pub named_attribute : ℕ → ℕ → Name
  named_attribute c a = name_at (class_of p c).attributes a

  abbrev mutual
    -- an expression, with names for numbers
    pub named_expr : tree.Expr → text.Expr
    named_expr (tree.expr sign t ts) = text.expr sign (named_term t) (named_sums ts)

    -- its further terms
    pub named_sums : tree.Sums → text.Sums
    named_sums tree.no_sums = text.no_sums
    named_sums (tree.sum sign t ts) = text.sum sign (named_term t) (named_sums ts)

    -- a product
    pub named_term : tree.Term → text.Term
    named_term (tree.term f fs) = text.term (named_factor f) (named_products fs)

    -- its further factors
    pub named_products : tree.Products → text.Products
    named_products tree.no_products = text.no_products
    named_products (tree.product f fs) = text.product (named_factor f) (named_products fs)

    -- a number, a variable, a function, an attribute, or an expression in parentheses
    pub named_factor : tree.Factor → text.Factor
    named_factor (tree.digits n) = text.digits n
    named_factor (tree.variable u) = text.named (named_variable u)
    named_factor (tree.absolute a) = text.applied (codes "ABS.F") (named_expr a) text.no_exprs
    named_factor (tree.greatest a bs) = text.applied (codes "MAX.F") (named_expr a) (named_exprs bs)
    named_factor (tree.least a bs) = text.applied (codes "MIN.F") (named_expr a) (named_exprs bs)
    named_factor (tree.quotient a b) =
        text.applied (codes "DIV.F") (named_expr a) (text.exprs (named_expr b) text.no_exprs)
    named_factor (tree.remainder a b) =
        text.applied (codes "MOD.F") (named_expr a) (text.exprs (named_expr b) text.no_exprs)
    named_factor (tree.attribute c a i) = named_applied (named_attribute c a) i
    named_factor (tree.owner_kept kept t i) = named_applied (owner_kept_name kept (set_of p t).name) i
    named_factor (tree.member_kept kept t i) = named_applied (member_kept_name kept (set_of p t).name) i
    named_factor (tree.within a) = text.within (named_expr a)

    -- a name with its subscript, if one is written
    pub named_applied : Name → tree.Subscript → text.Factor
    named_applied n (tree.implied v) = text.named n
    named_applied n tree.of_system = text.named n
    named_applied n (tree.at a) = text.applied n (named_expr a) text.no_exprs

    -- the arguments after the first
    pub named_exprs : tree.Exprs → text.Exprs
    named_exprs tree.no_exprs = text.no_exprs
    named_exprs (tree.exprs a bs) = text.exprs (named_expr a) (named_exprs bs)

  -- ---- references

  -- a subscript, if one is written
  abbrev pub named_subscript : tree.Subscript → Option text.Expr
  named_subscript (tree.implied v) = None
  named_subscript tree.of_system = None
  named_subscript (tree.at a) = Some (named_expr a)

  -- as a value
  abbrev pub named_value : tree.Expr → Reference
  named_value a = reference_of (named_expr a)

  -- as a target
  abbrev pub named_target : Target → Reference
  named_target (target.Variable u) = record { name = named_variable u; subscript = None }
  named_target (target.Attribute c a i) = record { name = named_attribute c a; subscript = named_subscript i }

  -- as a set
  abbrev pub named_set : SetRef → Reference
  named_set r = record { name = (set_of p r.set).name; subscript = named_subscript r.owner }

  -- the part after CALLED, if it is written: a target, and a value
  abbrev pub named_called_target : Bool → Target → Option Reference
  named_called_target false t = None
  named_called_target true t = Some (named_target t)

  -- the part after CALLED, if it is written, as a value
  abbrev pub named_called_value : Bool → tree.Expr → Option Reference
  named_called_value false a = None
  named_called_value true a = Some (named_value a)

  -- targets, of which there is one at least
  abbrev pub named_targets : List Target → Several Reference
  named_targets ts = several (record { name = []; subscript = None }) (map named_target ts)

  -- ---- conditions

  abbrev mutual
    -- a condition
    pub named_condition : tree_condition.Condition → text_condition.Condition
    named_condition (tree_condition.any a bs) = text_condition.condition (named_conjunction a) (named_alternatives bs)

    -- the conjunctions that OR joins to it
    pub named_alternatives : tree_condition.Conjunctions → text_condition.Alternatives
    named_alternatives tree_condition.no_conjunctions = text_condition.no_alternatives
    named_alternatives (tree_condition.or_else a bs) =
        text_condition.alternative (named_conjunction a) (named_alternatives bs)

    -- relations that AND joins
    pub named_conjunction : tree_condition.Conjunction → text_condition.Conjunction
    named_conjunction (tree_condition.all r rs) = text_condition.conjunction (named_relation r) (named_additions rs)

    -- the relations after the first
    pub named_additions : tree_condition.Relations → text_condition.Additions
    named_additions tree_condition.no_relations = text_condition.no_additions
    named_additions (tree_condition.and_also r rs) = text_condition.addition (named_relation r) (named_additions rs)

    -- a comparison, IS EMPTY, IS IN, or a condition in parentheses
    pub named_relation : tree_condition.Relation → text_condition.Relation
    named_relation (tree_condition.compared a how b) = text_condition.compared (named_expr a) how (named_expr b)
    named_relation (tree_condition.is_empty r is) = text_condition.is_empty (named_set r) is
    named_relation (tree_condition.is_in a is r) = text_condition.is_in (named_expr a) is (named_set r)
    named_relation (tree_condition.nested a) = text_condition.nested (named_condition a)

  -- ---- statements that hold no other

  -- LET, ADD and SUBTRACT
  abbrev pub named_assign : Assign → simple.Assign
  named_assign (assign.Let written t a) = simple.Let written (named_target t) (named_expr a)
  named_assign (assign.Add a t) = simple.Add (named_expr a) (named_target t)
  named_assign (assign.Subtract a t) = simple.Subtract (named_expr a) (named_target t)

  -- CREATE, CREATE EVERY and DESTROY
  abbrev pub named_making : Making → simple.Making
  named_making (making.Create k called t) = simple.Create (class_of p k).name (named_called_target called t)
  named_making (making.CreateEvery k n count) = simple.CreateEvery (class_of p k).name (option_map named_expr n)
  named_making (making.Destroy k called a) = simple.Destroy (class_of p k).name (named_called_value called a)

  -- the place at which FILE puts a member
  abbrev pub named_position : Position → simple.FilePlace
  named_position position.ByRule = simple.ByDiscipline
  named_position (position.AtEnd z) = simple.AtEnd z
  named_position (position.Before a) = simple.Before (named_expr a)
  named_position (position.After a) = simple.After (named_expr a)

  -- FILE and REMOVE
  abbrev pub named_filing : Filing → simple.Filing
  named_filing (filing.File a how r) = simple.File (named_expr a) (named_position how) (named_set r)
  named_filing (filing.FileAt z a r) = simple.FileAt z (named_expr a) (named_set r)
  named_filing (filing.RemoveAt z t r) = simple.RemoveEnd z (named_target t) (named_set r)
  named_filing (filing.Remove a r) = simple.Remove (named_expr a) (named_set r)

  -- CALL
  abbrev pub named_call : Call → simple.Transfer
  named_call k =
      simple.Call (section_of p k.section).name (listing_of k.listing (map named_expr k.given))
      (map named_target k.targets)

  -- A or THE
  abbrev pub named_article : Notice → Article
  named_article (notice.New called t) = A
  named_article (notice.Known called a) = The

  -- the reference after CALLED of a notice
  abbrev pub named_notice : Notice → Option Reference
  named_notice (notice.New called t) = named_called_target called t
  named_notice (notice.Known called a) = named_called_value called a

  -- the values and the reference of a SCHEDULE
  abbrev pub named_details : Listing → Option Reference → List text.Expr → simple.Details
  named_details listing.InParentheses r values =
      simple.ValuesFirst (several (text.expr None (text.term (text.digits 0) text.no_products) text.no_sums) values) r
  named_details listing.Given r values = simple.CalledFirst r values

  -- when a notice is due
  abbrev pub named_when : When → simple.When
  named_when (when.At a) = simple.At (named_expr a)
  named_when when.Now = simple.Now
  named_when (when.In a) = simple.In (named_expr a)

  -- SCHEDULE, CANCEL and START SIMULATION
  abbrev pub named_timing : Timing → simple.Timing
  named_timing (timing.Schedule t) =
      simple.Schedule (named_article t.notice) (class_of p t.class).name
      (named_details t.listing (named_notice t.notice) (map named_expr t.arguments)) (named_when t.when)
  named_timing (timing.Cancel k called a) = simple.Cancel (class_of p k).name (named_called_value called a)
  named_timing timing.Start = simple.StartSimulation

  -- PRINT and SKIP
  abbrev pub named_output : Output → simple.Exchange
  named_output (output.Print n values picture) = simple.Print n (map named_expr values) picture
  named_output (output.Skip a) = simple.Skip (named_expr a)

  -- ---- FOR phrases

  -- the start of a walk through a list
  abbrev pub named_begin : Begin → loops.WalkStart
  named_begin begin.AtTheEnd = loops.AtEnd
  named_begin (begin.From a) = loops.From (named_expr a)
  named_begin (begin.After a) = loops.After (named_expr a)

  -- the variable of FOR EACH after CALLED, if it is written
  abbrev pub named_loop_variable : Bool → Variable → Option Name
  named_loop_variable false u = None
  named_loop_variable true u = Some (named_variable u)

  -- the range of a FOR phrase
  abbrev pub named_range : Phrase → loops.Range
  named_range (phrase.Counting way u a b step) =
      loops.Counting way (named_variable u) (named_expr a) (named_expr b) (option_map named_expr step)
  named_range (phrase.Each k called u count) = loops.Each (class_of p k).name (named_loop_variable called u)
  named_range (phrase.Walking way u r start) =
      loops.Walking way (named_variable u) (named_set r) (named_begin start)

  -- a qualifier with its condition
  abbrev pub named_qualifier : Qualifier → loops.Qualifier
  named_qualifier q = record { word = q.word; condition = named_condition q.condition }

  -- a FOR phrase
  abbrev pub named_phrase : ForPhrase → loops.Phrase
  named_phrase f = record { range = named_range f.phrase; qualifiers = map named_qualifier f.qualifiers }

  -- ---- places

  -- the question of an IF
  abbrev pub named_question : Question → loops.Question
  named_question (question.Whether a) = loops.Holds (named_condition a)
  named_question question.WasFound = loops.Found
  named_question question.WasNone = loops.NoneFound

  -- IF, ELSE and ALWAYS
  abbrev pub named_branch : Branch → spots.Branch
  named_branch (branch.If q) = spots.If (named_question q)
  named_branch branch.Else = spots.Else
  named_branch branch.Always = spots.Always

  -- a target of COMPUTE and its statistic
  abbrev pub named_telling : Telling → loops.Computed
  named_telling t = record { target = named_target t.target; statistic = t.statistic }

  -- a FOR phrase, LOOP, FIND, and the two places of COMPUTE
  abbrev pub named_loop : Looping → spots.Loop
  named_loop (looping.For f) = spots.For (named_phrase f) f.has_do
  named_loop looping.Loop = spots.Next
  named_loop looping.Find = spots.Find
  named_loop (looping.Gather a) = spots.Gather (named_expr a)
  named_loop (looping.Tell ts) =
      spots.Compute (several (record { target = record { name = []; subscript = None }; statistic = statistics.Number })
      (map named_telling ts))

  -- the statement that ends a section or the run
  abbrev pub named_control : Control → spots.Place
  named_control control.Stop = spots.Simply (simple.Transfers simple.Stop)
  named_control control.Return = spots.Simply (simple.Transfers simple.Return)
  named_control control.End = spots.EndOfSection

  -- a place, by its kind
  abbrev pub named_place : Place → spots.Place
  named_place (place.Assign a) = spots.Simply (simple.Assigns (named_assign a))
  named_place (place.Making a) = spots.Simply (simple.Makes (named_making a))
  named_place (place.Filing a) = spots.Simply (simple.Files (named_filing a))
  named_place (place.Output a) = spots.Simply (simple.Exchanges (named_output a))
  named_place (place.Control a) = named_control a
  named_place (place.Branch b) = spots.Branches (named_branch b)
  named_place (place.Looping b) = spots.Loops (named_loop b)
  named_place (place.Call k) = spots.Simply (simple.Transfers (named_call k))
  named_place (place.Timing t) = spots.Simply (simple.Times (named_timing t))
  named_place (place.Read ts) = spots.Simply (simple.Exchanges (simple.Read (named_targets ts)))

  -- a place on its line
  abbrev pub named_spot : Spot → spots.Spot
  named_spot q = record { line = q.line; place = named_place q.place }

-- ---- sections

-- a head, by the kind of the section: its name, the given parameters, the names of the yielded ones, and SAVING
abbrev pub named_head : SectionKind → Name → simple.Listing Name → List Name → Bool → Head
named_head sections.Main name ps ys saving = MainHead
named_head sections.Routine name ps ys saving = RoutineHead name ps ys
named_head sections.Event name ps ys saving = EventHead name ps saving

-- a local DEFINE
abbrev pub named_define : DefineTable → spots.LocalNames
named_define x = record { line = x.line; names = several [] x.names }

-- a section of a program; its parameters are the first of its locals
abbrev pub named_section : ProgramTable → SectionTable → spots.Section
named_section program section = record {
  line = section.line;
  head = named_head section.kind section.name (listing_of section.listing (take section.given section.locals))
      (take section.yielded (drop section.given section.locals)) section.saving;
  locals = map named_define section.defines;
  places = map (named_spot program section.locals) section.places;
}

-- the sections of a program
abbrev pub named_sections : ProgramTable → List spots.Section
named_sections program = map (named_section program) program.sections

-- ---- the law

-- a program without a breach, each number looked up in its table, is its text again
abbrev pub TablesGiveTheText : Type 0
TablesGiveTheText =
    (decls : Decls) (qs : List spots.Section) → breach decls qs ≡ None →
    named_sections (program_resolved decls qs) ≡ qs
