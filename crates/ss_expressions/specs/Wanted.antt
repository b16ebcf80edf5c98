-- What is asked, by the names of a program: a set's name asks for its list, and a class's alone for
-- its entities.
use Rattle.std.specs.Prelude.{ℕ, Bool, Option, Some, None, is_some, if◌then◌else◌}
use Rattle.std.specs.Option.{option_and_then}
use Rattle.ss_words.specs.Lists.{Name}
use Rattle.ss_words.specs.declared.terms.Copula.TheVariants.{Is}
use Rattle.ss_routines.specs.Expr.{Expr, expr, no_sums, term, no_products, Factor, named, applied, no_exprs}
use Rattle.ss_routines.specs.Condition.{Reference, Condition, condition, no_alternatives, conjunction, no_additions}
use Rattle.ss_routines.specs.Condition.{is_empty}
use Rattle.ss_program.specs.Program.{ProgramTable}
use Rattle.ss_debug.specs.Entities.{class_named, set_named}
use Rattle.ss_expressions.specs.Asked.{Asked, value, truth}

-- what is asked
pub data Wanted : Type 0 where
  -- the value of an expression
  of_value : Expr → Wanted
  -- whether a condition holds
  of_truth : Condition → Wanted
  -- the list of which a condition says that it IS EMPTY
  of_list : Condition → Wanted
  -- the living entities of the class with this number
  of_class : ℕ → Wanted

-- the factor that an expression is, if it is nothing else
abbrev pub lone_factor : Expr → Option Factor
lone_factor (expr None (term f no_products) no_sums) = Some f
lone_factor _ = None

-- a factor alone as an expression
abbrev pub alone : Factor → Expr
alone f = expr None (term f no_products) no_sums

-- the name that a factor is alone
abbrev pub factor_name : Factor → Option Name
factor_name (named n) = Some n
factor_name _ = None

-- the name that a factor is, with a subscript or none
abbrev pub factor_reference : Factor → Option Reference
factor_reference (named n) = Some (record { name = n; subscript = None })
factor_reference (applied n e no_exprs) = Some (record { name = n; subscript = Some e })
factor_reference _ = None

-- the name that an expression is, with a subscript or none
abbrev pub reference_in : Expr → Option Reference
reference_in e = option_and_then factor_reference (lone_factor e)

-- the condition that a list IS EMPTY
abbrev pub emptiness : Reference → Condition
emptiness r = condition (conjunction (is_empty r Is) no_additions) no_alternatives

-- the name that an expression is alone
abbrev pub bare_name : Expr → Option Name
bare_name e = option_and_then factor_name (lone_factor e)

-- the class that an expression names alone
abbrev pub class_alone : ProgramTable → Expr → Option ℕ
class_alone program e = option_and_then (class_named program) (bare_name e)

-- a reference to a set, if there is one
abbrev pub set_reference : ProgramTable → Option Reference → Option Reference
set_reference program None = None
set_reference program (Some r) = if is_some (set_named program r.name) then Some r else None

-- an expression is the name of a set, with a subscript or without
abbrev pub is_list : ProgramTable → Expr → Bool
is_list program e = is_some (set_reference program (reference_in e))

-- the list that a reference is, or else the value of an expression
abbrev pub list_or : Expr → Option Reference → Wanted
list_or e None = of_value e
list_or e (Some r) = of_list (emptiness r)

-- the entities of a class, if there is one, or else another
abbrev pub class_or : Option ℕ → Wanted → Wanted
class_or None other = other
class_or (Some c) other = of_class c

-- what an expression asks: the entities of a class, a list, or else its value
abbrev pub value_wanted : ProgramTable → Expr → Wanted
value_wanted program e = class_or (class_alone program e) (list_or e (set_reference program (reference_in e)))

-- what is asked
abbrev pub wanted_of : ProgramTable → Asked → Wanted
wanted_of program (value e) = value_wanted program e
wanted_of program (truth c) = of_truth c
