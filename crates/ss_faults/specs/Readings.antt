-- The findings about an expression in a state. The value of a number, a variable or an attribute is
-- known; that of a sum, a product or a function is not. Parts are looked at from the left, up to
-- the first that names an entity that is missing.
use Rattle.std.specs.Prelude.{ℕ, ℤ, pos, nat_lt, length, if◌then◌else◌, Bool, true, false, Option, Some, None}
use Rattle.std.specs.Prelude.{unwrap_or, Result, Ok, Err}
use Rattle.ss_words.specs.declared.fault.RunFault.{RunFault}
use Rattle.ss_words.specs.declared.terms.TermSign.{TermSign}
use Rattle.ss_words.specs.declared.terms.OwnerKept.{OwnerKept}
use Rattle.ss_words.specs.declared.terms.OwnerKept.TheVariants.{First, Last, Count}
use Rattle.ss_words.specs.declared.terms.MemberKept.{MemberKept}
use Rattle.ss_words.specs.declared.terms.MemberKept.TheVariants.{Predecessor, Successor, Membership}
use Rattle.ss_program.specs.declared.kinds.Owner.{Owner}
use Rattle.ss_program.specs.declared.kinds.Owner.TheVariants.{System, OwnedBy}
use Rattle.ss_program.specs.declared.variable.Variable.TheVariants.{Global}
use Rattle.ss_program.specs.Program.{ProgramTable, set_of}
use Rattle.ss_program.specs.ProgramExpr.{Expr, expr, Sums, no_sums, sum, Term, term, Products, no_products, product}
use Rattle.ss_program.specs.ProgramExpr.{Factor, digits, variable, absolute, greatest, least, quotient, remainder}
use Rattle.ss_program.specs.ProgramExpr.{attribute, owner_kept, member_kept, within, Subscript, implied, of_system, at}
use Rattle.ss_program.specs.ProgramExpr.{Exprs, no_exprs, exprs}
use Rattle.ss_store.specs.declared.shape.SetShape.{SetShape}
use Rattle.ss_store.specs.Tables.{tables_of}
use Rattle.ss_store.specs.Tables as tables
use Rattle.ss_store.specs.Store.{number_of, exists, attribute_of}
use Rattle.ss_store.specs.Filing.{walk_first, walk_last, count, predecessor, successor, membership}
use Rattle.ss_values.specs.Values.{result_in_range, with_sign}
use Rattle.ss_state.specs.State.{State}
use Rattle.ss_state.specs.Readings.{variable_in}
use Rattle.ss_faults.specs.declared.told.Told.{Told}
use Rattle.ss_faults.specs.declared.told.Told.TheVariants.{Value, Untold, Missing, Unclear}

-- ---- parts in order

-- the finding about a part after others that are there
abbrev pub behind : Told → Told
behind (Value x) = Untold
behind Untold = Untold
behind (Missing c x) = Missing c x
behind Unclear = Unclear

-- the finding about two parts
abbrev pub both : Told → Told → Told
both (Value x) told = behind told
both Untold told = behind told
both (Missing c x) told = Missing c x
both Unclear told = Unclear

-- the finding at the entity that a part names; unclear if its number is not known
abbrev pub at_entity : Told → (ℤ → Told) → Told
at_entity (Value x) f = f x
at_entity Untold f = Unclear
at_entity (Missing c x) f = Missing c x
at_entity Unclear f = Unclear

-- ---- readings

-- a set, as the store has it
abbrev pub shape_of : ProgramTable → ℕ → SetShape
shape_of program set = tables.set_of (tables_of program) set

-- a number
abbrev pub number_told : Result ℤ RunFault → Told
number_told (Ok x) = Value x
number_told (Err e) = Unclear

-- an attribute of class c of the entity that a value names
abbrev pub attribute_read : ℕ → ℤ → Result ℤ RunFault → Told
attribute_read c x (Ok y) = Value y
attribute_read c x (Err e) = Missing c x

-- that attribute, by its number there
abbrev pub attribute_told : State → ℕ → ℕ → ℤ → Told
attribute_told state c a x = attribute_read c x (attribute_of state.store c a (number_of x))

-- the owner of this class that a value names is missing
abbrev pub owner_missing : Owner → ℤ → Told
owner_missing System x = Unclear
owner_missing (OwnedBy c) x = Missing c x

-- the number of a member, 0 for none; or the other finding
abbrev pub member_read : Told → Result (Option ℕ) RunFault → Told
member_read otherwise (Ok k) = Value (pos (unwrap_or k 0))
member_read otherwise (Err e) = otherwise

-- a count
abbrev pub count_read : Told → Result ℕ RunFault → Told
count_read otherwise (Ok n) = Value (pos n)
count_read otherwise (Err e) = otherwise

-- 1 or 0
abbrev pub truth_read : Told → Result Bool RunFault → Told
truth_read otherwise (Ok b) = Value (if b then pos 1 else pos 0)
truth_read otherwise (Err e) = otherwise

-- F.s, L.s and N.s of the owner that a value names
abbrev pub of_owner : ProgramTable → State → OwnerKept → ℕ → ℤ → Told
of_owner program state First set x =
    member_read (owner_missing (set_of program set).owner x)
    (walk_first (shape_of program set) state.store (number_of x))
of_owner program state Last set x =
    member_read (owner_missing (set_of program set).owner x)
    (walk_last (shape_of program set) state.store (number_of x))
of_owner program state Count set x =
    count_read (owner_missing (set_of program set).owner x) (count (shape_of program set) state.store (number_of x))

-- P.s, S.s and M.s of the member that a value names
abbrev pub of_member : ProgramTable → State → MemberKept → ℕ → ℤ → Told
of_member program state Predecessor set x =
    member_read (Missing (set_of program set).member x) (predecessor (shape_of program set) state.store (number_of x))
of_member program state Successor set x =
    member_read (Missing (set_of program set).member x) (successor (shape_of program set) state.store (number_of x))
of_member program state Membership set x =
    truth_read (Missing (set_of program set).member x) (membership (shape_of program set) state.store (number_of x))

-- F.s, L.s and N.s for a set of the table
abbrev pub owner_told : ProgramTable → State → OwnerKept → ℕ → ℤ → Told
owner_told program state kept set x =
    elim (nat_lt set (length program.sets)) [ true ↦ of_owner program state kept set x | false ↦ Unclear ]

-- P.s, S.s and M.s for a set of the table
abbrev pub member_told : ProgramTable → State → MemberKept → ℕ → ℤ → Told
member_told program state kept set x =
    elim (nat_lt set (length program.sets)) [ true ↦ of_member program state kept set x | false ↦ Unclear ]

-- the entity of class c that a value names
abbrev pub entity_told : State → ℕ → ℤ → Told
entity_told state c x = elim (exists state.store c (number_of x)) [ true ↦ Value x | false ↦ Missing c x ]

-- a value with its sign
abbrev pub signed_value : TermSign → Told → Told
signed_value sign (Value x) = number_told (with_sign (Some sign) x)
signed_value sign Untold = Untold
signed_value sign (Missing c x) = Missing c x
signed_value sign Unclear = Unclear

-- the first term with the sign at the head, if there is one
abbrev pub signed_told : Option TermSign → Told → Told
signed_told None told = told
signed_told (Some w) told = signed_value w told

abbrev mutual
  -- of an expression
  pub told_of : ProgramTable → State → Expr → Told
  told_of p s (expr l t ss) = sums_told p s (signed_told l (term_told p s t)) ss

  -- with further terms
  pub sums_told : ProgramTable → State → Told → Sums → Told
  sums_told p s a no_sums = a
  sums_told p s a (sum w t ss) = sums_told p s (both a (term_told p s t)) ss

  -- of a term
  pub term_told : ProgramTable → State → Term → Told
  term_told p s (term f ps) = products_told p s (factor_told p s f) ps

  -- with further factors
  pub products_told : ProgramTable → State → Told → Products → Told
  products_told p s a no_products = a
  products_told p s a (product f ps) = products_told p s (both a (factor_told p s f)) ps

  -- of a factor
  pub factor_told : ProgramTable → State → Factor → Told
  factor_told p s (digits n) = number_told (result_in_range (pos n))
  factor_told p s (variable x) = Value (variable_in s x)
  factor_told p s (absolute e) = behind (told_of p s e)
  factor_told p s (greatest e es) = arguments_told p s (behind (told_of p s e)) es
  factor_told p s (least e es) = arguments_told p s (behind (told_of p s e)) es
  factor_told p s (quotient e f) = both (told_of p s e) (told_of p s f)
  factor_told p s (remainder e f) = both (told_of p s e) (told_of p s f)
  factor_told p s (attribute c a i) = at_entity (subscript_told p s i) (attribute_told s c a)
  factor_told p s (owner_kept kept set i) = at_entity (subscript_told p s i) (owner_told p s kept set)
  factor_told p s (member_kept kept set i) = at_entity (subscript_told p s i) (member_told p s kept set)
  factor_told p s (within e) = told_of p s e

  -- of a subscript
  pub subscript_told : ProgramTable → State → Subscript → Told
  subscript_told p s (implied i) = Value (variable_in s (Global i))
  subscript_told p s of_system = Value (pos 0)
  subscript_told p s (at e) = told_of p s e

  -- with further arguments
  pub arguments_told : ProgramTable → State → Told → Exprs → Told
  arguments_told p s a no_exprs = a
  arguments_told p s a (exprs e es) = arguments_told p s (both a (told_of p s e)) es
