-- The text of a reference, as the program has it.
use Rattle.std.specs.Prelude.{ℕ, List, [], ◌++◌, codes, decimal, Option, Some, None, slice_index_or}
use Rattle.ss_words.specs.declared.terms.TermSign.{TermSign}
use Rattle.ss_words.specs.declared.terms.TermSign.TheVariants.{Plus, Minus}
use Rattle.ss_words.specs.declared.terms.OwnerKept.{OwnerKept}
use Rattle.ss_words.specs.declared.terms.OwnerKept.TheVariants as owners
use Rattle.ss_words.specs.declared.terms.MemberKept.{MemberKept}
use Rattle.ss_words.specs.declared.terms.MemberKept.TheVariants as members
use Rattle.ss_program.specs.declared.variable.Variable.{Variable as AVariable}
use Rattle.ss_program.specs.declared.variable.Variable.TheVariants.{Global, Local, Clock}
use Rattle.ss_program.specs.Program.{ProgramTable, class_of, set_of, section_of}
use Rattle.ss_program.specs.ProgramExpr.{Expr, expr, Sums, no_sums, sum, Term, term, Products, no_products, product}
use Rattle.ss_program.specs.ProgramExpr.{Factor, digits, variable, absolute, greatest, least, quotient, remainder}
use Rattle.ss_program.specs.ProgramExpr.{attribute, owner_kept, member_kept, within, Subscript, implied, of_system, at}
use Rattle.ss_program.specs.ProgramExpr.{Exprs, no_exprs, exprs}
use Rattle.ss_reads.specs.declared.part.Item.{Item}
use Rattle.ss_reads.specs.declared.part.Item.TheVariants as items

-- the name of a variable in a section
abbrev pub variable_name : ProgramTable → ℕ → AVariable → List ℕ
variable_name program section (Global i) = slice_index_or program.globals i []
variable_name program section (Local i) = slice_index_or (section_of program section).locals i []
variable_name program section Clock = codes "TIME.V"

-- the head of an attribute that a set keeps of its owner
abbrev pub owner_head : OwnerKept → List ℕ
owner_head owners.First = codes "F."
owner_head owners.Last = codes "L."
owner_head owners.Count = codes "N."

-- the head of one that it keeps of its members
abbrev pub member_head : MemberKept → List ℕ
member_head members.Predecessor = codes "P."
member_head members.Successor = codes "S."
member_head members.Membership = codes "M."

-- the name of an item
abbrev pub item_name : ProgramTable → Item → List ℕ
item_name program (items.Attribute c a) = slice_index_or (class_of program c).attributes a []
item_name program (items.OwnerKept kept s) = owner_head kept ++ (set_of program s).name
item_name program (items.MemberKept kept s) = member_head kept ++ (set_of program s).name
item_name program (items.Members s) = (set_of program s).name

-- the sign at the head of an expression
abbrev pub sign_text : Option TermSign → List ℕ
sign_text None = []
sign_text (Some Plus) = codes "+"
sign_text (Some Minus) = codes "-"

-- the sign between two terms
abbrev pub join_text : TermSign → List ℕ
join_text Plus = codes " + "
join_text Minus = codes " - "

abbrev mutual
  -- an expression of a section
  pub expr_text : ProgramTable → ℕ → Expr → List ℕ
  expr_text p q (expr l t ss) = sign_text l ++ (term_text p q t ++ sums_text p q ss)

  -- the terms after the first
  pub sums_text : ProgramTable → ℕ → Sums → List ℕ
  sums_text p q no_sums = []
  sums_text p q (sum s t ss) = join_text s ++ (term_text p q t ++ sums_text p q ss)

  -- a term
  pub term_text : ProgramTable → ℕ → Term → List ℕ
  term_text p q (term f fs) = factor_text p q f ++ products_text p q fs

  -- the factors after the first
  pub products_text : ProgramTable → ℕ → Products → List ℕ
  products_text p q no_products = []
  products_text p q (product f fs) = codes " * " ++ (factor_text p q f ++ products_text p q fs)

  -- a factor
  pub factor_text : ProgramTable → ℕ → Factor → List ℕ
  factor_text p q (digits n) = decimal n
  factor_text p q (variable x) = variable_name p q x
  factor_text p q (absolute e) = codes "ABS.F(" ++ (expr_text p q e ++ codes ")")
  factor_text p q (greatest e es) = codes "MAX.F(" ++ (expr_text p q e ++ (exprs_text p q es ++ codes ")"))
  factor_text p q (least e es) = codes "MIN.F(" ++ (expr_text p q e ++ (exprs_text p q es ++ codes ")"))
  factor_text p q (quotient e f) = codes "DIV.F(" ++ (expr_text p q e ++ (codes ", " ++ (expr_text p q f ++ codes ")")))
  factor_text p q (remainder e f) =
      codes "MOD.F(" ++ (expr_text p q e ++ (codes ", " ++ (expr_text p q f ++ codes ")")))
  factor_text p q (attribute c a i) = item_name p (items.Attribute c a) ++ subscript_text p q i
  factor_text p q (owner_kept kept s i) = item_name p (items.OwnerKept kept s) ++ subscript_text p q i
  factor_text p q (member_kept kept s i) = item_name p (items.MemberKept kept s) ++ subscript_text p q i
  factor_text p q (within e) = codes "(" ++ (expr_text p q e ++ codes ")")

  -- a subscript
  pub subscript_text : ProgramTable → ℕ → Subscript → List ℕ
  subscript_text p q (implied v) = []
  subscript_text p q of_system = []
  subscript_text p q (at e) = codes "(" ++ (expr_text p q e ++ codes ")")

  -- the arguments after the first
  pub exprs_text : ProgramTable → ℕ → Exprs → List ℕ
  exprs_text p q no_exprs = []
  exprs_text p q (exprs e es) = codes ", " ++ (expr_text p q e ++ exprs_text p q es)

-- an item with its subscript
abbrev pub reference_text : ProgramTable → ℕ → Item → Subscript → List ℕ
reference_text p q item i = item_name p item ++ subscript_text p q i
