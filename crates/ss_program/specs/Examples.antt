-- Examples: a small program with searches in it, and expressions with their operations.
use Rattle.std.specs.Prelude.{◌≡◌, pos, [], ◌∷◌, codes, Some, None}
use Rattle.ss_words.specs.declared.terms.TermSign.TheVariants.{Plus, Minus}
use Rattle.ss_program.specs.declared.kinds.ClassKind.TheVariants.{Permanent}
use Rattle.ss_program.specs.declared.kinds.Discipline.TheVariants.{Fifo}
use Rattle.ss_program.specs.declared.kinds.Owner.TheVariants.{System}
use Rattle.ss_program.specs.declared.variable.Variable.TheVariants.{Global, Local}
use Rattle.ss_program.specs.declared.op.Op.TheVariants.{LoadGlobal, MultiplyConstant, AddConstant, RemainderConstant}
use Rattle.ss_program.specs.Program.{ProgramTable}
use Rattle.ss_program.specs.ProgramExpr.{Expr, expr, sum, no_sums, Term, term, product, no_products}
use Rattle.ss_program.specs.ProgramExpr.{Factor, digits, variable, remainder}
use Rattle.ss_program.specs.Lowering.{code_of}
use Rattle.ss_program.specs.NameMeaning.{meaning_of}

-- the global variables LIMIT and JOB, the class JOB and the set ROW
abbrev pub shop : ProgramTable
shop = record {
  globals = codes "LIMIT" ∷ codes "JOB" ∷ [];
  classes = record { name = codes "JOB"; kind = Permanent 0; variable = 1; attributes = [] } ∷ [];
  sets = record { name = codes "ROW"; discipline = Fifo; owner = System; member = 0 } ∷ [];
  priority = [];
  sections = [];
}

-- a name is found under its whole spelling in upper case, and under no other; TIME.V is not found
abbrev pub NamesAreFound : Type 0
NamesAreFound =
    (meaning_of shop (codes "LIMIT") ≡ Some (record { variable = Some 0; class = None; set = None }))
    × (meaning_of shop (codes "JOB") ≡ Some (record { variable = Some 1; class = Some 0; set = None }))
    × (meaning_of shop (codes "ROW") ≡ Some (record { variable = None; class = None; set = Some 0 }))
    × (meaning_of shop (codes "JOBS") ≡ None)
    × (meaning_of shop (codes "JO") ≡ None)
    × (meaning_of shop (codes "job") ≡ None)
    × (meaning_of shop (codes "") ≡ None)
    × (meaning_of shop (codes "TIME.V") ≡ None)

-- an expression of one factor only
abbrev pub alone : Factor → Expr
alone f = expr None (term f no_products) no_sums

-- the product of two
abbrev pub times : Factor → Factor → Term
times f g = term f (product g no_products)

-- MOD.F(X * 5 + 1, 9) is lowered; a variable only and a difference of variable products are not
abbrev pub LinearIsLowered : Type 0
LinearIsLowered =
    (code_of (alone (remainder
    (expr None (times (variable (Global 0)) (digits 5)) (sum Plus (term (digits 1) no_products) no_sums))
    (alone (digits 9))))
    ≡ LoadGlobal 0 ∷ MultiplyConstant (pos 5) ∷ AddConstant (pos 1) ∷ RemainderConstant (pos 9) ∷ [])
    × (code_of (alone (variable (Local 0))) ≡ [])
    × (code_of (expr None (times (variable (Global 0)) (variable (Global 1)))
    (sum Minus (times (variable (Local 0)) (variable (Local 1))) no_sums)) ≡ [])
