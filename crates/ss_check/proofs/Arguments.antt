-- The number of arguments.
use Rattle.std.proofs.Common.{◌≡◌, List, [], ◌∷◌, length, refl, ap, ◌∙◌, ◌+◌, suc, ℕ, arith}
use Rattle.std.specs.Prelude.{map}
use Rattle.ss_routines.specs.declared.tree.expr.Expr.{Expr as CodeExpr}
use Rattle.ss_routines.specs.Expr.{exprs_of}
use Rattle.ss_routines.specs.View.{expr_view}
use Rattle.ss_check.specs.Uses.{count}

-- as many as the code has
pub count_view : (es : List CodeExpr) → count (exprs_of (map expr_view es)) ≡ length es
count_view [] = refl
count_view (e ∷ es) = ap (λ (n : ℕ). 1 + n) (count_view es) ∙ one_more (length es)
  where
    one_more : (n : ℕ) → 1 + n ≡ suc n
    one_more n = omega arith
