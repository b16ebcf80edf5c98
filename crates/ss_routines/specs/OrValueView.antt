-- The part at a place at which an expression may be by itself or begin another part.
use Rattle.std.specs.Prelude.{◌⊎◌}
use mathlib.Core.Logic.{inl, inr}
use Rattle.ss_routines.specs.declared.reading.conditions.OrValue.{OrValue}
use Rattle.ss_routines.specs.declared.reading.conditions.OrValue.TheVariants.{Value, Other}
use Rattle.ss_routines.specs.Expr.{Expr}
use Rattle.ss_routines.specs.View.{expr_view}

-- an expression of the code, or the other part that is read
abbrev pub or_value_view : {X A : Type 0} → (X → A) → OrValue X → Expr ⊎ A
or_value_view f (Value e) = inl (expr_view e)
or_value_view f (Other x) = inr (f x)
