-- how many values there are
use Rattle.std.proofs.Common.{◌≡◌, ℤ, List, [], ◌∷◌, length, suc, refl, ap, subst, Result, Ok}
use Rattle.ss_words.specs.declared.fault.RunFault.{RunFault}
use Rattle.ss_program.specs.ProgramExpr.{Expr}
use Rattle.ss_values.specs.Values.{Readings, value_of, values_of}
use Rattle.ss_state.proofs.Ranges.{Got, after_got, anything}

pub values_counted : (v : Readings) (es : List Expr) → Got (λ (xs : List ℤ). length xs ≡ length es) (values_of v es)
values_counted v [] = refl
values_counted v (e ∷ es) =
    after_got (λ (_ : ℤ). Unit {0}) (λ (xs : List ℤ). length xs ≡ length (e ∷ es)) (value_of v e) _ (anything _)
    (λ x _. after_got (λ (xs : List ℤ). length xs ≡ length es) (λ (xs : List ℤ). length xs ≡ length (e ∷ es))
    (values_of v es) _ (values_counted v es) (λ xs h. ap suc h))

-- as many as expressions
pub values_length : (v : Readings) (es : List Expr) (xs : List ℤ) → values_of v es ≡ Ok xs → length xs ≡ length es
values_length v es xs h =
    subst (λ (r : Result (List ℤ) RunFault). Got (λ (ys : List ℤ). length ys ≡ length es) r) h (values_counted v es)
