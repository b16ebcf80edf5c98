-- Sums of one factor only.
use Rattle.std.proofs.Common.{◌≡◌, ℤ, refl}
use Rattle.std.specs.Prelude.{Result, Ok, Err, None}
use Rattle.ss_words.specs.declared.fault.RunFault.{RunFault}
use Rattle.ss_program.specs.ProgramExpr.{Factor, expr, term, no_products, no_sums}
use Rattle.ss_values.specs.Faults.{◌>>=◌}
use Rattle.ss_values.specs.Values.{Readings, value_of, factor_value, with_sign}

without_more : (r : Result ℤ RunFault) → ((r >>= λ x. Ok x) >>= λ x. with_sign None x >>= λ y. Ok y) ≡ r
without_more (Ok x) = refl
without_more (Err e) = refl

-- its value is that of the expression
pub lone_factor : (v : Readings) (f : Factor)
    → value_of v (expr None (term f no_products) no_sums) ≡ factor_value v f
lone_factor v f = without_more (factor_value v f)
