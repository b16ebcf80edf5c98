-- What has a meaning in a section names only rows that exist there.
use Rattle.std.proofs.Common.{◌≡◌, ℕ, Result, Ok, Err, refl, sym, subst}
use Rattle.ss_routines.specs.Expr.{Expr as Written}
use Rattle.ss_routines.specs.Condition.{Condition as WrittenCondition}
use Rattle.ss_program.specs.Program.{ProgramTable}
use Rattle.ss_program.specs.ProgramExpr.{Expr}
use Rattle.ss_program.specs.ProgramCondition.{Condition}
use Rattle.ss_program.specs.ProgramSound.{IsSoundExpr, IsSoundCondition, scope_in}
use Rattle.ss_check.specs.Symbols.{Symbols}
use Rattle.ss_check.specs.Asked.{AskedFault, IsSymbolsOf, judged_expression, judged_condition}
use Rattle.ss_check.proofs.SoundAsked.{expressions_sound, conditions_sound}
use Rattle.ss_expressions.specs.Wanted.{Wanted, of_value, of_truth, of_list, of_class}
use Rattle.ss_expressions.specs.Senses.{Sense, expression, condition, list, living, as_sense, judged_sense, IsSoundSense}

-- a condition that the checker judges
pub condition_sound : (p : ProgramTable) (symbols : Symbols) (q : ℕ) (c : WrittenCondition) (x : Condition) →
    IsSymbolsOf p symbols → Ok x ≡ judged_condition symbols q c → IsSoundCondition (scope_in p q) x
condition_sound p symbols q c x i h = conditions_sound p symbols q c x i (sym h)

-- what was judged, by a result
expression_by : (p : ProgramTable) (symbols : Symbols) (q : ℕ) (e : Written) (s : Sense) (r : Result Expr AskedFault) →
    IsSymbolsOf p symbols → judged_expression symbols q e ≡ r → Ok s ≡ as_sense expression r →
    IsSoundSense (scope_in p q) s
expression_by p symbols q e s (Ok x) i h g =
    let same : expression x ≡ s = cc in
    subst (λ (v : Sense). IsSoundSense (scope_in p q) v) same (expressions_sound p symbols q e x i h)
expression_by p symbols q e s (Err fault) i h g = absurd (cc)

condition_by : (p : ProgramTable) (symbols : Symbols) (q : ℕ) (c : WrittenCondition) (s : Sense)
    (r : Result Condition AskedFault) → IsSymbolsOf p symbols → judged_condition symbols q c ≡ r →
    Ok s ≡ as_sense condition r → IsSoundSense (scope_in p q) s
condition_by p symbols q c s (Ok x) i h g =
    let same : condition x ≡ s = cc in
    subst (λ (v : Sense). IsSoundSense (scope_in p q) v) same (conditions_sound p symbols q c x i h)
condition_by p symbols q c s (Err fault) i h g = absurd (cc)

list_by : (p : ProgramTable) (symbols : Symbols) (q : ℕ) (c : WrittenCondition) (s : Sense)
    (r : Result Condition AskedFault) → IsSymbolsOf p symbols → judged_condition symbols q c ≡ r →
    Ok s ≡ as_sense list r → IsSoundSense (scope_in p q) s
list_by p symbols q c s (Ok x) i h g =
    let same : list x ≡ s = cc in
    subst (λ (v : Sense). IsSoundSense (scope_in p q) v) same (conditions_sound p symbols q c x i h)
list_by p symbols q c s (Err fault) i h g = absurd (cc)

-- what the checker judges
pub sense_sound : (p : ProgramTable) (symbols : Symbols) (q : ℕ) (w : Wanted) (s : Sense) → IsSymbolsOf p symbols →
    Ok s ≡ judged_sense symbols q w → IsSoundSense (scope_in p q) s
sense_sound p symbols q (of_value e) s i h = expression_by p symbols q e s (judged_expression symbols q e) i refl h
sense_sound p symbols q (of_truth c) s i h = condition_by p symbols q c s (judged_condition symbols q c) i refl h
sense_sound p symbols q (of_list c) s i h = list_by p symbols q c s (judged_condition symbols q c) i refl h
sense_sound p symbols q (of_class k) s i h =
    let same : living k ≡ s = cc in subst (λ (v : Sense). IsSoundSense (scope_in p q) v) same tt
