-- The laws on an expression and a condition that plain words are, by the laws of their readings.
use Rattle.std.proofs.Common.{◌≡◌, ℕ, ◌≤◌, List, [], Some, Result, Ok, Err, refl, sym, ap, ◌∙◌}
use Rattle.std.proofs.lemmas.List.{append-nil}
use Rattle.std.specs.Result.{result_ok}
use Rattle.ss_words.specs.declared.refusal.Refusal.{Refusal}
use Rattle.ss_words.specs.Plain.{Plain}
use Rattle.ss_words.specs.Reading.{Read, Reading, whole}
use Rattle.ss_words.proofs.Goal as goal
use Rattle.ss_words.proofs.Local.{same}
use Rattle.ss_routines.specs.Expr.{Expr, spell_expr, depth_expr}
use Rattle.ss_routines.specs.Condition.{spell_condition, depth_condition}
use Rattle.ss_routines.specs.ExprReading.{expr_at}
use Rattle.ss_routines.specs.ConditionReading.{condition_at}
use Rattle.ss_routines.specs.Asked.{read_of, ExpressionIsSpelled, SpelledIsExpression, ConditionIsSpelled}
use Rattle.ss_routines.specs.Asked.{SpelledIsCondition}
use Rattle.ss_routines.proofs.Law.{Law}
use Rattle.ss_routines.proofs.ExprLaw.{Ends, expr_law}
use Rattle.ss_routines.proofs.ConditionLaw.{EndsCondition, condition_law}

module _ {A : Type 0} (n : ℕ) (d : A → ℕ) (sp : A → List Plain) (ends : List Plain → Type 0) (p : Reading A)
    (l : Law same n (λ a. d a ≤ n) sp ends p p) where
  read_is : (ws r : List Plain) (o : Result A Refusal) (a : A) → whole p ws ≡ (o, r) → read_of p ws ≡ Some a
      → whole p ws ≡ (Ok a, r)
  read_is ws r (Ok b) a e h = cc
  read_is ws r (Err g) a e h = absurd cc

  spelled : (ws : List Plain) (a : A) → read_of p ws ≡ Some a → (ws ≡ sp a) × (d a ≤ n)
  spelled ws a h =
      let r = (whole p ws).1 in
      let f = goal.found (λ b. d b ≤ n) sp p l.good ws r a (read_is ws r (whole p ws).0 a refl h) in
      (f.1, f.0)

  pub again : (a : A) → d a ≤ n → ends [] → p (sp a) ≡ (Ok a, [])
  again a f e = ap p (sym (append-nil (sp a))) ∙ l.again a [] f e

  found : (a : A) → d a ≤ n → ends [] → read_of p (sp a) ≡ Some a
  found a f e = ap (λ (x : Read A). result_ok x.0) (goal.whole_read_back sp p a (again a f e))

pub nothing_after : Ends []
nothing_after = record { no_open = refl; no_star = refl; no_sign = refl }

pub expression_is_spelled : ExpressionIsSpelled
expression_is_spelled = spelled 50 depth_expr spell_expr Ends (expr_at 50) (expr_law same 50 50 refl)

pub spelled_is_expression : SpelledIsExpression
spelled_is_expression e f = found 50 depth_expr spell_expr Ends (expr_at 50) (expr_law same 50 50 refl) e f nothing_after

pub condition_is_spelled : ConditionIsSpelled
condition_is_spelled =
    spelled 50 depth_condition spell_condition EndsCondition (condition_at 50) (condition_law same 50 50 refl)

pub spelled_is_condition : SpelledIsCondition
spelled_is_condition c f =
    found 50 depth_condition spell_condition EndsCondition (condition_at 50) (condition_law same 50 50 refl) c f
    ((nothing_after, refl, refl), refl, refl)

-- no two expressions have one spelling
pub one_spelling : (n : ℕ) (e f : Expr) → depth_expr e ≤ n → depth_expr f ≤ n → spell_expr e ≡ spell_expr f → e ≡ f
one_spelling n e f h i same_words =
    let l = expr_law same n n refl in
    let g : Some e ≡ Some f = sym (found n depth_expr spell_expr Ends (expr_at n) l e h nothing_after)
    ∙ ap (read_of (expr_at n)) same_words ∙ found n depth_expr spell_expr Ends (expr_at n) l f i nothing_after in
    cc
