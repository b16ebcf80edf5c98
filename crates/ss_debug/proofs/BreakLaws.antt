-- A break line whose condition holds in each state stops as one without a condition.
use Rattle.std.proofs.Common.{◌≡◌, ℕ, Bool, true, false, ◌||◌, List, [], ◌∷◌, ◌++◌, nat_lt, Some, None, refl, ap, sym, ◌∙◌}
use Rattle.std.specs.List.{filter, list_any}
use Rattle.ss_state.specs.Run.{Input, run}
use Rattle.ss_debug.specs.BreakCondition.{BreakCondition, is_met}
use Rattle.ss_debug.specs.BreakLines.{BreakPoint, with_break, stops_on}
use Rattle.ss_debug.specs.Laws.{ConditionThatHoldsStopsAsNone}
use Rattle.ss_debug.specs.Move.{is_on_break, line_at}

or_joined : (a b c : Bool) → (a || (b || c)) ≡ ((a || b) || c)
or_joined true b c = refl
or_joined false b c = refl

any_joined : (p : BreakPoint → Bool) (bs cs : List BreakPoint) →
    list_any p (bs ++ cs) ≡ (list_any p bs || list_any p cs)
any_joined p [] cs = refl
any_joined p (b ∷ bs) cs =
    ap (λ x. p b || x) (any_joined p bs cs) ∙ or_joined (p b) (list_any p bs) (list_any p cs)

-- one of several that is exchanged for one that passes the test alike
exchanged : (p : BreakPoint → Bool) (xs bs : List BreakPoint) (x y : BreakPoint) → p x ≡ p y →
    list_any p (xs ++ x ∷ bs) ≡ list_any p (xs ++ y ∷ bs)
exchanged p xs bs x y e =
    any_joined p xs (x ∷ bs) ∙ ap (λ b. list_any p xs || (b || list_any p bs)) e ∙ sym (any_joined p xs (y ∷ bs))

pub holds_as_none : ConditionThatHoldsStopsAsNone
unfolding with_break
holds_as_none t breaks line c always p =
    exchanged (stops_on t.program (run t p) (line_at t p)) (filter (λ a. nat_lt a.line line) breaks)
    (filter (λ a. nat_lt line a.line) breaks) (record { line = line; when = Some c })
    (record { line = line; when = None }) (rw (always p) refl)
