use Rattle.std.proofs.Common.{◌≡◌, List, [], ◌∷◌, map, Ok, refl, ap, ◌∙◌, arith}
use Rattle.std.proofs.lemmas.Result.{err_from_is_err_and}
use Rattle.ss_words.specs.Plain.{Plain}
use Rattle.ss_words.specs.Reading.{Read, prepend}
use Rattle.ss_words.proofs.Loop.{loop_begins, loop_turns, stops, fails, passes_on, prepend_list}
use Rattle.ss_preamble.specs.Tree.{Clause}
use Rattle.ss_preamble.specs.ItemReading.{next_clause, other_clauses}
use Rattle.ss_preamble.specs.View.{clause_view}
use Rattle.ss_preamble.proofs.clause.other_clauses.Goals as goal

pub loop-clauses-init : goal.loop-clauses-init
unfolding other_clauses
loop-clauses-init c = record {
  shorter = omega arith;
  going =
      loop_begins next_clause [] (λ x xs. x ∷ xs) other_clauses c.args.cursor.now clause_view c.new-clauses.result.items
      refl c.new-clauses.ensures.items;
}

pub returns-in_err-clause-clause-exact : goal.returns-in_err-clause-clause-exact
returns-in_err-clause-clause-exact c =
    let p = err_from_is_err_and c.from_residual.result c.from_residual.ensures.1 in
    rw (p.1, p.2) (passes_on c.in_err-clause.field-0.0 c.next_clause.new.cursor (next_clause c.loop-clauses.cursor) _
    (λ e h. fails next_clause [] (λ x xs. x ∷ xs) (other_clauses c.args.cursor.now) _ c.loop-clauses.cursor
    c.next_clause.new.cursor e h c.loop-clauses.invariant.going) c.in_err-clause.ensures.exact)

pub loop-clauses-preserved : goal.loop-clauses-preserved
loop-clauses-preserved c = record {
  shorter = omega (arith, c.in_ok-clause.ensures.shorter);
  going =
      loop_turns next_clause [] (λ x xs. x ∷ xs) (other_clauses c.args.cursor.now) clause_view
      c.loop-clauses.clauses.items c.in-Some.clause c.push.new.self.items c.loop-clauses.cursor c.next_clause.new.cursor
      c.in_ok-push.ensures.items (rw c.in-Some.is at c.in_ok-clause.ensures.exact)
      (rw c.in-Some.is at c.in_ok-clause.ensures.taken) c.loop-clauses.invariant.going;
}

ended : (total : Read (List Clause)) (xs : List Clause) (r : List Plain)
    → total ≡ (Ok (prepend (λ x ys. x ∷ ys) xs []), r) → total ≡ (Ok xs, r)
ended total xs r e = e ∙ ap (λ (ys : List Clause). let x : Read (List Clause) = (Ok ys, r) in x) (prepend_list xs)

pub returns-clause-exact : goal.returns-clause-exact
returns-clause-exact c =
    ended _ _ _ (stops next_clause [] (λ x xs. x ∷ xs) (other_clauses c.args.cursor.now)
    (map clause_view c.loop-clauses.clauses.items) c.loop-clauses.cursor c.next_clause.new.cursor
    (rw c.in_default.is at c.in_ok-clause.ensures.exact) c.loop-clauses.invariant.going)
