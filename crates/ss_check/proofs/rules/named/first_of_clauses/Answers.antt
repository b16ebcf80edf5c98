use Rattle.std.proofs.Common.{sym, ap, ◌∙◌}
use Rattle.std.specs.Prelude.{map, option_map}
use Rattle.std.specs.List.{find, flat_map}
use Rattle.ss_preamble.specs.View.{clause_view}
use Rattle.ss_check.specs.Declarations.{sets_of}
use Rattle.ss_check.specs.ItemRules.{name_breaks}
use Rattle.ss_check.proofs.Finds.{parts_found, parts_passed}
use Rattle.ss_check.proofs.rules.named.first_of_clauses.Goals as goal

pub returns-in-Some : goal.returns-in-Some
returns-in-Some c =
    let breaks = name_breaks c.args.whole.now c.args.rule in
    parts_found breaks sets_of clause_view c.args.clauses.now c.loop-clause.clause-index c.clause-item.result
    c.in-Some.name.now (find breaks (flat_map sets_of (map clause_view c.args.clauses.now)))
    c.loop-clause-test.true c.clause-item.is c.loop-clause.invariant
    (sym c.first_of_clause.ensures ∙ ap (option_map (λ n. n.now)) c.in-Some.is)

pub loop-clause-preserved : goal.loop-clause-preserved
loop-clause-preserved c =
    let breaks = name_breaks c.args.whole.now c.args.rule in
    parts_passed breaks sets_of clause_view c.args.clauses.now c.loop-clause.clause-index c.clause-item.result
    (find breaks (flat_map sets_of (map clause_view c.args.clauses.now)))
    c.loop-clause-test.true c.clause-item.is c.loop-clause.invariant
    (sym c.first_of_clause.ensures ∙ ap (option_map (λ n. n.now)) c.in_default.is)
