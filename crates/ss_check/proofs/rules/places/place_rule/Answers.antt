use Rattle.std.proofs.Common.{sym, ◌∙◌}
use Rattle.std.specs.Prelude.{map}
use Rattle.ss_routines.specs.View.{spot_view, spots}
use Rattle.ss_check.specs.UseView.{use_view}
use Rattle.ss_check.proofs.PlaceRules.{by_picture, by_standing, by_uses}
use Rattle.ss_check.proofs.rules.places.place_rule.Goals as goal

pub returns-in-Some : goal.returns-in-Some
returns-in-Some c =
    sym
    (by_uses c.args.whole.now c.args.in_main c.args.behind_find (spot_view c.args.spot.now) (spots c.args.behind.now)
    (map use_view c.as_slice.result.now) c.in-Some.rule
    (c.as_slice.ensures ∙ (rw c.new-uses.ensures at c.in_ok-add_statement.ensures)) (sym c.use_rule.ensures
    ∙ c.in-Some.is))

pub returns-then-has_wrong_picture : goal.returns-then-has_wrong_picture
returns-then-has_wrong_picture c =
    sym
    (by_picture c.args.whole.now c.args.in_main c.args.behind_find (spot_view c.args.spot.now) (spots c.args.behind.now)
    (map use_view c.as_slice.result.now) (c.as_slice.ensures ∙ (rw c.new-uses.ensures at c.in_ok-add_statement.ensures))
    (sym c.use_rule.ensures ∙ c.in_default.is) (sym c.has_wrong_picture.ensures ∙ c.if-has_wrong_picture.true))

pub returns : goal.returns
returns c =
    c.standing_rule.ensures
    ∙ sym
    (by_standing c.args.whole.now c.args.in_main c.args.behind_find (spot_view c.args.spot.now)
    (spots c.args.behind.now)
    (map use_view c.as_slice.result.now) (c.as_slice.ensures ∙ (rw c.new-uses.ensures at c.in_ok-add_statement.ensures))
    (sym c.use_rule.ensures ∙ c.in_default.is) (sym c.has_wrong_picture.ensures ∙ c.if-has_wrong_picture.false))
