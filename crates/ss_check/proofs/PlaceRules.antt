-- The lowest rule of a place, by its parts.
use Rattle.std.proofs.Common.{◌≡◌, Bool, true, false, List, [], ◌∷◌, ◌++◌, Some, None, refl, sym, ap, ◌∙◌}
use Rattle.ss_routines.specs.Places.{Spot}
use Rattle.ss_check.specs.declared.fault.CheckRule.{CheckRule}
use Rattle.ss_check.specs.declared.fault.CheckRule.TheVariants.{WrongPicture}
use Rattle.ss_check.specs.Declarations.{Declared}
use Rattle.ss_check.specs.PlaceRules.{has_wrong_picture, place_rule, standing_breaks, use_breaks, uses_from}
use Rattle.ss_check.specs.Statements.{rule_where, lowest}
use Rattle.ss_check.specs.Uses.{Use}

front : (xs ys : List CheckRule) (r : CheckRule) → lowest xs ≡ Some r → lowest (xs ++ ys) ≡ Some r
front [] ys r h = cc
front (x ∷ xs) ys r h = h

behind : (xs ys : List CheckRule) → lowest xs ≡ None → lowest (xs ++ ys) ≡ lowest ys
behind [] ys h = refl
behind (x ∷ xs) ys h = cc

-- a rule on names
pub by_uses : (d : Declared) (m f : Bool) (p : Spot) (ps : List Spot) (us : List Use) (r : CheckRule) →
    us ≡ uses_from p.place ps →
    lowest (use_breaks d us) ≡ Some r → place_rule d m f p ps ≡ Some r
unfolding place_rule
by_uses d m f p ps us r e h =
    front (use_breaks d (uses_from p.place ps) ++ rule_where WrongPicture (has_wrong_picture p.place))
    (standing_breaks m f p.place) r
    (front (use_breaks d (uses_from p.place ps)) (rule_where WrongPicture (has_wrong_picture p.place)) r
    (ap (λ (vs : List Use). lowest (use_breaks d vs)) (sym e) ∙ h))

-- else the picture
pub by_picture : (d : Declared) (m f : Bool) (p : Spot) (ps : List Spot) (us : List Use) → us ≡ uses_from p.place ps →
    lowest (use_breaks d us) ≡ None → has_wrong_picture p.place ≡ true → place_rule d m f p ps ≡ Some WrongPicture
unfolding place_rule
by_picture d m f p ps us e h w =
    front (use_breaks d (uses_from p.place ps) ++ rule_where WrongPicture (has_wrong_picture p.place))
    (standing_breaks m f p.place) WrongPicture
    (behind (use_breaks d (uses_from p.place ps)) (rule_where WrongPicture (has_wrong_picture p.place))
    (ap (λ (vs : List Use). lowest (use_breaks d vs)) (sym e) ∙ h)
    ∙ ap (λ (b : Bool). lowest (rule_where WrongPicture b)) w)

-- else the rule on the place itself
pub by_standing : (d : Declared) (m f : Bool) (p : Spot) (ps : List Spot) (us : List Use) → us ≡ uses_from p.place ps →
    lowest (use_breaks d us) ≡ None → has_wrong_picture p.place ≡ false →
    place_rule d m f p ps ≡ lowest (standing_breaks m f p.place)
unfolding place_rule
by_standing d m f p ps us e h w =
    behind (use_breaks d (uses_from p.place ps) ++ rule_where WrongPicture (has_wrong_picture p.place))
    (standing_breaks m f p.place)
    (behind (use_breaks d (uses_from p.place ps)) (rule_where WrongPicture (has_wrong_picture p.place))
    (ap (λ (vs : List Use). lowest (use_breaks d vs)) (sym e) ∙ h)
    ∙ ap (λ (b : Bool). lowest (rule_where WrongPicture b)) w)
