-- The lines and texts of some break points, one by one.
use Rattle.std.proofs.Common.{◌≡◌, List, [], ◌∷◌, map, refl, ap}
use Rattle.serde_json.specs.View.{view, items_view}
use Rattle.serde_json.specs.declared.value.Value.{Value}
use Rattle.std.specs.Prelude.{ℕ}
use Rattle.ss_messages.specs.Requests.{line_point_of, line_points_of, plain_text, texts_of}

pub line_points_are : (vs : List Value) → line_points_of (items_view vs) ≡ map (λ v. line_point_of (view v)) vs
line_points_are [] = refl
line_points_are (v ∷ vs) = ap (λ ps. line_point_of (view v) ∷ ps) (line_points_are vs)

pub texts_are : (key : List ℕ) (vs : List Value) →
    texts_of key (items_view vs) ≡ map (λ v. plain_text key (view v)) vs
texts_are key [] = refl
texts_are key (v ∷ vs) = ap (λ ts. plain_text key (view v) ∷ ts) (texts_are key vs)
