-- An item pushed is noted last.
use Rattle.std.proofs.Common.{◌≡◌, List, [], ◌∷◌, ◌++◌, ◌∙◌, ap}
use Rattle.std.proofs.lemmas.List.{map_push}
use Rattle.ss_preamble.specs.declared.item.ItemAt.{ItemAt}
use Rattle.ss_preamble.specs.View.{item_at_view, items_view}

pub pushed : (xs ys : List ItemAt) (a : ItemAt) → ys ≡ xs ++ a ∷ []
    → items_view ys ≡ items_view xs ++ item_at_view a ∷ []
pushed xs ys a e = ap items_view e ∙ map_push item_at_view xs a
