use Rattle.std.proofs.Common.{◌≡◌, ap, refl, sym, map, ℕ, List, [], ◌∷◌}
use Rattle.ss_data.specs.Items.{item}
use Rattle.ss_data.proofs.feed.Feed.known.Goals as goal

of_bytes : (ps : List (List ℕ)) → map item ps ≡ map (λ i. item i.bytes) (map item ps)
of_bytes [] = refl
of_bytes (p ∷ ps) = ap (λ is. item p ∷ is) (of_bytes ps)

pub returns : goal.returns
returns c = rw (sym c.self.view_is) (of_bytes c.self.inside.pieces)
