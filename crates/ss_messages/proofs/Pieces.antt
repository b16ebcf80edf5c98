-- A text that grows piece by piece.
use Rattle.std.proofs.Common.{◌≡◌, ℕ, ◌+◌, ◌<◌, List, [], ◌∷◌, ◌++◌, length, take, get_or, flat_map}
use Rattle.std.proofs.Common.{◌∙◌, sym, ap, append_assoc, append-nil}
use Rattle.std.proofs.lemmas.List.{take_more}
use Rattle.std.proofs.lemmas.Grind.{flat_map-append}

-- one piece more
pub pieces_more : {X : Type 0} (f : X → List ℕ) (xs : List X) (old text new : List ℕ) (i : ℕ) (d : X) → i < length xs →
    text ≡ old ++ flat_map f (take i xs) → new ≡ text ++ f (get_or xs i d) → new ≡ old ++ flat_map f (take (i + 1) xs)
pieces_more f xs old text new i d within before more =
    let last = get_or xs i d in
    let one : flat_map f (last ∷ []) ≡ f last = append-nil (f last) in
    let taken = ap (flat_map f) (take_more xs i d within) ∙ flat_map-append f (take i xs) (last ∷ [])
    ∙ ap (λ ys. flat_map f (take i xs) ++ ys) one in
    more ∙ ap (λ ys. ys ++ f last) before ∙ append_assoc old (flat_map f (take i xs)) (f last)
    ∙ sym (ap (λ ys. old ++ ys) taken)
