-- A text of digits alone.
use Rattle.std.proofs.Common.{◌≡◌, ℕ, ◌&&◌, List, [], ◌∷◌, refl, ap}
use Rattle.std.specs.List.{list_all}
use Rattle.std.specs.Char.{is_ascii_digit}
use Rattle.std.specs.Str.{all_ascii_digits}

pub digits_alone : (bs : List ℕ) → list_all is_ascii_digit bs ≡ all_ascii_digits bs
digits_alone [] = refl
digits_alone (b ∷ bs) = ap (λ all. is_ascii_digit b && all) (digits_alone bs)
