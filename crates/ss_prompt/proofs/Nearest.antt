-- Lists that are gone through one after the other.
use Rattle.std.proofs.Common.{◌≡◌, List, ◌++◌, fold}
use Rattle.std.proofs.lemmas.List.Sums.{fold-append}

pub fold_both : {A B : Type 0} (f : B → A → B) (a : B) (xs ys : List A) → fold f a (xs ++ ys) ≡ fold f (fold f a xs) ys
fold_both f a xs ys = fold-append f a xs ys
