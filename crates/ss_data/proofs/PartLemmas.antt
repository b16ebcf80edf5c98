-- The parts of a slice that a loop over them has seen when it ends.
use Rattle.std.proofs.Common.{◌≡◌, List, map, Option, None, Bool, false, Bor}
use denote.Param.Members.{Mut}
use Rattle.std.specs.Fn.{CalledAt}
use Rattle.std.specs.Iterator.{Yields}
use Rattle.std.specs.declared.slice.Split.{Split}
use Rattle.std.specs.Slice.Iter.{split_rest, split_done, split_callee, split_steps}
use Rattle.std.specs.List.{slice_split}
use Rattle.std.proofs.lemmas.Iterator.Splits.{YieldsList-from_slice_split}
use Rattle.std.proofs.lemmas.Iterator.Consumers.{YieldsList-end}

-- all its parts, if the closure computes the test p
pub parts-end : {A F : Type 0} (p : A → Bool) (xs : List A) (g : Mut F (Bor A × Unit {0}) Bool) (s t u : Split A F)
    (f : F) (seen : List (Bor (List A))) (r : Option (Bor (List A))) → Yields (split_steps g) s seen t → r ≡ None
    → split_steps g t r u → split_rest s ≡ xs → split_done s ≡ false → split_callee s ≡ f
    → ((x : A) (b : Bool) (q : F) → CalledAt g f x b q → (q ≡ f) × (b ≡ p x))
    → map (λ part. part.now) seen ≡ slice_split p xs
parts-end p xs g s t u f seen r yielded last steps rest done callee computes =
    (YieldsList-end (YieldsList-from_slice_split g p xs rest done callee computes) seen t yielded r u last steps).0
