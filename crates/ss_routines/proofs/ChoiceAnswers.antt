-- The part that one of several readings reads or refuses, after those that are not there.
use Rattle.std.proofs.Common.{◌≡◌, List, Option, Some, None, Ok, Err, refl, ap, ◌∙◌}
use Rattle.std.specs.Prelude.{◌⊎◌}
use mathlib.Core.Logic.{inr}
use Rattle.ss_words.specs.Plain.{Plain}
use Rattle.ss_words.specs.Reading.{Read, Reading, goes_on, bind, pure}
use Rattle.ss_words.proofs.ReadBack.{then}
use Rattle.ss_routines.specs.Combined.{either_of, made_of}

-- the value made of the part that was read, if it was read
abbrev made_then : {A C : Type 0} → (A → C) → Option A → Reading (Option C)
made_then f o = elim o [ Some a ↦ pure (Some (f a)) | None ↦ pure None ]

once : {A B C : Type 0} (g : A → B) (f : B → C) (v : Read (Option A))
    → goes_on (made_then f) (goes_on (made_then g) v.0 v.1).0 (goes_on (made_then g) v.0 v.1).1
    ≡ goes_on (made_then (λ a. f (g a))) v.0 v.1
unfolding pure
once g f (Ok (Some a), r) = refl
once g f (Ok None, r) = refl
once g f (Err e, r) = refl

pub left_out : {A B C : Type 0} (i : Reading (Option A)) (j : Reading (Option B)) (f : A ⊎ B → C) (ws r : List Plain)
    → i ws ≡ (Ok None, r) → made_of f (either_of i j) ws ≡ made_of (λ b. f (inr b)) j r
unfolding made_of either_of bind
left_out i j f ws r e = ap (λ x. goes_on (made_then f) x.0 x.1) (then i _ None ws r e) ∙ once inr f (j r)
