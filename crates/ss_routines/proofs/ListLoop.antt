-- A list that a loop reads, if an item is refused.
use Rattle.std.proofs.Common.{List, [], ◌∷◌, map, Option}
use Rattle.ss_words.specs.declared.refusal.Refusal.{Refusal}
use Rattle.ss_words.specs.Plain.{Plain}
use Rattle.ss_words.specs.Reading.{Read, Reading, Fails}
use Rattle.ss_words.proofs.Loop.{fails, passes_on}
use Rattle.ss_routines.proofs.Rooms.{Listing}

pub list_fails : {A X : Type 0} (i : Reading (Option A)) (view : X → A) (total : Read (List A)) (xs : List X)
    (e : Refusal) (ws r : List Plain) → Fails e r (i ws) → Listing i total (map view xs) ws → Fails e r total
list_fails i view total xs e ws r failed going =
    passes_on e r (i ws) total (λ f h. fails i [] (λ a ys. a ∷ ys) total (map view xs) ws r f h going) failed
