-- Readings of an alternative in the place of a part, and of the value that is made of a part.
use Rattle.std.proofs.Common.{◌≡◌, List, Option, None, Ok, ◌∙◌}
use mathlib.Core.Logic.{inr}
use Rattle.ss_words.specs.Plain.{Plain}
use Rattle.ss_words.specs.Reading.{Reading, pure}
use Rattle.ss_words.proofs.ReadBack.{then}
use Rattle.ss_routines.specs.Combined.{made, either}

pub made_reads : {A B : Type 0} (f : A → B) (p : Reading A) (a : A) (ws r : List Plain) → p ws ≡ (Ok a, r)
    → made f p ws ≡ (Ok (f a), r)
unfolding made pure
made_reads f p a ws r e = then p _ a ws r e

pub either_reads : {A B : Type 0} (i : Reading (Option A)) (q : Reading B) (b : B) (ws r z : List Plain)
    → i ws ≡ (Ok None, r) → q r ≡ (Ok b, z) → either i q ws ≡ (Ok (inr b), z)
unfolding either pure
either_reads i q b ws r z e h = then i _ None ws r e ∙ then q _ b r z h
