-- Readings of parts that are not there.
use Rattle.std.proofs.Common.{◌≡◌, Bool, false, List, Option, None, Ok, ◌∙◌}
use Rattle.ss_words.specs.declared.mark.Mark.{Mark}
use Rattle.ss_words.specs.Plain.{Plain}
use Rattle.ss_words.specs.Reading.{Reading, pure}
use Rattle.ss_words.specs.Marks.{eat}
use Rattle.ss_words.proofs.ReadBack.{then}
use Rattle.ss_routines.specs.Combined.{if_mark, either_of, made_of}

pub no_mark : {A : Type 0} (k : Mark) (p : Reading A) (b : Bool) (ws r : List Plain) → eat k ws ≡ (Ok b, r) → b ≡ false
    → if_mark k p ws ≡ (Ok None, r)
unfolding if_mark pure
no_mark k p b ws r e h = then (eat k) _ false ws r (rw h at e)

pub no_either : {A B : Type 0} (i : Reading (Option A)) (j : Reading (Option B)) (ws r z : List Plain)
    → i ws ≡ (Ok None, r) → j r ≡ (Ok None, z) → either_of i j ws ≡ (Ok None, z)
unfolding either_of pure
no_either i j ws r z e h = then i _ None ws r e ∙ then j _ None r z h

pub no_made : {A B : Type 0} (f : A → B) (i : Reading (Option A)) (ws r : List Plain) → i ws ≡ (Ok None, r)
    → made_of f i ws ≡ (Ok None, r)
unfolding made_of pure
no_made f i ws r e = then i _ None ws r e
