-- The results and refusals of readings of several parts, by those of their parts.
use Rattle.std.proofs.Common.{◌≡◌, Bool, true, List, Some, Result, Ok, ap, ◌∙◌}
use Rattle.ss_words.specs.declared.mark.Mark.{Mark}
use Rattle.ss_words.specs.declared.refusal.Refusal.{Refusal}
use Rattle.ss_words.specs.Plain.{Plain}
use Rattle.ss_words.specs.Reading.{Reading, goes_on, bind, pure, Fails, Gives}
use Rattle.ss_words.specs.Marks.{eat}
use Rattle.ss_words.proofs.Loop.{passes_on}
use Rattle.ss_words.proofs.ReadBack.{then}
use Rattle.ss_routines.specs.Combined.{if_mark}

-- ---- one part after another

pub stops : {A B : Type 0} (p : Reading A) (f : A → Reading B) (e : Refusal) (ws r : List Plain) → Fails e r (p ws)
    → Fails e r (bind p f ws)
unfolding bind
stops p f e ws r = passes_on e r (p ws) (bind p f ws) (λ g q. ap (λ x. goes_on f x.0 x.1) q)

pub stops_behind : {A B : Type 0} (p : Reading A) (f : A → Reading B) (a : A) (e : Refusal) (ws r z : List Plain)
    → p ws ≡ (Ok a, r) → Fails e z (f a r) → Fails e z (bind p f ws)
stops_behind p f a e ws r z h g = rw (then p f a ws r h) g

pub gives_behind : {A B X : Type 0} (p : Reading A) (f : A → Reading B) (view : X → B) (x : Result X Refusal) (a : A)
    (ws r z : List Plain) → p ws ≡ (Ok a, r) → Gives view x z (f a r) → Gives view x z (bind p f ws)
gives_behind p f view x a ws r z h g = rw (then p f a ws r h) g

-- ---- a part after a mark

pub mark_reads : {A : Type 0} (k : Mark) (p : Reading A) (b : Bool) (ws r : List Plain) (a : A) (z : List Plain)
    → eat k ws ≡ (Ok b, r) → b ≡ true → p r ≡ (Ok a, z) → if_mark k p ws ≡ (Ok (Some a), z)
unfolding if_mark pure
mark_reads k p b ws r a z e h g = then (eat k) _ true ws r (rw h at e) ∙ then p _ a r z g

pub mark_fails : {A : Type 0} (k : Mark) (p : Reading A) (b : Bool) (ws r : List Plain) (f : Refusal) (z : List Plain)
    → eat k ws ≡ (Ok b, r) → b ≡ true → Fails f z (p r) → Fails f z (if_mark k p ws)
unfolding if_mark
mark_fails k p b ws r f z e h g =
    stops_behind (eat k) _ true f ws r z (rw h at e) (stops p (λ a. pure (Some a)) f r z g)
