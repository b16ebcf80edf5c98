-- A reading that goes on with the value that it is given.
use Rattle.std.proofs.Common.{◌≡◌, ℕ, suc, List, Option, Some, None, Ok, ap, ◌∙◌}
use Rattle.ss_words.specs.Plain.{Plain}
use Rattle.ss_words.specs.Reading.{Reading, goes_on, bind, pure, many_from}

pub then : {A B : Type 0} (p : Reading A) (f : A → Reading B) (a : A) (ws r : List Plain) → p ws ≡ (Ok a, r)
    → bind p f ws ≡ f a r
unfolding bind
then p f a ws r e = ap (λ x. goes_on f x.0 x.1) e

module _ {A B : Type 0} (item : Reading (Option A)) (none : B) (one : A → B → B) where
  pub many_ends : (k : ℕ) (ws r : List Plain) → item ws ≡ (Ok None, r)
      → many_from item none one (suc k) ws ≡ (Ok none, r)
  unfolding many_from pure
  many_ends k ws r e = then item _ None ws r e

  pub many_goes : (k : ℕ) (a : A) (b : B) (ws r r' : List Plain) → item ws ≡ (Ok (Some a), r)
      → many_from item none one k r ≡ (Ok b, r') → many_from item none one (suc k) ws ≡ (Ok (one a b), r')
  unfolding many_from pure
  many_goes k a b ws r r' e h = then item _ (Some a) ws r e ∙ then (many_from item none one k) _ b r r' h
