-- The items of a page, one by one.
use Rattle.std.proofs.Common.{◌≡◌, ℕ, suc, ◌+◌, List, [], ◌++◌, refl, ◌∙◌, sym, ap, arith, append_assoc, append-nil}
use Rattle.ss_scopes.specs.Pages.{items_from}

items_none : (item : ℕ → List ℕ) (start : ℕ) → items_from item start 0 ≡ []
unfolding items_from
items_none item start = refl

items_step : (item : ℕ → List ℕ) (start n : ℕ) →
    items_from item start (suc n) ≡ items_from item start n ++ item (start + n)
unfolding items_from
items_step item start n = refl

-- no item yet
pub page_none : (item : ℕ → List ℕ) (start : ℕ) (old : List ℕ) → old ≡ old ++ items_from item start 0
page_none item start old = sym (ap (λ xs. old ++ xs) (items_none item start) ∙ append-nil old)

-- one item more
pub page_more : (item : ℕ → List ℕ) (start k : ℕ) (old now new : List ℕ) → now ≡ old ++ items_from item start k →
    new ≡ now ++ item (start + k) → new ≡ old ++ items_from item start (k + 1)
page_more item start k old now new e f =
    let next : k + 1 ≡ suc k = omega arith in
    f ∙ ap (λ xs. xs ++ item (start + k)) e ∙ append_assoc old (items_from item start k) (item (start + k))
    ∙ sym (ap (λ xs. old ++ xs) (ap (items_from item start) next ∙ items_step item start k))
