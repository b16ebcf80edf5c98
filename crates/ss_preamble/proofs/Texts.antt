-- A name pushed, unless it is there.
use Rattle.std.proofs.Common.{◌≡◌, ℕ, true, false, Bool, List, [], ◌∷◌, ◌++◌, bytes_eq, refl, sym, ap, ◌∙◌}
use Rattle.std.specs.Prelude.{if◌then◌else◌, ◌||◌}
use Rattle.std.specs.List.{list_any}
use Rattle.std.specs.Borrow.{Bor}
use Rattle.std.proofs.lemmas.List.{map_push}
use Rattle.ss_words.specs.Lists.{Name}
use Rattle.ss_preamble.specs.Limits.{with_name}
use Rattle.ss_preamble.specs.Tally.{texts}

with_old : (ns : List Name) (n : Name) → list_any (bytes_eq n) ns ≡ true → with_name ns n ≡ ns
with_old ns n e = ap (λ (b : Bool). if b then ns else ns ++ n ∷ []) e

with_new : (ns : List Name) (n : Name) → list_any (bytes_eq n) ns ≡ false → with_name ns n ≡ ns ++ n ∷ []
with_new ns n e = ap (λ (b : Bool). if b then ns else ns ++ n ∷ []) e

any_texts : (n : Name) (xs : List (Bor (List ℕ)))
    → list_any (λ other. bytes_eq n other.now) xs ≡ list_any (bytes_eq n) (texts xs)
any_texts n [] = refl
any_texts n (x ∷ xs) = ap (λ (b : Bool). bytes_eq n x.now || b) (any_texts n xs)

pub kept : (xs : List (Bor (List ℕ))) (n : Name) → list_any (λ other. bytes_eq n other.now) xs ≡ true
    → texts xs ≡ with_name (texts xs) n
kept xs n e = sym (with_old (texts xs) n (sym (any_texts n xs) ∙ e))

pub added : (xs ys : List (Bor (List ℕ))) (x : Bor (List ℕ)) → ys ≡ xs ++ x ∷ []
    → list_any (λ other. bytes_eq x.now other.now) xs ≡ false → texts ys ≡ with_name (texts xs) x.now
added xs ys x e none =
    ap texts e ∙ map_push (λ n. n.now) xs x ∙ sym (with_new (texts xs) x.now (sym (any_texts x.now xs) ∙ none))
