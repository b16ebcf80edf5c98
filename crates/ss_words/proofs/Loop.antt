-- Reading one item after the other, as a loop does.
use Rattle.std.proofs.Common.{◌≡◌, ℕ, zero, suc, ◌<◌, List, [], ◌∷◌, ◌++◌, length, Option, Some, None, Result, Ok, Err}
use Rattle.std.proofs.Common.{refl, sym, ap, ◌∙◌, arith}
use Rattle.std.specs.Prelude.{map}
use Rattle.std.proofs.lemmas.List.{map_push}
use Rattle.ss_words.specs.declared.refusal.Refusal.{Refusal}
use Rattle.ss_words.specs.declared.refusal.Refusal.TheVariants.{Unexpected, PastLimit, Memory}
use Rattle.ss_words.specs.Plain.{Plain}
use Rattle.ss_words.specs.Reading.{Read, Reading, goes_on, bind, pure, many_from, many, prepend, Fails}

abbrev pub on_ok : {A B : Type 0} → (A → B) → Result A Refusal → Result B Refusal
on_ok f (Ok a) = Ok (f a)
on_ok f (Err e) = Err e

-- the items that were read before, and the rest that is still read
abbrev pub read_behind : {A B : Type 0} → (A → B → B) → List A → Read B → Read B
read_behind one front r = (on_ok (prepend one front) r.0, r.1)

abbrev pub Going : {A B : Type 0} → Reading (Option A) → B → (A → B → B) → Read B → List A → List Plain → Type 0
Going item none one total front ws =
    (k : ℕ) × (length ws < k) × (total ≡ read_behind one front (many_from item none one k ws))

same : {B : Type 0} (r : Result B Refusal) → r ≡ on_ok (λ b. b) r
same (Ok b) = refl
same (Err e) = refl

pub begins : {A B : Type 0} (item : Reading (Option A)) (none : B) (one : A → B → B) (ws : List Plain)
    → Going item none one (many item none one ws) [] ws
unfolding many
begins item none one ws = (
  suc (length ws),
  omega arith,
  λ i. (same (many_from item none one (suc (length ws)) ws).0 i, (many_from item none one (suc (length ws)) ws).1),
)

prepend-push : {A B : Type 0} (one : A → B → B) (front : List A) (a : A) (b : B)
    → prepend one (front ++ a ∷ []) b ≡ prepend one front (one a b)
prepend-push one [] a b = refl
prepend-push one (x ∷ front) a b = ap (one x) (prepend-push one front a b)

pushed : {A B : Type 0} (one : A → B → B) (front : List A) (a : A) (r : Result B Refusal)
    → on_ok (prepend one front) (on_ok (one a) r) ≡ on_ok (prepend one (front ++ a ∷ [])) r
pushed one front a (Ok b) = ap Ok (sym (prepend-push one front a b))
pushed one front a (Err e) = refl

with_one : {A B : Type 0} (one : A → B → B) (a : A) (r : Read B)
    → goes_on (λ b. pure (one a b)) r.0 r.1 ≡ (on_ok (one a) r.0, r.1)
unfolding pure
with_one one a (Ok b, ws) = refl
with_one one a (Err e, ws) = refl

pub turns : {A B : Type 0} (item : Reading (Option A)) (none : B) (one : A → B → B) (total : Read B) (front : List A)
    (ws r : List Plain) (a : A)
    → item ws ≡ (Ok (Some a), r) → length r < length ws → Going item none one total front ws
    → Going item none one total (front ++ a ∷ []) r
unfolding many_from bind
turns item none one total front ws r a e shorter (zero, lt, so_far) = absurd (omega arith)
turns item none one total front ws r a e shorter (suc k, lt, so_far) =
    let step : many_from item none one (suc k) ws
    ≡ (on_ok (one a) (many_from item none one k r).0, (many_from item none one k r).1) = rw e
    (with_one one a (many_from item none one k r)) in (
      k,
      omega arith,
      so_far ∙ ap (read_behind one front) step
          ∙ λ i. (pushed one front a (many_from item none one k r).0 i, (many_from item none one k r).1),
    )

pub stops : {A B : Type 0} (item : Reading (Option A)) (none : B) (one : A → B → B) (total : Read B) (front : List A)
    (ws r : List Plain)
    → item ws ≡ (Ok None, r) → Going item none one total front ws → total ≡ (Ok (prepend one front none), r)
unfolding many_from bind pure
stops item none one total front ws r e (zero, lt, so_far) = absurd (omega arith)
stops item none one total front ws r e (suc k, lt, so_far) =
    let step : many_from item none one (suc k) ws ≡ (Ok none, r) = rw e refl in
    so_far ∙ ap (read_behind one front) step

pub fails : {A B : Type 0} (item : Reading (Option A)) (none : B) (one : A → B → B) (total : Read B) (front : List A)
    (ws r : List Plain) (f : Refusal)
    → item ws ≡ (Err f, r) → Going item none one total front ws → total ≡ (Err f, r)
unfolding many_from bind
fails item none one total front ws r f e (zero, lt, so_far) = absurd (omega arith)
fails item none one total front ws r f e (suc k, lt, so_far) =
    let step : many_from item none one (suc k) ws ≡ (Err f, r) = rw e refl in
    so_far ∙ ap (read_behind one front) step

-- a part that fails makes the whole fail
pub passes_on : {Y Y' : Type 0} (e : Refusal) (ws : List Plain) (part : Read Y) (whole : Read Y')
    → ((f : Refusal) → part ≡ (Err f, ws) → whole ≡ (Err f, ws)) → Fails e ws part → Fails e ws whole
passes_on Unexpected ws part whole h g = h Unexpected g
passes_on PastLimit ws part whole h g = h PastLimit g
passes_on Memory ws part whole h g = tt

pub loop_begins : {A B X : Type 0} (item : Reading (Option A)) (none : B) (one : A → B → B) (whole : Reading B)
    (ws : List Plain) (view : X → A) (xs : List X) → whole ≡ many item none one → xs ≡ []
    → Going item none one (whole ws) (map view xs) ws
loop_begins item none one whole ws view xs h e = rw (h, e) (begins item none one ws)

pub loop_turns : {A B X : Type 0} (item : Reading (Option A)) (none : B) (one : A → B → B) (total : Read B)
    (view : X → A) (xs : List X) (x : X) (ys : List X) (ws r : List Plain)
    → ys ≡ xs ++ x ∷ [] → item ws ≡ (Ok (Some (view x)), r) → length r < length ws
    → Going item none one total (map view xs) ws → Going item none one total (map view ys) r
loop_turns item none one total view xs x ys ws r pushed e shorter going =
    rw (pushed, map_push view xs x) (turns item none one total (map view xs) ws r (view x) e shorter going)

-- ---- a loop whose first item was read before

pub prepend_list : {A : Type 0} (xs : List A) → prepend (λ x ys. x ∷ ys) xs [] ≡ xs
prepend_list [] = refl
prepend_list (x ∷ xs) = ap (λ (ys : List _). x ∷ ys) (prepend_list xs)
