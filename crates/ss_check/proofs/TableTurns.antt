-- The turns of the loops that fill tables, and the entries that tables of references find.
use Rattle.std.proofs.Common.{◌≡◌, ℕ, ◌+◌, ◌<◌, ◌≤◌, Bool, true, false, cond, List, [], ◌∷◌, ◌++◌, length, get_or, drop}
use Rattle.std.proofs.Common.{refl, sym, ap, ◌∙◌, Some, append_assoc}
use Rattle.std.specs.Prelude.{map, option_map, bytes_eq}
use Rattle.std.specs.List.{find}
use Rattle.std.proofs.lemmas.List.{drop_all, map-append}
use Rattle.ss_words.specs.Lists.{Name}
use Rattle.ss_check.specs.Facts.{Fact, fact, fact_of, names_of}
use Rattle.ss_check.specs.FactsView.{facts_view}
use Rattle.ss_check.proofs.FactTables.{append_none}
use Rattle.ss_check.proofs.Turns.{left_at}

-- ---- elements put at the end of a list, each by a function of the next

pub map_turn : {X A : Type 0} (f : X → A) (done : List A) (xs : List X) (i : ℕ) (x : X) (whole : List A) →
    i < length xs → x ≡ get_or xs i x → done ++ map f (drop i xs) ≡ whole →
    (done ++ f x ∷ []) ++ map f (drop (i + 1) xs) ≡ whole
map_turn f done xs i x whole l e h =
    append_assoc done (f x ∷ []) (map f (drop (i + 1) xs))
    ∙ ap (λ ys. done ++ map f ys) (sym (left_at xs i x l e)) ∙ h

-- of the image of the next element, from a list that is taken apart
pub maps_turn : {X Y A : Type 0} (f : Y → A) (g : X → Y) (done : List A) (xs : List X) (x : X) (ys : List X)
    (whole : List A) → xs ≡ x ∷ ys → done ++ map f (map g xs) ≡ whole →
    (done ++ f (g x) ∷ []) ++ map f (map g ys) ≡ whole
maps_turn f g done xs x ys whole e h =
    append_assoc done (f (g x) ∷ []) (map f (map g ys)) ∙ ap (λ zs. done ++ map f (map g zs)) (sym e) ∙ h

-- of the image of the next element
pub seen_turn : {X Y A : Type 0} (f : Y → A) (g : X → Y) (done : List A) (xs : List X) (i : ℕ) (x : X)
    (whole : List A) → i < length xs → x ≡ get_or xs i x → done ++ map f (map g (drop i xs)) ≡ whole →
    (done ++ f (g x) ∷ []) ++ map f (map g (drop (i + 1) xs)) ≡ whole
seen_turn f g done xs i x whole l e h = maps_turn f g done (drop i xs) x (drop (i + 1) xs) whole (left_at xs i x l e) h

-- until none is left
pub seen_end : {X Y A : Type 0} (f : Y → A) (g : X → Y) (done : List A) (xs : List X) (i : ℕ) (whole : List A) →
    length xs ≤ i → done ++ map f (map g (drop i xs)) ≡ whole → done ≡ whole
seen_end f g done xs i whole l h =
    sym (append_none done) ∙ ap (λ ys. done ++ map f (map g ys)) (sym (drop_all i xs l)) ∙ h

-- if the image of the element put at the end is the function's value
pub shown_turn : {X Y A : Type 0} (f : X → A) (g : Y → A) (done : List Y) (y : Y) (xs : List X) (i : ℕ) (x : X)
    (whole : List A) → i < length xs → x ≡ get_or xs i x → g y ≡ f x → map g done ++ map f (drop i xs) ≡ whole →
    map g (done ++ y ∷ []) ++ map f (drop (i + 1) xs) ≡ whole
shown_turn f g done y xs i x whole l e same h =
    ap (λ ys. ys ++ map f (drop (i + 1) xs)) (map-append g done (y ∷ []) ∙ ap (λ z. map g done ++ z ∷ []) same)
    ∙ map_turn f (map g done) xs i x whole l e h

-- until none is left
pub shown_end : {X A : Type 0} (f : X → A) (done : List A) (xs : List X) (i : ℕ) (whole : List A) →
    length xs ≤ i → done ++ map f (drop i xs) ≡ whole → done ≡ whole
shown_end f done xs i whole l h =
    sym (append_none done) ∙ ap (λ ys. done ++ map f ys) (sym (drop_all i xs l)) ∙ h

-- ---- lists put at the end of a list, each of the next

-- F: the part that each of the next brings
pub added_turn : {X A : Type 0} (F : List X → List A) (f : X → List A) (done : List A) (xs : List X) (i : ℕ) (x : X)
    (whole : List A) → ((y : X) (ys : List X) → F (y ∷ ys) ≡ f y ++ F ys) → i < length xs → x ≡ get_or xs i x →
    done ++ F (drop i xs) ≡ whole → (done ++ f x) ++ F (drop (i + 1) xs) ≡ whole
added_turn F f done xs i x whole step l e h =
    append_assoc done (f x) (F (drop (i + 1) xs))
    ∙ ap (λ ys. done ++ ys) (sym (step x (drop (i + 1) xs)) ∙ ap F (sym (left_at xs i x l e))) ∙ h

-- until none is left
pub added_end : {X A : Type 0} (F : List X → List A) (done : List A) (xs : List X) (i : ℕ) (whole : List A) →
    F [] ≡ [] → length xs ≤ i → done ++ F (drop i xs) ≡ whole → done ≡ whole
added_end F done xs i whole none l h =
    sym (append_none done) ∙ ap (λ ys. done ++ ys) (sym none ∙ ap F (sym (drop_all i xs l))) ∙ h

-- ---- facts seen by their contents

-- the facts of one more
pub facts_view_push : {X A : Type 0} (g : X → A) (fs : List (Fact X)) (f : Fact X) →
    facts_view g (fs ++ f ∷ []) ≡ facts_view g fs ++ fact f.name (g f.what) ∷ []
facts_view_push g [] f = refl
facts_view_push g (h ∷ hs) f = ap (λ ys. fact h.name (g h.what) ∷ ys) (facts_view_push g hs f)

-- the names
pub names_of_view : {X A : Type 0} (g : X → A) (fs : List (Fact X)) → names_of (facts_view g fs) ≡ names_of fs
names_of_view g [] = refl
names_of_view g (f ∷ fs) = ap (λ (ns : List Name). f.name ∷ ns) (names_of_view g fs)

-- the fact that is found for a name
pub fact_of_view : {X A : Type 0} (g : X → A) (fs : List (Fact X)) (n : Name) →
    fact_of (facts_view g fs) n ≡ option_map g (fact_of fs n)
fact_of_view g [] n = refl
fact_of_view {X = X} {A = A} g (f ∷ fs) n = at (bytes_eq n f.name) (fact_of_view g fs n)
  where
    at : (b : Bool) → fact_of (facts_view g fs) n ≡ option_map g (fact_of fs n) →
        option_map {T = Fact A} (λ h. h.what)
        (cond b (Some (fact f.name (g f.what))) (find (λ h. bytes_eq n h.name) (facts_view g fs)))
        ≡ option_map g (option_map (λ h. h.what) (cond b (Some f) (find (λ h. bytes_eq n h.name) fs)))
    at true h = refl
    at false h = h
