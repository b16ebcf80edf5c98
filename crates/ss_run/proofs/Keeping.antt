-- What is kept of what is traced, over a step.
use Rattle.std.proofs.Common.{◌≡◌, ℕ, zero, suc, ◌+◌, ◌<◌, List, [], ◌∷◌, ◌++◌, length, map, get_or}
use Rattle.std.proofs.Common.{Some, None}
use Rattle.std.proofs.Common.{refl, sym, ap, ◌∙◌, ◌≤◌, arith, take}
use Rattle.std.proofs.lemmas.List.{take_all, map-append, map_more}
use Rattle.std.specs.List.{flat_map}
use Rattle.ss_program.specs.Program.{ProgramTable}
use Rattle.ss_state.specs.Run.{Input}
use Rattle.ss_run.specs.declared.watched.Watched.{Watched as Code}
use Rattle.ss_run.specs.Kept.{Kept, kept_at, kept_value}
use Rattle.ss_run.specs.Watched.{Watched, question, formula, watched_value, IsSoundWatched}
use Rattle.ss_run.specs.WatchedView.{watched_view, AreSound}

-- ---- all of them name only what exists

pub sound_at : (program : ProgramTable) (xs : List Code) (k : ℕ) (x : Code) → k < length xs → x ≡ get_or xs k x →
    AreSound program xs → IsSoundWatched program (watched_view x)
unfolding AreSound
sound_at program [] k x l e s = absurd (omega (arith, l))
sound_at program (y ∷ ys) zero x l e s = rw e s.0
sound_at program (y ∷ ys) (suc k) x l e s = sound_at program ys k x (omega (arith, l)) e s.1

pub sound_none : (program : ProgramTable) → AreSound program []
unfolding AreSound
sound_none program = tt

pub sound_more : (program : ProgramTable) (xs : List Code) (x : Code) → AreSound program xs →
    IsSoundWatched program (watched_view x) → AreSound program (xs ++ x ∷ [])
unfolding AreSound
sound_more program [] x s h = (h, tt)
sound_more program (y ∷ ys) x s h = (s.0, sound_more program ys x s.1 h)

-- ---- the value by what is kept

pub kept_value_is : (t : Input) (x : Watched) (p : ℕ) (k : Kept) → k ≡ kept_at t x p →
    kept_value t p x k ≡ watched_value t x p
kept_value_is t (question x) p k h = refl
kept_value_is t (formula text (Some m)) p k h = ap (λ it. kept_value t p (formula text (Some m)) it) h
kept_value_is t (formula text None) p k h = ap (λ it. kept_value t p (formula text None) it) h

-- ---- lists

pub flat_over : {X Y A : Type 0} → (f : Y → List A) (g : X → Y) (xs : List X) →
    flat_map f (map g xs) ≡ flat_map (λ x. f (g x)) xs
flat_over f g [] = refl
flat_over f g (x ∷ xs) = ap (λ zs. f (g x) ++ zs) (flat_over f g xs)

-- the rows of all, if those of as many as there are were appended
pub all_rows_told : {X Y A : Type 0} → (f : Y → List A) (g : X → Y) (xs : List X) (k : ℕ) (first rows : List A) →
    length xs ≤ k → rows ≡ first ++ flat_map (λ x. f (g x)) (take k xs) → rows ≡ first ++ flat_map f (map g xs)
all_rows_told f g xs k first rows l h =
    h ∙ ap (λ ys. first ++ flat_map (λ x. f (g x)) ys) (take_all k xs l)
    ∙ ap (λ zs. first ++ zs) (sym (flat_over f g xs))

-- one more that was made
pub more_made : {X Y W : Type 0} → (f : X → W) (h : Y → W) (xs : List X) (ys zs : List Y) (k : ℕ) (x : X) (y : Y) →
    k < length xs → x ≡ get_or xs k x → map h ys ≡ map f (take k xs) → h y ≡ f x → zs ≡ ys ++ y ∷ [] →
    map h zs ≡ map f (take (k + 1) xs)
more_made f h xs ys zs k x y l e m t z =
    rw z (map-append h ys (y ∷ []) ∙ ap (λ ws. ws ++ h y ∷ []) m
    ∙ ap (λ w. map f (take k xs) ++ w ∷ []) (t ∙ ap f e) ∙ sym (map_more f xs k x l))
