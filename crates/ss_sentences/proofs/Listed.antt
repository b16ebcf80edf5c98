-- The candidates that fit, as the code judges them.
use Rattle.std.proofs.Common.{◌≡◌, ℕ, ◌&&◌, Bool, true, false, List, [], ◌∷◌, ◌++◌, map, refl, ap, sym, ◌∙◌}
use Rattle.std.specs.Prelude.{bytes_eq}
use Rattle.ss_sentences.specs.declared.candidate.Judgement.{Judgement}
use Rattle.ss_sentences.specs.declared.expected.TheConstants.{EXPECTED, FIRST_ROOM}
use Rattle.ss_sentences.specs.Expected.{fitting_list, expected_text, fits}
use Rattle.ss_sentences.specs.Fitting.{Judged, judged_view, one_listed, listed, expected_of, fits_among}

listed_views : (first : Bool) (room : ℕ) (js : List Judgement) →
    fitting_list first room js ≡ listed first room (map judged_view js)
listed_views first room [] = refl
listed_views first room (j ∷ js) = λ i. one_listed j.told.now j.fits first room (λ f r. listed_views f r js i)

-- the list
pub expected_views : (js : List Judgement) → expected_text js ≡ expected_of (map judged_view js)
unfolding expected_text expected_of
expected_views js = ap (λ (u : List ℕ). EXPECTED.now ++ u) (listed_views true FIRST_ROOM js)

-- whether one fits
pub fits_views : (js : List Judgement) (told : List ℕ) → fits js told ≡ fits_among (map judged_view js) told
fits_views [] told = refl
fits_views (j ∷ js) told =
    ap (λ (b : Bool). let r : Bool = elim (j.fits && bytes_eq j.told.now told) [ true ↦ true | false ↦ b ] in r)
    (fits_views js told)

-- the list that is appended
pub expected_added : (js : List Judgement) (all : List Judged) (old new : List ℕ) → map judged_view js ≡ all
    → new ≡ old ++ expected_text js → new ≡ old ++ expected_of all
expected_added js all old new e h =
    h ∙ ap (λ (u : List ℕ). old ++ u) (expected_views js ∙ ap expected_of e)

pub ruleset views = (expected_views, fits_views)
