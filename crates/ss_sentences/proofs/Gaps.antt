-- A sentence with words in the places of its gaps, from its front.
use Rattle.std.proofs.Common.{◌≡◌, ◌∙◌, ℕ, ◌<◌, Bool, true, false, List, [], ◌∷◌, ◌++◌, length, drop, subst, sym, arith}
use Rattle.std.proofs.Common.{append_assoc, append-nil}
use Rattle.std.specs.Prelude.{slice_index}
use Rattle.ss_sentences.specs.Pieces.{begins_gap, gaps_filled}

-- if a gap begins at the front
pub at_gap : (rest done word others : List ℕ) → begins_gap rest ≡ true
    → done ++ gaps_filled rest word others ≡ (done ++ word) ++ gaps_filled (drop 2 rest) others others
unfolding begins_gap gaps_filled
at_gap [] done word others e = search
at_gap (b ∷ []) done word others e = search
at_gap (b ∷ c ∷ bs) done word others e =
    let behind = gaps_filled bs others others in
    subst (λ (t : Bool). done ++ (elim t [
      | true ↦ word ++ behind
      | false ↦ b ∷ gaps_filled (c ∷ bs) word others
    ]) ≡ (done ++ word) ++ behind) (sym e) (sym (append_assoc done word behind))

-- elsewhere
pub at_letter : (rest done word others : List ℕ) → begins_gap rest ≡ false → 0 < length rest
    → done ++ gaps_filled rest word others ≡ (done ++ slice_index rest 0 ∷ []) ++ gaps_filled (drop 1 rest) word others
unfolding begins_gap gaps_filled
at_letter [] done word others e n = grind (arith, n)
at_letter (b ∷ []) done word others e n = sym (append_assoc done (b ∷ []) [])
at_letter (b ∷ c ∷ bs) done word others e n =
    let behind = gaps_filled (c ∷ bs) word others in
    subst (λ (t : Bool). done ++ (elim t [
      | true ↦ word ++ gaps_filled bs others others
      | false ↦ b ∷ behind
    ]) ≡ (done ++ b ∷ []) ++ behind) (sym e) (sym (append_assoc done (b ∷ []) behind))

-- a step of a loop if a gap begins at the front
pub gap_step : (rest done word others new all more : List ℕ) → begins_gap rest ≡ true
    → done ++ gaps_filled rest word others ≡ all → new ≡ done ++ word → more ≡ drop 2 rest
    → new ++ gaps_filled more others others ≡ all
gap_step rest done word others new all more e h n m = rw (n, m) (sym (at_gap rest done word others e) ∙ h)

-- elsewhere
pub letter_step : (rest done word others new all more : List ℕ) (b : ℕ) → begins_gap rest ≡ false → 0 < length rest
    → done ++ gaps_filled rest word others ≡ all → b ≡ slice_index rest 0 → new ≡ done ++ b ∷ [] → more ≡ drop 1 rest
    → new ++ gaps_filled more word others ≡ all
letter_step rest done word others new all more b e some h v n m =
    rw (n, m, v) (sym (at_letter rest done word others e some) ∙ h)

-- at the end
pub no_more : (rest done word others all : List ℕ) → length rest ≡ 0 → done ++ gaps_filled rest word others ≡ all
    → done ≡ all
unfolding gaps_filled
no_more [] done word others all e h = sym (append-nil done) ∙ h
no_more (b ∷ bs) done word others all e h = grind (arith, e)
