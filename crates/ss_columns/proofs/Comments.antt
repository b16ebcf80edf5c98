-- A line with blank comments, from its front.
use Rattle.std.proofs.Common.{◌≡◌, ◌∙◌, ℕ, ◌<◌, Bool, true, false, not, List, [], ◌∷◌, ◌++◌, length, drop, append_assoc}
use Rattle.std.proofs.Common.{append-nil, subst, sym, arith}
use Rattle.std.specs.Prelude.{slice_index, if◌then◌else◌}
use Rattle.ss_words.specs.declared.characters.TheConstants.{BLANK}
use Rattle.ss_words.specs.TextLines.{with_blank_comments}
use Rattle.ss_words.specs.TextScan.{begins_comment}

-- a comment begins or ends here
pub at_quotes : (inside : Bool) (rest done : List ℕ) → begins_comment rest ≡ true
    → done ++ with_blank_comments inside rest
    ≡ (done ++ BLANK ∷ BLANK ∷ []) ++ with_blank_comments (not inside) (drop 2 rest)
unfolding begins_comment with_blank_comments
at_quotes inside [] done e = search
at_quotes inside (b ∷ []) done e = search
at_quotes inside (b ∷ c ∷ bs) done e =
    let behind = with_blank_comments (not inside) bs in
    subst (λ (t : Bool). done ++ (elim t [
      | true ↦ BLANK ∷ BLANK ∷ behind
      | false ↦ (if inside then BLANK else b) ∷ with_blank_comments inside (c ∷ bs)
    ]) ≡ (done ++ BLANK ∷ BLANK ∷ []) ++ behind) (sym e) (sym (append_assoc done (BLANK ∷ BLANK ∷ []) behind))

-- no comment begins or ends here
pub at_byte : (inside : Bool) (rest done : List ℕ) → begins_comment rest ≡ false → 0 < length rest
    → done ++ with_blank_comments inside rest
    ≡ (done ++ (if inside then BLANK else slice_index rest 0) ∷ []) ++ with_blank_comments inside (drop 1 rest)
unfolding begins_comment with_blank_comments
at_byte inside [] done e n = grind (arith, n)
at_byte inside (b ∷ []) done e n = sym (append_assoc done (_ ∷ []) _)
at_byte inside (b ∷ c ∷ bs) done e n =
    let here = if inside then BLANK else b in
    let behind = with_blank_comments inside (c ∷ bs) in
    subst (λ (t : Bool). done ++ (elim t [
      | true ↦ BLANK ∷ BLANK ∷ with_blank_comments (not inside) bs
      | false ↦ here ∷ behind
    ]) ≡ (done ++ here ∷ []) ++ behind) (sym e) (sym (append_assoc done (here ∷ []) behind))

-- a step of a loop at which a comment begins or ends
pub quotes_step : (inside : Bool) (rest done new line more : List ℕ) → begins_comment rest ≡ true
    → done ++ with_blank_comments inside rest ≡ line → new ≡ done ++ BLANK ∷ BLANK ∷ [] → more ≡ drop 2 rest
    → new ++ with_blank_comments (not inside) more ≡ line
quotes_step inside rest done new line more e h n m = rw (n, m) (sym (at_quotes inside rest done e) ∙ h)

-- a step of a loop at which none begins or ends
pub byte_step : (inside : Bool) (rest done new line more : List ℕ) (b : ℕ) → begins_comment rest ≡ false → 0 < length rest
    → done ++ with_blank_comments inside rest ≡ line → b ≡ (if inside then BLANK else slice_index rest 0)
    → new ≡ done ++ b ∷ [] → more ≡ drop 1 rest → new ++ with_blank_comments inside more ≡ line
byte_step inside rest done new line more b e some h v n m =
    rw (n, m, v) (sym (at_byte inside rest done e some) ∙ h)

-- at the end
pub no_more : (inside : Bool) (rest done line : List ℕ) → length rest ≡ 0
    → done ++ with_blank_comments inside rest ≡ line → done ≡ line
unfolding with_blank_comments
no_more inside [] done line e h = sym (append-nil done) ∙ h
no_more inside (b ∷ bs) done line e h = grind (arith, e)
