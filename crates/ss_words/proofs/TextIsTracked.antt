-- The tracked facts about the words stay true of them.
use Rattle.std.proofs.Common.{◌≡◌, ℕ, Bool, true, false, cond, List, [], ◌∷◌, ◌++◌, Option, Some, None, codes, refl}
use Rattle.std.proofs.Common.{sym, ap, ◌∙◌, subst}
use Rattle.ss_words.specs.Words.{Kind, WordAt}
use Rattle.ss_words.specs.TextRuns.{is_name, ends_in, calls_picture, behind_print, line_count, picture_lines}
use Rattle.ss_words.specs.TextScan.{nearest, IsTracked, called_after, count_after}
use Rattle.ss_words.proofs.TextFinds.{nearest-nil, nearest-push}

tracked-none : IsTracked false false false None []
unfolding calls_picture behind_print line_count
tracked-none = record { as_last = refl; print_last = refl; calls = refl; lines = refl }

pub tracked-nil : (ws : List WordAt) → ws ≡ [] → IsTracked false false false None (nearest ws)
tracked-nil ws e =
    let P : List Kind → Type 0 = λ (ks : List Kind). IsTracked false false false None ks in
    subst P (sym (ap nearest e ∙ nearest-nil)) tracked-none

picture_lines-push : (k : Kind) (ks : List Kind)
    → picture_lines (k ∷ ks) ≡ count_after k (ends_in (codes "PRINT") ks) (picture_lines ks)
unfolding behind_print line_count
picture_lines-push k [] =
    elim (is_name (codes "PRINT") k) as (λ b. line_count (elim b [ true ↦ None | false ↦ None ]) ≡ cond b None None)
    [ true ↦ refl | false ↦ refl ]
picture_lines-push k (j ∷ ks) =
    elim (is_name (codes "PRINT") k) as
    (λ b. line_count (elim b [
      | true ↦ None
      | false ↦ (elim (is_name (codes "PRINT") j) [ true ↦ Some k | false ↦ behind_print (Some j) ks ])
    ])
    ≡ cond b None (cond (is_name (codes "PRINT") j) (line_count (Some k))
    (line_count (elim (is_name (codes "PRINT") j) [ true ↦ None | false ↦ behind_print (Some j) ks ])))) [
      | true ↦ refl
      | false ↦ (elim (is_name (codes "PRINT") j) as
          (λ b. line_count (elim b [ true ↦ Some k | false ↦ behind_print (Some j) ks ])
          ≡ cond b (line_count (Some k)) (line_count (elim b [ true ↦ None | false ↦ behind_print (Some j) ks ])))
          [ true ↦ refl | false ↦ refl ])
    ]

tracked-cons : (a p c : Bool) (l : Option ℕ) (k : Kind) (ks : List Kind) → IsTracked a p c l ks
    → IsTracked (is_name (codes "AS") k) (is_name (codes "PRINT") k) (called_after k a) (count_after k p l) (k ∷ ks)
unfolding calls_picture
tracked-cons a p c l k ks t = record {
  as_last = refl;
  print_last = refl;
  calls = ap (λ (b : Bool). called_after k b) t.as_last;
  lines =
      ap (λ (b : Bool). count_after k b l) t.print_last
      ∙ ap (λ (o : Option ℕ). count_after k (ends_in (codes "PRINT") ks) o) t.lines ∙ sym (picture_lines-push k ks);
}

-- a word that joins the words
pub tracked-push : (a p c : Bool) (l : Option ℕ) (ws : List WordAt) (w : WordAt) (vs : List WordAt) → vs ≡ ws ++ w ∷ []
    → IsTracked a p c l (nearest ws)
    → IsTracked (is_name (codes "AS") w.kind) (is_name (codes "PRINT") w.kind) (called_after w.kind a)
    (count_after w.kind p l) (nearest vs)
tracked-push a p c l ws w vs e t =
    let P : List Kind → Type 0 =
    λ (ks : List Kind). IsTracked (is_name (codes "AS") w.kind) (is_name (codes "PRINT") w.kind)
    (called_after w.kind a) (count_after w.kind p l) ks in
    subst P (sym (ap nearest e ∙ nearest-push ws w)) (tracked-cons a p c l w.kind (nearest ws) t)
