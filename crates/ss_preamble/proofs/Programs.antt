-- The farthest word of a whole program.
use Rattle.std.proofs.Common.{◌≡◌, ℕ, zero, suc, ◌+◌, ◌≤◌, Bool, true, false, leb, leb-true, List, [], ◌∷◌, ◌++◌}
use Rattle.std.proofs.Common.{length, length-append, take, drop, Option, Some, None, refl, sym, ap, subst, ◌∙◌}
use Rattle.std.proofs.Common.{append_assoc, arith}
use Rattle.std.proofs.lemmas.List.{take_at, take-append-drop, take-append-le}
use Rattle.std.proofs.Math.Seq.{take-append-add}
use Rattle.ss_words.specs.declared.mark.Mark.TheVariants as m
use Rattle.ss_words.specs.declared.reserved.Reserved.TheVariants as r
use Rattle.ss_words.specs.Plain.{Plain, first}
use Rattle.ss_words.specs.Marks.{is}
use Rattle.ss_words.specs.Farthest.{IsFarthest}
use Rattle.ss_preamble.specs.Tree.{Preamble}
use Rattle.ss_preamble.specs.Spelling.{spell}
use Rattle.ss_preamble.specs.Refused.{Text, spell_text, HasPreamble}
use Rattle.ss_preamble.specs.Laws.{Program, spell_head, spell_program, FarthestOfProgram, WordBehindEnd}
use Rattle.ss_preamble.proofs.Counting.{no_le}
use Rattle.ss_preamble.proofs.Unique.{one_head, not_farthest, has_preamble}

first_cases : (k : ℕ) (ws x : List Plain) → HasPreamble ws → first x ≡ first (drop k ws) → HasPreamble (take k ws ++ x)
first_cases zero [] x h e = absurd cc
first_cases zero (w ∷ ws) x h e = subst (λ (o : Option Plain). is (m.Reserved r.Preamble) o ≡ true) (sym e) h
first_cases (suc k) [] x h e = absurd cc
first_cases (suc k) (w ∷ ws) x h e = h

-- a list that begins as another one does, up to that one's end
prefix : (a b c d : List Plain) → a ++ b ≡ c ++ d → length a ≤ length c → take (length a) c ≡ a
prefix a b c d e le =
    sym (take-append-le (length a) c d le) ∙ ap (take (length a)) (sym e) ∙ take_at a b (length a) refl

module _ {S : Type 0} (sp : S → List Plain) (some : S) (none_begins : (s : S) → HasPreamble (sp s) → ⊥)
    (ws : List Plain) (begins : HasPreamble ws) where
  -- a program whose text begins with PREAMBLE has one
  as_text_of : (o : Option Preamble) (s : S) → HasPreamble (spell_head o ++ sp s) → (u : Text)
      × (spell_text u ≡ spell_head o ++ sp s)
  as_text_of None s h = absurd (none_begins s h)
  as_text_of (Some p) s h = (record { preamble = p; behind = sp s }, refl)

  as_text : (t : Program S) → HasPreamble (spell_program sp t) → (u : Text) × (spell_text u ≡ spell_program sp t)
  as_text t h = as_text_of t.preamble t.sections h

  no_further : (k : ℕ) → IsFarthest spell_text ws k → (t : Program S) (x : List Plain)
      → spell_program sp t ≡ take k ws ++ x → first x ≡ first (drop k ws) → ⊥
  no_further k far t x e is =
      let (u, same) = as_text t (subst HasPreamble (sym e) (first_cases k ws x begins is)) in
      far.no_further u x (same ∙ e) is

  reached : (k : ℕ) → IsFarthest spell_text ws k → (p : Preamble) (z x : List Plain) → spell p ++ z ≡ take k ws ++ x
      → (b : Bool) → leb (length (spell p)) (length (take k ws)) ≡ b → (t : Program S) × (y : List Plain)
      × (spell_program sp t ≡ take k ws ++ y)
  reached k far p z x e true lt =
      let le : length (spell p) ≤ length (take k ws) = leb-true (length (spell p)) (length (take k ws)) lt in
      let front : take (length (spell p)) (take k ws) ≡ spell p = prefix (spell p) z (take k ws) x e le in
      let all : ws ≡ spell p ++ (drop (length (spell p)) (take k ws) ++ drop k ws) =
      sym (take-append-drop k ws) ∙ ap (λ (u : List Plain). u ++ drop k ws)
      (sym (take-append-drop (length (spell p)) (take k ws))
      ∙ ap (λ (u : List Plain). u ++ drop (length (spell p)) (take k ws)) front)
      ∙ append_assoc (spell p) (drop (length (spell p)) (take k ws)) (drop k ws) in
      absurd (not_farthest ws k p (drop (length (spell p)) (take k ws) ++ drop k ws) all far)
  reached k far p z x e false lt =
      let more : length (spell p) ≤ length (take k ws) → ⊥ = no_le (length (spell p)) (length (take k ws)) lt in
      let le : length (take k ws) ≤ length (spell p) = omega (arith, more) in
      let front : take (length (take k ws)) (spell p) ≡ take k ws = prefix (take k ws) x (spell p) z (sym e) le in
      let rest = drop (length (take k ws)) (spell p) in
      let split : spell p ≡ take k ws ++ rest =
      sym (take-append-drop (length (take k ws)) (spell p)) ∙ ap (λ (u : List Plain). u ++ rest) front in (
        record { preamble = Some p; sections = some },
        rest ++ sp some,
        ap (λ (u : List Plain). u ++ sp some) split
            ∙ append_assoc (take k ws) rest (sp some),
      )

  refused : (k : ℕ) → IsFarthest spell_text ws k → IsFarthest (spell_program sp) ws k
  refused k far = record {
    inside = far.inside;
    reached =
        (let (u, x, e) = far.reached in
        reached k far u.preamble u.behind x e (leb (length (spell u.preamble)) (length (take k ws))) refl);
    no_further = no_further k far;
  }

  module _ (items : Preamble) (behind : List Plain) (k : ℕ) (split : ws ≡ spell items ++ behind)
      (far : IsFarthest sp behind k) where
    -- how many words the preamble has
    abbrev n : ℕ
    n = length (spell items)

    front : take (n + k) ws ≡ spell items ++ take k behind
    front = ap (take (n + k)) split ∙ take-append-add (spell items) behind k

    back : drop (n + k) ws ≡ drop k behind
    back = ap (drop (n + k)) split ∙ over (spell items)
      where
        over : (us : List Plain) → drop (length us + k) (us ++ behind) ≡ drop k behind
        over [] = ap (λ (i : ℕ). drop i behind) (let h : 0 + k ≡ k = omega arith in h)
        over (u ∷ us) =
            let h : length (u ∷ us) + k ≡ suc (length us + k) = omega arith in
            ap (λ (i : ℕ). drop i (u ∷ (us ++ behind))) h ∙ over us

    behind_no_further : (o : Option Preamble) (s : S) (x : List Plain) → spell_head o ++ sp s ≡ take (n + k) ws ++ x
        → first x ≡ first (drop (n + k) ws) → ⊥
    behind_no_further None s x e is = none_begins s (subst HasPreamble (sym e) (first_cases (n + k) ws x begins is))
    behind_no_further (Some p) s x e is =
        let same : spell p ++ sp s ≡ spell items ++ (take k behind ++ x) =
        e ∙ ap (λ (u : List Plain). u ++ x) front ∙ append_assoc (spell items) (take k behind) x in
        far.no_further s x (one_head p items (sp s) (take k behind ++ x) same).1 (is ∙ ap first back)

    read : IsFarthest (spell_program sp) ws (n + k)
    read = record {
      inside = (let le = far.inside in omega (arith, le, ap length split, length-append (spell items) behind));
      reached =
          (let (s, x, e) = far.reached in (
            record { preamble = Some items; sections = s },
            x,
            ap (λ (u : List Plain). spell items ++ u) e
                ∙ sym (append_assoc (spell items) (take k behind) x) ∙ ap (λ (u : List Plain). u ++ x) (sym front),
          ));
      no_further = λ t. behind_no_further t.preamble t.sections;
    }

pub farthest_of_program : {S : Type 0} (sp : S → List Plain) → FarthestOfProgram sp
farthest_of_program sp some none_begins ws begins = (
  refused sp some none_begins ws begins,
  λ items behind k split far. read sp some none_begins ws begins items behind
      k split far,
)

pub word_behind_end : {S : Type 0} (sp : S → List Plain) → WordBehindEnd sp
word_behind_end sp some none_begins items w behind none_with =
    let ws = spell items ++ w ∷ behind in
    let far : IsFarthest sp (w ∷ behind) 0 = record {
      inside = omega arith;
      reached = (some, sp some, refl);
      no_further = λ s x e is. none_with s (ap first e ∙ is);
    } in
    let there = (farthest_of_program sp some none_begins ws (has_preamble ws items (w ∷ behind) refl)).1 in
    subst (λ (k : ℕ). IsFarthest (spell_program sp) ws k) (omega arith) (there items (w ∷ behind) 0 refl far)
