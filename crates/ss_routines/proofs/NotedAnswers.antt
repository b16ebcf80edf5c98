-- The answer of the code to a text, by the places that it noted.
use Rattle.std.proofs.Common.{◌≡◌, ℕ, ◌-◌, ◌≤◌, ◌<◌, List, [], ◌∷◌, length, Result, Ok, Err, refl, sym, ap, subst, ◌∙◌}
use Rattle.std.proofs.Common.{arith}
use Rattle.std.specs.Prelude.{map}
use Rattle.std.proofs.lemmas.List.{length-map}
use Rattle.ss_words.specs.declared.refusal.Refusal.{Refusal}
use Rattle.ss_words.specs.declared.refusal.Refusal.TheVariants.{Unexpected, PastLimit}
use Rattle.ss_words.specs.declared.fault.TextRule.TheVariants as Rule
use Rattle.ss_words.specs.declared.fault.TextRule.TheVariants.{UnexpectedWord, UnexpectedEnd}
use Rattle.ss_words.specs.declared.plain_word.PlainWord.{PlainWord}
use Rattle.ss_words.specs.Plain.{Plain, plains, plain_in, plain_at, plains_of, word_lines}
use Rattle.ss_words.specs.Reading.{Read, Reading, whole}
use Rattle.ss_words.specs.Noting.{line}
use Rattle.ss_words.proofs.Loop.{on_ok}
use Rattle.ss_routines.specs.Places.{Section}
use Rattle.ss_routines.specs.Tree.{Tree, spell}
use Rattle.ss_routines.specs.PlacesAtLines.{limited_sections}
use Rattle.ss_routines.specs.Written.{written}
use Rattle.ss_routines.specs.Refused.{lines, IsWithin, IsUnexpectedWord, IsUnexpectedEnd, IsPastLimit, IsRefused}
use Rattle.ss_routines.specs.Refused.{AreSections}
use Rattle.ss_routines.proofs.SectionWrites.{whole_writes}
use Rattle.ss_routines.proofs.Whole.{reading, read_sections, unexpected_word, unexpected_end, past_limit, past_end}

-- ---- lines

pub words_are : (text : List PlainWord) → plains (map plain_at text) ≡ plains_of text
words_are [] = refl
words_are (w ∷ text) = ap (λ (u : List Plain). plain_in w ∷ u) (words_are text)

pub lines_are : (text : List PlainWord) → lines (map plain_at text) ≡ word_lines text
lines_are [] = refl
lines_are (w ∷ text) = ap (λ (u : List ℕ). w.word.now.line ∷ u) (lines_are text)

-- ---- the reading that notes

module _ (text : List PlainWord) where
  abbrev pub noting : Reading (List Section)
  noting = whole (limited_sections (word_lines text))

  as_tree : noting (plains_of text) ≡ (
    on_ok (written (word_lines text)) (whole reading (plains_of text)).0,
    (whole reading (plains_of text)).1,
  )
  as_tree =
      (whole_writes (word_lines text) 50 64 16 31 (omega arith) 256).at (plains_of text)
      (omega (arith, length-map text plain_in, length-map text (λ w. w.word.now.line)))

  abbrev Reads : Refusal → List Plain → Result Tree Refusal → List Plain → Type 0
  Reads g rest o rest' =
      (let x : Read (List Section) = (Err g, rest) in x) ≡ (on_ok (written (word_lines text)) o, rest')
      → (let y : Read Tree = (o, rest') in y) ≡ (Err g, rest)

  reads : (g : Refusal) (rest : List Plain) (o : Result Tree Refusal) (rest' : List Plain) → Reads g rest o rest'
  reads g rest (Ok t) rest' e =
      let h : (let o : Result (List Section) Refusal = Err g in o) ≡ Ok (written (word_lines text) t) =
      ap (λ (x : Read (List Section)). x.0) e in absurd cc
  reads g rest (Err f) rest' e =
      let h : (let o : Result (List Section) Refusal = Err g in o) ≡ Err f = ap (λ (x : Read (List Section)). x.0) e in
      let same_end : rest ≡ rest' = ap (λ (x : Read (List Section)). x.1) e in
      let same_refusal : g ≡ f = cc in
      λ i. (Err (sym same_refusal i), sym same_end i)

  pub failed : (g : Refusal) (rest : List Plain) → noting (plains_of text) ≡ (Err g, rest)
      → whole reading (plains_of text) ≡ (Err g, rest)
  failed g rest e = reads g rest (whole reading (plains_of text)).0 (whole reading (plains_of text)).1 (sym e ∙ as_tree)

  pick : (ss : List Section) (rest : List Plain) (o : Result Tree Refusal) (rest' : List Plain)
      → whole reading (plains_of text) ≡ (o, rest') → (let x : Read (List Section) = (Ok ss, rest) in x) ≡ (
        on_ok
            (written (word_lines text)) o,
        rest',
      )
      → (t : Tree) × IsWithin t × (plains_of text ≡ spell t) × (ss ≡ written (word_lines text) t)
  pick ss rest (Ok t) rest' e h =
      let g : (let o : Result (List Section) Refusal = Ok ss in o) ≡ Ok (written (word_lines text) t) =
      ap (λ (x : Read (List Section)). x.0) h in
      let (w, is) = read_sections (plains_of text) rest' t e in
      (t, w, is, cc)
  pick ss rest (Err b) rest' e h =
      let g : (let o : Result (List Section) Refusal = Ok ss in o) ≡ Err b =
      ap (λ (x : Read (List Section)). x.0) h in absurd cc

  pub found : (ss : List Section) (rest : List Plain) → noting (plains_of text) ≡ (Ok ss, rest)
      → AreSections ss (map plain_at text)
  found ss rest e =
      let (t, w, is, out) = pick ss rest (whole reading (plains_of text)).0 (whole reading (plains_of text)).1 refl
      (sym e ∙ as_tree) in
      (t, w, words_are text ∙ is, out ∙ ap (λ (ls : List ℕ). written ls t) (sym (lines_are text)))

-- ---- the answer of the code

module _ (text : List PlainWord) (rest : List Plain) where
  place : length (plains_of text) - length rest ≡ length text - length rest
  place = omega (arith, length-map text plain_in)

  at_lines : (i : ℕ) → line (word_lines text) i ≡ line (lines (map plain_at text)) i
  at_lines i = ap (λ (ls : List ℕ). line ls i) (sym (lines_are text))

  pub told_word : (l : ℕ) → noting text (plains_of text) ≡ (Err Unexpected, rest) → 0 < length rest
      → l ≡ line (word_lines text) (length text - length rest) → IsRefused UnexpectedWord l (map plain_at text)
  told_word l e some at =
      let known = unexpected_word (plains_of text) rest (failed text Unexpected rest e) (omega (arith, some)) in
      let there : IsUnexpectedWord (plains_of text) (length text - length rest) =
      subst (λ (i : ℕ). IsUnexpectedWord (plains_of text) i) place known in (
        length text - length rest,
        subst (λ (ws : List Plain). IsUnexpectedWord ws (length text - length rest))
            (sym (words_are text)) there,
        at ∙ at_lines (length text - length rest),
      )

  pub told_limit : (l : ℕ) → noting text (plains_of text) ≡ (Err PastLimit, rest) → 1 < length rest
      → l ≡ line (word_lines text) (length text - length rest) → IsRefused Rule.PastLimit l (map plain_at text)
  told_limit l e some at =
      let known = past_limit (plains_of text) rest (failed text PastLimit rest e) (omega (arith, some)) in
      let there : IsPastLimit (plains_of text) (length text - length rest) =
      subst (λ (i : ℕ). IsPastLimit (plains_of text) i) place known in (
        length text - length rest,
        subst (λ (ws : List Plain). IsPastLimit ws (length text - length rest))
            (sym (words_are text)) there,
        at ∙ at_lines (length text - length rest),
      )

  told : (l : ℕ) → IsUnexpectedEnd (plains_of text) → l ≡ line (word_lines text) (length text - 1)
      → IsRefused UnexpectedEnd l (map plain_at text)
  told l end at =
      let len : length text - 1 ≡ length (map plain_at text) - 1 = omega (arith, length-map text plain_at) in (
        subst IsUnexpectedEnd (sym (words_are text)) end,
        at ∙ at_lines (length text - 1)
            ∙ ap (line (lines (map plain_at text))) len,
      )

  pub told_end : (l : ℕ) → noting text (plains_of text) ≡ (Err Unexpected, rest) → length rest ≡ 0
      → l ≡ line (word_lines text) (length text - 1) → IsRefused UnexpectedEnd l (map plain_at text)
  told_end l e none at =
      told l (unexpected_end (plains_of text) rest (failed text Unexpected rest e) (omega (arith, none))) at

  pub told_past_end : (l : ℕ) → noting text (plains_of text) ≡ (Err PastLimit, rest) → length rest ≤ 1
      → l ≡ line (word_lines text) (length text - 1) → IsRefused UnexpectedEnd l (map plain_at text)
  told_past_end l e le at =
      told l (past_end (plains_of text) rest (failed text PastLimit rest e) (omega (arith, le))) at
