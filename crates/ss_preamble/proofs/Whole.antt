-- The answer to the head of a text, by the laws of the reading.
use Rattle.std.proofs.Common.{◌≡◌, ℕ, ◌+◌, ◌-◌, Bool, true, false, List, [], ◌∷◌, ◌++◌, length, Option, Some, None}
use Rattle.std.proofs.Common.{Result, Ok, Err, refl, sym, ap, subst, ◌∙◌, arith}
use Rattle.std.specs.Prelude.{map}
use Rattle.std.proofs.lemmas.List.{append-nil}
use Rattle.ss_words.specs.declared.refusal.Refusal.{Refusal}
use Rattle.ss_words.specs.declared.refusal.Refusal.TheVariants.{Unexpected, PastLimit}
use Rattle.ss_words.specs.declared.mark.Mark.TheVariants as m
use Rattle.ss_words.specs.declared.reserved.Reserved.TheVariants as r
use Rattle.ss_words.specs.declared.plain_word.PlainWord.{PlainWord}
use Rattle.ss_words.specs.Plain.{Plain, first, plains, plain_at, plain_in, plains_of, word_lines}
use Rattle.ss_words.specs.Reading.{Read, Reading, goes_on, bind, pure, whole}
use Rattle.ss_words.specs.Marks.{expect}
use Rattle.ss_words.specs.Noting.{line}
use Rattle.ss_words.specs.Farthest.{IsFarthest}
use Rattle.ss_words.proofs.Laws.{IsRead, Good, Any, fits_option, pure_good, bind_good}
use Rattle.ss_words.proofs.Local.{more, Local, Stops, pure_local, bind_local}
use Rattle.ss_words.proofs.Loop.{on_ok}
use Rattle.ss_words.proofs.Marks.{spell_mark, expect_good}
use Rattle.ss_words.proofs.ReadBack.{then}
use Rattle.ss_words.proofs.Writes.{Writes, pure_writes, here_writes, bind_writes, same_writes, noted, many_writes}
use Rattle.ss_words.proofs.Goal as goal
use Rattle.ss_preamble.specs.Tree.{Item, Preamble, ItemAt, Decls}
use Rattle.ss_preamble.specs.Spelling.{spell, spell_item, spell_items}
use Rattle.ss_preamble.specs.ItemReading.{next_item, items_with, preamble_with}
use Rattle.ss_preamble.specs.ItemsAtLines.{next_item_at, items_at, preamble_at}
use Rattle.ss_preamble.specs.Written.{written_items, written}
use Rattle.ss_preamble.specs.Refused.{Text, spell_text, lines}
use Rattle.ss_preamble.proofs.ReadIsSpelled.{next_item-good, items-good, preamble-good}
use Rattle.ss_preamble.proofs.ReadingIsLocal.{preamble-local}
use Rattle.ss_preamble.proofs.ReadBackItems.{preamble-read_back}

-- ---- a preamble and all words after it

-- reads all that is left
unfoldable rest_of_text : Reading (List Plain)
rest_of_text = λ ws. (Ok ws, [])

-- reads a preamble and all words after it
unfoldable text_with : Reading Text
text_with = bind preamble_with (λ p. bind rest_of_text (λ z. pure (record { preamble = p; behind = z })))

-- the spelling of words
abbrev itself : List Plain → List Plain
itself z = z

rest_good : Good Any itself [] rest_of_text
unfolding rest_of_text
rest_good = record { read = λ ws. (tt, ws, sym (append-nil ws), refl); some = ([], tt, [], refl) }

text_good : Good Any spell_text [] text_with
unfolding text_with
text_good =
    bind_good Any Any spell spell_text [] _
    (λ p u. bind_good Any Any itself spell_text (spell p) _
    (λ z v. pure_good Any spell_text _ (record { preamble = p; behind = z }) tt refl) rest_of_text rest_good)
    preamble_with preamble-good

nothing : (x : List Plain) → first x ≡ None → x ≡ []
nothing [] h = refl
nothing (v ∷ x) h = absurd cc

rest_local : Local more rest_of_text rest_of_text
unfolding rest_of_text
rest_local = record { at = λ ws. (ws, sym (append-nil ws), omega arith, λ r' e. at_end ws r' (nothing r' e)) }
  where
    at_end : (ws r' : List Plain) → r' ≡ [] → (let x : Read (List Plain) = (Ok (ws ++ r'), []) in x) ≡ (Ok ws, r')
    at_end ws r' e = rw (e, append-nil ws) refl

text_local : Local more text_with text_with
unfolding text_with
text_local =
    bind_local more _ _ (λ p. bind_local more _ _ (λ z. pure_local more (record { preamble = p; behind = z }))
    rest_of_text rest_of_text rest_local) preamble_with preamble_with (preamble-local more)

text_read_back : (t : Text) → text_with (spell_text t) ≡ (Ok t, [])
unfolding text_with rest_of_text pure
text_read_back t =
    then preamble_with _ t.preamble (spell_text t) t.behind (preamble-read_back t.preamble t.behind)
    ∙ then rest_of_text _ t.behind t.behind [] refl

-- a refusal that stops the preamble stops the text
stops_text : (g : Refusal) (ws rest : List Plain) → preamble_with ws ≡ (Err g, rest)
    → whole text_with ws ≡ (Err g, rest)
unfolding whole text_with bind
stops_text g ws rest e = rw e refl

pub farthest : (ws rest : List Plain) → preamble_with ws ≡ (Err Unexpected, rest)
    → IsFarthest spell_text ws (length ws - length rest)
farthest ws rest e =
    goal.farthest spell_text Any text_with text_good (λ t. (text_with, text_local, text_read_back t)) ws rest
    (stops_text Unexpected ws rest e)

-- the words that are left are the text's end
pub left : (ws rest : List Plain) (g : Refusal) → preamble_with ws ≡ (Err g, rest) → (q : List Plain) × (ws ≡ q ++ rest)
left ws rest g e =
    let x : IsRead Any spell [] (let o : Result Preamble Refusal = Err g in o) ws rest =
    subst (λ (y : Read Preamble). IsRead Any spell [] y.0 ws y.1) e (preamble-good.read ws) in (x.0, x.1)

-- no word is refused as past a limit
pub unlimited : (ws rest : List Plain) → preamble_with ws ≡ (Err PastLimit, rest) → ⊥
unlimited ws rest e =
    let (q, k, le, g) =
    subst (λ (y : Read Preamble). Stops more preamble_with y.0 ws y.1) e ((preamble-local more).at ws) in
    let same : length (preamble_with ws).1 ≡ length rest = ap (λ (y : Read Preamble). length y.1) e in
    let less = g.0 in
    omega (arith, less, same)

-- the part that is read is spelled so
pub spelled : (ws rest : List Plain) (is : Preamble) → preamble_with ws ≡ (Ok is, rest) → ws ≡ spell is ++ rest
spelled ws rest is e =
    let (u, q, k, s) = subst (λ (y : Read Preamble). IsRead Any spell [] y.0 ws y.1) e (preamble-good.read ws) in
    k ∙ ap (λ (v : List Plain). v ++ rest) (sym s)

-- ---- the reading that notes lines

module _ (ls : List ℕ) where
  -- how many words there are
  abbrev words : ℕ
  words = length ls

  -- an item with its line, as a list
  abbrev at_line : ℕ → Item → List ItemAt
  at_line k i = record { line = line ls k; item = i } ∷ []

  -- puts an item that was read after the others
  abbrev noting_next : List ItemAt → ℕ → Option Item → Reading (Bool × List ItemAt)
  noting_next acc l o =
      elim o [ Some i ↦ pure (true, acc ++ (record { line = l; item = i }) ∷ []) | None ↦ pure (false, acc) ]

  noted_next : (k : ℕ) (acc : List ItemAt)
      → Writes words (noted (at_line k) acc) k next_item (bind next_item (noting_next acc (line ls k)))
  unfolding bind pure
  noted_next k acc = record { at = λ ws e. put (next_item ws).0 (next_item ws).1 }
    where
      put : (o : Result (Option Item) Refusal) (rest : List Plain)
          → goes_on (noting_next acc (line ls k)) o rest ≡ (on_ok (noted (at_line k) acc) o, rest)
      put (Ok (Some i)) rest = refl
      put (Ok None) rest = refl
      put (Err g) rest = refl

  next_writes : (k : ℕ) (acc : List ItemAt) → Writes words (noted (at_line k) acc) k next_item (next_item_at ls acc)
  unfolding next_item_at
  next_writes k acc =
      here_writes words (noted (at_line k) acc) k ls next_item (λ l. bind next_item (noting_next acc l)) refl
      (noted_next k acc)

  items_writes : (k : ℕ) (acc : List ItemAt)
      → Writes words (λ is. acc ++ written_items ls k is) k items_with (items_at ls acc)
  unfolding items_with items_at
  items_writes k acc =
      many_writes words (fits_option Any) spell_item next_item [] (λ i is. i ∷ is) (next_item_at ls) at_line
      (written_items ls) next_item-good (λ k. refl) (λ k i is. refl) next_writes k acc

  preamble_writes : Writes words (written ls) 0 preamble_with (preamble_at ls)
  unfolding preamble_with preamble_at
  preamble_writes = same_writes words Any (spell_mark (m.Reserved r.Preamble)) (written ls) 0 _ _ (λ u.
      bind_writes words Any spell_items (λ is. [] ++ written_items ls 1 is) (written ls) 1 _ _ (λ is.
      let j = 1 + length (spell_items is) in
      here_writes words _ j ls _ _ refl
      (same_writes words Any (spell_mark (m.Reserved r.End)) _ j _ _ (λ v. pure_writes words _ _ is _ refl)
      (expect (m.Reserved r.End)) (expect_good (m.Reserved r.End))))
      items_with _ items-good (items_writes 1 [])) (expect (m.Reserved r.Preamble))
      (expect_good (m.Reserved r.Preamble))

module _ (ls : List ℕ) (ws : List Plain) (len : length ws ≡ length ls) where
  as_items : preamble_at ls ws ≡ (on_ok (written ls) (preamble_with ws).0, (preamble_with ws).1)
  as_items = (preamble_writes ls).at ws (omega (arith, len))

  -- words refused by the one reading are refused so by the other
  abbrev Same : Refusal → List Plain → Result Preamble Refusal → List Plain → Type 0
  Same g rest o rest' =
      (let x : Read Decls = (Err g, rest) in x) ≡ (on_ok (written ls) o, rest')
      → (let y : Read Preamble = (o, rest') in y) ≡ (Err g, rest)

  same : (g : Refusal) (rest : List Plain) (o : Result Preamble Refusal) (rest' : List Plain) → Same g rest o rest'
  same g rest (Ok t) rest' e =
      let h : (let o : Result Decls Refusal = Err g in o) ≡ Ok (written ls t) = ap (λ (x : Read Decls). x.0) e in
      absurd cc
  same g rest (Err f) rest' e =
      let h : (let o : Result Decls Refusal = Err g in o) ≡ Err f = ap (λ (x : Read Decls). x.0) e in
      let same_end : rest ≡ rest' = ap (λ (x : Read Decls). x.1) e in
      let same_refusal : g ≡ f = cc in
      λ i. (Err (sym same_refusal i), sym same_end i)

  pub failed : (g : Refusal) (rest : List Plain) → preamble_at ls ws ≡ (Err g, rest) → preamble_with ws ≡ (Err g, rest)
  failed g rest e = same g rest (preamble_with ws).0 (preamble_with ws).1 (sym e ∙ as_items)

  pick : (d : Decls) (rest : List Plain) (o : Result Preamble Refusal) (rest' : List Plain)
      → preamble_with ws ≡ (o, rest') → (let x : Read Decls = (Ok d, rest) in x) ≡ (on_ok (written ls) o, rest')
      → (is : Preamble) × (ws ≡ spell is ++ rest) × (d ≡ written ls is)
  pick d rest (Ok is) rest' e h =
      let g : (let o : Result Decls Refusal = Ok d in o) ≡ Ok (written ls is) = ap (λ (x : Read Decls). x.0) h in
      let same_end : rest ≡ rest' = ap (λ (x : Read Decls). x.1) h in
      (is, spelled ws rest' is e ∙ ap (λ (u : List Plain). spell is ++ u) (sym same_end), cc)
  pick d rest (Err b) rest' e h =
      let g : (let o : Result Decls Refusal = Ok d in o) ≡ Err b = ap (λ (x : Read Decls). x.0) h in absurd cc

  pub found : (d : Decls) (rest : List Plain) → preamble_at ls ws ≡ (Ok d, rest) → (is : Preamble)
      × (ws ≡ spell is ++ rest) × (d ≡ written ls is)
  found d rest e = pick d rest (preamble_with ws).0 (preamble_with ws).1 refl (sym e ∙ as_items)

-- ---- plain words of the code

pub words_are : (text : List PlainWord) → plains (map plain_at text) ≡ plains_of text
words_are [] = refl
words_are (w ∷ text) = ap (λ (u : List Plain). plain_in w ∷ u) (words_are text)

pub lines_are : (text : List PlainWord) → lines (map plain_at text) ≡ word_lines text
lines_are [] = refl
lines_are (w ∷ text) = ap (λ (u : List ℕ). w.word.now.line ∷ u) (lines_are text)
