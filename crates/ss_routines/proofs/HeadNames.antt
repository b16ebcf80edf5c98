-- A program's head has at most one name more than it has parameters, even if its words are cut off.
use Rattle.std.proofs.Common.{◌≡◌, ◌⊎◌, ℕ, suc, ◌+◌, ◌≤◌, Bool, true, false, List, [], ◌∷◌, ◌++◌, length}
use Rattle.std.proofs.Common.{Some, refl, sym, ap, ◌∙◌, append_assoc, arith}
use mathlib.Core.Logic.{inl, inr}
use Rattle.std.specs.List.{flat_map}
use Rattle.std.proofs.lemmas.List.{append-nil}
use Rattle.ss_words.specs.declared.mark.Mark.TheVariants as m
use Rattle.ss_words.specs.declared.word.Sign.TheVariants as s
use Rattle.ss_words.specs.declared.reserved.Reserved.TheVariants as r
use Rattle.ss_words.specs.Plain.{Plain, name, number, mark, picture, first}
use Rattle.ss_words.specs.Lists.{Name, Several, all_of}
use Rattle.ss_routines.specs.Simple.{Listing, Unwritten, BehindGiven, InParentheses}
use Rattle.ss_routines.specs.Tree.{Block, no_statements, statement, Head, MainHead, RoutineHead, EventHead, SectionTree}
use Rattle.ss_routines.specs.Tree.{Tree, listing_names, parameters_head, parameters, spell_head, spell_define}
use Rattle.ss_routines.specs.Tree.{spell_saving}
use Rattle.ss_routines.specs.Tree.{spell_block, spell_statement, spell_section, spell}
use Rattle.ss_routines.specs.Counts.{count, closes}
use Rattle.ss_routines.specs.OneTooMany.{ends, behind_end, asks, names_in_head}
use Rattle.ss_routines.proofs.Tally.{count-append}
use Rattle.ss_routines.proofs.Form.{Each}
use Rattle.ss_routines.proofs.PartingWords.{parts, statement_parts}
use Rattle.ss_routines.proofs.HeadLaw.{spell_more, spell_list, spell_given, spell_yielded}
use Rattle.ss_routines.proofs.SectionCounts.{Spelled, behind_section, all_open}

abbrev end : Plain
end = mark (m.Reserved r.End)

-- ---- a head

more_names : (ns : List Name) (z : List Plain) → names_in_head false (spell_more ns ++ z)
    ≡ length ns + names_in_head false z
more_names [] z = omega arith
more_names (n ∷ ns) z = let h = more_names ns z in omega (arith, h)

list_names : (ns : Several Name) (z : List Plain)
    → names_in_head true (spell_list ns ++ z) ≡ length (all_of ns) + names_in_head false z
list_names ns z = let h = more_names ns.others z in omega (arith, h)

given_names : (ps : Listing Name) (z : List Plain)
    → names_in_head false (spell_given ps ++ z) ≡ length (listing_names ps) + names_in_head false z
given_names Unwritten z = omega arith
given_names (BehindGiven ns) z = list_names ns z
given_names (InParentheses ns) z =
    ap (names_in_head true) (append_assoc (spell_list ns) (mark (m.Sign s.Close) ∷ []) z)
    ∙ list_names ns (mark (m.Sign s.Close) ∷ z)

yielded_names : (ys : List Name) (z : List Plain)
    → names_in_head false (spell_yielded ys ++ z) ≡ length ys + names_in_head false z
yielded_names [] z = omega arith
yielded_names (y ∷ ys) z = list_names (record { first = y; others = ys }) z

saving_names : (b : Bool) (z : List Plain) → names_in_head false z ≡ 0 → names_in_head false (spell_saving b ++ z) ≡ 0
saving_names true z e = refl
saving_names false z e = e

head_names : (h : Head) (z : List Plain) → names_in_head false z ≡ 0
    → names_in_head false (spell_head h ++ z) ≤ suc (parameters_head h)
head_names MainHead z e = omega arith
head_names (RoutineHead n ps ys) z e =
    let w = spell_yielded ys ++ z in
    let regroup : names_in_head false ((spell_given ps ++ spell_yielded ys) ++ z)
    ≡ names_in_head false (spell_given ps ++ w) =
    ap (names_in_head false) (append_assoc (spell_given ps) (spell_yielded ys) z) in
    omega (arith, e, regroup, given_names ps w, yielded_names ys z)
head_names (EventHead n ps b) z e =
    let w = spell_saving b ++ z in
    let regroup : names_in_head false ((spell_given ps ++ spell_saving b) ++ z)
    ≡ names_in_head false (spell_given ps ++ w) =
    ap (names_in_head false) (append_assoc (spell_given ps) (spell_saving b) z) in
    omega (arith, regroup, given_names ps w, saving_names b z e)

-- ---- a section

-- no head goes on with such a word
parts_calm : (w : Plain) → parts (Some w) ≡ true → (asks w ≡ false) × (closes w ≡ false)
parts_calm (mark (m.Reserved r.Routine)) e = absurd cc
parts_calm (mark (m.Reserved r.Event)) e = absurd cc
parts_calm (mark (m.Reserved r.Given)) e = absurd cc
parts_calm (mark (m.Reserved r.Yielding)) e = absurd cc
parts_calm (mark (m.Sign s.Comma)) e = absurd cc
parts_calm (mark (m.Sign s.Open)) e = absurd cc
parts_calm (mark (m.Sign s.Close)) e = absurd cc
parts_calm _ e = (refl, refl)

parts_names : (z : List Plain) → parts (first z) ≡ true → names_in_head false z ≡ 0
parts_names [] e = refl
parts_names (w ∷ z) e = let h = parts_calm w e in rw (h.0, h.1) refl

block_names : (b : Block) → names_in_head false (spell_block b ++ end ∷ []) ≡ 0
block_names no_statements = refl
block_names (statement t b) =
    ap (names_in_head false) (append_assoc (spell_statement t) (spell_block b) (end ∷ []))
    ∙ parts_names (spell_statement t ++ (spell_block b ++ end ∷ [])) (statement_parts t (spell_block b ++ end ∷ []))

body_names : (ls : List (Several Name)) (b : Block)
    → names_in_head false (flat_map spell_define ls ++ (spell_block b ++ end ∷ [])) ≡ 0
body_names [] b = block_names b
body_names (ns ∷ ls) b = refl

section_names : (t : SectionTree) → names_in_head false (spell_section t) ≤ suc (parameters_head t.head)
section_names t =
    let z = flat_map spell_define t.locals ++ (spell_block t.block ++ end ∷ []) in
    let regroup : spell_section t ≡ spell_head t.head ++ z = simp append_assoc in
    omega (arith, ap (names_in_head false) regroup, head_names t.head z (body_names t.locals t.block))

-- ---- words cut off

fewer_ask : (w : Plain) (p y : List Plain) (a c : Bool) → asks w ≡ a → closes w ≡ c
    → names_in_head true p ≤ names_in_head true (p ++ y) → names_in_head false p ≤ names_in_head false (p ++ y)
    → names_in_head false (w ∷ p) ≤ names_in_head false (w ∷ (p ++ y))
fewer_ask w p y true c e f h k = rw e h
fewer_ask w p y false true e f h k = rw (e, f) k
fewer_ask w p y false false e f h k = rw (e, f) (omega arith)

fewer : (due : Bool) (p y : List Plain) → names_in_head due p ≤ names_in_head due (p ++ y)
fewer due [] y = omega arith
fewer true (name n ∷ p) y = let h = fewer false p y in omega (arith, h)
fewer true (number n ∷ p) y = omega arith
fewer true (mark n ∷ p) y = omega arith
fewer true (picture n ∷ p) y = omega arith
fewer false (w ∷ p) y = fewer_ask w p y (asks w) (closes w) refl refl (fewer true p y) (fewer false p y)

-- the words p begin a, or they go on after it
split : (a b p x : List Plain) → a ++ b ≡ p ++ x
    → ((y : List Plain) × (a ≡ p ++ y)) ⊎ ((z : List Plain) × (p ≡ a ++ z) × (b ≡ z ++ x))
split [] b p x e = inr (p, refl, e)
split (v ∷ a) b [] x e = inl (v ∷ a, refl)
split (v ∷ a) b (w ∷ p) x e =
    let same : v ≡ w = cc in
    let rest : a ++ b ≡ p ++ x = cc in
    elim (split a b p x rest) [
      | inl h ↦ inl (h.0, λ i. same i ∷ h.1 i)
      | inr h ↦ inr (h.0, (λ i. sym same i ∷ h.1 i), h.2)
    ]

-- within the words of a section
cut_names : (t : SectionTree) (q p y : List Plain) → spell_section t ≡ q ++ end ∷ [] → count ends q ≡ 0 → q ≡ p ++ y
    → names_in_head false (behind_end p) ≤ suc (parameters_head t.head)
cut_names t q p y sp none e =
    let going : count ends p ≡ 0 = omega (arith, none, ap (count ends) e, count-append ends p y) in
    omega (
      arith,
      ap (names_in_head false) (all_open p going),
      fewer false p y,
      ap (names_in_head false) e,
      fewer false q (end ∷ []),
      ap (names_in_head false) sp,
      section_names t,
    )

pub names_kept : (ts : Tree) → Each Spelled ts → (k : ℕ) → parameters ts ≤ k → (p x : List Plain) → spell ts ≡ p ++ x
    → names_in_head false (behind_end p) ≤ suc k
names_kept [] h k le [] x e = omega arith
names_kept [] h k le (w ∷ p) x e = absurd cc
names_kept (t ∷ ts) ((q, sp, even), h) k le p x e =
    let whole : q ++ end ∷ spell ts ≡ p ++ x =
    sym (append_assoc q (end ∷ []) (spell ts)) ∙ ap (λ (u : List Plain). u ++ spell ts) (sym sp) ∙ e in
    let none = even.no_end in
    elim (split q (end ∷ spell ts) p x whole) [
      | inl g ↦ (let c = cut_names t q p g.0 sp none g.1 in omega (arith, c, le))
      | inr g ↦ behind g.0 g.1 g.2 (λ z f. names_kept ts h k (omega (arith, le)) z x f)
    ]
  where
    behind : (z : List Plain) → p ≡ q ++ z → end ∷ spell ts ≡ z ++ x
        → ((z : List Plain) → spell ts ≡ z ++ x → names_in_head false (behind_end z) ≤ suc k)
        → names_in_head false (behind_end p) ≤ suc k
    behind [] f g rest =
        let none = even.no_end in
        let c = cut_names t q p [] sp none (sym (append-nil q) ∙ sym f ∙ sym (append-nil p)) in omega (arith, c, le)
    behind (v ∷ z) f g rest =
        let same : end ≡ v = cc in
        let more : spell ts ≡ z ++ x = cc in
        let is : p ≡ q ++ end ∷ z = f ∙ ap (λ (u : Plain). q ++ u ∷ z) (sym same) in
        let c = rest z more in
        omega (
          arith,
          c,
          ap (λ (u : List Plain). names_in_head false (behind_end u)) is,
          ap (names_in_head false) (behind_section q z),
        )
