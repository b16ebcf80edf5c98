-- The facts that the readings of lists of names keep.
use Rattle.std.proofs.Common.{◌≡◌, ℕ, zero, suc, ◌<◌, true, false, List, [], ◌∷◌, ◌++◌, length, Option, Some, None, Ok}
use Rattle.std.proofs.Common.{refl, ◌∙◌, arith}
use Rattle.ss_words.specs.declared.mark.Mark.{Mark}
use Rattle.ss_words.specs.declared.mark.Mark.TheVariants as m
use Rattle.ss_words.specs.declared.word.Sign.TheVariants as s
use Rattle.ss_words.specs.Plain.{Plain, name, mark, first}
use Rattle.ss_words.specs.Reading.{pure, many_from, many}
use Rattle.ss_words.specs.Marks.{is, eat, a_name}
use Rattle.ss_words.specs.Lists.{Name, Several, spell_others, spell_names, spell_names_behind, next_name, other_names}
use Rattle.ss_words.specs.Lists.{names, names_behind}
use Rattle.ss_words.proofs.Laws.{Good, Any, fits_option, pure_good, bind_good, many_read, spell_option}
use Rattle.ss_words.proofs.Local.{Rooms, Local, pure_local, bind_local, many_local}
use Rattle.ss_words.proofs.Marks.{spell_eaten, spell_name, eat_good, name_good, eat_local, name_local, eat_read_back}
use Rattle.ss_words.proofs.Marks.{not_eaten, name_read_back}
use Rattle.ss_words.proofs.ReadBack.{then, many_ends, many_goes}

abbrev pub spell_next_name : Name → List Plain
spell_next_name n = mark (m.Sign s.Comma) ∷ name n ∷ []

-- names after the first
abbrev pub spell_other_names : List Name → List Plain
spell_other_names ns = spell_others (λ n. name n ∷ []) ns

abbrev no_name : Name
no_name = []

-- ---- names that are read are spelled so

pub next_name-good : Good (fits_option Any) (spell_option spell_next_name) [] next_name
unfolding next_name
next_name-good =
    bind_good Any (fits_option Any) (spell_eaten (m.Sign s.Comma)) (spell_option spell_next_name) [] _ (elim [
      | true ↦ (λ u. bind_good Any (fits_option Any) spell_name (spell_option spell_next_name)
          (mark (m.Sign s.Comma) ∷ []) _ (λ n v. pure_good _ _ _ (Some n) tt refl) a_name name_good)
      | false ↦ (λ u. pure_good _ _ _ None tt refl)
    ]) (eat (m.Sign s.Comma)) (eat_good (m.Sign s.Comma))

pub other_names-good : Good Any spell_other_names [] other_names
unfolding other_names
other_names-good =
    many_read Any Any spell_next_name spell_other_names next_name [] (λ n ns. n ∷ ns) next_name-good tt (λ n ns u v. tt)
    refl (λ n ns. refl)

pub names-good : Good Any spell_names [] names
unfolding names
names-good =
    bind_good Any Any spell_name spell_names [] _
    (λ n u. bind_good Any Any spell_other_names spell_names (spell_name n) _
    (λ ns v. pure_good Any spell_names _ (record { first = n; others = ns }) tt refl) other_names other_names-good)
    a_name name_good

pub names_behind-good : (k : Mark) → Good Any (spell_names_behind k) [] (names_behind k)
unfolding names_behind
names_behind-good k = bind_good Any Any (spell_eaten k) (spell_names_behind k) [] _ (elim [
  | true ↦ (λ u. bind_good Any Any spell_names (spell_names_behind k) (mark k ∷ []) _
      (λ ns v. pure_good Any (spell_names_behind k) _ (Some ns) tt refl) names names-good)
  | false ↦ (λ u. pure_good Any (spell_names_behind k) _ None tt refl)
]) (eat k) (eat_good k)

-- ---- no further than the word at which it stops

module _ (rooms : Rooms) where
  pub next_name-local : Local rooms next_name next_name
  unfolding next_name
  next_name-local =
      bind_local rooms _ _ (elim [
        | true ↦ bind_local rooms _ _ (λ n. pure_local rooms (Some n)) a_name a_name
            (name_local rooms)
        | false ↦ pure_local rooms None
      ]) (eat (m.Sign s.Comma)) (eat (m.Sign s.Comma))
      (eat_local rooms (m.Sign s.Comma))

  pub other_names-local : Local rooms other_names other_names
  unfolding other_names
  other_names-local =
      many_local rooms (fits_option Any) spell_next_name next_name next_name [] (λ n ns. n ∷ ns) next_name-good
      next_name-local (λ n. omega arith)

  pub names-local : Local rooms names names
  unfolding names
  names-local =
      bind_local rooms _ _ (λ n. bind_local rooms _ _ (λ ns. pure_local rooms (record { first = n; others = ns }))
      other_names other_names other_names-local) a_name a_name (name_local rooms)

  pub names_behind-local : (k : Mark) → Local rooms (names_behind k) (names_behind k)
  unfolding names_behind
  names_behind-local k =
      bind_local rooms _ _ (elim [
        | true ↦ bind_local rooms _ _ (λ ns. pure_local rooms (Some ns)) names names
            names-local
        | false ↦ pure_local rooms None
      ]) (eat k) (eat k) (eat_local rooms k)

-- ---- names that are spelled are read again, if no comma follows them

abbrev pub no_comma : List Plain → Type 0
no_comma y = is (m.Sign s.Comma) (first y) ≡ false

other_read_back : (ns : List Name) (y : List Plain) (k : ℕ) → no_comma y → length (spell_other_names ns ++ y) < k
    → many_from next_name [] (λ n ns. n ∷ ns) k (spell_other_names ns ++ y) ≡ (Ok ns, y)
unfolding next_name pure
other_read_back [] y zero none lt = absurd (omega arith)
other_read_back [] y (suc k) none lt =
    many_ends next_name [] (λ n ns. n ∷ ns) k y y
    (then (eat (m.Sign s.Comma)) _ false y y (not_eaten (m.Sign s.Comma) y none))
other_read_back (n ∷ ns) y zero none lt = absurd (omega arith)
other_read_back (n ∷ ns) y (suc k) none lt =
    let z = spell_other_names ns ++ y in
    many_goes next_name [] (λ n ns. n ∷ ns) k n ns (mark (m.Sign s.Comma) ∷ name n ∷ z) z y
    (then (eat (m.Sign s.Comma)) _ true (mark (m.Sign s.Comma) ∷ name n ∷ z) (name n ∷ z)
    (eat_read_back (m.Sign s.Comma) _) ∙ then a_name _ n (name n ∷ z) z (name_read_back n z))
    (other_read_back ns y k none (omega arith))

pub other_names-read_back : (ns : List Name) (y : List Plain) → no_comma y
    → other_names (spell_other_names ns ++ y) ≡ (Ok ns, y)
unfolding other_names many
other_names-read_back ns y none = other_read_back ns y (suc (length (spell_other_names ns ++ y))) none (omega arith)

pub names-read_back : (ns : Several Name) (y : List Plain) → no_comma y → names (spell_names ns ++ y) ≡ (Ok ns, y)
unfolding names pure
names-read_back ns y none =
    let z = spell_other_names ns.others ++ y in
    then a_name _ ns.first (name ns.first ∷ z) z (name_read_back ns.first z)
    ∙ then other_names _ ns.others z y (other_names-read_back ns.others y none)

pub names_behind-read_back : (k : Mark) (ns : Option (Several Name)) (y : List Plain) → no_comma y
    → is k (first y) ≡ false → names_behind k (spell_names_behind k ns ++ y) ≡ (Ok ns, y)
unfolding names_behind pure
names_behind-read_back k None y none other = then (eat k) _ false y y (not_eaten k y other)
names_behind-read_back k (Some ns) y none other =
    let z = spell_names ns ++ y in
    then (eat k) _ true (mark k ∷ z) z (eat_read_back k z) ∙ then names _ ns z y (names-read_back ns y none)
