-- A whole list, counted and taken.
use Rattle.std.proofs.Common.{◌≡◌, ℕ, List, length, Option, Some, None, refl, ap, sym, subst, ◌∙◌}
use Rattle.std.specs.Prelude.{take, drop, Bool, true, false, Result, Ok, Err, if◌then◌else◌}
use Rattle.std.proofs.Math.Seq.{take-length}
use Rattle.ss_words.specs.declared.fault.RunFault.{RunFault}
use Rattle.ss_words.specs.declared.fault.RunFault.TheVariants.{NoEntity}
use Rattle.ss_store.specs.declared.shape.SetShape.{SetShape}
use Rattle.ss_store.specs.Store.{Store, members_of, unless, is_owner}
use Rattle.ss_store.specs.Filing.{count}
use Rattle.ss_reads.specs.Values.{members_seen}

-- as many as there are
pub whole_page : (xs : List ℕ) (n : ℕ) → n ≡ length xs → take n (drop 0 xs) ≡ xs
whole_page xs n e = ap (λ (m : ℕ). take m xs) e ∙ take-length xs

some_by : (b : Bool) (ks : List ℕ) (n : ℕ) → Ok n ≡ unless NoEntity b (Ok (length ks)) →
    (n ≡ length ks) × ((if b then Some ks else None) ≡ Some ks)
some_by true ks n h = (cc, refl)
some_by false ks n h = cc

none_by : (b : Bool) (ks : List ℕ) (f : RunFault) → Err f ≡ unless NoEntity b (Ok (length ks)) →
    (if b then Some ks else None) ≡ None
none_by true ks f h = cc
none_by false ks f h = refl

-- the number of members that were counted
pub counted_number : (shape : SetShape) (store : Store) (k n : ℕ) → Ok n ≡ count shape store k →
    n ≡ length (members_of shape store k)
counted_number shape store k n h = (some_by (is_owner shape store k) (members_of shape store k) n h).0

-- a list that was counted is there
pub counted_there : (shape : SetShape) (store : Store) (k n : ℕ) → Ok n ≡ count shape store k →
    members_seen shape store k ≡ Some (members_of shape store k)
counted_there shape store k n h = (some_by (is_owner shape store k) (members_of shape store k) n h).1

-- one that could not be counted is not
pub uncounted : (shape : SetShape) (store : Store) (k : ℕ) (f : RunFault) → Err f ≡ count shape store k →
    members_seen shape store k ≡ None
uncounted shape store k f h = none_by (is_owner shape store k) (members_of shape store k) f h

-- of lists
pub ruleset counted = (counted_number, counted_there, uncounted)
