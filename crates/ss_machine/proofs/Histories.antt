-- changes that are read from numbers
use Rattle.std.proofs.Common.{◌≡◌, ℕ, zero, suc, List, [], ◌∷◌, ◌++◌, length, refl, ap, sym, ◌∙◌, subst, arith}
use Rattle.ss_state.specs.Change.{Change}
use Rattle.ss_machine.specs.declared.history.tape.Owned.{Owned}
use Rattle.ss_machine.specs.declared.history.kinds.ChangeKind.{ChangeKind}
use Rattle.ss_machine.specs.History.Kinds.{kind_of}
use Rattle.ss_machine.specs.History.{behind, change_of, number_count, kept_count, changes_behind, changes_of, HasKept}
use Rattle.ss_machine.specs.History.{IsWritten, AreWritten, steps_of}
use Rattle.ss_journal.specs.Log.{newest}

-- after the numbers of a change come the changes before
pub skipped : (k : ℕ) (fields others : List ℕ) (os : List Owned) → length fields ≡ k →
    changes_behind k (fields ++ others) os ≡ changes_of others os
skipped k [] others os count = ap (λ (n : ℕ). changes_behind n others os) (sym count)
skipped zero (field ∷ fields) others os count = absurd (omega (arith, count))
skipped (suc k) (field ∷ fields) others os count = skipped k fields others os (omega (arith, count))

pub written_behind : (k : ℕ) (fields others : List ℕ) (os : List Owned) → length fields ≡ k →
    IsWritten 0 others os → IsWritten k (fields ++ others) os
written_behind k [] others os count written =
    subst (λ (n : ℕ). IsWritten n others os) count written
written_behind zero (field ∷ fields) others os count written = absurd (omega (arith, count))
written_behind (suc k) (field ∷ fields) others os count written =
    written_behind k fields others os (omega (arith, count)) written

-- the changes when one more was written
pub changes_written : (kind : ChangeKind) (number : ℕ) (fields others all : List ℕ) (os left : List Owned) →
    kind_of number ≡ kind → all ≡ number ∷ (fields ++ others) → length fields ≡ number_count kind →
    behind (kept_count kind) os ≡ left →
    changes_of all os ≡ change_of kind (fields ++ others) os ∷ changes_of others left
changes_written kind number fields others all os left tells is count kept =
    rw (is, tells)
    (ap (λ (cs : List Change). change_of kind (fields ++ others) os ∷ cs)
    (skipped (number_count kind) fields others (behind (kept_count kind) os) count ∙ ap (changes_of others) kept))

pub still_written : (kind : ChangeKind) (number : ℕ) (fields others all : List ℕ) (os left : List Owned) →
    kind_of number ≡ kind → all ≡ number ∷ (fields ++ others) → length fields ≡ number_count kind →
    behind (kept_count kind) os ≡ left → HasKept kind os →
    IsWritten 0 others left → IsWritten 0 all os
still_written kind number fields others all os left tells is count kept has written =
    rw (is, tells) (
      has,
      written_behind (number_count kind) fields others (behind (kept_count kind) os) count
          (subst (λ (l : List Owned). IsWritten 0 others l) (sym kept) written),
    )

-- the changes after the numbers of a change are those of the numbers after these
pub behind_nothing : {A : Type 0} (k : ℕ) → ◌≡◌ {A = List A} (behind k []) []
behind_nothing zero = refl
behind_nothing (suc k) = behind_nothing k

pub changes_behind-is : (k : ℕ) (ns : List ℕ) (os : List Owned) → changes_behind k ns os ≡ changes_of (behind k ns) os
changes_behind-is zero ns os = refl
changes_behind-is (suc k) [] os = ap (λ (l : List ℕ). changes_of l os) (sym (behind_nothing k))
changes_behind-is (suc k) (n ∷ ns) os = changes_behind-is k ns os

pub written_left : (k : ℕ) (ns : List ℕ) (os : List Owned) → IsWritten k ns os → IsWritten 0 (behind k ns) os
written_left zero ns os written = written
written_left (suc k) [] os written = subst (λ (l : List ℕ). IsWritten 0 l os) (sym (behind_nothing k)) written
written_left (suc k) (n ∷ ns) os written = written_left k ns os written

-- the changes when the newest is taken off
pub changes_read : (number : ℕ) (ns all ns' : List ℕ) (os os' : List Owned) (change : Change) → all ≡ number ∷ ns →
    change ≡ change_of (kind_of number) ns os → ns' ≡ behind (number_count (kind_of number)) ns →
    os' ≡ behind (kept_count (kind_of number)) os → changes_of all os ≡ change ∷ changes_of ns' os'
changes_read number ns all ns' os os' change is read numbers kept =
    rw (is, read, numbers, kept)
    (ap (λ (cs : List Change). change_of (kind_of number) ns os ∷ cs)
    (changes_behind-is (number_count (kind_of number)) ns (behind (kept_count (kind_of number)) os)))

pub has_kept : (number : ℕ) (ns all : List ℕ) (os : List Owned) → all ≡ number ∷ ns →
    IsWritten 0 all os → HasKept (kind_of number) os
has_kept number ns all os is written =
    let whole : IsWritten 0 (number ∷ ns) os = rw is at written in whole.0

pub written_read : (number : ℕ) (ns all ns' : List ℕ) (os os' : List Owned) → all ≡ number ∷ ns →
    ns' ≡ behind (number_count (kind_of number)) ns → os' ≡ behind (kept_count (kind_of number)) os →
    IsWritten 0 all os → IsWritten 0 ns' os'
written_read number ns all ns' os os' is numbers kept written =
    let whole : IsWritten 0 (number ∷ ns) os = rw is at written in
    rw (numbers, kept)
    (written_left (number_count (kind_of number)) ns (behind (kept_count (kind_of number)) os) whole.1)

-- ---- steps

-- a step without changes has no numbers, and nothing is kept of it
pub no_numbers : (ns : List ℕ) (os : List Owned) → changes_of ns os ≡ [] → ns ≡ []
no_numbers [] os none = refl
no_numbers (n ∷ ns) os none = absurd (omega (arith, ap length none))

pub none_kept : (ns : List ℕ) (os : List Owned) → changes_of ns os ≡ [] → IsWritten 0 ns os → os ≡ []
none_kept [] os none written = written
none_kept (n ∷ ns) os none written = absurd (omega (arith, ap length none))

-- there are as many steps as steps of numbers, and as many as steps of kept parts
pub length-steps : (steps : List (List ℕ)) (rest : List (List Owned)) →
    AreWritten steps rest → length (steps_of steps rest) ≡ length steps
length-steps [] [] written = refl
length-steps [] (kept ∷ rest) written = refl
length-steps (numbers ∷ steps) [] written = absurd written
length-steps (numbers ∷ steps) (kept ∷ rest) written = ap suc (length-steps steps rest written.1)

pub length-kept : (steps : List (List ℕ)) (rest : List (List Owned)) →
    AreWritten steps rest → length rest ≡ length steps
length-kept [] [] written = refl
length-kept [] (kept ∷ rest) written = absurd written
length-kept (numbers ∷ steps) [] written = absurd written
length-kept (numbers ∷ steps) (kept ∷ rest) written = ap suc (length-kept steps rest written.1)

-- the newest steps, from the newest of both
pub steps_of-newest : (n : ℕ) (steps : List (List ℕ)) (rest : List (List Owned)) →
    steps_of (newest n steps) (newest n rest) ≡ newest n (steps_of steps rest)
steps_of-newest zero steps rest = refl
steps_of-newest (suc n) [] rest = refl
steps_of-newest (suc n) (numbers ∷ steps) [] = refl
steps_of-newest (suc n) (numbers ∷ steps) (kept ∷ rest) =
    ap (λ (cs : List (List Change)). changes_of numbers kept ∷ cs) (steps_of-newest n steps rest)

pub newest_written : (n : ℕ) (steps : List (List ℕ)) (rest : List (List Owned)) →
    AreWritten steps rest → AreWritten (newest n steps) (newest n rest)
newest_written zero steps rest written = tt
newest_written (suc n) [] [] written = tt
newest_written (suc n) [] (kept ∷ rest) written = absurd written
newest_written (suc n) (numbers ∷ steps) [] written = absurd written
newest_written (suc n) (numbers ∷ steps) (kept ∷ rest) written = (written.0, newest_written n steps rest written.1)
