-- Rows of tables by their numbers and their names.
use Rattle.std.proofs.Common.{◌≡◌, ℕ, zero, suc, ◌<◌, Bool, true, false, cond, List, [], ◌∷◌, length, refl, arith}
use Rattle.std.proofs.Common.{nat_lt, unwrap_or, slice_get, slice_index_or, Option, Some, None, ◌++◌, ◌+◌, sym}
use Rattle.std.proofs.lemmas.List.{append-nil, append_assoc}
use Rattle.std.proofs.lemmas.List.FromFn.{length-map-range_with_len}
use Rattle.std.specs.Prelude.{position, bytes_eq}
use Rattle.std.specs.List.{position_or_len}
use Rattle.std.specs.Option.{option_and_then}
use borrow.Author.Tests.{ltb-true}
use Rattle.ss_program.specs.Names.{is_clock}
use Rattle.ss_program.specs.declared.find.Named.{Named}
use Rattle.ss_program.specs.NameMeaning.{numbers_of, is_any}
use Rattle.ss_program.specs.Program.{ProgramTable}
use Rattle.ss_store.specs.Tables.{Tables, set_shape, tables_of}
use Rattle.ss_store.proofs.Core.{some_eq}
use Rattle.ss_debug.specs.Entities.{class_named, set_named, lines_below}

-- a row that there is, read with any row in place of one that isn't
pub row_at : {A : Type 0} (xs : List A) (i : ℕ) (d e : A) → i < length xs →
    unwrap_or (slice_get xs i) d ≡ slice_index_or xs i e
row_at [] i d e h = absurd (omega arith)
row_at (x ∷ xs) zero d e h = refl
row_at (x ∷ xs) (suc i) d e h = row_at xs i d e (omega arith)

within : (k l i : ℕ) (b : Bool) → nat_lt k l ≡ b → cond b (Some k) None ≡ Some i → i < l
within k l i true h e = let same : k ≡ i = some_eq e in omega (arith, ltb-true _ _ h, same)
within k l i false h e = absurd (cc)

place_within : {A : Type 0} (test : A → Bool) (xs : List A) (i : ℕ) → position test xs ≡ Some i → i < length xs
place_within test xs i e =
    within (position_or_len test xs) (length xs) i (nat_lt (position_or_len test xs) (length xs)) refl e

number_of_named : (a b : Bool) (m : Named) (f : Named → Option ℕ) (i : ℕ) →
    option_and_then f (cond a None (cond b (Some m) None)) ≡ Some i → f m ≡ Some i
number_of_named true b m f i e = absurd (cc)
number_of_named false true m f i e = e
number_of_named false false m f i e = absurd (cc)

-- the class of a name is one of the table
pub class_within : (p : ProgramTable) (name : List ℕ) (c : ℕ) → class_named p name ≡ Some c → c < length p.classes
class_within p name c e =
    place_within (λ c. bytes_eq name c.name) p.classes c
    (number_of_named (is_clock name) (is_any (numbers_of p name)) (numbers_of p name) (λ n. n.class) c e)

-- the set of a name is one of the table
pub set_within : (p : ProgramTable) (name : List ℕ) (s : ℕ) → set_named p name ≡ Some s → s < length p.sets
set_within p name s e =
    place_within (λ s. bytes_eq name s.name) p.sets s
    (number_of_named (is_clock name) (is_any (numbers_of p name)) (numbers_of p name) (λ n. n.set) s e)

-- the store has each set of the program
pub sets_kept : (p : ProgramTable) (t : Tables) (s : ℕ) → t ≡ tables_of p → s < length p.sets → s < length t.sets
sets_kept p t s e h =
    let count : length t.sets ≡ length p.sets =
    rw e (length-map-range_with_len (set_shape p) 0 (length p.sets)) in
    omega (arith, count, h)

-- ---- lines

pub nothing_more : (text : List ℕ) → text ≡ text ++ []
nothing_more text = sym (append-nil text)

-- one line more
pub line_more : (line : ℕ → List ℕ) (n m : ℕ) (old text new : List ℕ) → m ≡ n + 1 →
    text ≡ old ++ lines_below line n → new ≡ text ++ line n → new ≡ old ++ lines_below line m
line_more line n m old text new e h k =
    let next : m ≡ suc n = omega (arith, e) in rw (next, k, h) (append_assoc old _ _)
