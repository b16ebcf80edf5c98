-- The entities of a class made one after another.
use Rattle.std.proofs.lemmas.Bool.Decides.{nat_tests}
use Rattle.std.proofs.Common.{◌≡◌, ℕ, ℤ, zero, suc, ◌+◌, ◌<◌, ◌≤◌, ◌==◌, List, [], ◌∷◌, ◌++◌, length}
use Rattle.std.proofs.Common.{replicate, refl, ap, sym, subst, ◌∙◌, arith, slice_set, slice_index_or}
use Rattle.std.proofs.Common.{Some, None, Bool, true, false, cond, nat_lt, nat_le}
use Rattle.std.specs.Prelude.{Ok}
use Rattle.ss_store.specs.declared.rows.Row.{Row}
use Rattle.ss_store.specs.declared.shape.ClassShape.{ClassShape}
use Rattle.ss_store.specs.declared.change.StoreChange.TheVariants.{Created, ClassCreated}
use Rattle.ss_store.specs.Lists.{change_at}
use Rattle.ss_store.specs.Tables.{Tables, class_of}
use Rattle.ss_store.specs.Store.{Store, made_of, number_of, fresh, with_made}
use Rattle.ss_store.specs.Store.{with_class}
use Rattle.ss_store.specs.declared.limits.TheConstants.{MOST_ENTITIES}
use Rattle.ss_words.specs.declared.limits.TheConstants.{MOST_REFERENCES}
use Rattle.ss_store.specs.Change.{FitsCreated, Leaves, IsMaking, unapply_store}
use Rattle.ss_store.specs.Value.{StoreValue}
use Rattle.ss_store.specs.Making.{numbering_by, numbering, with_entity, rows_of_numbering, layout_with, but_last}
use Rattle.ss_store.specs.Making.{without_last}
use Rattle.ss_store.specs.Making.{one_less, HasRoom, Makes, MakesAll, TakesOff}
use Rattle.ss_store.proofs.More.{length_more, change_change, change_none, index_get}

assoc : {A : Type 0} (xs ys zs : List A) → (xs ++ ys) ++ zs ≡ xs ++ (ys ++ zs)
assoc [] ys zs = refl
assoc (x ∷ xs) ys zs = ap (λ l. x ∷ l) (assoc xs ys zs)

nothing_behind : {A : Type 0} (xs : List A) → xs ++ [] ≡ xs
nothing_behind [] = refl
nothing_behind (x ∷ xs) = ap (λ l. x ∷ l) (nothing_behind xs)

rep_behind : {A : Type 0} (n : ℕ) (x : A) → replicate n x ++ x ∷ [] ≡ replicate (suc n) x
rep_behind zero x = refl
rep_behind (suc n) x = ap (λ l. x ∷ l) (rep_behind n x)

nil_of : {A : Type 0} (xs : List A) → length xs ≡ 0 → xs ≡ []
nil_of [] e = refl
nil_of (x ∷ xs) e = absurd (omega (arith, e))

pub numbering_made : (b : Bool) (c : ℕ) → b ≡ true → numbering_by b c ≡ Some c
numbering_made true c e = refl
numbering_made false c e = cc

pub numbering_given : (b : Bool) (c : ℕ) → b ≡ false → numbering_by b c ≡ None
numbering_given true c e = cc
numbering_given false c e = refl

pub makes_none : (c : ℕ) (v : StoreValue) → MakesAll c 0 v v
makes_none c v = record {
  tables = refl;
  state = ap (λ z. record v.state { made = z })
      (sym (change_none (λ es. es ++ []) v.state.made c (λ es e. nothing_behind es)));
  rows = [];
  heads = v.kept.heads;
  seats = v.kept.seats;
  kept = ap (λ z. record v.kept { made = z })
      (sym (change_none (λ rs. rs ++ []) v.kept.made c (λ rs e. nothing_behind rs)));
  count = refl;
  takes_off = refl;
}

pub makes_more : (c i : ℕ) (old now new : StoreValue) → (class_of old.tables c).permanent ≡ true → MakesAll c i old now
    → Makes c now new → MakesAll c (suc i) old new
makes_more c i old now new perm m k =
    let tables = m.tables in
    let num : numbering (class_of now.tables c) c ≡ Some c = ap (λ z. numbering_by (class_of z c).permanent c) tables
    ∙ numbering_made (class_of old.tables c).permanent c perm in
    let one : fresh c (class_of now.tables c) ≡ fresh c (class_of old.tables c) =
    ap (λ z. fresh c (class_of z c)) tables in
    let x = fresh c (class_of old.tables c) in
    let r : Row = record { class = c; head = now.kept.heads; seat = now.kept.seats } in
    let h = now.kept.heads + (class_of now.tables c).owned in
    let t = now.kept.seats + (class_of now.tables c).joined in
    record {
      tables = ap (λ (z : StoreValue). z.tables) k.is ∙ tables;
      state = ap (λ (z : StoreValue). z.state) k.is ∙ (λ j. with_entity (num j) (m.state j) (one j))
          ∙ (λ j. record old.state {
            made = change_change (λ es. es ++ replicate i x) (λ es. es ++ x ∷ [])
                (λ es. es ++ replicate (suc i) x) old.state.made c (λ es e. assoc es (replicate i x) (x ∷ [])
                ∙ ap (λ l. es ++ l) (rep_behind i x)) j;
          });
      rows = m.rows ++ r ∷ [];
      heads = h;
      seats = t;
      kept = ap (λ (z : StoreValue). z.kept) k.is ∙ (λ j. layout_with (λ rs. rs ++ r ∷ []) (m.kept j) (num j) h t)
          ∙ (λ j. record old.kept {
            made = change_change (λ rs. rs ++ m.rows) (λ rs. rs ++ r ∷ [])
                (λ rs. rs ++ (m.rows ++ r ∷ [])) old.kept.made c (λ rs e. assoc rs m.rows (r ∷ [])) j;
            heads = h;
            seats = t;
          });
      count = length_more m.rows r ∙ ap suc m.count;
      takes_off = (
        suc (length (rows_of_numbering now.kept (numbering (class_of now.tables c) c))),
        now.kept.heads,
        now.kept.seats,
        k.fits,
        subst (λ z. TakesOff c i z old) (sym k.back) m.takes_off,
      );
    }

length_both : (xs ys : List Row) → length (xs ++ ys) ≡ length xs + length ys
length_both [] ys = omega arith
length_both (x ∷ xs) ys = let d = length_both xs ys in omega (arith, d)

-- no more rows of the class than those
rows_below : (ts : List (List Row)) (c : ℕ) (rows : List Row)
    → length (slice_index_or (change_at (λ rs. rs ++ rows) ts c) c []) ≤ length (slice_index_or ts c []) + length rows
rows_below [] c rows = omega arith
rows_below (t ∷ ts) zero rows = let d = length_both t rows in omega (arith, d)
rows_below (t ∷ ts) (suc c) rows = rows_below ts c rows

pub room_for : (c i : ℕ) (old now : StoreValue) → (class_of old.tables c).permanent ≡ true
    → length (rows_of_numbering old.kept (numbering (class_of old.tables c) c)) ≡ 0 → MakesAll c i old now → i < 10000
    → HasRoom c now
room_for c i old now perm none m lt =
    let num : numbering (class_of now.tables c) c ≡ Some c = ap (λ z. numbering_by (class_of z c).permanent c) m.tables
    ∙ numbering_made (class_of old.tables c).permanent c perm in
    let was : length (rows_of_numbering old.kept (Some c)) ≡ 0 =
    ap (λ z. length (rows_of_numbering old.kept z)) (sym (numbering_made (class_of old.tables c).permanent c perm))
    ∙ none in
    let rows : length (rows_of_numbering now.kept (numbering (class_of now.tables c) c))
    ≡ length (slice_index_or (change_at (λ rs. rs ++ m.rows) old.kept.made c) c []) =
    (λ j. length (rows_of_numbering (m.kept j) (num j))) in
    let below = rows_below old.kept.made c m.rows in
    let n = m.count in
    let limit : cond (class_of now.tables c).permanent MOST_ENTITIES MOST_REFERENCES ≡ 10000 =
    ap (λ z. cond (class_of z c).permanent MOST_ENTITIES MOST_REFERENCES) m.tables
    ∙ ap (λ b. cond b MOST_ENTITIES MOST_REFERENCES) perm in
    omega (arith, was, rows, below, n, lt, limit)

-- ---- the results of `create` and `create_all`

set_once : {A : Type 0} (xs : List (List A)) (c : ℕ) (ys : List A) → slice_index_or xs c [] ≡ []
    → change_at (λ es. es ++ ys) xs c ≡ slice_set xs c ys
set_once [] c ys e = refl
set_once (x ∷ xs) zero ys e = ap (λ z. (z ++ ys) ∷ xs) e
set_once (x ∷ xs) (suc c) ys e = ap (λ z. x ∷ z) (set_once xs c ys e)

set_back : {A : Type 0} (xs : List (List A)) (c : ℕ) (ys : List A) → slice_index_or xs c [] ≡ []
    → slice_set (change_at (λ es. es ++ ys) xs c) c [] ≡ xs
set_back [] c ys e = refl
set_back (x ∷ xs) zero ys e = ap (λ z. z ∷ xs) (sym e)
set_back (x ∷ xs) (suc c) ys e = ap (λ z. x ∷ z) (set_back xs c ys e)

pub class_back : (c n : ℕ) (old new : StoreValue) → length (made_of old.state c) ≡ 0
    → length (rows_of_numbering old.kept (Some c)) ≡ 0 → MakesAll c n old new
    → unapply_store (ClassCreated c n old.kept.heads old.kept.seats) new ≡ old
class_back c n old new none rows m = λ i. record {
  tables = m.tables i;
  state = ((λ j. with_made (m.state j) c [])
      ∙ λ j. record old.state {
        made = set_back old.state.made c (replicate n (fresh c (class_of old.tables c)))
            (nil_of (made_of old.state c) none) j;
      }) i;
  kept = ((λ j. layout_with (λ rs. []) (m.kept j) (Some c) old.kept.heads old.kept.seats)
      ∙ λ j. record old.kept {
        made = (change_change (λ rs. rs ++ m.rows) (λ rs. []) (λ rs. rs) old.kept.made c
            (λ rs e. sym (sym (index_get old.kept.made c [] rs e) ∙ nil_of (rows_of_numbering old.kept (Some c)) rows))
            ∙ change_none (λ rs. rs) old.kept.made c (λ rs e. refl)) j;
      }) i;
}

class_leaves : (c n : ℕ) (old new : StoreValue) → (class_of old.tables c).permanent ≡ true
    → length (made_of old.state c) ≡ 0 → length (rows_of_numbering old.kept (Some c)) ≡ 0 → MakesAll c n old new
    → Leaves (ClassCreated c n old.kept.heads old.kept.seats)
    (with_made old.state c (replicate n (fresh c (class_of old.tables c)))) old new
class_leaves c n old new perm none rows m = record {
  state = m.state ∙ λ j. record old.state {
    made =
        set_once old.state.made c (replicate n (fresh c (class_of old.tables c))) (nil_of (made_of old.state c) none) j;
  };
  fits = record {
    permanent = ap (λ z. (class_of z c).permanent) m.tables ∙ perm;
    takes_off = subst (TakesOff c n new) (sym (class_back c n old new none rows m)) m.takes_off;
  };
  back = class_back c n old new none rows m;
}

kept_none : (c : ℕ) (v : StoreValue) → (class_of v.tables c).permanent ≡ true
    → length (rows_of_numbering v.kept (numbering (class_of v.tables c) c)) ≡ 0
    → length (rows_of_numbering v.kept (Some c)) ≡ 0
kept_none c v perm e = ap (λ z. length (rows_of_numbering v.kept z))
    (sym (numbering_made (class_of v.tables c).permanent c perm)) ∙ e

class_ok : (st : Store) (c : ℕ) (shape : ClassShape) (n : ℤ) → length (made_of st c) ≡ 0 → 0 < number_of n
    → number_of n ≤ 10000 → with_class st c shape n ≡ Ok (with_made st c (replicate (number_of n) (fresh c shape)))
class_ok st c shape n none low high =
    let a : (length (made_of st c) == 0) ≡ true = grind (arith, nat_tests, none) in
    let b : nat_lt 0 (number_of n) ≡ true = grind (arith, nat_tests, low) in
    let d : nat_le (number_of n) 10000 ≡ true = grind (arith, nat_tests, high) in
    rw (a, b, d) refl

pub all_made : (c m : ℕ) (n : ℤ) (heads seats : ℕ) (old new : StoreValue) → MakesAll c m old new
    → (class_of old.tables c).permanent ≡ true → length (made_of old.state c) ≡ 0
    → length (rows_of_numbering old.kept (numbering (class_of old.tables c) c)) ≡ 0 → heads ≡ old.kept.heads
    → seats ≡ old.kept.seats → m ≡ number_of n → 0 < m → m ≤ 10000
    → IsMaking (Ok (ClassCreated c m heads seats)) (with_class old.state c (class_of old.tables c) n) old new
all_made c m n heads seats old new k perm none rows eh et is low high =
    rw (class_ok old.state c (class_of old.tables c) n none (subst (λ z. 0 < z) is low)
    (subst (λ z. z ≤ 10000) is high))
    (subst (λ z. Leaves (ClassCreated c m heads seats)
    (with_made old.state c (replicate z (fresh c (class_of old.tables c)))) old new) is
    (subst (λ z. Leaves (ClassCreated c m z seats)
    (with_made old.state c (replicate m (fresh c (class_of old.tables c)))) old new) (sym eh)
    (subst (λ z. Leaves (ClassCreated c m old.kept.heads z)
    (with_made old.state c (replicate m (fresh c (class_of old.tables c)))) old new) (sym et)
    (class_leaves c m old new perm none (kept_none c old perm rows) k))))

-- ---- the loop

pub makes_next : (c i : ℕ) (old now new : StoreValue) → (class_of old.tables c).permanent ≡ true → MakesAll c i old now
    → Makes c now new → MakesAll c (i + 1) old new
makes_next c i old now new perm m k = let e : suc i ≡ i + 1 = omega arith in
    subst (λ z. MakesAll c z old new) e (makes_more c i old now new perm m k)

pub same_class : (c i : ℕ) (old now : StoreValue) → MakesAll c i old now → c < length old.tables.classes
    → c < length now.tables.classes
same_class c i old now m lt = subst (λ (z : Tables). c < length z.classes) (sym m.tables) lt

pub none_made : (n m : ℕ) → n ≡ m → n ≤ 0 → m ≡ 0
none_made n m e le = omega (arith, e, le)

-- ---- taken back

pub created_back : (c k heads seats : ℕ) (v : StoreValue) → FitsCreated v c k heads seats
    → one_less c heads seats v ≡ unapply_store (Created c k heads seats) v
created_back c k heads seats v f =
    let none : numbering (class_of v.tables c) c
    ≡ None = numbering_given (class_of v.tables c).permanent c f.not_permanent in
    λ i. record v { state = without_last (none i) v.state; kept = layout_with but_last v.kept (none i) heads seats }
