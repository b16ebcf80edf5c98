-- The place at which FILE puts a member, and the lists that stay.
use Rattle.std.proofs.Common.{◌≡◌, ◌≢◌, inl, inr, ℕ, zero, suc, ◌==◌, ◌||◌, List, [], ◌∷◌, ◌++◌, refl, ap, sym}
use Rattle.std.proofs.Common.{subst}
use Rattle.std.proofs.Common.{◌∙◌, slice_get, slice_set, slice_index_or, Option, Some, None, Bool, true, false, cond}
use Rattle.std.proofs.Common.{eqb→eq, T}
use Rattle.std.specs.Prelude.{option_and_then, unwrap_or}
use Rattle.std.specs.Option.{option_map, option_or}
use Rattle.ss_links.specs.Seats.{has, first_of, last_of, put_before, put_behind}
use Rattle.ss_program.specs.declared.kinds.Discipline.{Discipline}
use Rattle.ss_program.specs.declared.kinds.Discipline.TheVariants.{Fifo, Lifo, Ranked}
use Rattle.ss_program.specs.declared.kinds.Owner.TheVariants.{System, OwnedBy}
use Rattle.ss_store.specs.declared.shape.How.TheVariants.{ByRule, First, Last, Before, After}
use Rattle.ss_store.specs.Lists.{change_at, placed_before}
use Rattle.ss_store.specs.Store.{Entity, Store, number_of, of_class, made_of, list_number}
use Rattle.ss_store.specs.Store.{changed_reference, with_owned}
use Rattle.ss_store.specs.Filing.{ranks_behind, filed_by}
use Rattle.ss_store.specs.Places.{NonePasses, FirstPasses, IsRulePlace, FiledBetween}
use Rattle.ss_store.specs.Places.{OtherListsStay}
use Rattle.ss_store.proofs.OneListChanges.{is_or_not}
use Rattle.ss_store.proofs.More.{index_other}

append_nil : {A : Type 0} (xs : List A) → xs ≡ xs ++ []
append_nil [] = refl
append_nil (x ∷ xs) = ap (λ l. x ∷ l) (append_nil xs)

-- a list in two parts, with a member between them
pub record Parts (new ks : List ℕ) (k : ℕ) (P : List ℕ → List ℕ → Type 0) : Type 0 where
  pub front : List ℕ
  pub rest : List ℕ
  pub was : ks ≡ front ++ rest
  pub is : new ≡ front ++ k ∷ rest
  pub place : P front rest

ranked : (test : ℕ → Bool) (k : ℕ) (ks : List ℕ)
    → Parts (placed_before test k ks) ks k (λ front rest. NonePasses test front × FirstPasses test rest)
ranked test k [] = record { front = []; rest = []; was = refl; is = refl; place = (tt, tt) }
ranked test k (y ∷ ys) =
    (elim (test y) as (λ b. test y ≡ b → Parts (cond b (k ∷ y ∷ ys) (y ∷ placed_before test k ys)) (y ∷ ys) k
    (λ front rest. NonePasses test front × FirstPasses test rest)) [
      | true ↦ λ w. record { front = []; rest = y ∷ ys; was = refl; is = refl; place = (tt, w) }
      | false ↦ λ w. let d = ranked test k ys in record {
        front = y ∷ d.front;
        rest = d.rest;
        was = ap (λ l. y ∷ l) d.was;
        is = ap (λ l. y ∷ l) d.is;
        place = ((w, d.place.0), d.place.1);
      }
    ]) refl

before : (y k : ℕ) (ks : List ℕ) → has ks y ≡ true
    → Parts (put_before ks y k) ks k (λ front rest. first_of rest ≡ Some y)
before y k [] e = absurd cc
before y k (z ∷ ks) e =
    (elim (z == y) as (λ b. z == y ≡ b → (b || has ks y) ≡ true
    → Parts (cond b (k ∷ z ∷ ks) (z ∷ put_before ks y k)) (z ∷ ks) k (λ front rest. first_of rest ≡ Some y)) [
      | true ↦ λ w h. record {
        front = [];
        rest = z ∷ ks;
        was = refl;
        is = refl;
        place = ap Some (eqb→eq z y (subst T (sym w) tt));
      }
      | false ↦ λ w h. let d = before y k ks h in record {
        front = z ∷ d.front;
        rest = d.rest;
        was = ap (λ l. z ∷ l) d.was;
        is = ap (λ l. z ∷ l) d.is;
        place = d.place;
      }
    ]) refl e

after : (y k : ℕ) (ks : List ℕ) → has ks y ≡ true
    → Parts (put_behind ks y k) ks k (λ front rest. last_of front ≡ Some y)
after y k [] e = absurd cc
after y k (z ∷ ks) e =
    (elim (z == y) as (λ b. z == y ≡ b → (b || has ks y) ≡ true
    → Parts (cond b (z ∷ k ∷ ks) (z ∷ put_behind ks y k)) (z ∷ ks) k (λ front rest. last_of front ≡ Some y)) [
      | true ↦ λ w h. record {
        front = z ∷ [];
        rest = ks;
        was = refl;
        is = refl;
        place = ap Some (eqb→eq z y (subst T (sym w) tt));
      }
      | false ↦ λ w h. let d = after y k ks h in record {
        front = z ∷ d.front;
        rest = d.rest;
        was = ap (λ l. z ∷ l) d.was;
        is = ap (λ l. z ∷ l) d.is;
        place = ap (λ o. Some (unwrap_or o z)) d.place;
      }
    ]) refl e

by_rule : (d : Discipline) (st : Store) (c k : ℕ) (ks : List ℕ)
    → Parts (filed_by d st c k ks) ks k (IsRulePlace d st c k)
by_rule Fifo st c k ks = record { front = ks; rest = []; was = append_nil ks; is = refl; place = refl }
by_rule Lifo st c k ks = record { front = []; rest = ks; was = refl; is = refl; place = refl }
by_rule (Ranked keys) st c k ks = let d = ranked (ranks_behind keys st c k) k ks in
    record { front = d.front; rest = d.rest; was = d.was; is = d.is; place = d.place }

pub filed_between : FiledBetween
filed_between s st ByRule k ks e = let d = by_rule s.discipline st s.member k ks in
    record { front = d.front; rest = d.rest; was = d.was; is = d.is; place = d.place }
filed_between s st First k ks e = record { front = []; rest = ks; was = refl; is = refl; place = refl }
filed_between s st Last k ks e = record { front = ks; rest = []; was = append_nil ks; is = refl; place = refl }
filed_between s st (Before y) k ks e = let d = before (number_of y) k ks e in
    record { front = d.front; rest = d.rest; was = d.was; is = d.is; place = d.place }
filed_between s st (After y) k ks e = let d = after (number_of y) k ks e in
    record { front = d.front; rest = d.rest; was = d.was; is = d.is; place = d.place }

-- ---- other lists

set_other : {A : Type 0} (xs : List A) (n m : ℕ) (x d : A) → m ≢ n
    → slice_index_or (slice_set xs n x) m d ≡ slice_index_or xs m d
set_other [] n m x d far = refl
set_other (y ∷ xs) zero zero x d far = absurd (far refl)
set_other (y ∷ xs) zero (suc m) x d far = refl
set_other (y ∷ xs) (suc n) zero x d far = refl
set_other (y ∷ xs) (suc n) (suc m) x d far = set_other xs n m x d (λ e. far (ap suc e))

change_here : {A : Type 0} (f : A → A) (xs : List A) (i : ℕ)
    → slice_get (change_at f xs i) i ≡ option_map f (slice_get xs i)
change_here f [] i = refl
change_here f (x ∷ xs) zero = refl
change_here f (x ∷ xs) (suc i) = change_here f xs i

change_there : {A : Type 0} (f : A → A) (xs : List A) (i j : ℕ) → j ≢ i
    → slice_get (change_at f xs i) j ≡ slice_get xs j
change_there f [] i j far = refl
change_there f (x ∷ xs) zero zero far = absurd (far refl)
change_there f (x ∷ xs) zero (suc j) far = refl
change_there f (x ∷ xs) (suc i) zero far = refl
change_there f (x ∷ xs) (suc i) (suc j) far = change_there f xs i j (λ e. far (ap suc e))

index_here : {A : Type 0} (f : A → A) (xs : List A) (c : ℕ) (d : A) → f d ≡ d
    → slice_index_or (change_at f xs c) c d ≡ f (slice_index_or xs c d)
index_here f [] c d e = sym e
index_here f (x ∷ xs) zero d e = refl
index_here f (x ∷ xs) (suc c) d e = index_here f xs c d e

-- list number m of an entity
abbrev listed : ℕ → Option Entity → Option (List ℕ)
listed m o = option_map (λ e. list_number e.owned m) o

listed_or : (m : ℕ) (a b : Option Entity) → listed m (option_or a b) ≡ option_or (listed m a) (listed m b)
listed_or m None b = refl
listed_or m (Some e) b = refl

owned_other : (n m : ℕ) (ks : List ℕ) (o : Option Entity) → m ≢ n
    → listed m (option_map (with_owned n ks) o) ≡ listed m o
owned_other n m ks None far = refl
owned_other n m ks (Some e) far = ap Some (set_other e.owned n m ks [] far)

made_other : (st : Store) (c d i j n m : ℕ) (ks : List ℕ) → (c ≡ d → n ≡ m → i ≡ j → ⊥)
    → listed m (slice_get (slice_index_or (change_at (λ row. change_at (with_owned n ks) row i) st.made c) d []) j)
    ≡ listed m (slice_get (made_of st d) j)
made_other st c d i j n m ks far =
    let ch : List Entity → List Entity = λ row. change_at (with_owned n ks) row i in
    elim (is_or_not d c) [
      | inr apart ↦ ap (λ (es : List Entity). listed m (slice_get es j)) (index_other ch st.made c d [] apart)
      | inl is ↦
          let here : slice_index_or (change_at ch st.made c) d [] ≡ change_at (with_owned n ks) (made_of st d) i =
          subst (λ z. slice_index_or (change_at ch st.made z) d [] ≡ change_at (with_owned n ks) (made_of st d) i)
          is
          (index_here ch st.made d [] refl) in
          ap (λ (es : List Entity). listed m (slice_get es j)) here ∙ elim (is_or_not j i) [
            | inr apart ↦ ap (listed m) (change_there (with_owned n ks) (made_of st d) i j apart)
            | inl at ↦
                ap (λ z. listed m (slice_get (change_at (with_owned n ks) (made_of st d) i) z)) at
                ∙ ap (listed m) (change_here (with_owned n ks) (made_of st d) i)
                ∙ owned_other n m ks (slice_get (made_of st d) i) (λ e. far (sym is) (sym e) (sym at))
                ∙ ap (λ z. listed m (slice_get (made_of st d) z)) (sym at)
          ]
    ]

reference_here : (c d n m : ℕ) (ks : List ℕ) (o : Option (Option Entity)) → (c ≡ d → n ≡ m → ⊥)
    → listed m (option_and_then (of_class d) (option_map (changed_reference (with_owned n ks) c) o))
    ≡ listed m (option_and_then (of_class d) o)
reference_here c d n m ks None far = refl
reference_here c d n m ks (Some None) far = refl
reference_here c d n m ks (Some (Some e)) far =
    (elim (e.class == c) as (λ b. e.class == c ≡ b
    → listed m (of_class d (cond b (Some (with_owned n ks e)) (Some e))) ≡ listed m (of_class d (Some e))) [
      | false ↦ λ w. refl
      | true ↦ λ w. (elim (e.class == d) as (λ b. e.class == d ≡ b
          → listed m (cond b (Some (with_owned n ks e)) None) ≡ listed m (cond b (Some e) None)) [
            | false ↦ λ v. refl
            | true ↦ λ v.
                let same : c ≡ d = sym (eqb→eq e.class c (subst T (sym w) tt))
                ∙ eqb→eq e.class d (subst T (sym v) tt) in
                owned_other n m ks (Some e) (λ z. far same (sym z))
          ]) refl
    ]) refl

reference_other : (st : Store) (c d i j n m : ℕ) (ks : List ℕ) → (c ≡ d → n ≡ m → i ≡ j → ⊥)
    → listed m (option_and_then (of_class d)
    (slice_get (change_at (changed_reference (with_owned n ks) c) st.references i) j))
    ≡ listed m (option_and_then (of_class d) (slice_get st.references j))
reference_other st c d i j n m ks far =
    let ch = changed_reference (with_owned n ks) c in
    elim (is_or_not j i) [
      | inr apart ↦ ap (λ o. listed m (option_and_then (of_class d) o)) (change_there ch st.references i j apart)
      | inl at ↦
          ap (λ z. listed m (option_and_then (of_class d) (slice_get (change_at ch st.references i) z))) at
          ∙ ap (λ o. listed m (option_and_then (of_class d) o)) (change_here ch st.references i)
          ∙ reference_here c d n m ks (slice_get st.references i) (λ e f. far e f (sym at))
          ∙ ap (λ z. listed m (option_and_then (of_class d) (slice_get st.references z))) (sym at)
    ]

pub other_lists_stay : OtherListsStay
other_lists_stay System System n o m u st ks far = ap Some (set_other st.system n m ks [] (λ e. far (sym e)))
other_lists_stay System (OwnedBy d) n o m zero st ks far = refl
other_lists_stay System (OwnedBy d) n o m (suc j) st ks far = refl
other_lists_stay (OwnedBy c) System n zero m u st ks far = refl
other_lists_stay (OwnedBy c) System n (suc i) m u st ks far = refl
other_lists_stay (OwnedBy c) (OwnedBy d) n zero m u st ks far = refl
other_lists_stay (OwnedBy c) (OwnedBy d) n (suc i) m zero st ks far = refl
other_lists_stay (OwnedBy c) (OwnedBy d) n (suc i) m (suc j) st ks far =
    let apart : c ≡ d → n ≡ m → i ≡ j → ⊥ = λ e f g. far e f (ap suc g) in
    listed_or m _ _ ∙ (λ k. option_or (made_other st c d i j n m ks apart k)
    (reference_other st c d i j n m ks apart k))
    ∙ sym (listed_or m (slice_get (made_of st d) j) (option_and_then (of_class d) (slice_get st.references j)))
