-- The state once an entity is made, and once it is taken off again.
use Rattle.std.proofs.lemmas.Bool.Decides.{nat_tests}
use Rattle.std.proofs.Common.{◌≡◌, inl, inr, ℕ, ℤ, pos, zero, suc, ◌+◌, ◌-◌, ◌<◌, ◌≤◌, List, [], ◌∷◌, ◌++◌, length}
use Rattle.std.proofs.Common.{map, take, replicate, refl, ap, sym, subst, ◌∙◌, arith, Option}
use Rattle.std.proofs.Common.{Some, None, true, cond, length-append}
use Rattle.std.proofs.Math.Seq.{take-append_seam}
use Rattle.ss_links.specs.Board.{list_at}
use Rattle.ss_links.specs.Seats.{has}
use Rattle.ss_store.specs.declared.rows.Row.{Row}
use Rattle.ss_store.specs.declared.shape.ClassShape.{ClassShape}
use Rattle.ss_store.specs.Tables.{Tables, class_of}
use Rattle.ss_store.specs.Rows.{RowTable, EntityTable, no_rows, rows_in}
use Rattle.ss_store.specs.Store.{Entity, Store, fresh}
use Rattle.ss_store.specs.Invariant.{IsStore}
use Rattle.ss_store.specs.Parts.{StoreParts, number_at, numbers_under, owned_from, entity_with}
use Rattle.ss_store.specs.Value.{Layout}
use Rattle.ss_store.specs.Parts.{reference_with, made_with, zip_rows, zip_table, state_of, state_at, layout_of}
use Rattle.ss_store.specs.Parts.{value_of}
use Rattle.ss_store.specs.Making.{numbering, with_row, with_table, next_row, with_next_entity, with_entity}
use Rattle.ss_store.specs.Making.{rows_of_numbering}
use Rattle.ss_store.specs.Making.{layout_with, one_more, but_last, without_last, one_less}
use Rattle.ss_store.proofs.Agree.{seat_below, numbers_length}
use Rattle.ss_store.proofs.OneListChanges.{index_map}
use Rattle.ss_store.proofs.More.{length_more, length_rep, change_change, change_none, map_change, index_get}
use Rattle.ss_store.proofs.OneMoreEntity.{Grows, list_more, list_past}

pub index_left : (xs ys : List ℕ) (i : ℕ) → i < length xs → number_at (xs ++ ys) i ≡ number_at xs i
index_left [] ys i lt = absurd (omega (arith, lt))
index_left (x ∷ xs) ys zero lt = refl
index_left (x ∷ xs) ys (suc i) lt = index_left xs ys i (omega (arith, lt))

map_same : (f g : ℕ → ℕ) (l : List ℕ) → ((u : ℕ) → has l u ≡ true → f u ≡ g u) → map f l ≡ map g l
map_same f g [] s = refl
map_same f g (y ∷ l) s = λ i. s y (grind (arith, nat_tests)) i ∷ map_same f g l
    (λ u e. s u (let t : has l u ≡ true = e in grind (arith, nat_tests, t))) i

-- no head has another list then, and those of the new heads are empty
pub look_more : (g : StoreParts) (w : Option ℕ) (c : ℕ) (shape : ClassShape) (v : List ℤ) → IsStore g → (j : ℕ)
    → numbers_under (with_next_entity g w c shape v).board (with_next_entity g w c shape v).numbers j
    ≡ numbers_under g.board g.numbers j
look_more g w c shape v s j =
    ap (map (number_at (with_next_entity g w c shape v).numbers)) (list_more g.board.lists shape.owned j)
    ∙ map_same (number_at (with_next_entity g w c shape v).numbers) (number_at g.numbers) (list_at g.board.lists j)
    (λ u f.
    let d = s.are_members j u f in
    let lt = seat_below g d.set d.member u s d.is_set d.seat in
    let n = numbers_length g s in
    index_left g.numbers _ u (omega (arith, lt, n)))

owned_past : (at : ℕ → List ℕ) (f n : ℕ) → ((j : ℕ) → f ≤ j → at j ≡ []) → owned_from at f n ≡ replicate n []
owned_past at f zero s = refl
owned_past at f (suc n) s = λ i. s f (omega arith) i ∷ owned_past at (suc f) n (λ j le. s j (omega (arith, le))) i

zipped_more : {A : Type 0} (f : Row → Option (List ℤ) → A) (rs : List Row) (vs : List (Option (List ℤ))) (r : Row)
    (v : Option (List ℤ)) → length rs ≡ length vs
    → zip_rows f (rs ++ r ∷ []) (vs ++ v ∷ []) ≡ zip_rows f rs vs ++ f r v ∷ []
zipped_more f [] [] r v e = refl
zipped_more f [] (u ∷ vs) r v e = absurd (omega (arith, e))
zipped_more f (q ∷ rs) [] r v e = absurd (omega (arith, e))
zipped_more f (q ∷ rs) (u ∷ vs) r v e = ap (λ l. f q u ∷ l) (zipped_more f rs vs r v (omega (arith, e)))

state_row : (t : Tables) (at : ℕ → List ℕ) (es : EntityTable) (w : Option ℕ) (r : Row) (v : List ℤ)
    → length (rows_in es w).rows ≡ length (rows_in es w).values
    → state_at t at (with_table (with_row r v) es w) ≡ with_entity w (state_at t at es) (entity_with t.classes at r v)
state_row t at es None r v e = λ i. record {
  made = map (zip_table (made_with t.classes at)) es.made;
  references = zipped_more (reference_with t.classes at) es.references.rows es.references.values r (Some v) e i;
  system = owned_from at 0 t.system;
}
state_row t at es (Some c) r v e = λ i. record {
  made = map_change (zip_table (made_with t.classes at)) (with_row r v) (λ es. es ++ entity_with t.classes at r v ∷ [])
      es.made c (λ x f.
      zipped_more (made_with t.classes at) x.rows x.values r (Some v)
      (subst (λ (z : RowTable). length z.rows ≡ length z.values) (index_get es.made c no_rows x f) e)) i;
  references = zip_table (reference_with t.classes at) es.references;
  system = owned_from at 0 t.system;
}

-- the entity that is made
abbrev pub made_entity : ℕ → ClassShape → List ℤ → Entity
made_entity c shape v = record { class = c; attributes = v; owned = replicate shape.owned [] }

pub grown_state : (g : StoreParts) (w : Option ℕ) (c : ℕ) (shape : ClassShape) (v : List ℤ) → IsStore g
    → Grows g w c shape v
    → state_of (with_next_entity g w c shape v) ≡ with_entity w (state_of g) (made_entity c shape v)
grown_state g w c shape v s k =
    let at = numbers_under g.board g.numbers in
    let past : (j : ℕ) → length g.board.lists ≤ j
    → at j ≡ [] = λ j le. ap (map (number_at g.numbers)) (list_past g.board.lists j le) in
    let owned : owned_from at (length g.board.lists) (class_of g.tables c).owned ≡ replicate shape.owned [] =
    ap (λ (z : ClassShape). owned_from at (length g.board.lists) z.owned) k.is
    ∙ owned_past at (length g.board.lists) shape.owned past in
    (λ i. state_at g.tables (λ j. look_more g w c shape v s j i) (with_table (with_row (next_row g c) v) g.rows w))
    ∙ state_row g.tables at g.rows w (next_row g c) v (s.rows w)
    ∙ λ i. with_entity w (state_of g) (record { class = c; attributes = v; owned = owned i })

-- and its rows
pub grown_kept : (g : StoreParts) (w : Option ℕ) (c : ℕ) (shape : ClassShape) (v : List ℤ)
    → layout_of (with_next_entity g w c shape v) ≡ layout_with (λ rs. rs ++ next_row g c ∷ []) (layout_of g) w
    (length g.board.lists + shape.owned) (g.board.seats + shape.joined)
grown_kept g None c shape v = let n = length-append g.board.lists (replicate shape.owned [])
    ∙ ap (λ z. length g.board.lists + z) (length_rep {A = List ℕ} shape.owned []) in λ i. record {
      made = map (λ (t : RowTable). t.rows) g.rows.made;
      references = g.rows.references.rows ++ next_row g c ∷ [];
      heads = n i;
      seats = g.board.seats + shape.joined;
    }
grown_kept g (Some d) c shape v = let n = length-append g.board.lists (replicate shape.owned [])
    ∙ ap (λ z. length g.board.lists + z) (length_rep {A = List ℕ} shape.owned []) in λ i. record {
      made = map_change (λ (t : RowTable). t.rows) (with_row (next_row g c) v)
          (λ rs. rs ++ next_row g c ∷ []) g.rows.made d
          (λ x e. refl) i;
      references = g.rows.references.rows;
      heads = n i;
      seats = g.board.seats + shape.joined;
    }

pub kept_rows_are : (g : StoreParts) (w : Option ℕ) → rows_of_numbering (layout_of g) w ≡ (rows_in g.rows w).rows
kept_rows_are g None = refl
kept_rows_are g (Some c) = index_map (λ (t : RowTable). t.rows) g.rows.made c no_rows

-- the numbering of a class
pub numbering_is : (g : StoreParts) (w : Option ℕ) (c : ℕ) (shape : ClassShape) (v : List ℤ) → Grows g w c shape v
    → numbering (class_of g.tables c) c ≡ w
numbering_is g w c shape v k = ap (λ (z : ClassShape). numbering z c) k.is ∙ elim k.which [
  | inl a ↦ ap (λ b. cond b (Some c) None) a.1 ∙ sym a.0
  | inr a ↦ ap (λ b. cond b (Some c) None) a.1 ∙ sym a.0
]

pub grown_value : (g : StoreParts) (w : Option ℕ) (c : ℕ) (shape : ClassShape) → IsStore g
    → Grows g w c shape (replicate shape.attributes (pos 0))
    → value_of (with_next_entity g w c shape (replicate shape.attributes (pos 0))) ≡ one_more c (value_of g)
grown_value g w c shape s k =
    let v = replicate shape.attributes (pos 0) in
    let n = numbering_is g w c shape v k in λ i. record {
      tables = g.tables;
      state = (grown_state g w c shape v s k ∙ λ j. with_entity (sym n j) (state_of g) (fresh c (sym k.is j))) i;
      kept = (grown_kept g w c shape v ∙ λ j. layout_with (λ rs. rs ++ next_row g c ∷ []) (layout_of g) (sym n j)
          (length g.board.lists + (sym k.is j).owned) (g.board.seats + (sym k.is j).joined)) i;
    }

-- ---- taken off again

but_last_more : {A : Type 0} (xs : List A) (x : A) → but_last (xs ++ x ∷ []) ≡ xs
but_last_more xs x = let n : length (xs ++ x ∷ []) - 1 ≡ length xs = (let m = length_more xs x in omega (arith, m)) in
    ap (λ z. take z (xs ++ x ∷ [])) n ∙ take-append_seam xs (x ∷ [])

less_entity : (w : Option ℕ) (st : Store) (e : Entity) → without_last w (with_entity w st e) ≡ st
less_entity None st e = λ i. record st { references = but_last_more st.references (Some e) i }
less_entity (Some c) st e = λ i. record st {
  made =
      (change_change (λ es. es ++ e ∷ []) but_last (λ z. z) st.made c (λ x f. but_last_more x e)
      ∙ change_none (λ z. z) st.made c (λ x f. refl)) i;
}

less_kept : (k : Layout) (w : Option ℕ) (r : Row) (h t : ℕ)
    → layout_with but_last (layout_with (λ rs. rs ++ r ∷ []) k w h t) w k.heads k.seats ≡ k
less_kept k None r h t = λ i. record k { references = but_last_more k.references r i }
less_kept k (Some c) r h t = λ i. record k {
  made =
      (change_change (λ rs. rs ++ r ∷ []) but_last (λ z. z) k.made c (λ x f. but_last_more x r)
      ∙ change_none (λ z. z) k.made c (λ x f. refl)) i;
}

pub less_value : (g : StoreParts) (w : Option ℕ) (c : ℕ) (shape : ClassShape) (v : List ℤ) → IsStore g
    → Grows g w c shape v
    → one_less c (length g.board.lists) g.board.seats (value_of (with_next_entity g w c shape v)) ≡ value_of g
less_value g w c shape v s k =
    let n = numbering_is g w c shape v k in λ i. record {
      tables = g.tables;
      state = ((λ j. without_last (n j) (grown_state g w c shape v s k j))
          ∙ less_entity w (state_of g) (made_entity c shape v)) i;
      kept = ((λ j. layout_with but_last (grown_kept g w c shape v j) (n j) (length g.board.lists) g.board.seats)
          ∙ less_kept (layout_of g) w (next_row g c) (length g.board.lists + shape.owned)
          (g.board.seats + shape.joined))
          i;
    }
