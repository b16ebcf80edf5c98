-- Lists that are known to be in order stay so.
use Rattle.std.proofs.lemmas.Bool.Decides.{nat_tests}
use Rattle.std.proofs.Common.{◌≡◌, ◌≢◌, ◌⊎◌, inl, inr, ℕ, ℤ, pos, zero, suc, ◌+◌, ◌-◌, ◌<◌, ◌≤◌}
use Rattle.std.proofs.Common.{◌==◌, ◌&&◌, ◌||◌, List, [], ◌∷◌, length, refl, ap, sym, subst, ◌∙◌, arith}
use Rattle.std.proofs.Common.{slice_get, slice_index_or, replicate}
use Rattle.std.proofs.Common.{Option, Some, None, Bool, true, false, set}
use Rattle.std.specs.Prelude.{Ok, is_some, unwrap_or, slice_set}
use Rattle.std.specs.List.{list_any}
use Rattle.std.specs.Option.{option_or}
use Rattle.std.specs.Ordering.{is_gt}
use Rattle.ss_links.specs.Board.{Board, IsSound, list_at, head_of, after_unlink, after_relink}
use Rattle.ss_links.specs.Seats.{has, put_at, list_without}
use Rattle.ss_links.proofs.BoardLaws.{list_at-map, head_of-list_at}
use Rattle.ss_program.specs.declared.keys.Key.{Key}
use Rattle.ss_program.specs.declared.kinds.Discipline.TheVariants.{Ranked}
use Rattle.ss_program.specs.Keys.{by_keys, key_values}
use Rattle.ss_store.specs.declared.places.Spot.{Spot}
use Rattle.ss_store.specs.declared.places.Spot.TheVariants as spot
use Rattle.ss_store.specs.declared.rows.Row.{Row}
use Rattle.ss_store.specs.declared.shape.ClassShape.{ClassShape}
use Rattle.ss_store.specs.declared.shape.SetShape.{SetShape}
use Rattle.ss_store.specs.declared.shape.How.{How}
use Rattle.ss_store.specs.Finding.{keys_in, rank_before, rule_place, place_by, spot_by}
use Rattle.ss_store.specs.Invariant.{IsStore}
use Rattle.ss_store.specs.Making.{with_table, with_next_entity, numbering_by, HasRoom}
use Rattle.ss_store.specs.Order.{Climbs, seat_after, InOrder, known_at, AreInOrder, is_key, is_key_by}
use Rattle.ss_store.specs.Parts.{StoreParts, HeadEntry, head_at, seat_at, number_at}
use Rattle.ss_store.specs.Rows.{RowTable, EntityTable, rows_in, row_of, values_in, values_of}
use Rattle.ss_store.specs.Tables.{class_of, IsSet}
use Rattle.ss_store.specs.Value.{StoreValue}
use Rattle.ss_store.specs.Writing.{with_values}
use Rattle.ss_store.proofs.Agree.{seat_below, numbers_length}
use Rattle.ss_store.proofs.SearchPlaces.{once_in}
use Rattle.ss_store.proofs.Boards.{relisted_set}
use Rattle.ss_store.proofs.Calls.{Case, puts}
use Rattle.ss_store.proofs.Climbing.{climbs_same, climbs_without, climbs_placed, keys_rank}
use Rattle.ss_store.proofs.Core.{some_eq, Found, found, Member, map_some, made_none, head_entry, seat_number}
use Rattle.ss_store.proofs.EndingAnswers.{Lives, stands}
use Rattle.ss_store.proofs.FilingChanges.{ok_eq}
use Rattle.ss_store.proofs.OneMoreEntity.{Grows, given_none, list_more, list_past, row_kept, value_kept}
use Rattle.ss_store.proofs.OneMoreInState.{index_left}
use Rattle.ss_store.proofs.MakingAnswers.{At, Adds, added, added_is, grows}
use Rattle.ss_store.proofs.More.{IsTable, table_same, table_here, table_case, split_get}
use Rattle.ss_store.proofs.RankPlaces.{ranked_put, values_some, values_there}
use Rattle.ss_store.proofs.OneListChanges.{Relisted, is_or_not}
use Rattle.ss_store.proofs.ValueWrites.{Lies, get_other, get_set}

-- ---- the lists that are known to be in order

pub none_known : (g : StoreParts) (fs : List Bool) → ((h : ℕ) → known_at fs h ≡ false) → AreInOrder g fs
none_known g fs f = record { each = λ h s o known is own. absurd (let bad = sym (f h) ∙ known in cc) }

pub fewer_known : (g : StoreParts) (old new : List Bool) → ((h : ℕ) → known_at new h ≡ true → known_at old h ≡ true)
    → AreInOrder g old → AreInOrder g new
fewer_known g old new f a = record { each = λ h s o known. a.each h s o (f h known) }

noted_here : (fs : List Bool) (h : ℕ) (b : Bool) → known_at (slice_set fs h b) h ≡ true → b ≡ true
noted_here [] h b e = cc
noted_here (f ∷ fs) zero b e = e
noted_here (f ∷ fs) (suc h) b e = noted_here fs h b e

noted_other : (fs : List Bool) (h k : ℕ) (b : Bool) → k ≢ h → known_at (slice_set fs h b) k ≡ true
    → known_at fs k ≡ true
noted_other [] h k b far e = e
noted_other (f ∷ fs) zero zero b far e = absurd (far refl)
noted_other (f ∷ fs) zero (suc k) b far e = e
noted_other (f ∷ fs) (suc h) zero b far e = e
noted_other (f ∷ fs) (suc h) (suc k) b far e = noted_other fs h k b (λ w. far (ap suc w)) e

-- ---- lists

-- the list of a head is another, which is in order if that is noted
relisted_order : (g : StoreParts) (fs : List Bool) (new : Board) (h : ℕ) (m : List ℕ) (b : Bool)
    → Relisted g.board new h m → AreInOrder g fs
    → ((s : SetShape) (o : ℕ) → b ≡ true → IsSet g.tables.sets s
    → slice_get g.owners h ≡ Some (record { owner = s.owner; list = s.list; number = o })
    → InOrder g.rows g.numbers s m)
    → AreInOrder (record g { board = new }) (slice_set fs h b)
relisted_order g fs new h m b r a here = record {
  each = λ k s o known is own. elim (is_or_not k h) [
    | inl e ↦ subst (InOrder g.rows g.numbers s) (sym (ap (list_at new.lists) e ∙ r.here))
        (here s o (noted_here fs h b (subst (λ z. known_at (slice_set fs h b) z ≡ true) e known)) is
        (subst (λ z. slice_get g.owners z ≡ Some (record { owner = s.owner; list = s.list; number = o })) e own))
    | inr far ↦ subst (InOrder g.rows g.numbers s) (sym (r.others k far))
        (a.each k s o (noted_other fs h k b far known) is own)
  ];
}

pub refiled_order : (g : StoreParts) (fs : List Bool) (new : Board) (h : ℕ) (t : ℕ) (p : Option ℕ)
    → h < length g.board.lists → new ≡ after_relink g.board t (record { head = h; before = p }) → IsSound new
    → AreInOrder g fs → AreInOrder (record g { board = new }) (slice_set fs h false)
refiled_order g fs new h t p lt e s a =
    relisted_order g fs new h _ false (relisted_set g.board new h _ lt e s) a (λ z o b is own. cc)

pub removed_order : (g : StoreParts) (fs : List Bool) (new : Board) (t : ℕ) → new ≡ after_unlink g.board t
    → AreInOrder g fs → AreInOrder (record g { board = new }) fs
removed_order g fs new t e a = record {
  each = λ k s o known is own keys d.
      let same : list_at new.lists k ≡ list_without (list_at g.board.lists k) t = ap (λ (z : Board). list_at z.lists k) e
      ∙ list_at-map (λ l. list_without l t) refl g.board.lists k in
      subst (Climbs (seat_after g.rows g.numbers keys s.member)) (sym same)
      (climbs_without _ (list_at g.board.lists k) t (a.each k s o known is own keys d));
}

-- a head is of one set
one_set : (g : StoreParts) (rule s : SetShape) (x o h : ℕ) → IsStore g → IsSet g.tables.sets rule
    → head_at g.rows rule x ≡ Some h → IsSet g.tables.sets s
    → slice_get g.owners h ≡ Some (record { owner = s.owner; list = s.list; number = o }) → s ≡ rule
one_set g rule s x o h k ir er is own =
    let both = some_eq (sym own ∙ head_entry g rule x h k ir er) in
    k.tables.one_list s rule is ir (ap (λ (z : HeadEntry). z.owner) both) (ap (λ (z : HeadEntry). z.list) both)

-- placed by its ranking, the list stays in order
placed_order : (g : StoreParts) (rule : SetShape) (x h t : ℕ) (p : Option ℕ) → IsStore g → IsSet g.tables.sets rule
    → seat_at g.rows rule x ≡ Some t → InOrder g.rows g.numbers rule (list_at g.board.lists h)
    → p ≡ rule_place g.rows g.numbers rule.member x (list_at g.board.lists h) rule.discipline
    → InOrder g.rows g.numbers rule (put_at (list_at g.board.lists h) p t)
placed_order g rule x h t p s is et order e keys d =
    let l = list_at g.board.lists h in
    let c = rule.member in
    let after = seat_after g.rows g.numbers keys c in
    let place : p ≡ rank_before (λ u. after u t) None l = e ∙ ap (rule_place g.rows g.numbers c x l) d
    ∙ ap (λ z. rank_before (λ u. is_gt (by_keys keys (keys_in g.rows keys c (number_at g.numbers u))
    (keys_in g.rows keys c z))) None l) (sym (seat_number g rule x t s is et)) in
    subst (Climbs after) (sym (ap (λ q. put_at l q t) place
    ∙ ranked_put (λ u. after u t) l t (once_in g.board h s.sound)))
    (climbs_placed after t l (keys_rank keys (λ u. unwrap_or (values_of g.rows c (number_at g.numbers u)) []))
    (order keys d))

pub filed_order : (g : StoreParts) (v : StoreValue) (fs : List Bool) (new : Board) (n : ℕ) (rule : SetShape)
    (o x h t : ℕ) (p : Option ℕ) (how : How) (sp : Spot) (b : Bool) → Case g v n rule → head_at g.rows rule o ≡ Some h
    → seat_at g.rows rule x ≡ Some t → spot_by g.rows rule how ≡ Ok sp → head_of g.board.lists t ≡ None
    → place_by g.rows g.numbers g.board.lists rule h x sp ≡ Ok p
    → new ≡ after_relink g.board t (record { head = h; before = p }) → IsSound new → AreInOrder g fs
    → (b ≡ true → sp ≡ spot.ByRule) → (b ≡ true → InOrder g.rows g.numbers rule (list_at g.board.lists h))
    → AreInOrder (record g { board = new }) (slice_set fs h b)
filed_order g v fs new n rule o x h t p how sp b k e f w free q is sound a by_rule order =
    relisted_order g fs new h _ b (puts g v new n rule o x h t p how sp k e f w free q is sound).relisted a
    (λ s y bt ss own.
    let same = one_set g rule s o y h k.store k.is_set e ss own in
    let place : p ≡ rule_place g.rows g.numbers rule.member x (list_at g.board.lists h) rule.discipline =
    ok_eq (sym q ∙ ap (place_by g.rows g.numbers g.board.lists rule h x) (by_rule bt)) in
    subst (λ z. InOrder g.rows g.numbers z (put_at (list_at g.board.lists h) p t)) (sym same)
    (placed_order g rule x h t p k.store k.is_set f (order bt) place))

-- an order that is known for a list is the order of its set
pub known_order : (g : StoreParts) (fs : List Bool) (rule : SetShape) (o h : ℕ) → IsStore g → AreInOrder g fs
    → IsSet g.tables.sets rule → head_at g.rows rule o ≡ Some h → known_at fs h ≡ true
    → InOrder g.rows g.numbers rule (list_at g.board.lists h)
known_order g fs rule o h s a is e known = a.each h rule _ known is (head_entry g rule o h s is e)

-- a search begins after the front only in a list that is in order
pub started : (b : Bool) (o : Option ℕ) (t : ℕ) → (b ≡ false → o ≡ None) → o ≡ Some t → b ≡ true
started true o t f e = refl
started false o t f e = absurd (let bad : None ≡ Some t = sym (f refl) ∙ e in cc)

-- ---- rows

-- each member of the list of a head is a member of its set
member_under : (g : StoreParts) (s : SetShape) (o h t : ℕ) → IsStore g → IsSet g.tables.sets s
    → slice_get g.owners h ≡ Some (record { owner = s.owner; list = s.list; number = o })
    → has (list_at g.board.lists h) t ≡ true → Member g s t
member_under g s o h t k is own e =
    let j = k.are_members h t e in
    let same = one_set g j.set s j.owner o h k j.is_set j.head is own in
    let there = subst (λ (z : SetShape). seat_at g.rows z j.member ≡ Some t) (sym same) j.seat in
    record { number = j.member; seat = there; is = seat_number g s j.member t k is there }

-- seats whose members have the keys that they had
kept_climbs : (es new : EntityTable) (ns ms : List ℕ) (keys : List Key) (c : ℕ) (l : List ℕ)
    → ((u : ℕ) → has l u ≡ true → keys_in new keys c (number_at ms u) ≡ keys_in es keys c (number_at ns u))
    → Climbs (seat_after es ns keys c) l → Climbs (seat_after new ms keys c) l
kept_climbs es new ns ms keys c l s = climbs_same (seat_after es ns keys c) (seat_after new ms keys c) l
    (λ x y hx hy i. is_gt (by_keys keys (s x hx i) (s y hy i)))

-- other rows, in which the members of the lists that are known have the keys that they had
rows_order : (g : StoreParts) (fs : List Bool) (es : EntityTable) → IsStore g → AreInOrder g fs
    → ((h u m : ℕ) (s : SetShape) (keys : List Key) → has (list_at g.board.lists h) u ≡ true → IsSet g.tables.sets s
    → s.discipline ≡ Ranked keys → seat_at g.rows s m ≡ Some u
    → keys_in es keys s.member m ≡ keys_in g.rows keys s.member m)
    → AreInOrder (record g { rows = es }) fs
rows_order g fs es k a same = record {
  each = λ h s o known is own keys d.
      kept_climbs g.rows es g.numbers g.numbers keys s.member (list_at g.board.lists h)
      (λ u e. let m = member_under g s o h u k is own e in
      ap (keys_in es keys s.member) m.is ∙ same h u m.number s keys e is d m.seat
      ∙ ap (keys_in g.rows keys s.member) (sym m.is)) (a.each h s o known is own keys d);
}

revalued : (es : EntityTable) (d i : ℕ) (q : Row) (v : List ℤ) (u : Option ℕ) → ((u ≡ Some d) ⊎ (u ≡ None))
    → slice_get (rows_in es u).rows i ≡ Some q → slice_get (rows_in es u).values i ≡ Some (Some v) → q.class ≡ d
    → (u ≡ None → slice_get (rows_in es (Some d)).rows i ≡ None) → values_of es d (suc i) ≡ Some v
revalued es d i q v u (inl is) er ev ec later =
    ap (λ z. option_or z (values_in es.references d i))
    (values_there (rows_in es (Some d)) d i q v (ap (λ z. slice_get (rows_in es z).rows i) (sym is)
    ∙ er) (ap (λ z. slice_get (rows_in es z).values i) (sym is) ∙ ev) ec)
revalued es d i q v u (inr is) er ev ec later =
    ap (λ z. option_or z (values_in es.references d i))
    (let none : values_in (rows_in es (Some d)) d i ≡ None = rw (later is) refl in none)
    ∙ values_there es.references d i q v (ap (λ z. slice_get (rows_in es z).rows i) (sym is)
    ∙ er) (ap (λ z. slice_get (rows_in es z).values i) (sym is) ∙ ev) ec

-- a value written or taken out at a row
row_there : (g : StoreParts) (w : Option ℕ) (i : ℕ) (v : Option (List ℤ)) → IsTable g.rows w → (u : Option ℕ) (j : ℕ)
    → slice_get (rows_in (with_table (with_values i v) g.rows w) u).rows j ≡ slice_get (rows_in g.rows u).rows j
row_there g w i v t u j = elim (table_case (with_values i v) g.rows w u t) [
  | inl a ↦ ap (λ (z : RowTable). slice_get z.rows j) a.1
  | inr a ↦ ap (λ (z : RowTable). slice_get z.rows j) a.1
]

value_there : (g : StoreParts) (w : Option ℕ) (i : ℕ) (v : Option (List ℤ)) → IsTable g.rows w → (u : Option ℕ) (j : ℕ)
    → (u ≡ w → j ≡ i → ⊥)
    → slice_get (rows_in (with_table (with_values i v) g.rows w) u).values j ≡ slice_get (rows_in g.rows u).values j
value_there g w i v t u j far = elim (table_case (with_values i v) g.rows w u t) [
  | inl a ↦ ap (λ (z : RowTable). slice_get z.values j) a.1 ∙ get_other (rows_in g.rows u).values i j v (far a.0)
  | inr a ↦ ap (λ (z : RowTable). slice_get z.values j) a.1
]

none_there : (g : StoreParts) (w : Option ℕ) (i : ℕ) (v : Option (List ℤ)) (d : ℕ) (q : Row) (u : Option ℕ) (j : ℕ)
    → IsStore g → IsTable g.rows w → slice_get (rows_in g.rows u).rows j ≡ Some q → q.class ≡ d → u ≡ None
    → slice_get (rows_in (with_table (with_values i v) g.rows w) (Some d)).rows j ≡ None
none_there g w i v d q u j s t er ec is =
    let row : slice_get g.rows.references.rows j ≡ Some q = ap (λ z. slice_get (rows_in g.rows z).rows j) (sym is) ∙ er in
    row_there g w i v t (Some d) j ∙ ap (λ z. slice_get (rows_in g.rows (Some z)).rows j) (sym ec)
    ∙ made_none g j j q s row

-- of another entity
values_away : (g : StoreParts) (w : Option ℕ) (i : ℕ) (v : Option (List ℤ)) (d x : ℕ) (q : Row) → IsStore g
    → IsTable g.rows w → (l : Found g.rows d x q) → (l.table ≡ w → l.index ≡ i → ⊥)
    → values_of (with_table (with_values i v) g.rows w) d x ≡ values_of g.rows d x
values_away g w i v d x q s t l far =
    let es = with_table (with_values i v) g.rows w in
    ap (values_of es d) l.number
    ∙ revalued es d l.index q l.value l.table l.which (row_there g w i v t l.table l.index ∙ l.row)
    (value_there g w i v t l.table l.index far ∙ l.there) l.class
    (none_there g w i v d q l.table l.index s t l.row l.class)
    ∙ sym (values_some g.rows d x q l)

none_of : {A : Type 0} (f : A → Bool) (xs : List A) (i : ℕ) (x : A) → list_any f xs ≡ false → slice_get xs i ≡ Some x
    → f x ≡ false
none_of f [] i x e h = cc
none_of f (y ∷ xs) zero x e h = ap f (sym (some_eq h)) ∙ (elim (f y) as (λ k. (k || list_any f xs) ≡ false → k ≡ false)
    [ true ↦ λ z. cc | false ↦ λ z. refl ]) e
none_of f (y ∷ xs) (suc i) x e h = none_of f xs i x ((elim (f y) as (λ k. (k || list_any f xs) ≡ false
    → list_any f xs ≡ false) [ true ↦ λ z. cc | false ↦ λ z. z ]) e) h

-- whose row it is
same_row : (g : StoreParts) (w u : Option ℕ) (i j : ℕ) (r q : Row) → slice_get (rows_in g.rows w).rows i ≡ Some r
    → slice_get (rows_in g.rows u).rows j ≡ Some q → u ≡ w → j ≡ i → q ≡ r
same_row g w u i j r q er eq a b = some_eq (sym eq ∙ (λ n. slice_get (rows_in g.rows (a n)).rows (b n)) ∙ er)

pub ended_order : (g : StoreParts) (fs : List Bool) (c k n : ℕ) (r : Row) (es : EntityTable) (b : Bool)
    (sets : List SetShape) → IsStore g → AreInOrder g fs → Lives g c k r → n ≡ k - 1
    → es ≡ with_table (with_values n None) g.rows None → sets ≡ g.tables.sets
    → b ≡ list_any (stands g c r) sets → b ≡ false → AreInOrder (record g { rows = es }) fs
ended_order g fs c k n r es b sets s a l en ee es_is eb e =
    let at : n ≡ l.index = let z = l.number in omega (arith, en, z) in
    let none : list_any (stands g c r) g.tables.sets ≡ false = ap (list_any (stands g c r)) (sym es_is) ∙ sym eb ∙ e in
    subst (λ z. AreInOrder (record g { rows = z }) fs)
    (sym (ee ∙ ap (λ z. with_table (with_values z None) g.rows None) at))
    (rows_order g fs (with_table (with_values l.index None) g.rows None) s a (λ h u m p keys there is d seat.
    let q = map_some (row_of g.rows p.member m) (λ (z : Row). z.seat + p.slot) u seat in
    let f = found g.rows p.member m q.0 q.1 in
    ap (λ o. key_values keys (unwrap_or o []))
    (values_away g None l.index None p.member m q.0 s tt f (λ ta ia.
    let same = same_row g None f.table l.index f.index r q.0 l.row f.row ta ia in
    let class : p.member ≡ c = sym f.class ∙ ap (λ (z : Row). z.class) same ∙ l.class in
    let at_u : r.seat + p.slot ≡ u = ap (λ (z : Row). z.seat + p.slot) (sym same) ∙ q.2 in
    let out : stands g c r p ≡ false = none_of (stands g c r) g.tables.sets is.0 p none is.1 in
    let in_list : head_of g.board.lists (r.seat + p.slot) ≡ Some h = ap (head_of g.board.lists) at_u
    ∙ head_of-list_at g.board.lists h u there (s.sound.once u) in
    let mine : (p.member == c) ≡ true = subst (λ z. (p.member == z) ≡ true) class (grind (arith, nat_tests)) in
    let there_is : stands g c r p ≡ true = rw (mine, in_list) refl in
    cc))))

-- of the same entity, or of another
written_or_not : (g : StoreParts) (w : Option ℕ) (i d x : ℕ) (q : Row) (l : Found g.rows d x q)
    → ((l.table ≡ w) × (l.index ≡ i)) ⊎ (l.table ≡ w → l.index ≡ i → ⊥)
written_or_not g w i d x q l = elim (table_same l.table w) [
  | inl a ↦ elim (is_or_not l.index i) [ inl b ↦ inl (a, b) | inr b ↦ inr (λ y z. b z) ]
  | inr a ↦ inr (λ y z. a y)
]

value_here : (g : StoreParts) (w : Option ℕ) (i : ℕ) (v before : List ℤ) → IsTable g.rows w → (u : Option ℕ) (j : ℕ)
    → slice_get (rows_in g.rows w).values i ≡ Some (Some before) → u ≡ w → j ≡ i
    → slice_get (rows_in (with_table (with_values i (Some v)) g.rows w) u).values j ≡ Some (Some v)
value_here g w i v before t u j was a b =
    (λ n. slice_get (rows_in (with_table (with_values i (Some v)) g.rows w) (a n)).values (b n))
    ∙ ap (λ (z : RowTable). slice_get z.values i) (table_here (with_values i (Some v)) g.rows w t)
    ∙ get_set (rows_in g.rows w).values i (Some v) (Some before) was

some_values : (g : StoreParts) (w : Option ℕ) (i : ℕ) (u : Option ℕ) (j : ℕ) (x y : List ℤ)
    → slice_get (rows_in g.rows u).values j ≡ Some (Some x) → slice_get (rows_in g.rows w).values i ≡ Some (Some y)
    → u ≡ w → j ≡ i → ◌≡◌ {A = Option (List ℤ)} (Some x) (Some y)
some_values g w i u j x y ex ey a b = some_eq (sym ex ∙ (λ n. slice_get (rows_in g.rows (a n)).values (b n)) ∙ ey)

-- the test of the second loop
abbrev pub ranks : StoreParts → ℕ → ℕ → Row → SetShape → Bool
ranks g c a r s = (s.member == c) && is_key s a && is_some (head_of g.board.lists (r.seat + s.slot))

index_other : (xs : List ℤ) (i j : ℕ) (x d : ℤ) → (j == i) ≡ false → slice_index_or (set xs i x) j d
    ≡ slice_index_or xs j d
index_other [] i j x d e = refl
index_other (y ∷ xs) zero zero x d e = cc
index_other (y ∷ xs) zero (suc j) x d e = refl
index_other (y ∷ xs) (suc i) zero x d e = refl
index_other (y ∷ xs) (suc i) (suc j) x d e = index_other xs i j x d
    (let w : (suc j == suc i) ≡ false = e in grind (arith, nat_tests, w))

keys_apart : (keys : List Key) (v : List ℤ) (a : ℕ) (x : ℤ) → list_any (λ (k : Key). k.attribute == a) keys ≡ false
    → key_values keys (set v a x) ≡ key_values keys v
keys_apart [] v a x e = refl
keys_apart (k ∷ keys) v a x e =
    let here : (k.attribute == a) ≡ false = none_of (λ (z : Key). z.attribute == a) (k ∷ keys) 0 k e refl in
    let later : list_any (λ (z : Key). z.attribute == a) keys ≡ false = rw here at e in
    λ i. index_other v a k.attribute x (pos 0) here i ∷ keys_apart keys v a x later i

unset_order : (g : StoreParts) (fs : List Bool) (c k n a : ℕ) (x : ℤ) (r : Row) (shape : ClassShape)
    (es : EntityTable) (sets : List SetShape) → IsStore g → AreInOrder g fs → (l : Lies g c k shape)
    → row_of g.rows c k ≡ Some r → n ≡ k - 1
    → es ≡ with_table (with_values n (Some (set l.value a x))) g.rows (numbering_by shape.permanent c)
    → sets ≡ g.tables.sets → list_any (ranks g c a r) sets ≡ false → AreInOrder (record g { rows = es }) fs
unset_order g fs c k n a x r shape es sets s o l er en ee es_is none_of_them =
    let w = numbering_by shape.permanent c in
    let v = set l.value a x in
    let at : n ≡ l.index = let z = l.number in omega (arith, en, z) in
    let none : list_any (ranks g c a r) g.tables.sets ≡ false = ap (list_any (ranks g c a r)) (sym es_is) ∙ none_of_them in
    subst (λ z. AreInOrder (record g { rows = z }) fs)
    (sym (ee ∙ ap (λ z. with_table (with_values z (Some v)) g.rows w) at))
    (rows_order g fs (with_table (with_values l.index (Some v)) g.rows w) s o (λ h u m p keys there is d seat.
    let q = map_some (row_of g.rows p.member m) (λ (z : Row). z.seat + p.slot) u seat in
    let f = found g.rows p.member m q.0 q.1 in
    elim (written_or_not g w l.index p.member m q.0 f) [
      | inr far ↦ ap (λ z. key_values keys (unwrap_or z [])) (values_away g w l.index (Some v) p.member m q.0 s l.table f far)
      | inl z ↦
          let same = same_row g w f.table l.index f.index l.row q.0 l.there f.row z.0 z.1 in
          let class : p.member ≡ c = sym f.class ∙ ap (λ (y : Row). y.class) same ∙ l.class in
          let number : m ≡ k = f.number ∙ ap suc z.1 ∙ sym l.number in
          let mine : q.0 ≡ r = some_eq (sym q.1 ∙ (λ i. row_of g.rows (class i) (number i)) ∙ er) in
          let at_u : r.seat + p.slot ≡ u = ap (λ (y : Row). y.seat + p.slot) (sym mine) ∙ q.2 in
          let in_list : head_of g.board.lists (r.seat + p.slot) ≡ Some h = ap (head_of g.board.lists) at_u
          ∙ head_of-list_at g.board.lists h u there (s.sound.once u) in
          let ours : (p.member == c) ≡ true = subst (λ y. (p.member == y) ≡ true) class (grind (arith, nat_tests)) in
          let out : ranks g c a r p ≡ false = none_of (ranks g c a r) g.tables.sets is.0 p none is.1 in
          let key : is_key p a ≡ false = (elim (is_key p a) as (λ y. is_key p a ≡ y → y ≡ false) [
            | true ↦ λ e. absurd (let bad : ranks g c a r p ≡ true = rw (ours, e, in_list) refl in cc)
            | false ↦ λ e. refl
          ]) refl in
          let apart = keys_apart keys l.value a x (ap (λ y. is_key_by y a) (sym d) ∙ key) in
          let was : values_of g.rows p.member m ≡ Some l.value = values_some g.rows p.member m q.0 f
          ∙ (some_values g w l.index f.table f.index f.value l.value f.there l.was z.0 z.1) in
          let now : values_of (with_table (with_values l.index (Some v)) g.rows w) p.member m ≡ Some v =
          ap (values_of (with_table (with_values l.index (Some v)) g.rows w) p.member) f.number
          ∙ revalued (with_table (with_values l.index (Some v)) g.rows w) p.member f.index q.0 v f.table f.which
          (row_there g w l.index (Some v) l.table f.table f.index ∙ f.row)
          (value_here g w l.index v l.value l.table f.table f.index l.was z.0 z.1) f.class
          (none_there g w l.index (Some v) p.member q.0 f.table f.index s l.table f.row f.class) in
          ap (λ y. key_values keys (unwrap_or y [])) now ∙ apart
          ∙ sym (ap (λ y. key_values keys (unwrap_or y [])) was)
    ]))

pub set_order : (g : StoreParts) (fs new : List Bool) (c k n a : ℕ) (x : ℤ) (r : Row) (shape : ClassShape)
    (es : EntityTable) (b : Bool) (sets : List SetShape) → IsStore g → AreInOrder g fs → (l : Lies g c k shape)
    → row_of g.rows c k ≡ Some r → n ≡ k - 1
    → es ≡ with_table (with_values n (Some (set l.value a x))) g.rows (numbering_by shape.permanent c)
    → sets ≡ g.tables.sets → b ≡ list_any (ranks g c a r) sets → (b ≡ true → (h : ℕ) → known_at new h ≡ false)
    → (b ≡ false → new ≡ fs) → AreInOrder (record g { rows = es }) new
set_order g fs new c k n a x r shape es b sets s o l er en ee es_is eb forgotten stays =
    (elim b as (λ y. b ≡ y → AreInOrder (record g { rows = es }) new) [
      | true ↦ λ e. none_known (record g { rows = es }) new (forgotten e)
      | false ↦ λ e. subst (AreInOrder (record g { rows = es })) (sym (stays e))
          (unset_order g fs c k n a x r shape es sets s o l er en ee es_is (sym eb ∙ e))
    ]) refl

-- ---- growing

values_more : (g : StoreParts) (w : Option ℕ) (c : ℕ) (shape : ClassShape) (v : List ℤ) (d x : ℕ) (q : Row) → IsStore g
    → Grows g w c shape v → row_of g.rows d x ≡ Some q
    → values_of (with_next_entity g w c shape v).rows d x ≡ values_of g.rows d x
values_more g w c shape v d x q s gr e =
    let l = found g.rows d x q e in
    let es = (with_next_entity g w c shape v).rows in
    ap (values_of es d) l.number
    ∙ revalued es d l.index q l.value l.table l.which (row_kept g w c shape v gr.table l.table l.index q l.row)
    (value_kept g w c shape v gr.table l.table l.index (Some l.value) l.there) l.class
    (λ is.
    let row : slice_get g.rows.references.rows l.index ≡ Some q =
    ap (λ z. slice_get (rows_in g.rows z).rows l.index) (sym is) ∙ l.row in
    given_none g w c shape v gr d l.index (ap (λ z. (class_of g.tables z).permanent) (sym l.class)
    ∙ s.not_permanent l.index q row)
    (ap (λ z. slice_get (rows_in g.rows (Some z)).rows l.index) (sym l.class) ∙ made_none g l.index l.index q s row))
    ∙ sym (values_some g.rows d x q l)

grown_order : (g : StoreParts) (fs new : List Bool) (w : Option ℕ) (c : ℕ) (shape : ClassShape) (v : List ℤ) → IsStore g
    → Grows g w c shape v → ((h : ℕ) → known_at new h ≡ true → known_at fs h ≡ true) → AreInOrder g fs
    → AreInOrder (with_next_entity g w c shape v) new
grown_order g fs new w c shape v s gr fewer a = record {
  each = λ h p o known is own keys d.
      let list : list_at (with_next_entity g w c shape v).board.lists h ≡ list_at g.board.lists h =
      list_more g.board.lists shape.owned h in
      let after = seat_after (with_next_entity g w c shape v).rows (with_next_entity g w c shape v).numbers keys p.member in
      subst (Climbs after) (sym list) (elim (split_get g.owners _ h _ own) [
        | inl old ↦ kept_climbs g.rows (with_next_entity g w c shape v).rows g.numbers
            (with_next_entity g w c shape v).numbers keys p.member (list_at g.board.lists h) (λ u e.
            let m = member_under g p o h u s is old e in
            let q = map_some (row_of g.rows p.member m.number) (λ (z : Row). z.seat + p.slot) u m.seat in
            let lt = seat_below g p m.number u s is m.seat in
            let n = numbers_length g s in
            ap (keys_in (with_next_entity g w c shape v).rows keys p.member)
            (index_left g.numbers _ u (omega (arith, lt, n)) ∙ m.is)
            ∙ ap (λ z. key_values keys (unwrap_or z [])) (values_more g w c shape v p.member m.number q.0 s gr q.1)
            ∙ ap (keys_in g.rows keys p.member) (sym m.is)) (a.each h p o (fewer h known) is old keys d)
        | inr z ↦
            let past : length g.board.lists ≤ h = let e = z.1 in let n = s.heads in omega (arith, e, n) in
            subst (Climbs after) (sym (list_past g.board.lists h past)) tt
      ]);
}

pub added_order : (g : StoreParts) (v : StoreValue) (fs new : List Bool) (c : ℕ) (shape : ClassShape) (row : Row)
    (es : EntityTable) (ns : List ℕ) (b : Board) → At g v c shape → HasRoom c v → Adds g c shape row es ns b
    → ((h : ℕ) → known_at new h ≡ true → known_at fs h ≡ true) → AreInOrder g fs
    → AreInOrder (added g c shape es ns b) new
added_order g v fs new c shape row es ns b k room d fewer a =
    subst (λ z. AreInOrder z new) (sym (added_is g c shape row es ns b d))
    (grown_order g fs new (numbering_by shape.permanent c) c shape (replicate shape.attributes (pos 0)) k.store
    (grows g v c shape k room) fewer a)

pub kept_order : (g : StoreParts) (fs new : List Bool) (es : EntityTable) (ns : List ℕ) (b : Board) → es ≡ g.rows
    → ns ≡ g.numbers → b ≡ g.board → ((h : ℕ) → known_at new h ≡ true → known_at fs h ≡ true) → AreInOrder g fs
    → AreInOrder (record { tables = g.tables; rows = es; numbers = ns; owners = g.owners; members = g.members; board = b })
    new
kept_order g fs new es ns b e f k fewer a = subst (λ z. AreInOrder z new) (λ i. record {
  tables = g.tables;
  rows = sym e i;
  numbers = sym f i;
  owners = g.owners;
  members = g.members;
  board = sym k i;
}) (fewer_known g fs new fewer a)
