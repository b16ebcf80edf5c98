-- The sections of routines and event classes are found by their numbers.
use Rattle.std.proofs.Common.{◌≡◌, ◌⊎◌, ℕ, zero, suc, ◌+◌, Bool, true, false, cond, List, [], ◌∷◌, ◌++◌, length, refl}
use Rattle.std.proofs.Common.{sym, ap, ◌∙◌, subst, arith, Some}
use Rattle.std.specs.Prelude.{map, bytes_eq, option_map, slice_get}
use Rattle.std.specs.List.{flat_map, find}
use mathlib.Core.Logic.{inl, inr}
use Rattle.std.proofs.lemmas.Slice.Eq.{bytes_eq-Decides}
use Rattle.ss_words.specs.Lists.{Name}
use Rattle.ss_routines.specs.Tree.{Head, MainHead, RoutineHead, EventHead}
use Rattle.ss_routines.specs.Places.{Section}
use Rattle.ss_program.specs.Program.{is_routine_kind, is_event_kind}
use Rattle.ss_check.specs.Facts.{Fact, fact, fact_of}
use Rattle.ss_check.specs.NameKind.{NameKind}
use Rattle.ss_check.specs.Declarations.{Counts}
use Rattle.ss_check.specs.Declarations.{Declared}
use Rattle.ss_check.specs.Declarations.{HeadedItem, heads, events_in, routine_facts, routine_counts, counts_of}
use Rattle.ss_check.specs.Declarations.{yielded_of, is_main, declared_by}
use Rattle.ss_check.specs.ResolvedNames.{section_numbers}
use Rattle.ss_check.specs.Resolved.{section_kind}
use Rattle.ss_check.proofs.SoundLists.{In}
use Rattle.ss_check.proofs.SoundCompanions.{routine_names}
use Rattle.ss_check.proofs.SoundStatements.{IsHeadKept, ArePlacesKept, AreSectionsKept}

-- a name's number in a table is that of a section, of which P holds
pub record IsFound (table : List (Fact ℕ)) (i : ℕ) (n : Name) (qs : List Section) (P : Head → Type 0) : Type 0 where
  pub place : ℕ
  pub number : fact_of table n ≡ Some (i + place)
  pub section : Section
  pub there : slice_get qs place ≡ Some section
  pub holds : P section.head

get_behind : (q : Section) (qs : List Section) (k : ℕ) → slice_get (q ∷ qs) (k + 1) ≡ slice_get qs k
get_behind q qs k = let z : k + 1 ≡ suc k = omega arith in ap (slice_get (q ∷ qs)) z

some_same : (i j : ℕ) → i ≡ j → Some i ≡ Some j
some_same i j e = ap (λ (k : ℕ). Some k) e

-- found after one more section; the table says nothing of the name for that one
one_on : (table : List (Fact ℕ)) (i : ℕ) (n : Name) (q : Section) (qs : List Section) (P : Head → Type 0) →
    IsFound table (i + 1) n qs P →
    IsFound table i n (q ∷ qs) P
one_on table i n q qs P f = record {
  place = f.place + 1;
  number = f.number ∙ some_same (i + 1 + f.place) (i + (f.place + 1)) (omega arith);
  section = f.section;
  there = get_behind q qs f.place ∙ f.there;
  holds = f.holds;
}

-- the first fact is of another name, or of this one
first_or : (m : Name) (i : ℕ) (rest : List (Fact ℕ)) (n : Name) (q : Section) (qs : List Section) (P : Head → Type 0) →
    (n ≡ m → P q.head) →
    (n ≡ m) ⊎ Unit {0} → ((n ≡ m → ⊥) → IsFound rest (i + 1) n qs P) → IsFound (fact m i ∷ rest) i n (q ∷ qs) P
first_or m i rest n q qs P p h rec = by (bytes_eq n m) refl
  where
    by : (b : Bool) → bytes_eq n m ≡ b → IsFound (fact m i ∷ rest) i n (q ∷ qs) P
    by true e = record {
      place = 0;
      number =
          ap (λ (c : Bool). option_map (λ (f : Fact ℕ). f.what)
          (cond c (Some (fact m i)) (find (λ (f : Fact ℕ). bytes_eq n f.name) rest))) e
          ∙ some_same i (i + 0) (omega arith);
      section = q;
      there = refl;
      holds = p ((bytes_eq-Decides n m).0 e);
    }
    by false e =
        let f = rec (λ s. let t = (bytes_eq-Decides n m).1 s in cc) in
        let g = one_on rest i n q qs P f in
        record {
          place = g.place;
          number =
              ap (λ (c : Bool). option_map (λ (f : Fact ℕ). f.what)
              (cond c (Some (fact m i)) (find (λ (f : Fact ℕ). bytes_eq n f.name) rest))) e
              ∙ g.number;
          section = g.section;
          there = g.there;
          holds = g.holds;
        }

-- ---- events

-- the section of an event
pub record IsEventHead (n : Name) (h : Head) : Type 0 where
  pub names : In n (events_in h)
  pub kind : is_event_kind (section_kind h) ≡ true
  pub yielded : length (yielded_of h) ≡ 0

pub event_found : (qs : List Section) (i : ℕ) (n : Name) → In n (flat_map events_in (heads qs)) →
    IsFound (section_numbers i (map events_in (heads qs)) (λ m. m)) i n qs (IsEventHead n)
event_found [] i n h = absurd h
event_found (q ∷ qs) i n h = by q.head refl h (λ k. event_found qs (i + 1) n k)
  where
    by : (hd : Head) → q.head ≡ hd → In n (events_in hd ++ flat_map events_in (heads qs)) →
        (In n (flat_map events_in (heads qs)) →
        IsFound (section_numbers (i + 1) (map events_in (heads qs)) (λ m. m)) (i + 1) n qs (IsEventHead n)) →
        IsFound (map (λ m. fact m i) (events_in hd) ++ section_numbers (i + 1) (map events_in (heads qs)) (λ m. m)) i n
        (q ∷ qs) (IsEventHead n)
    by MainHead e k rec =
        one_on (section_numbers (i + 1) (map events_in (heads qs)) (λ m. m)) i n q qs (IsEventHead n) (rec k)
    by (RoutineHead m given yielded) e k rec =
        one_on (section_numbers (i + 1) (map events_in (heads qs)) (λ m. m)) i n q qs (IsEventHead n) (rec k)
    by (EventHead m given saving) e k rec =
        first_or m i (section_numbers (i + 1) (map events_in (heads qs)) (λ m. m)) n q qs (IsEventHead n)
        (λ s. subst (IsEventHead n) (sym e) (record { names = inl s; kind = refl; yielded = refl })) (inr tt)
        (λ a. rec (other k a))
      where
        other : (n ≡ m) ⊎ In n (flat_map events_in (heads qs)) → (n ≡ m → ⊥) → In n (flat_map events_in (heads qs))
        other (inl s) a = absurd (a s)
        other (inr x) a = x

-- ---- routines

-- the first section of a routine, with the counts that the tables say of it
pub record IsRoutineHead (counts : List (Fact Counts)) (n : Name) (h : Head) : Type 0 where
  pub names : In n (routine_names h)
  pub kind : is_routine_kind (section_kind h) ≡ true
  pub says : fact_of counts n ≡ Some (counts_of h)

-- the same with one more fact before, of another name
routine_on : (m : Name) (c : Counts) (counts : List (Fact Counts)) (n : Name) (h : Head) → (n ≡ m → ⊥) →
    IsRoutineHead counts n h →
    IsRoutineHead (fact m c ∷ counts) n h
routine_on m c counts n h a r = by (bytes_eq n m) refl
  where
    by : (b : Bool) → bytes_eq n m ≡ b → IsRoutineHead (fact m c ∷ counts) n h
    by true e = absurd (a ((bytes_eq-Decides n m).0 e))
    by false e = record {
      names = r.names;
      kind = r.kind;
      says =
          ap (λ (b : Bool). option_map (λ (f : Fact Counts). f.what)
          (cond b (Some (fact m c)) (find (λ (f : Fact Counts). bytes_eq n f.name) counts))) e
          ∙ r.says;
    }

routine_first : (m : Name) (c : Counts) (counts : List (Fact Counts)) (n : Name) → n ≡ m →
    fact_of (fact m c ∷ counts) n ≡ Some c
routine_first m c counts n e =
    ap (λ (b : Bool). option_map (λ (f : Fact Counts). f.what)
    (cond b (Some (fact m c)) (find (λ (f : Fact Counts). bytes_eq n f.name) counts)))
    ((bytes_eq-Decides n m).1 e)

pub routine_found : (qs : List Section) (i : ℕ) (n : Name) → In n (flat_map routine_names (heads qs)) →
    IsFound (section_numbers i (map routine_facts (heads qs)) (λ f. f.name)) i n qs
    (IsRoutineHead (flat_map routine_counts (heads qs)) n)
routine_found [] i n h = absurd h
routine_found (q ∷ qs) i n h = by q.head refl h (λ k. routine_found qs (i + 1) n k)
  where
    by : (hd : Head) → q.head ≡ hd → In n (routine_names hd ++ flat_map routine_names (heads qs)) →
        (In n (flat_map routine_names (heads qs)) →
        IsFound (section_numbers (i + 1) (map routine_facts (heads qs)) (λ f. f.name)) (i + 1) n qs
        (IsRoutineHead (flat_map routine_counts (heads qs)) n)) →
        IsFound (map (λ (f : Fact NameKind). fact f.name i) (routine_facts hd)
        ++ section_numbers (i + 1) (map routine_facts (heads qs)) (λ f. f.name)) i n (q ∷ qs)
        (IsRoutineHead (routine_counts hd ++ flat_map routine_counts (heads qs)) n)
    by MainHead e k rec =
        one_on (section_numbers (i + 1) (map routine_facts (heads qs)) (λ f. f.name)) i n q qs
        (IsRoutineHead (flat_map routine_counts (heads qs)) n) (rec k)
    by (EventHead m given saving) e k rec =
        one_on (section_numbers (i + 1) (map routine_facts (heads qs)) (λ f. f.name)) i n q qs
        (IsRoutineHead (flat_map routine_counts (heads qs)) n) (rec k)
    by (RoutineHead m given yielded) e k rec =
        let c = counts_of (RoutineHead m given yielded) in
        let cs = flat_map routine_counts (heads qs) in
        first_or m i (section_numbers (i + 1) (map routine_facts (heads qs)) (λ f. f.name)) n q qs
        (IsRoutineHead (fact m c ∷ cs) n)
        (λ s. subst (IsRoutineHead (fact m c ∷ cs) n) (sym e)
        (record { names = inl s; kind = refl; says = routine_first m c cs n s })) (inr tt)
        (λ a. let f = rec (other k a) in
        record {
          place = f.place;
          number = f.number;
          section = f.section;
          there = f.there;
          holds = routine_on m c cs n f.section.head a f.holds;
        })
      where
        other : (n ≡ m) ⊎ In n (flat_map routine_names (heads qs)) → (n ≡ m → ⊥) →
            In n (flat_map routine_names (heads qs))
        other (inl s) a = absurd (a s)
        other (inr x) a = x

-- ---- sections

pub slice_in : {X : Type 0} (xs : List X) (k : ℕ) (x : X) → slice_get xs k ≡ Some x → In x xs
slice_in [] k x h = cc
slice_in (y ∷ ys) zero x h = inl (taken y x h)
  where
    taken : {X : Type 0} (y x : X) → Some y ≡ Some x → x ≡ y
    taken y x h = cc
slice_in (y ∷ ys) (suc k) x h = inr (slice_in ys k x h)

-- each section is kept
pub section_at : (d : Declared) (xs : List HeadedItem) (before : List Head) (ss : List Section) (q : Section) →
    AreSectionsKept d xs before ss → In q ss →
    (b : Declared) × IsHeadKept d b q.head × ArePlacesKept d (is_main q.head) q.places
section_at d xs before [] q h i = absurd i
section_at d xs before (s ∷ ss) q h (inl e) = (
  declared_by xs before,
  subst (λ (z : Section). IsHeadKept d (declared_by xs before) z.head) (sym e) h.0,
  subst (λ (z : Section). ArePlacesKept d (is_main z.head) z.places) (sym e) h.1,
)
section_at d xs before (s ∷ ss) q h (inr i) = section_at d xs (before ++ s.head ∷ []) ss q h.2 i
