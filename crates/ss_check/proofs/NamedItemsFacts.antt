-- The facts that items say once: each set's owner, members and discipline, and the keys of each
-- event class's ties.
use Rattle.std.proofs.Common.{◌≡◌, Bool, true, false, ◌||◌, cond, List, [], ◌∷◌, ◌++◌, refl, sym, ap, ◌∙◌, subst}
use Rattle.std.proofs.Common.{Option, Some, None, append_assoc}
use Rattle.std.specs.Prelude.{map, bytes_eq, option_map}
use Rattle.std.specs.List.{AllByRecursion, IsDistinct, filter, find, flat_map}
use mathlib.Core.Logic.{inl, inr}
use Rattle.std.proofs.lemmas.Bool.{or_parts}
use Rattle.std.proofs.lemmas.List.{append-nil, map-append}
use Rattle.std.proofs.lemmas.Slice.Eq.{bytes_eq-Decides}
use Rattle.ss_words.specs.Lists.{Name, all_of}
use Rattle.ss_preamble.specs.Tree.{Variables, Sets, PriorityOrder, BreakTies, ExternalEvents, Item, Normally, Headed}
use Rattle.ss_preamble.specs.Tree.{OfEvery, OfSystem, Defines, Orders}
use Rattle.ss_check.specs.Facts.{Fact, is_among, repeats, fact, fact_of, names_of}
use Rattle.ss_check.specs.Declarations.{Declared}
use Rattle.ss_check.specs.Declarations.{HeadedItem, owners_in, members_in, disciplines_in, disciplined_sets, ties_in}
use Rattle.ss_check.specs.Declarations.{tied_events}
use Rattle.ss_check.specs.NamedItems.{said_of}
use Rattle.ss_check.proofs.SoundLists.{In, apart_from, AreApart}
use Rattle.ss_check.proofs.SoundItems.{flat_more}
use Rattle.ss_check.proofs.SoundStatements.{AreItemsKept}

-- ---- the facts that are said once of a name

-- the fact that is said, as a list of it
abbrev pub some_list : {A : Type 0} → Option A → List A
some_list None = []
some_list (Some a) = a ∷ []

-- whether a fact is of this name
abbrev pub of_name : {A : Type 0} → Name → Fact A → Bool
of_name n f = bytes_eq n f.name

-- none of these names is this one
abbrev AreOthers : Name → List Name → Type 0
AreOthers n ms = AllByRecursion (λ m. bytes_eq n m ≡ false) ms

said_none : {A : Type 0} (fs : List (Fact A)) (n : Name) → AreOthers n (names_of fs) → said_of fs n ≡ []
said_none [] n h = refl
said_none {A = A} (f ∷ fs) n h = by (bytes_eq n f.name) h.0 (said_none fs n h.1)
  where
    by : (b : Bool) → b ≡ false → said_of fs n ≡ [] →
        map (λ (g : Fact A). g.what) (cond b (f ∷ filter (of_name n) fs) (filter (of_name n) fs)) ≡ []
    by true e rest = cc
    by false e rest = rest

said_once : {A : Type 0} (fs : List (Fact A)) (n : Name) → AreApart (names_of fs) →
    said_of fs n ≡ some_list (fact_of fs n)
unfolding IsDistinct
said_once [] n a = refl
said_once {A = A} (f ∷ fs) n a = by (bytes_eq n f.name) refl (said_once fs n a.1)
  where
    others : n ≡ f.name → AreOthers n (names_of fs)
    others e = subst (λ (m : Name). AreOthers m (names_of fs)) (sym e) a.0

    by : (b : Bool) → bytes_eq n f.name ≡ b → said_of fs n ≡ some_list (fact_of fs n) →
        map (λ (g : Fact A). g.what) (cond b (f ∷ filter (of_name n) fs) (filter (of_name n) fs))
        ≡ some_list (option_map (λ (g : Fact A). g.what) (cond b (Some f) (find (of_name n) fs)))
    by true e rest =
        ap (λ (ws : List A). f.what ∷ ws) (said_none fs n (others ((bytes_eq-Decides n f.name).0 e)))
    by false e rest = rest

-- a fact that is said of a name is one of the facts
pub said_in : {A : Type 0} (fs : List (Fact A)) (n : Name) (w : A) → In w (said_of fs n) → In (fact n w) fs
said_in [] n w h = absurd h
said_in {A = A} (f ∷ fs) n w h = by (bytes_eq n f.name) refl (λ g. said_in fs n w g) h
  where
    same : (m : Name) (x : A) → n ≡ m → w ≡ x → fact n w ≡ fact m x
    same m x e g = ap (λ (o : Name). fact o w) e ∙ ap (fact m) g

    by : (b : Bool) → bytes_eq n f.name ≡ b → (In w (said_of fs n) → In (fact n w) fs) →
        In w (map (λ (g : Fact A). g.what) (cond b (f ∷ filter (of_name n) fs) (filter (of_name n) fs))) →
        In (fact n w) (f ∷ fs)
    by true e rest (inl g) = inl (same f.name f.what ((bytes_eq-Decides n f.name).0 e) g)
    by true e rest (inr g) = inr (rest g)
    by false e rest g = inr (rest g)

-- ---- names that items write once

names_flat : {X A : Type 0} (f : X → List (Fact A)) (g : X → List Name) (zs : List X) →
    ((z : X) → names_of (f z) ≡ g z) → names_of (flat_map f zs) ≡ flat_map g zs
names_flat f g [] h = refl
names_flat {A = A} f g (z ∷ zs) h =
    map-append (λ (x : Fact A). x.name) (f z) (flat_map f zs)
    ∙ ap (λ (ns : List Name). ns ++ names_of (flat_map f zs)) (h z)
    ∙ ap (λ (ns : List Name). g z ++ ns) (names_flat f g zs h)

or_false : (a b : Bool) → a ≡ false → b ≡ false → (a || b) ≡ false
or_false true b e g = cc
or_false false b e g = g

repeats_both : (before ms ns : List Name) → repeats before ms ≡ false → repeats (before ++ ms) ns ≡ false →
    repeats before (ms ++ ns) ≡ false
repeats_both before [] ns h g = subst (λ (ks : List Name). repeats ks ns ≡ false) (append-nil before) g
repeats_both before (m ∷ ms) ns h g =
    let next = before ++ m ∷ [] in
    let p = or_parts (is_among m before) (repeats next ms) h in
    let behind = subst (λ (ks : List Name). repeats ks ns ≡ false) (sym (append_assoc before (m ∷ []) ms)) g in
    or_false (is_among m before) (repeats next (ms ++ ns)) p.0 (repeats_both next ms ns p.1 behind)

-- no item repeats a name
abbrev AreOnce : (HeadedItem → List Name) → List HeadedItem → List HeadedItem → Type 0
AreOnce f before [] = Unit {0}
AreOnce f before (x ∷ xs) = (repeats (flat_map f before) (f x) ≡ false) × AreOnce f (before ++ x ∷ []) xs

once_behind : (f : HeadedItem → List Name) (before xs : List HeadedItem) → AreOnce f before xs →
    repeats (flat_map f before) (flat_map f xs) ≡ false
once_behind f before [] h = refl
once_behind f before (x ∷ xs) h =
    let rest = once_behind f (before ++ x ∷ []) xs h.1 in
    repeats_both (flat_map f before) (f x) (flat_map f xs) h.0
    (subst (λ (ks : List Name). repeats ks (flat_map f xs) ≡ false) (flat_more f before x) rest)

-- if items repeat no name, each of their facts is said once
facts_once : {A : Type 0} (g : HeadedItem → List (Fact A)) (f : HeadedItem → List Name) (xs : List HeadedItem) →
    ((x : HeadedItem) → names_of (g x) ≡ f x) → AreOnce f [] xs → (n : Name) →
    said_of (flat_map g xs) n ≡ some_list (fact_of (flat_map g xs) n)
facts_once g f xs e h n =
    let apart = apart_from (flat_map f xs) (once_behind f [] xs h) in
    said_once (flat_map g xs) n (subst AreApart (sym (names_flat g f xs e)) apart)

-- ---- owners, members, disciplines and ties

abbrev owners : HeadedItem → List (Fact (Option Name))
owners x = owners_in x.item

abbrev members : HeadedItem → List (Fact Name)
members x = members_in x.item

-- the contents of the items before, as facts and as names
before_again : {A : Type 0} (g : HeadedItem → List (Fact A)) (before : List HeadedItem) (ns : List Name) →
    repeats (names_of (flat_map g before)) ns ≡ false → repeats (flat_map (λ x. names_of (g x)) before) ns ≡ false
before_again g before ns h =
    subst (λ (ks : List Name). repeats ks ns ≡ false) (names_flat g (λ x. names_of (g x)) before (λ x. refl)) h

mapped_names : {A : Type 0} (w : A) (ns : List Name) → names_of (map (λ n. fact n w) ns) ≡ ns
mapped_names w [] = refl
mapped_names w (n ∷ ns) = ap (λ (ms : List Name). n ∷ ms) (mapped_names w ns)

discipline_names : (i : Item) → names_of (disciplines_in i) ≡ disciplined_sets i
discipline_names Normally = refl
discipline_names (Headed g ns) = refl
discipline_names (OfEvery c cs) = refl
discipline_names (OfSystem cs) = refl
discipline_names (Defines (Variables ns)) = refl
discipline_names (Defines (Sets ns kind)) = mapped_names kind (all_of ns)
discipline_names (Orders r) = refl

tie_names : (i : Item) → names_of (ties_in i) ≡ tied_events i
tie_names Normally = refl
tie_names (Headed g ns) = refl
tie_names (OfEvery c cs) = refl
tie_names (OfSystem cs) = refl
tie_names (Defines z) = refl
tie_names (Orders (PriorityOrder ns)) = refl
tie_names (Orders (BreakTies c keys)) = refl
tie_names (Orders (ExternalEvents ns)) = refl

module _ (d : Declared) where
  once_owners : (before xs : List HeadedItem) → AreItemsKept d before xs → AreOnce (λ x. names_of (owners x)) before xs
  once_owners before [] h = tt
  once_owners before (x ∷ xs) h =
      let i = h.0 in
      (before_again owners before (names_of (owners x)) i.owners, once_owners (before ++ x ∷ []) xs h.1)

  once_members : (before xs : List HeadedItem) → AreItemsKept d before xs →
      AreOnce (λ x. names_of (members x)) before xs
  once_members before [] h = tt
  once_members before (x ∷ xs) h =
      let i = h.0 in
      (before_again members before (names_of (members x)) i.members, once_members (before ++ x ∷ []) xs h.1)

  once_disciplines : (before xs : List HeadedItem) → AreItemsKept d before xs →
      AreOnce (λ x. disciplined_sets x.item) before xs
  once_disciplines before [] h = tt
  once_disciplines before (x ∷ xs) h = let i = h.0 in (i.disciplines, once_disciplines (before ++ x ∷ []) xs h.1)

  once_ties : (before xs : List HeadedItem) → AreItemsKept d before xs → AreOnce (λ x. tied_events x.item) before xs
  once_ties before [] h = tt
  once_ties before (x ∷ xs) h = let i = h.0 in (i.ties, once_ties (before ++ x ∷ []) xs h.1)

  -- the facts of these items, of which each name has one
  abbrev IsOne : {A : Type 0} → (HeadedItem → List (Fact A)) → List HeadedItem → Name → Type 0
  IsOne g xs n = said_of (flat_map g xs) n ≡ some_list (fact_of (flat_map g xs) n)

  module _ (xs : List HeadedItem) (h : AreItemsKept d [] xs) (n : Name) where
    pub one_owner : IsOne owners xs n
    one_owner = facts_once owners (λ x. names_of (owners x)) xs (λ x. refl) (once_owners [] xs h) n

    pub one_member : IsOne members xs n
    one_member = facts_once members (λ x. names_of (members x)) xs (λ x. refl) (once_members [] xs h) n

    pub one_discipline : IsOne (λ x. disciplines_in x.item) xs n
    one_discipline =
        facts_once (λ x. disciplines_in x.item) (λ x. disciplined_sets x.item) xs (λ x. discipline_names x.item)
        (once_disciplines [] xs h) n

    pub one_break : IsOne (λ x. ties_in x.item) xs n
    one_break =
        facts_once (λ x. ties_in x.item) (λ x. tied_events x.item) xs (λ x. tie_names x.item) (once_ties [] xs h) n
