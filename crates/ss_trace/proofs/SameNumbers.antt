-- If the numbers of an entity are the same, so are its lines.
use Rattle.std.proofs.Common.{◌≡◌, ℕ, zero, suc, ◌+◌, ℤ, pos, List, [], ◌∷◌, ◌++◌, Bool, true, false, Option}
use Rattle.std.proofs.Common.{Some, None}
use Rattle.std.proofs.Common.{refl, ap, arith, length, length-append, append_assoc}
use Rattle.std.specs.Prelude.{drop, slice_index_or, ◌&&◌, if◌then◌else◌, codes}
use Rattle.std.specs.Cmp.Lexicographic.{pointwise}
use Rattle.std.specs.Fmt.{signed_decimal}
use Rattle.std.specs.Ordering.{int_eq}
use Rattle.std.proofs.lemmas.Bool.Decides.{Decides-int_eq}
use Rattle.std.proofs.lemmas.Slice.Eq.{slice_eq-Decides}
use Rattle.ss_program.specs.Program.{ProgramTable, class_of, set_of}
use Rattle.ss_store.specs.Store.{Store, number_of, exists}
use Rattle.ss_state.specs.Run.{Input, run}
use Rattle.ss_state.specs.State.{State}
use Rattle.ss_debug.specs.declared.commands.Question.TheVariants as shown
use Rattle.ss_debug.specs.Entities.{lines_below, attribute_line, kept_line}
use Rattle.ss_debug.specs.Entities.{owned_set_lines, joined_set_lines, entity_lines, class_named, class_text}
use Rattle.ss_debug.specs.Entities.{entity_text}
use Rattle.ss_debug.specs.Entities.{no_entity_text}
use Rattle.ss_trace.specs.declared.attribute.Kept.TheVariants.{First, Predecessor}
use Rattle.ss_trace.specs.declared.question.Question.{Question}
use Rattle.ss_trace.specs.declared.question.Question.TheVariants.{Shown, Attribute, Count}
use Rattle.ss_trace.specs.declared.sight.Sight.{Sight}
use Rattle.ss_trace.specs.declared.sight.Sight.TheVariants as sights
use Rattle.ss_trace.specs.declared.touches.Part.{Part}
use Rattle.ss_trace.specs.declared.touches.Part.TheVariants as parts
use Rattle.ss_trace.specs.declared.touches.Part.TheVariants.{Entities}
use Rattle.ss_trace.specs.declared.touches.Touch.{Touch}
use Rattle.ss_trace.specs.Question.{answer_at, has_kept}
use Rattle.ss_trace.specs.Sight.{sight_of, sight_of_entity, glance_of, glance_at}
use Rattle.ss_trace.specs.declared.touches.Touch.TheVariants.{Nothing}
use Rattle.ss_trace.specs.Touches.{touched_at, part_of}
use Rattle.ss_trace.specs.EntityNumbers.{numbers_below, attribute_numbers, set_numbers, entity_numbers}
use Rattle.ss_trace.specs.EntityNumbers.{is_counted, numbers_there, numbers_at}
use Rattle.ss_trace.specs.Told.{is_told}
use Rattle.ss_trace.proofs.Skips.{store_left}

-- ---- parts of lists

head_of : {x y : ℤ} {xs ys : List ℤ} → x ∷ xs ≡ y ∷ ys → x ≡ y
head_of e = ap (λ (l : List ℤ). slice_index_or l 0 (pos 0)) e

tail_of : {x y : ℤ} {xs ys : List ℤ} → x ∷ xs ≡ y ∷ ys → xs ≡ ys
tail_of e = ap (λ (l : List ℤ). drop 1 l) e

-- two lists of parts that are as long as each other
split : (xs ys us vs : List ℤ) → length xs ≡ length us → xs ++ ys ≡ us ++ vs → (xs ≡ us) × (ys ≡ vs)
split [] ys [] vs h e = (refl, e)
split [] ys (u ∷ us) vs h e = absurd (omega (arith, h))
split (x ∷ xs) ys [] vs h e = absurd (omega (arith, h))
split (x ∷ xs) ys (u ∷ us) vs h e =
    let r = split xs ys us vs (omega (arith, h)) (tail_of e) in rw (head_of e, r.0) (refl, r.1)

-- ---- lines of numbers

-- the numbers of one line more
pub numbers_more : (f : ℕ → List ℤ) (n m : ℕ) (old xs new : List ℤ) → m ≡ n + 1 →
    xs ≡ old ++ numbers_below f n → new ≡ xs ++ f n → new ≡ old ++ numbers_below f m
numbers_more f n m old xs new e h k =
    let next : m ≡ suc n = omega (arith, e) in rw (next, k, h) (append_assoc old (numbers_below f n) (f n))

pub below_long : (f g : ℕ → List ℤ) → ((i : ℕ) → length (f i) ≡ length (g i)) → (n : ℕ) →
    length (numbers_below f n) ≡ length (numbers_below g n)
below_long f g h zero = refl
below_long f g h (suc n) =
    let before = below_long f g h n in
    let here = h n in
    let one = length-append (numbers_below f n) (f n) in
    let other = length-append (numbers_below g n) (g n) in
    omega (arith, before, here, one, other)

lines_left : (f g : ℕ → List ℤ) (l m : ℕ → List ℕ) → ((i : ℕ) → length (f i) ≡ length (g i)) →
    ((i : ℕ) → f i ≡ g i → l i ≡ m i) → (n : ℕ) → numbers_below f n ≡ numbers_below g n →
    lines_below l n ≡ lines_below m n
lines_left f g l m h k zero e = refl
lines_left f g l m h k (suc n) e =
    let r = split (numbers_below f n) (f n) (numbers_below g n) (g n) (below_long f g h n) e in
    rw (lines_left f g l m h k n r.0, k n r.1) refl

-- two lists of numbers that compare as the same are equal
pub same_numbers : (b : Bool) (xs ys : List ℤ) → (b && pointwise int_eq xs ys) ≡ true → (b ≡ true) × (xs ≡ ys)
same_numbers true xs ys e = (refl, (slice_eq-Decides Decides-int_eq xs ys (pointwise int_eq xs ys) refl).0 e)
same_numbers false xs ys e = absurd (cc)

-- if numbers agree, they are those of an entity
pub is_entity : (part : Part) (sight : Sight) (p : ProgramTable) (st : Store) (xs : List ℤ) (u : Touch) →
    is_told part sight p st xs u ≡ true → is_counted part sight ≡ true
is_entity parts.Entities (sights.Entity c x) p st xs u e = refl
is_entity parts.Anything sight p st xs u e = absurd (cc)
is_entity parts.Nothing sight p st xs u e = absurd (cc)
is_entity parts.Lists sight p st xs u e = absurd (cc)
is_entity parts.Notices sight p st xs u e = absurd (cc)
is_entity parts.Entities sights.Nothing p st xs u e = absurd (cc)
is_entity parts.Entities sights.Clock p st xs u e = absurd (cc)
is_entity parts.Entities (sights.Global i) p st xs u e = absurd (cc)
is_entity parts.Entities sights.Local p st xs u e = absurd (cc)
is_entity parts.Entities sights.Taken p st xs u e = absurd (cc)
is_entity parts.Entities sights.Entry p st xs u e = absurd (cc)
is_entity parts.Entities sights.Report p st xs u e = absurd (cc)
is_entity parts.Entities (sights.Living c x) p st xs u e = absurd (cc)
is_entity parts.Entities (sights.Attribute c a x) p st xs u e = absurd (cc)
is_entity parts.Entities (sights.Kept c n k x) p st xs u e = absurd (cc)
is_entity parts.Entities (sights.Members n x) p st xs u e = absurd (cc)
is_entity parts.Entities (sights.MembersNamed n i) p st xs u e = absurd (cc)

-- ---- one attribute

-- the lines of the first of some numbers
abbrev attribute_told : List ℕ → List ℤ → List ℕ
attribute_told name xs = name ++ codes " = " ++ signed_decimal (slice_index_or xs 0 (pos 0)) ++ 10 ∷ []

attribute_left : (p : ProgramTable) (st new : Store) (c k a : ℕ) →
    attribute_numbers new c k a ≡ attribute_numbers st c k a →
    attribute_line p new c k a ≡ attribute_line p st c k a
attribute_left p st new c k a e = ap (attribute_told (slice_index_or (class_of p c).attributes a [])) e

-- ---- kept ones

item : {xs ys : List ℤ} (i : ℕ) → xs ≡ ys → slice_index_or xs i (pos 0) ≡ slice_index_or ys i (pos 0)
item i e = ap (λ (l : List ℤ). slice_index_or l i (pos 0)) e

-- a kept attribute if the class has it
abbrev kept_if : Bool → ℕ → ℤ
kept_if b n = if b then pos n else pos 0

three_texts : (a b c d e f : List ℕ) → a ≡ d → b ≡ e → c ≡ f → a ++ b ++ c ≡ d ++ e ++ f
three_texts a b c d e f h k l = rw (h, k, l) refl

three_lines : (one other third name : List ℕ) (x y z u v w : ℕ) (b : Bool) → kept_if b x ≡ kept_if b u →
    kept_if b y ≡ kept_if b v → kept_if b z ≡ kept_if b w →
    (if b then kept_line one name x ++ kept_line other name y ++ kept_line third name z else [])
    ≡ (if b then kept_line one name u ++ kept_line other name v ++ kept_line third name w else [])
three_lines one other third name x y z u v w true h k l =
    three_texts _ _ _ _ _ _ (ap (λ (i : ℤ). kept_line one name (number_of i)) h)
    (ap (λ (i : ℤ). kept_line other name (number_of i)) k) (ap (λ (i : ℤ). kept_line third name (number_of i)) l)
three_lines one other third name x y z u v w false h k l = refl

owned_left : (p : ProgramTable) (st new : Store) (c k s : ℕ) →
    set_numbers p new c k s ≡ set_numbers p st c k s → owned_set_lines p new c k s ≡ owned_set_lines p st c k s
owned_left p st new c k s e =
    three_lines (codes "F.") (codes "L.") (codes "N.") (set_of p s).name _ _ _ _ _ _ (has_kept (set_of p s) c First)
    (item 0 e) (item 1 e) (item 2 e)

joined_left : (p : ProgramTable) (st new : Store) (c k s : ℕ) →
    set_numbers p new c k s ≡ set_numbers p st c k s → joined_set_lines p new c k s ≡ joined_set_lines p st c k s
joined_left p st new c k s e =
    three_lines (codes "P.") (codes "S.") (codes "M.") (set_of p s).name _ _ _ _ _ _
    (has_kept (set_of p s) c Predecessor) (item 3 e) (item 4 e) (item 5 e)

-- ---- an entity

entity_left : (p : ProgramTable) (st new : Store) (c k : ℕ) →
    entity_numbers p new c k ≡ entity_numbers p st c k → entity_lines p new c k ≡ entity_lines p st c k
entity_left p st new c k e =
    let parts =
    split (numbers_below (attribute_numbers new c k) (length (class_of p c).attributes)) _
    (numbers_below (attribute_numbers st c k) (length (class_of p c).attributes)) _
    (below_long (attribute_numbers new c k) (attribute_numbers st c k) (λ i. refl) (length (class_of p c).attributes))
    e in
    let own =
    lines_left (attribute_numbers new c k) (attribute_numbers st c k) (attribute_line p new c k)
    (attribute_line p st c k) (λ i. refl) (λ i. attribute_left p st new c k i)
    (length (class_of p c).attributes) parts.0 in
    let owned =
    lines_left (set_numbers p new c k) (set_numbers p st c k) (owned_set_lines p new c k) (owned_set_lines p st c k)
    (λ i. refl) (λ i. owned_left p st new c k i) (length p.sets) parts.1 in
    let joined =
    lines_left (set_numbers p new c k) (set_numbers p st c k) (joined_set_lines p new c k) (joined_set_lines p st c k)
    (λ i. refl) (λ i. joined_left p st new c k i) (length p.sets) parts.1 in
    three_texts _ _ _ _ _ _ own owned joined

living_left : (name : List ℕ) (x : ℤ) (p : ProgramTable) (st new : Store) (c k : ℕ) (b d : Bool) →
    (if b then pos 1 ∷ entity_numbers p new c k else []) ≡ (if d then pos 1 ∷ entity_numbers p st c k else []) →
    (if b then name ++ codes " " ++ signed_decimal x ++ 10 ∷ entity_lines p new c k else no_entity_text name x)
    ≡ (if d then name ++ codes " " ++ signed_decimal x ++ 10 ∷ entity_lines p st c k else no_entity_text name x)
living_left name x p st new c k true true e = let lines = entity_left p st new c k (tail_of e) in rw lines refl
living_left name x p st new c k false false e = refl
living_left name x p st new c k true false e = absurd (cc)
living_left name x p st new c k false true e = absurd (cc)

class_left : (name : List ℕ) (x : ℤ) (p : ProgramTable) (s u : State) (o : Option ℕ) →
    is_counted Entities (sight_of_entity x o) ≡ true →
    numbers_there p u (sight_of_entity x o) ≡ numbers_there p s (sight_of_entity x o) →
    class_text name x p u.store o ≡ class_text name x p s.store o
class_left name x p s u None h e = absurd (cc)
class_left name x p s u (Some c) h e =
    living_left name x p s.store u.store c (number_of x) (exists u.store c (number_of x))
    (exists s.store c (number_of x)) e

entity_text_left : (t : Input) (name : List ℕ) (x : ℤ) (p q : ℕ) →
    is_counted Entities (sight_of t.program (Shown (shown.Entity name x))) ≡ true →
    numbers_at t (Shown (shown.Entity name x)) q ≡ numbers_at t (Shown (shown.Entity name x)) p →
    entity_text name x t q ≡ entity_text name x t p
unfolding entity_text
entity_text_left t name x p q h e =
    class_left name x t.program (run t p) (run t q) (class_named t.program name) h e

-- if the numbers of an entity give all of an answer, it is the same when they are
pub counted_left : (t : Input) (x : Question) (p q : ℕ) → is_counted (part_of x) (sight_of t.program x) ≡ true →
    numbers_at t x q ≡ numbers_at t x p → answer_at t x q ≡ answer_at t x p
counted_left t (Shown shown.Clock) p q h e = absurd (cc)
counted_left t (Shown shown.Where) p q h e = absurd (cc)
counted_left t (Shown (shown.Variable name)) p q h e = absurd (cc)
counted_left t (Shown (shown.Entity name x)) p q h e = entity_text_left t name x p q h e
counted_left t (Shown (shown.Set name owner)) p q h e = absurd (cc)
counted_left t (Shown shown.Events) p q h e = absurd (cc)
counted_left t (Shown shown.Taken) p q h e = absurd (cc)
counted_left t (Shown shown.Entry) p q h e = absurd (cc)
counted_left t (Shown shown.Report) p q h e = absurd (cc)
counted_left t (Attribute class x name) p q h e = absurd (cc)
counted_left t (Count name owner) p q h e = absurd (cc)

-- ---- a step that changes no entity

there_left : (p : ProgramTable) (s u : State) (sight : Sight) → u.store ≡ s.store →
    numbers_there p u sight ≡ numbers_there p s sight
there_left p s u (sights.Entity c x) e = rw e refl
there_left p s u sights.Nothing e = refl
there_left p s u sights.Clock e = refl
there_left p s u (sights.Global i) e = refl
there_left p s u sights.Local e = refl
there_left p s u sights.Taken e = refl
there_left p s u sights.Entry e = refl
there_left p s u sights.Report e = refl
there_left p s u (sights.Living c x) e = refl
there_left p s u (sights.Attribute c a x) e = refl
there_left p s u (sights.Kept c n k x) e = refl
there_left p s u (sights.Members n x) e = refl
there_left p s u (sights.MembersNamed n i) e = refl

-- it leaves its numbers
numbers_next : (t : Input) (x : Question) (p : ℕ) → touched_at t (part_of x) p ≡ Nothing →
    numbers_at t x (suc p) ≡ numbers_at t x p
numbers_next t (Shown shown.Clock) p e = refl
numbers_next t (Shown shown.Where) p e = refl
numbers_next t (Shown (shown.Variable name)) p e = refl
numbers_next t (Shown (shown.Entity name x)) p e =
    there_left t.program (run t p) (run t (suc p)) (sight_of t.program (Shown (shown.Entity name x))) (store_left t p e)
numbers_next t (Shown (shown.Set name owner)) p e = refl
numbers_next t (Shown shown.Events) p e = refl
numbers_next t (Shown shown.Taken) p e = refl
numbers_next t (Shown shown.Entry) p e = refl
numbers_next t (Shown shown.Report) p e = refl
numbers_next t (Attribute class x name) p e = refl
numbers_next t (Count name owner) p e = refl

-- the numbers one position further are the same
pub numbers_left : (t : Input) (x : Question) (p q : ℕ) → q ≡ p + 1 → touched_at t (part_of x) p ≡ Nothing →
    numbers_at t x q ≡ numbers_at t x p
numbers_left t x p q h e = let next : q ≡ suc p = omega (arith, h) in rw next (numbers_next t x p e)

-- an entity of which nothing can be seen at a glance
pub entity_next : (t : Input) (name : List ℕ) (x : ℤ) (p : ℕ) → touched_at t Entities p ≡ Nothing →
    entity_text name x t (suc p) ≡ entity_text name x t p
unfolding entity_text
entity_next t name x p e = let same = store_left t p e in rw same refl

-- nothing is seen at a glance of an entity
seen_entity : (p : ProgramTable) (s u : State) (q : Question) (x : ℤ) (o : Option ℕ) →
    glance_of p u q (sight_of_entity x o) ≡ glance_of p s q (sight_of_entity x o)
seen_entity p s u q x None = refl
seen_entity p s u q x (Some c) = refl

pub entity_seen : (t : Input) (x : Question) (p q : ℕ) → is_counted (part_of x) (sight_of t.program x) ≡ true →
    glance_at t x q ≡ glance_at t x p
entity_seen t (Shown shown.Clock) p q h = absurd (cc)
entity_seen t (Shown shown.Where) p q h = absurd (cc)
entity_seen t (Shown (shown.Variable name)) p q h = absurd (cc)
entity_seen t (Shown (shown.Entity name x)) p q h =
    seen_entity t.program (run t p) (run t q) (Shown (shown.Entity name x)) x (class_named t.program name)
entity_seen t (Shown (shown.Set name owner)) p q h = absurd (cc)
entity_seen t (Shown shown.Events) p q h = absurd (cc)
entity_seen t (Shown shown.Taken) p q h = absurd (cc)
entity_seen t (Shown shown.Entry) p q h = absurd (cc)
entity_seen t (Shown shown.Report) p q h = absurd (cc)
entity_seen t (Attribute class x name) p q h = absurd (cc)
entity_seen t (Count name owner) p q h = absurd (cc)
