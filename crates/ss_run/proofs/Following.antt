-- A question that is followed over a step.
use Rattle.std.proofs.Common.{◌≡◌, ℕ, ◌+◌, ◌-◌, ℤ, List, [], Bool, true, false, Option, Some, None}
use Rattle.std.proofs.Common.{refl, sym, ap, ◌∙◌, length, not, bytes_eq, cond}
use Rattle.std.specs.Prelude.{drop, ◌==◌, ◌&&◌, ◌||◌}
use Rattle.std.specs.Ordering.{int_eq}
use Rattle.std.proofs.lemmas.Bool.{eqb-true, eq-eqb}
use Rattle.std.proofs.lemmas.Bool.Decides.{Decides-int_eq}
use Rattle.std.proofs.lemmas.Slice.Eq.{bytes_eq-Decides}
use Rattle.ss_program.specs.declared.kinds.Owner.{Owner}
use Rattle.ss_program.specs.declared.kinds.Owner.TheVariants.{System, OwnedBy}
use Rattle.ss_program.specs.declared.place.Place.{Place}
use Rattle.ss_program.specs.declared.place.Spot.{Spot}
use Rattle.ss_program.specs.Program.{ProgramTable, set_of, spot_at}
use Rattle.ss_state.specs.State.{State}
use Rattle.ss_state.specs.Run.{Input, run}
use Rattle.ss_debug.specs.declared.commands.Question.TheVariants as shown
use Rattle.ss_debug.specs.Answer.{report_text}
use Rattle.ss_debug.specs.Entities.{set_named}
use Rattle.ss_trace.specs.declared.question.Question.{Question}
use Rattle.ss_trace.specs.declared.question.Question.TheVariants.{Shown, Attribute, Count}
use Rattle.ss_trace.specs.declared.glance.Glance.{Glance as GlanceThere}
use Rattle.ss_trace.specs.declared.glance.Glance.TheVariants as there
use Rattle.ss_trace.specs.declared.touches.Part.TheVariants.{Lists, Notices}
use Rattle.ss_trace.specs.declared.touches.Touch.{Touch}
use Rattle.ss_trace.specs.declared.touches.Touch.TheVariants as touches
use Rattle.ss_trace.specs.Question.{answer_at, changes_at}
use Rattle.ss_trace.specs.Sight.{glance_at as glance_there, glance_of, sight_of_set, sight_of_list}
use Rattle.ss_trace.specs.Touches.{touched_at, touched_by, touched_lists, touched_notices}
use Rattle.ss_trace.proofs.Changes.{same_as_itself}
use Rattle.ss_trace.proofs.Glances.{unseen}
use Rattle.ss_run.specs.declared.followed.Followed.{Followed}
use Rattle.ss_run.specs.declared.glance.Glance.{Glance}
use Rattle.ss_run.specs.declared.glance.Glance.TheVariants.{Nothing, Length, Members}
use Rattle.ss_run.specs.declared.here.Here.{Here}
use Rattle.ss_run.specs.Glance.{owner_asked, owned_seen, set_seen, glance_at, is_same_count, is_same, leaves, is_quiet}
use Rattle.ss_run.specs.Followed.{is_report, answer_kept, kept_in, kept_at}
use Rattle.ss_run.specs.Tracing.{IsHere}

-- ---- two glances that are the same are equal

both : (b c : Bool) → (b && c) ≡ true → (b ≡ true) × (c ≡ true)
both true c e = (refl, e)
both false c e = absurd (cc)

same_count : (n m : Option ℕ) → is_same_count n m ≡ true → n ≡ m
same_count None None e = refl
same_count (Some n) (Some m) e = ap Some (eqb-true n m e)
same_count None (Some m) e = absurd (cc)
same_count (Some n) None e = absurd (cc)

same_is : (a b : Glance) → is_same a b ≡ true → a ≡ b
same_is Nothing Nothing h = refl
same_is (Length n) (Length m) h = ap Length (eqb-true n m h)
same_is (Members x n) (Members y m) h =
    let b = both (int_eq x y) (is_same_count n m) h in
    rw ((Decides-int_eq x y).0 b.0, same_count n m b.1) refl
same_is Nothing (Length m) h = absurd (cc)
same_is Nothing (Members y m) h = absurd (cc)
same_is (Length n) Nothing h = absurd (cc)
same_is (Length n) (Members y m) h = absurd (cc)
same_is (Members x n) Nothing h = absurd (cc)
same_is (Members x n) (Length m) h = absurd (cc)

-- ---- glances, as the layer below sees them

abbrev length_in : Glance → ℕ
length_in (Length n) = n
length_in _ = 0

abbrev as_there : Glance → GlanceThere
as_there (Members x n) = there.Members x n
as_there _ = there.Number None

list_there : (q : ProgramTable) (s : State) (x : Question) (owner : Option ℤ) (n : ℕ) (w : Owner) →
    glance_of q s x (sight_of_list q n owner w) ≡ as_there (owned_seen q s n (owner_asked q s owner w))
list_there q s x None n System = refl
list_there q s x (Some k) n System = refl
list_there q s x None n (OwnedBy c) = refl
list_there q s x (Some k) n (OwnedBy c) = refl

set_there : (q : ProgramTable) (s : State) (x : Question) (owner : Option ℤ) (o : Option ℕ) →
    glance_of q s x (sight_of_set q owner o) ≡ as_there (set_seen q s owner o)
set_there q s x owner None = refl
set_there q s x owner (Some n) = list_there q s x owner n (set_of q n).owner

list_at : (t : Input) (name : List ℕ) (owner : Option ℤ) (p : ℕ) →
    let x : Question = Shown (shown.Set name owner) in glance_there t x p ≡ as_there (glance_at t x p)
list_at t name owner p =
    set_there t.program (run t p) (Shown (shown.Set name owner)) owner (set_named t.program name)

-- ---- a quiet step

touches_nothing : (x : Touch) → leaves x ≡ true → x ≡ touches.Nothing
touches_nothing touches.Nothing e = refl
touches_nothing (touches.Attribute c a) e = absurd (cc)
touches_nothing touches.Attributes e = absurd (cc)
touches_nothing (touches.Set s) e = absurd (cc)
touches_nothing touches.Entities e = absurd (cc)
touches_nothing touches.Anything e = absurd (cc)

-- the place from which a state steps
abbrev IsPlace : Input → ℕ → Spot → Type 0
IsPlace t p spot = spot_at t.program (run t p).frame.section (run t p).frame.place ≡ Some spot

quiet_lists : (t : Input) (p : ℕ) (spot : Spot) → IsPlace t p spot → leaves (touched_lists spot.place) ≡ true →
    touched_at t Lists p ≡ touches.Nothing
quiet_lists t p spot e q = ap (λ o. touched_by Lists o) e ∙ touches_nothing (touched_lists spot.place) q

quiet_notices : (t : Input) (p : ℕ) (spot : Spot) → IsPlace t p spot → leaves (touched_notices spot.place) ≡ true →
    touched_at t Notices p ≡ touches.Nothing
quiet_notices t p spot e q = ap (λ o. touched_by Notices o) e ∙ touches_nothing (touched_notices spot.place) q

-- the answer after a quiet step is the same, if the glance is the same
answer_left : (t : Input) (x : Question) (p : ℕ) (spot : Spot) → IsPlace t p spot → is_quiet x spot.place ≡ true →
    glance_at t x (p + 1) ≡ glance_at t x p → answer_at t x (p + 1) ≡ answer_at t x p
answer_left t (Shown shown.Report) p spot e q g =
    unseen t (Shown shown.Report) p (p + 1) refl refl (ap (λ seen. there.Amount (length_in seen)) g)
answer_left t (Shown (shown.Set name owner)) p spot e q g =
    unseen t (Shown (shown.Set name owner)) p (p + 1) refl (quiet_lists t p spot e q)
    (list_at t name owner (p + 1) ∙ ap as_there g ∙ sym (list_at t name owner p))
answer_left t (Shown shown.Events) p spot e q g =
    unseen t (Shown shown.Events) p (p + 1) refl (quiet_notices t p spot e q) refl
answer_left t (Shown shown.Clock) p spot e q g = absurd (cc)
answer_left t (Shown shown.Where) p spot e q g = absurd (cc)
answer_left t (Shown (shown.Variable name)) p spot e q g = absurd (cc)
answer_left t (Shown (shown.Entity name k)) p spot e q g = absurd (cc)
answer_left t (Shown shown.Taken) p spot e q g = absurd (cc)
answer_left t (Shown shown.Entry) p spot e q g = absurd (cc)
answer_left t (Attribute class k name) p spot e q g = absurd (cc)
answer_left t (Count name owner) p spot e q g = absurd (cc)

-- a question that is left as it is: its kept answer is the same, and it did not change
left_kept : (t : Input) (x : Question) (p : ℕ) (spot : Spot) → IsPlace t p spot → is_quiet x spot.place ≡ true →
    is_same (glance_at t x p) (glance_at t x (p + 1)) ≡ true → answer_kept t x (p + 1) ≡ answer_kept t x p
left_kept t x p spot e q h =
    ap (λ answer. cond (is_report x) [] answer) (answer_left t x p spot e q (sym (same_is _ _ h)))

left_unchanged : (t : Input) (x : Question) (p : ℕ) (spot : Spot) → IsPlace t p spot →
    is_quiet x spot.place ≡ true → is_same (glance_at t x p) (glance_at t x (p + 1)) ≡ true → changes_at t x p ≡ false
left_unchanged t x p spot e q h =
    ap (λ answer. not (bytes_eq (answer_at t x p) answer)) (answer_left t x p spot e q (sym (same_is _ _ h)))
    ∙ ap not (same_as_itself (answer_at t x p))

-- ---- a step that is not quiet, or after which the glance is another one

other_report : (t : Input) (p q : ℕ) → (length (run t p).report == length (run t q).report) ≡ false →
    bytes_eq (report_text t p) (report_text t q) ≡ false
unfolding report_text
other_report t p q h = by_case (bytes_eq (report_text t p) (report_text t q)) refl
  where
    by_case : (b : Bool) → bytes_eq (report_text t p) (report_text t q) ≡ b → b ≡ false
    by_case false e = refl
    by_case true e =
        let same : report_text t p ≡ report_text t q = (bytes_eq-Decides (report_text t p) (report_text t q)).0 e in
        let long : length (run t p).report ≡ length (run t q).report = ap (λ text. length (drop 7 text)) same in
        sym (eq-eqb _ _ long) ∙ h

left_false : (b : Bool) → (b && true) ≡ false → b ≡ false
left_false true e = absurd (cc)
left_false false e = refl

-- the report changes if its length does
report_changed : (t : Input) (x : Question) (p : ℕ) (place : Place) → is_report x ≡ true →
    (is_same (glance_at t x p) (glance_at t x (p + 1)) && is_quiet x place) ≡ false → changes_at t x p ≡ true
report_changed t (Shown shown.Report) p place r h = ap not (other_report t p (p + 1) (left_false _ h))
report_changed t (Shown (shown.Set name owner)) p place r h = absurd (cc)
report_changed t (Shown shown.Events) p place r h = absurd (cc)
report_changed t (Shown shown.Clock) p place r h = absurd (cc)
report_changed t (Shown shown.Where) p place r h = absurd (cc)
report_changed t (Shown (shown.Variable name)) p place r h = absurd (cc)
report_changed t (Shown (shown.Entity name k)) p place r h = absurd (cc)
report_changed t (Shown shown.Taken) p place r h = absurd (cc)
report_changed t (Shown shown.Entry) p place r h = absurd (cc)
report_changed t (Attribute class k name) p place r h = absurd (cc)
report_changed t (Count name owner) p place r h = absurd (cc)

-- another question changes if the answer that is kept does
other_changed : (t : Input) (x : Question) (p : ℕ) → is_report x ≡ false →
    changes_at t x p ≡ not (bytes_eq (answer_kept t x p) (answer_kept t x (p + 1)))
other_changed t x p r = rw r refl

-- ---- the kept glance and answer

-- the kept glance and answer after a step that leaves the answer as it is
pub quiet_kept : (t : Input) (x : Question) (p : ℕ) (here : Here) (spot : Spot) (f : Followed) (seen : Glance) →
    IsHere t p here → spot_at t.program here.section here.place ≡ Some spot → kept_in f ≡ kept_at t x p →
    seen ≡ glance_at t x (p + 1) → (is_same f.glance seen && is_quiet x spot.place) ≡ true →
    (seen, f.answer.items) ≡ kept_at t x (p + 1)
quiet_kept t x p here spot f seen h e k s left =
    let place : IsPlace t p spot = rw (h.section, h.place) at e in
    let two = both (is_same f.glance seen) (is_quiet x spot.place) left in
    let same : is_same (glance_at t x p) (glance_at t x (p + 1)) ≡ true = rw (ap (λ both. both.0) k, s) at two.0 in
    let answer : f.answer.items ≡ answer_kept t x (p + 1) =
    ap (λ both. both.1) k ∙ sym (left_kept t x p spot place two.1 same) in
    rw (s, answer) refl

-- the question did not change there
pub quiet_unchanged : (t : Input) (x : Question) (p : ℕ) (here : Here) (spot : Spot) (f : Followed) (seen : Glance) →
    IsHere t p here → spot_at t.program here.section here.place ≡ Some spot → kept_in f ≡ kept_at t x p →
    seen ≡ glance_at t x (p + 1) → (is_same f.glance seen && is_quiet x spot.place) ≡ true → changes_at t x p ≡ false
quiet_unchanged t x p here spot f seen h e k s left =
    let place : IsPlace t p spot = rw (h.section, h.place) at e in
    let two = both (is_same f.glance seen) (is_quiet x spot.place) left in
    let same : is_same (glance_at t x p) (glance_at t x (p + 1)) ≡ true = rw (ap (λ both. both.0) k, s) at two.0 in
    left_unchanged t x p spot place two.1 same

changed_by : (t : Input) (x : Question) (p : ℕ) (place : Place) (b : Bool) → is_report x ≡ b →
    (is_same (glance_at t x p) (glance_at t x (p + 1)) && is_quiet x place) ≡ false →
    (b || not (bytes_eq (answer_kept t x p) (answer_kept t x (p + 1)))) ≡ changes_at t x p
changed_by t x p place true r h = sym (report_changed t x p place r h)
changed_by t x p place false r h = sym (other_changed t x p r)

-- whether it changed at another step
pub changed_is : (t : Input) (x : Question) (p : ℕ) (place : Place) (f : Followed) (seen : Glance) (now : List ℕ) →
    kept_in f ≡ kept_at t x p → seen ≡ glance_at t x (p + 1) → now ≡ answer_kept t x (p + 1) →
    (is_same f.glance seen && is_quiet x place) ≡ false →
    (is_report x || not (bytes_eq f.answer.items now)) ≡ changes_at t x p
changed_is t x p place f seen now k s n h =
    let left : (is_same (glance_at t x p) (glance_at t x (p + 1)) && is_quiet x place) ≡ false =
    rw (ap (λ both. both.0) k, s) at h in
    rw (ap (λ both. both.1) k, n) (changed_by t x p place (is_report x) refl left)
