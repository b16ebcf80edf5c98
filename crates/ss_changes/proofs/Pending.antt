-- Which notices are pending, by their numbers.
use Rattle.std.proofs.Common.{◌≡◌, ℕ, zero, suc, ◌<◌, ◌≤◌, ◌==◌, ◌||◌, Bool, true, false, cond, not, List, [], ◌∷◌, length, map}
use Rattle.std.proofs.Common.{refl, sym, ap, ◌∙◌, arith, inl, inr, Option, Some, None}
use Rattle.std.specs.Prelude.{is_some}
use Rattle.std.specs.List.{filter}
use Rattle.std.proofs.lemmas.Bool.Decides.{Decides-eqb}
use Rattle.ss_links.specs.Seats.{has}
use Rattle.ss_program.specs.Program.{ProgramTable}
use Rattle.ss_events.specs.Rules.{Rule, rules_of}
use Rattle.ss_events.specs.Agenda.{Pending, pending_at, least_of, without_notice, first_notices, in_order}
use Rattle.ss_state.specs.State.{State}
use Rattle.ss_changes.specs.declared.part.Part.{Part}
use Rattle.ss_changes.specs.declared.part.Part.TheVariants as parts
use Rattle.ss_changes.specs.declared.value.PartValue.{PartValue}
use Rattle.ss_changes.specs.declared.value.PartValue.TheVariants.{Absent}
use Rattle.ss_changes.specs.Values.{value_in, is_there, time_of}
use Rattle.ss_changes.specs.Parts.{notices_of, notices_in, absent_in}
use Rattle.ss_changes.specs.Snapshots.{numbers_of, is_among, new_among, value_before}
use Rattle.ss_changes.proofs.Completeness.{IsOneOf, least_is_one, one_less, stays}

-- one of some notices is pending among them
there_by : (b : Bool) (m : Pending) (o : Option Pending) → is_some o ≡ true → is_some (cond b (Some m) o) ≡ true
there_by true m o h = refl
there_by false m o h = h

one_there : (l : Pending) (ms : List Pending) (k : ℕ) → IsOneOf l ms → l.notice ≡ k → is_some (pending_at ms k) ≡ true
one_there l [] k h e = absurd h
one_there l (m ∷ ms) k (inl same) e =
    let this : (m.notice == k) ≡ true = (Decides-eqb m.notice k).1 (rw (← same) e) in rw this refl
one_there l (m ∷ ms) k (inr h) e = there_by (m.notice == k) m (pending_at ms k) (one_there l ms k h e)

has_first : (rules : List Rule) (k j : ℕ) (n : Pending) (ms : List Pending) (b : Bool) →
    ((least_of rules n ms).notice == k) ≡ b →
    has (numbers_of (notices_of (first_notices rules j (without_notice (least_of rules n ms).notice (n ∷ ms))))) k
    ≡ is_some (pending_at (without_notice (least_of rules n ms).notice (n ∷ ms)) k) →
    (b
    || has (numbers_of (notices_of (first_notices rules j (without_notice (least_of rules n ms).notice (n ∷ ms))))) k)
    ≡ is_some (pending_at (n ∷ ms) k)
has_first rules k j n ms true e h =
    let l = least_of rules n ms in
    sym (one_there l (n ∷ ms) k (least_is_one rules n ms) ((Decides-eqb l.notice k).0 e))
has_first rules k j n ms false e h = h ∙ ap is_some (stays (least_of rules n ms).notice k (n ∷ ms) e)

has_listed : (rules : List Rule) (k j : ℕ) (ms : List Pending) → length ms ≤ j →
    has (numbers_of (notices_of (first_notices rules j ms))) k ≡ is_some (pending_at ms k)
has_listed rules k zero [] few = refl
has_listed rules k zero (m ∷ ms) few = absurd (omega (arith, few))
has_listed rules k (suc j) [] few = refl
has_listed rules k (suc j) (n ∷ ms) few =
    let l = least_of rules n ms in
    let less = one_less l.notice l (n ∷ ms) refl (least_is_one rules n ms) in
    has_first rules k j n ms _ refl (has_listed rules k j (without_notice l.notice (n ∷ ms)) (omega (arith, less, few)))

-- the numbers of the notices in order are those that are pending
pub has_pending : (p : ProgramTable) (s : State) (k : ℕ) →
    has (numbers_of (notices_in p s)) k ≡ is_some (pending_at s.agenda.pending k)
has_pending p s k = has_listed (rules_of p) k (length s.agenda.pending) s.agenda.pending (omega arith)

-- ---- the notices that were not pending

there_if : (o : Option Pending) → is_there (time_of o) ≡ is_some o
there_if None = refl
there_if (Some n) = refl

known_is : (p : ProgramTable) (s : State) (c k : ℕ) →
    not (is_among (numbers_of (notices_in p s)) (parts.Notice c k))
    ≡ not (is_there (value_in p s (parts.Notice c k)))
known_is p s c k = ap not (has_pending p s k ∙ sym (there_if (pending_at s.agenda.pending k)))

filter_by : (x : Part) (a b : Bool) (xs ys : List Part) → a ≡ b → xs ≡ ys → cond a (x ∷ xs) xs ≡ cond b (x ∷ ys) ys
filter_by x a b xs ys e h = rw (e, h) refl

new_of : (p : ProgramTable) (s : State) (ms : List Pending) →
    new_among (numbers_of (notices_in p s)) (notices_of ms) ≡ absent_in p s (notices_of ms)
new_of p s [] = refl
new_of p s (m ∷ ms) = filter_by (parts.Notice m.class m.notice) _ _ _ _ (known_is p s m.class m.notice) (new_of p s ms)

-- those of a state
pub new_notices : (p : ProgramTable) (s u : State) →
    new_among (numbers_of (notices_in p s)) (notices_in p u) ≡ absent_in p s (notices_in p u)
new_notices p s u = new_of p s (in_order (rules_of p) u.agenda)

absent_is : (v : PartValue) → not (is_there v) ≡ true → Absent ≡ v
absent_is Absent e = refl
absent_is _ e = absurd (cc)

absent_by : (p : ProgramTable) (s : State) (c k : ℕ) (xs : List Part) (b : Bool) →
    not (is_there (value_in p s (parts.Notice c k))) ≡ b → map (value_before []) xs ≡ map (value_in p s) xs →
    map (value_before []) (cond b (parts.Notice c k ∷ xs) xs) ≡ map (value_in p s) (cond b (parts.Notice c k ∷ xs) xs)
absent_by p s c k xs true e h =
    let v : Absent ≡ value_in p s (parts.Notice c k) = absent_is (value_in p s (parts.Notice c k)) e in rw (v, h) refl
absent_by p s c k xs false e h = h

absent_of : (p : ProgramTable) (s : State) (ms : List Pending) →
    map (value_before []) (absent_in p s (notices_of ms)) ≡ map (value_in p s) (absent_in p s (notices_of ms))
absent_of p s [] = refl
absent_of p s (m ∷ ms) =
    absent_by p s m.class m.notice (absent_in p s (notices_of ms)) _ refl (absent_of p s ms)

-- they had no value
pub new_absent : (p : ProgramTable) (s u : State) →
    map (value_before []) (absent_in p s (notices_in p u)) ≡ map (value_in p s) (absent_in p s (notices_in p u))
new_absent p s u = absent_of p s (in_order (rules_of p) u.agenda)
