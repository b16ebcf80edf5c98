-- The pending notices, and which of them is the next.
use Rattle.std.specs.Prelude.{ℕ, zero, suc, ◌+◌, ◌==◌, nat_lt, Bool, if◌then◌else◌, ℤ, int_lt, List}
use Rattle.std.specs.Prelude.{[], ◌∷◌}
use Rattle.std.specs.Prelude.{length, fold, Option, Some, None, is_some, Result, Ok, Err}
use Rattle.std.specs.Ordering.{is_lt, ordering_then, nat_cmp, int_cmp}
use Rattle.std.specs.declared.cmp.Ordering.{Ordering}
use Rattle.ss_words.specs.declared.fault.RunFault.{RunFault}
use Rattle.ss_words.specs.declared.fault.RunFault.TheVariants.{TimeBeforeClock, AlreadyScheduled, NotScheduled}
use Rattle.ss_words.specs.declared.fault.RunFault.TheVariants.{TooManyReferences}
use Rattle.ss_events.specs.declared.limits.TheConstants.{MOST_SCHEDULINGS}
use Rattle.ss_events.specs.Rules.{Rule, rule_at}
use Rattle.ss_program.specs.Keys.{by_keys}

-- a pending notice: its reference, its time, its class, the BREAK keys as they were when it was scheduled, and its
-- filing number
pub record Pending : Type 0 where
  -- its reference
  pub notice : ℕ
  -- when it is due
  pub time : ℤ
  -- its class
  pub class : ℕ
  -- the values of the class's BREAK keys
  pub keys : List ℤ
  -- its filing number
  pub filing : ℕ

-- the pending notices in order of their references, and the next filing number
pub record Agenda : Type 0 where
  -- in order of their references
  pub pending : List Pending
  -- the number that the next scheduling gets
  pub next_filing : ℕ

-- nothing pending
abbrev pub empty_agenda : Agenda
empty_agenda = record { pending = []; next_filing = 1 }

-- the pending notice with reference k
abbrev pub pending_at : List Pending → ℕ → Option Pending
pending_at [] k = None
pending_at (m ∷ ms) k = if m.notice == k then Some m else pending_at ms k

-- whether notice k is pending
abbrev pub is_pending : Agenda → ℕ → Bool
is_pending agenda k = is_some (pending_at agenda.pending k)

-- the order of two notices: by time, by the priority of the class, by the keys, by scheduling
abbrev pub by_time : List Rule → Pending → Pending → Ordering
by_time rules m n =
    ordering_then (int_cmp m.time n.time)
    (ordering_then (nat_cmp (rule_at rules m.class).priority (rule_at rules n.class).priority)
    (ordering_then (by_keys (rule_at rules m.class).ties m.keys n.keys) (nat_cmp m.filing n.filing)))

-- whether one notice comes before another
abbrev pub is_before : List Rule → Pending → Pending → Bool
is_before rules m n = is_lt (by_time rules m n)

-- the least of a notice and others
abbrev pub least_of : List Rule → Pending → List Pending → Pending
least_of rules notice ms = fold (λ l m. if is_before rules m l then m else l) notice ms

-- the least pending notice, which is the next
abbrev pub least : List Rule → List Pending → Option Pending
least rules [] = None
least rules (n ∷ ms) = Some (least_of rules n ms)

-- notices without notice k
abbrev pub without_notice : ℕ → List Pending → List Pending
without_notice k [] = []
without_notice k (m ∷ ms) = if m.notice == k then without_notice k ms else m ∷ without_notice k ms

-- the first j notices in order: the least again and again
abbrev pub first_notices : List Rule → ℕ → List Pending → List Pending
first_notices rules zero ms = []
first_notices rules (suc j) [] = []
first_notices rules (suc j) (n ∷ ms) =
    let l = least_of rules n ms in
    l ∷ first_notices rules j (without_notice l.notice (n ∷ ms))

-- all pending notices in order
abbrev pub in_order : List Rule → Agenda → List Pending
in_order rules agenda = first_notices rules (length agenda.pending) agenda.pending

-- the notices of one class
abbrev pub of_class : ℕ → List Pending → List Pending
of_class c [] = []
of_class c (m ∷ ms) = if m.class == c then m ∷ of_class c ms else of_class c ms

-- whether notice k can be scheduled at a time: F9 before the clock, F10 if it is pending, F20 if
-- the highest number of schedulings is used up
abbrev pub may_schedule : Agenda → ℕ → ℤ → ℤ → Result (Unit {0}) RunFault
may_schedule agenda k time clock =
    if int_lt time clock then Err TimeBeforeClock
    else if is_pending agenda k then Err AlreadyScheduled
    else if nat_lt MOST_SCHEDULINGS agenda.next_filing then Err TooManyReferences
    else Ok tt

-- whether notice k can be cancelled: F11 if it is not pending
abbrev pub may_cancel : Agenda → ℕ → Result (Unit {0}) RunFault
may_cancel agenda k = if is_pending agenda k then Ok tt else Err NotScheduled

-- notices with one more, in order of their references
abbrev pub with_notice : Pending → List Pending → List Pending
with_notice notice [] = notice ∷ []
with_notice notice (m ∷ ms) = if nat_lt notice.notice m.notice then notice ∷ m ∷ ms else m ∷ with_notice notice ms

-- notice k scheduled with the next filing number
abbrev pub agenda_after_scheduling : Agenda → ℕ → ℤ → ℕ → List ℤ → Agenda
agenda_after_scheduling agenda k time class keys =
    let n : Pending = record { notice = k; time = time; class = class; keys = keys; filing = agenda.next_filing } in
    record { pending = with_notice n agenda.pending; next_filing = agenda.next_filing + 1 }

-- notice k taken off
abbrev pub agenda_after_taking : Agenda → ℕ → Agenda
agenda_after_taking agenda k = record agenda { pending = without_notice k agenda.pending }
