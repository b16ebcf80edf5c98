-- Laws on filing numbers.
use Rattle.std.specs.Prelude.{◌≡◌, ℕ, ℤ, ◌+◌, ◌≤◌, int_lt, false, List, Ok, Err}
use Rattle.ss_words.specs.declared.fault.RunFault.TheVariants.{TooManyReferences}
use Rattle.ss_events.specs.Rules.{Rule}
use Rattle.ss_events.specs.declared.limits.TheConstants.{MOST_SCHEDULINGS}
use Rattle.ss_events.specs.Agenda.{Agenda, is_pending, may_schedule}
use Rattle.ss_events.specs.State.{Each}
use Rattle.ss_events.specs.WellAgenda.{IsWellAgenda}

-- if nothing else forbids it, a scheduling gets the last filing number, 2^40
abbrev pub LastNumberIsGiven : Type 0
LastNumberIsGiven = (a : Agenda) (k : ℕ) (time clock : ℤ) → int_lt time clock ≡ false → is_pending a k ≡ false →
    a.next_filing ≡ MOST_SCHEDULINGS → may_schedule a k time clock ≡ Ok tt

-- after the last filing number no scheduling gets another: that is F20
abbrev pub NoneBehindTheLast : Type 0
NoneBehindTheLast = (a : Agenda) (k : ℕ) (time clock : ℤ) → int_lt time clock ≡ false → is_pending a k ≡ false →
    a.next_filing ≡ MOST_SCHEDULINGS + 1 → may_schedule a k time clock ≡ Err TooManyReferences

-- the filing numbers of a well-formed agenda are at most 2^40
abbrev pub FilingNumbersEnd : Type 0
FilingNumbersEnd = (rules : List Rule) (a : Agenda) → IsWellAgenda rules a →
    Each (λ e. e.filing ≤ MOST_SCHEDULINGS) a.pending
