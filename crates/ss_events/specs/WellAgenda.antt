-- A well-formed agenda.
use Rattle.std.specs.Prelude.{ℕ, ◌+◌, ◌<◌, ◌≤◌, List, [], ◌∷◌}
use Rattle.ss_events.specs.Rules.{Rule}
use Rattle.ss_words.specs.declared.limits.TheConstants.{MOST_REFERENCES}
use Rattle.ss_events.specs.declared.limits.TheConstants.{MOST_SCHEDULINGS}
use Rattle.ss_events.specs.Agenda.{Pending, Agenda}
use Rattle.ss_events.specs.State.{Each, AreFiled, IsWellNotice}

-- each reference is above the one before it
abbrev pub IsRising : ℕ → List Pending → Type 0
IsRising n [] = Unit {0}
IsRising n (e ∷ es) = (n < e.notice) × IsRising e.notice es

-- well-formed notices in order of their references, which are within the limit, with different filing numbers below
-- the next
pub record IsWellAgenda (rules : List Rule) (agenda : Agenda) : Type 0 where
  -- each pending notice is well-formed
  pub notices : Each (IsWellNotice rules agenda.next_filing) agenda.pending
  -- no reference is above the limit
  pub few : Each (λ e. e.notice ≤ MOST_REFERENCES) agenda.pending
  -- they are in order of their references
  pub references : IsRising 0 agenda.pending
  -- no two have one filing number
  pub filings : AreFiled agenda.pending
  -- filing numbers begin with 1
  pub next : 0 < agenda.next_filing
  -- and end with the limit, 2^40
  pub limit : agenda.next_filing ≤ MOST_SCHEDULINGS + 1
