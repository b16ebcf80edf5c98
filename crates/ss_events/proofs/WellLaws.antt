-- The kept rows make a well-formed agenda.
use Rattle.std.proofs.Common.{ℕ, ◌+◌, ◌<◌, ◌≤◌, List, [], ◌∷◌, Some, None, arith}
use Rattle.ss_links.specs.Board.{Board}
use Rattle.ss_events.specs.declared.pending_notice.Row.{Row}
use Rattle.ss_events.specs.State.{AgendaState, IsPending, IsWellNotice}
use Rattle.ss_words.specs.declared.limits.TheConstants.{MOST_REFERENCES}
use Rattle.ss_events.specs.Rows.{and_others, notices_from, IsAgenda}
use Rattle.ss_events.specs.WellAgenda.{IsRising, IsWellAgenda}
use Rattle.ss_events.proofs.OrderLaws.{Each-map}

rising-from : (n b : ℕ) (rs : List Row) → n < b → IsRising n (notices_from b rs)
rising-from n b [] h = tt
rising-from n b (r ∷ rs) h =
    let later = rising-from n (b + 1) rs (omega (arith, h)) in
    let here = rising-from b (b + 1) rs (omega arith) in
    elim (r.pending) as (λ o. IsRising n (and_others b o (notices_from (b + 1) rs))) [
      | None ↦ later
      | Some x ↦ (h, here)
    ]

pub well-kept : (rows : List Row) (s : AgendaState) (b : Board) → IsAgenda rows s b → IsWellAgenda s.rules s.agenda
well-kept rows s b k = record {
  notices = Each-map (IsPending s.rules s.notices s.agenda.next_filing) (IsWellNotice s.rules s.agenda.next_filing)
      (λ e p. p.well) s.agenda.pending k.pending;
  few = Each-map (IsPending s.rules s.notices s.agenda.next_filing) (λ e. e.notice ≤ MOST_REFERENCES) (λ e p.
      let r = k.seated e.notice p.seat in omega (arith, r.1, k.few)) s.agenda.pending k.pending;
  references = rw k.read (rising-from 0 1 rows (omega arith));
  filings = k.filed;
  next = k.next;
  limit = k.filing;
}
