-- The rows of pending notices, one after the other; a page that is a whole list.
use Rattle.std.proofs.Common.{◌≡◌, ℕ, suc, ◌+◌, List, ◌++◌, length, take, drop, sym, ap, ◌∙◌, refl, arith, Some, None, slice_get}
use Rattle.std.specs.Option.{option_map}
use Rattle.std.proofs.Math.Seq.{take-length}
use Rattle.std.proofs.lemmas.List.{append-nil, append_assoc}
use Rattle.ss_program.specs.Program.{ProgramTable}
use Rattle.ss_store.specs.Store.{Store}
use Rattle.ss_events.specs.Rules.{Rule, rules_of}
use Rattle.ss_events.specs.Agenda.{Pending, Agenda, in_order}
use Rattle.ss_events.specs.Slots.{slot_of}
use Rattle.ss_state.specs.State.{State}
use Rattle.ss_state.specs.Run.{Input, run}
use Rattle.ss_debug.proofs.Pendings.{dropped, dropped_none, none_of}
use Rattle.ss_prompt.specs.Rows.{notice_row, notice_rows, notice_rows_text}

-- as many members as there are, are all
pub whole_page : (ks : List ℕ) → take (length ks) ks ≡ ks
whole_page ks = take-length ks

-- one row more
pub row_more : (p : ProgramTable) (st : Store) (es : List Pending) (i j : ℕ) (e : Pending) (text new all : List ℕ) →
    slice_get es i ≡ Some e → j ≡ i + 1 →
    text ++ notice_rows p st (drop i es) ≡ all → new ≡ text ++ notice_row p st e.notice (slot_of e) →
    new ++ notice_rows p st (drop j es) ≡ all
row_more p st es i j e text new all h n k l =
    let next : j ≡ suc i = omega (arith, n) in
    rw (l, next)
    (append_assoc text _ _ ∙ ap (λ (l : List Pending). text ++ notice_rows p st l) (sym (dropped es i e h)) ∙ k)

-- all rows, when the listing has ended
pub all_rows : (p : ProgramTable) (st : Store) (es : List Pending) (i : ℕ) (text all : List ℕ) →
    None ≡ option_map (λ (e : Pending). e.notice) (slice_get es i) →
    text ++ notice_rows p st (drop i es) ≡ all → text ≡ all
all_rows p st es i text all h k =
    sym (append-nil text) ∙ ap (λ (l : List Pending). text ++ notice_rows p st l)
    (sym (dropped_none es i (none_of (slice_get es i) h))) ∙ k

-- the text, by the state at a position
pub rows_are : (t : Input) (p : ℕ) (s : State) (rules : List Rule) (a : Agenda) → s ≡ run t p → a ≡ s.agenda →
    rules ≡ rules_of t.program → notice_rows_text t p ≡ notice_rows t.program s.store (in_order rules a)
unfolding notice_rows_text
rows_are t p s rules a e f g = rw (f, e, g) refl
