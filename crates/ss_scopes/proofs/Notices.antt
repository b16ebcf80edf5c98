-- The items of the pending notices in order, one by one.
use Rattle.std.proofs.Common.{◌≡◌, ℕ, suc, ◌+◌, List, ◌++◌, drop, sym, ap, ◌∙◌, arith}
use Rattle.std.proofs.Common.{Option, Some, None, slice_get}
use Rattle.std.specs.Option.{option_map}
use Rattle.std.proofs.lemmas.List.{append-nil, append_assoc}
use Rattle.ss_program.specs.Program.{ProgramTable}
use Rattle.ss_events.specs.Agenda.{Pending}
use Rattle.ss_events.specs.Slots.{slot_of}
use Rattle.ss_debug.proofs.Pendings.{dropped, dropped_none, none_of}
use Rattle.ss_scopes.specs.Events.{notice_item, notice_items}

-- one item more
pub item_more : (p : ProgramTable) (es : List Pending) (i j : ℕ) (e : Pending) (text new all : List ℕ) →
    slice_get es i ≡ Some e → j ≡ i + 1 →
    text ++ notice_items p (drop i es) ≡ all → new ≡ text ++ notice_item p e.notice (slot_of e) →
    new ++ notice_items p (drop j es) ≡ all
item_more p es i j e text new all h n k l =
    let next : j ≡ suc i = omega (arith, n) in
    rw (l, next)
    (append_assoc text _ _ ∙ ap (λ (l : List Pending). text ++ notice_items p l) (sym (dropped es i e h)) ∙ k)

-- all items, if the listing has ended
pub all_items : (p : ProgramTable) (es : List Pending) (i : ℕ) (text all : List ℕ) →
    None ≡ option_map (λ (e : Pending). e.notice) (slice_get es i) →
    text ++ notice_items p (drop i es) ≡ all → text ≡ all
all_items p es i text all h k =
    sym (append-nil text) ∙ ap (λ (l : List Pending). text ++ notice_items p l)
    (sym (dropped_none es i (none_of (slice_get es i) h))) ∙ k
