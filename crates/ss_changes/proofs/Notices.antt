-- The pending notices, as a listing lists them.
use Rattle.std.proofs.Common.{◌≡◌, ℕ, suc, ◌+◌, List, [], ◌∷◌, ◌++◌, drop, sym, ap, ◌∙◌, arith}
use Rattle.std.proofs.Common.{append_assoc, Option, Some, None, slice_get}
use Rattle.std.specs.Option.{option_map}
use Rattle.std.proofs.lemmas.List.{append-nil}
use Rattle.ss_events.specs.Agenda.{Pending}
use Rattle.ss_debug.proofs.Pendings.{dropped, dropped_none, none_of}
use Rattle.ss_changes.specs.declared.part.Part.{Part}
use Rattle.ss_changes.specs.declared.part.Part.TheVariants.{Notice}
use Rattle.ss_changes.specs.Parts.{notices_of}

-- one notice more
pub notice_more : (es : List Pending) (i j : ℕ) (e : Pending) (parts new all : List Part) → slice_get es i ≡ Some e →
    j ≡ i + 1 → parts ++ notices_of (drop i es) ≡ all → new ≡ parts ++ Notice e.class e.notice ∷ [] →
    new ++ notices_of (drop j es) ≡ all
notice_more es i j e parts new all h n k l =
    let next : j ≡ suc i = omega (arith, n) in
    rw (l, next)
    (append_assoc parts _ _ ∙ ap (λ (l : List Pending). parts ++ notices_of l) (sym (dropped es i e h)) ∙ k)

-- all notices, if the listing has ended
pub all_notices : (es : List Pending) (i : ℕ) (parts all : List Part) →
    None ≡ option_map (λ (e : Pending). e.notice) (slice_get es i) →
    parts ++ notices_of (drop i es) ≡ all → parts ≡ all
all_notices es i parts all h k =
    sym (append-nil parts) ∙ ap (λ (l : List Pending). parts ++ notices_of l)
    (sym (dropped_none es i (none_of (slice_get es i) h))) ∙ k
