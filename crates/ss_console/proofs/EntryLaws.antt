-- The events of entries, one after the other.
use Rattle.std.proofs.Common.{◌≡◌, ℕ, List, [], ◌∷◌, ◌++◌, map, refl, ap}
use Rattle.ss_console.specs.Event.{Event, wrote, write_events}
use Rattle.ss_console.specs.declared.entry.Entry.{Entry}
use Rattle.ss_console.specs.declared.entry.Entry.TheVariants.{Wrote}
use Rattle.ss_console.specs.Entries.{event_of, entry_events}

pub entry_events_push : (kept : List ℕ → List ℕ) (entries : List Entry) (entry : Entry) →
    entry_events kept (entries ++ entry ∷ []) ≡ entry_events kept entries ++ event_of kept entry ∷ []
unfolding entry_events
entry_events_push kept [] entry = refl
entry_events_push kept (e ∷ entries) entry =
    ap (λ (es : List Event). event_of kept e ∷ es) (entry_events_push kept entries entry)

pub entry_events_written : (kept : List ℕ → List ℕ) (entries : List Entry) (bytes : List ℕ) →
    entry_events kept (entries ++ map Wrote bytes) ≡ entry_events kept entries ++ write_events bytes
unfolding entry_events
entry_events_written kept [] [] = refl
entry_events_written kept [] (b ∷ bytes) = ap (λ (es : List Event). wrote b ∷ es) (entry_events_written kept [] bytes)
entry_events_written kept (e ∷ entries) bytes =
    ap (λ (es : List Event). event_of kept e ∷ es) (entry_events_written kept entries bytes)
