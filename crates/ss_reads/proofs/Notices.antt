-- The notice that is due next.
use Rattle.std.proofs.Common.{◌≡◌, ℕ, List, [], ◌∷◌, ◌++◌, Option, Some, None, refl, ap, sym, subst, ◌∙◌, arith, ◌+◌, ◌<◌}
use Rattle.std.proofs.Common.{zero, suc, length, slice_get, ◌-◌}
use Rattle.std.proofs.lemmas.List.{append_assoc}
use Rattle.std.specs.Option.{option_map}
use Rattle.ss_program.specs.Program.{ProgramTable, section_of}
use Rattle.ss_events.specs.Agenda.{Pending}
use Rattle.ss_events.specs.Slots.{slot_of}
use Rattle.ss_events.specs.declared.agenda.Slot.{Slot}
use Rattle.ss_state.specs.Statements.Timing.{event_section}
use Rattle.ss_reads.specs.declared.read.Read.{Read}
use Rattle.ss_reads.specs.declared.read.Read.TheVariants.{Notice}
use Rattle.ss_reads.specs.Places.{attribute_read, attributes_reads, locals_reads, next_event_reads}

-- the class and the number of a notice
abbrev due : Pending → ℕ × ℕ
due n = (n.class, n.notice)

-- nothing is due
pub none_due : (p : ProgramTable) (o : Option Pending) → None ≡ option_map due o →
    next_event_reads p o ≡ []
none_due p None h = refl
none_due p (Some n) h = cc

-- a notice is due
pub one_due : (p : ProgramTable) (o : Option Pending) (c k : ℕ) → Some (c, k) ≡ option_map due o →
    next_event_reads p o ≡ Notice c k ∷ attributes_reads c k 0 (section_of p (event_section p c)).given
one_due p None c k h = cc
one_due p (Some n) c k h =
    let e : (c, k) ≡ due n = cc in
    ap (λ (x : ℕ × ℕ). Notice x.0 x.1 ∷ attributes_reads x.0 x.1 0 (section_of p (event_section p x.0)).given) (sym e)

-- what is looked at then
pub ruleset reads_of_next = (none_due, one_due)

-- ---- several of them

one_more : (old new all rest : List Read) (r : Read) → new ≡ old ++ r ∷ [] → old ++ r ∷ rest ≡ all → new ++ rest ≡ all
one_more old new all rest r e h = rw e (append_assoc old (r ∷ []) rest ∙ h)

-- one attribute more
pub more_attributes : (c k a n : ℕ) (old new all : List Read) → a < n → new ≡ old ++ attribute_read c k a ∷ [] →
    old ++ attributes_reads c k a (n - a) ≡ all → new ++ attributes_reads c k (a + 1) (n - (a + 1)) ≡ all
more_attributes c k a n old new all l e h =
    let less : n - a ≡ suc (n - (a + 1)) = omega (arith, l) in
    let first : attributes_reads c k a (n - a) ≡ attribute_read c k a ∷ attributes_reads c k (a + 1) (n - (a + 1)) =
    ap (λ (m : ℕ). attributes_reads c k a m) less in
    one_more old new all _ (attribute_read c k a) e (ap (λ (rs : List Read). old ++ rs) (sym first) ∙ h)

-- one local more
pub more_locals : (i n : ℕ) (old new all : List Read) → i < n → new ≡ old ++ locals_reads i 1 →
    old ++ locals_reads i (n - i) ≡ all → new ++ locals_reads (i + 1) (n - (i + 1)) ≡ all
more_locals i n old new all l e h =
    let less : n - i ≡ suc (n - (i + 1)) = omega (arith, l) in
    let first : locals_reads i (n - i) ≡ locals_reads i 1 ++ locals_reads (i + 1) (n - (i + 1)) =
    ap (λ (m : ℕ). locals_reads i m) less in
    rw e (append_assoc old (locals_reads i 1) _ ∙ ap (λ (rs : List Read). old ++ rs) (sym first) ∙ h)

-- ---- the notice that is due

abbrev pair : ℕ → ℕ → Option (ℕ × ℕ)
pair c k = Some (c, k)

-- by what is known of it
pub due_by : (o : Option Pending) (k : ℕ) (x : Slot) →
    ◌≡◌ {A = Option (ℕ × Slot)} (Some (k, x)) (option_map (λ e. (e.notice, slot_of e)) o) →
    ◌≡◌ {A = Option (ℕ × ℕ)} (Some (x.class, k)) (option_map due o)
due_by None k x h = absurd (cc)
due_by (Some n) k x h =
    let e : ◌≡◌ {A = ℕ × Slot} (k, x) (n.notice, slot_of n) = cc in
    ap (λ (y : ℕ × Slot). pair y.1.class y.0) e
