-- A statement whose finding is a missing entity faults.
use Rattle.std.proofs.Common.{◌≡◌, ◌⊎◌, inl, inr, ℕ, Bool, true, false, List, [], ◌∷◌, length, refl, ap}
use Rattle.std.proofs.Common.{subst, Result, Ok, Err}
use Rattle.std.specs.Prelude.{ℤ, pos, ◌+◌, ◌+ℤ◌, replicate}
use Rattle.std.specs.Prelude.{if◌then◌else◌, slice_index_or}
use Rattle.ss_words.specs.declared.characters.TheConstants.{LINE_FEED}
use Rattle.ss_report.specs.Pictures.{picture_text}
use Rattle.ss_words.specs.declared.fault.RunFault.{RunFault}
use Rattle.ss_words.specs.declared.fault.RunFault.TheVariants.{OutsideEntry}
use Rattle.ss_program.specs.declared.target.Target.{Target}
use Rattle.ss_program.specs.declared.place.Output.{Output}
use Rattle.ss_program.specs.declared.place.Output.TheVariants.{Print, Skip}
use Rattle.ss_program.specs.declared.place.Place.TheVariants as places
use Rattle.ss_program.specs.declared.branch.Question.TheVariants.{Whether, WasFound, WasNone}
use Rattle.ss_program.specs.declared.branch.Branch.{Branch}
use Rattle.ss_program.specs.declared.branch.Branch.TheVariants.{If, Else, Always}
use Rattle.ss_program.specs.declared.looping.Looping.{Looping}
use Rattle.ss_program.specs.declared.looping.Looping.TheVariants.{For, Loop, Find, Gather, Tell}
use Rattle.ss_program.specs.declared.timing.Notice.{Notice}
use Rattle.ss_program.specs.declared.timing.Notice.TheVariants.{New, Known}
use Rattle.ss_program.specs.declared.timing.Listing.{Listing}
use Rattle.ss_program.specs.declared.timing.Listing.TheVariants.{InParentheses, Given}
use Rattle.ss_program.specs.declared.timing.When.{When}
use Rattle.ss_program.specs.declared.timing.When.TheVariants.{At, Now, In}
use Rattle.ss_program.specs.declared.timing.Schedule.{Schedule}
use Rattle.ss_program.specs.declared.timing.Timing.{Timing}
use Rattle.ss_program.specs.declared.timing.Timing.TheVariants as timings
use Rattle.ss_program.specs.declared.ways.Ways.{Ways}
use Rattle.ss_program.specs.Program.{ProgramTable, has_external}
use Rattle.ss_program.specs.ProgramExpr.{Expr}
use Rattle.ss_store.specs.Tables.{tables_of}
use Rattle.ss_values.specs.Faults.{◌>>=◌, ◌>>◌, refuse_if}
use Rattle.ss_values.specs.Values.{value_of}
use Rattle.ss_values.specs.Values.{result_in_range}
use Rattle.ss_values.specs.Values.{values_of}
use Rattle.ss_values.specs.Conditions.{holds}
use Rattle.ss_state.specs.State.{State, is_waiting}
use Rattle.ss_state.specs.Statements.{state_after_result, state_at_place, state_with_value, state_with_values}
use Rattle.ss_state.specs.Statements.{state_with_taken, state_with_frame, entity_named}
use Rattle.ss_state.specs.Statements.Assigning.{state_after_assign}
use Rattle.ss_state.specs.Statements.Printing.{line_count, longer_report, step_output}
use Rattle.ss_state.specs.Statements.Branching.{step_branch}
use Rattle.ss_state.specs.Statements.Reading.{values_taken, state_after_read}
use Rattle.ss_state.specs.Statements.Entities.{state_after_making}
use Rattle.ss_state.specs.Statements.Filing.{state_after_filing}
use Rattle.ss_state.specs.Statements.Looping.{state_with_statistics, statistics_with, step_looping}
use Rattle.ss_state.specs.Statements.Calling.{room_for_frame}
use Rattle.ss_state.specs.Statements.Timing.{notice_named, arguments_asked, time_asked, state_after_scheduling}
use Rattle.ss_state.specs.Statements.Timing.{state_after_notice, state_after_schedule, agenda_without}
use Rattle.ss_state.specs.Statements.Timing.{state_with_agenda}
use Rattle.ss_state.specs.Statements.Timing.{state_after_cancel, step_timing}
use Rattle.ss_faults.specs.declared.told.Told.{Told}
use Rattle.ss_faults.specs.declared.told.Told.TheVariants.{Untold, Missing, Unclear}
use Rattle.ss_faults.specs.Readings.{both}
use Rattle.ss_faults.specs.Readings.{told_of}
use Rattle.ss_faults.specs.Missing.{target_told, values_told, named_told, assign_told, making_told}
use Rattle.ss_faults.specs.Missing.{filing_told, output_told}
use Rattle.ss_faults.specs.Missing.{condition_told}
use Rattle.ss_faults.specs.Missing.{branch_told, looping_told, notice_value_told, notice_told, listing_told}
use Rattle.ss_faults.specs.Missing.{when_told}
use Rattle.ss_faults.specs.Missing.{timing_told, schedule_told, read_told}
use Rattle.ss_faults.specs.Laws.{IsFaulted, IsDenied, WhatIsMissingFaults}
use Rattle.ss_faults.proofs.Fitting.{read, IsThere, Stops, there_stops, over, further, never, got_there, both_there}
use Rattle.ss_faults.proofs.Fitting.{second_stops}
use Rattle.ss_faults.proofs.Evaluated.{expr_there, expr_stops, taken_stops, assign_stops, named_stops, at_named}
use Rattle.ss_faults.proofs.Evaluated.{making_stops}
use Rattle.ss_faults.proofs.Standing.{expr_got, filing_stops, Denies, condition_denies}

-- ---- values given, notices

pub values_stops : (p : ProgramTable) (s : State) (t : Told) (es : List Expr) → IsThere t →
    Stops (values_told p s t es) (values_of (read p s) es)
values_stops p s t [] h = h
values_stops p s t (e ∷ es) h =
    over (values_told p s (both t (told_of p s e)) es) (value_of (read p s) e)
    (λ x. values_of (read p s) es >>= λ xs. Ok (x ∷ xs))
    (λ x ex. further (values_told p s (both t (told_of p s e)) es) (values_of (read p s) es) (λ xs. Ok (x ∷ xs))
    (values_stops p s (both t (told_of p s e)) es (both_there t (told_of p s e) h (expr_there p s e x ex))))

pub notice_value_stops : (p : ProgramTable) (s : State) (n : Notice) →
    Stops (notice_value_told p s n) (notice_named (read p s) n)
notice_value_stops p s (New is_called t) = tt
notice_value_stops p s (Known is_called e) = expr_stops p s e

pub listing_stops : (p : ProgramTable) (s : State) (l : Listing) (n : Notice) (es : List Expr) →
    Stops (listing_told p s l n es) (arguments_asked (read p s) n es l)
listing_stops p s InParentheses n es =
    over (listing_told p s InParentheses n es) (values_of (read p s) es)
    (λ xs. notice_named (read p s) n >>= λ x. Ok (x, xs))
    (λ xs exs. second_stops (values_told p s Untold es) (notice_value_told p s n)
    (notice_named (read p s) n >>= λ x. Ok (x, xs))
    (got_there (values_told p s Untold es) (values_of (read p s) es) xs exs (values_stops p s Untold es tt))
    (further (notice_value_told p s n) (notice_named (read p s) n) (λ x. Ok (x, xs)) (notice_value_stops p s n)))
listing_stops p s Given n es =
    over (listing_told p s Given n es) (notice_named (read p s) n)
    (λ x. values_of (read p s) es >>= λ xs. Ok (x, xs))
    (λ x ex. further (listing_told p s Given n es) (values_of (read p s) es) (λ xs. Ok (x, xs))
    (values_stops p s (notice_value_told p s n) es
    (got_there (notice_value_told p s n) (notice_named (read p s) n) x ex (notice_value_stops p s n))))

pub when_stops : (p : ProgramTable) (s : State) (w : When) → Stops (when_told p s w) (time_asked (read p s) w)
when_stops p s (At e) = expr_stops p s e
when_stops p s Now = tt
when_stops p s (In e) =
    further (told_of p s e) (value_of (read p s) e) (λ n. result_in_range (s.clock +ℤ n)) (expr_stops p s e)

-- the first of two values that were got
abbrev pub first_in : Result (ℤ × List ℤ) RunFault → ℤ
first_in (Ok a) = a.0
first_in (Err e) = pos 0

pub named_last : (r : Result ℤ RunFault) (q : Result (List ℤ) RunFault) (a : ℤ × List ℤ) →
    (q >>= λ xs. r >>= λ x. Ok (x, xs)) ≡ Ok a → r ≡ Ok a.0
named_last (Ok x) (Ok xs) a e = ap (λ (z : ℤ). Ok z) (ap first_in e)
named_last (Ok x) (Err f) a e = never f a e
named_last (Err f) (Ok xs) a e = never f a e
named_last (Err f) (Err g) a e = never g a e

pub named_first : (r : Result ℤ RunFault) (q : Result (List ℤ) RunFault) (a : ℤ × List ℤ) →
    (r >>= λ x. q >>= λ xs. Ok (x, xs)) ≡ Ok a → r ≡ Ok a.0
named_first (Ok x) (Ok xs) a e = ap (λ (z : ℤ). Ok z) (ap first_in e)
named_first (Ok x) (Err f) a e = never f a e
named_first (Err f) q a e = never f a e

pub notice_got : (p : ProgramTable) (s : State) (l : Listing) (is_called : Bool) (e : Expr) (es : List Expr)
    (a : ℤ × List ℤ) → arguments_asked (read p s) (Known is_called e) es l ≡ Ok a →
    value_of (read p s) e ≡ Ok a.0
notice_got p s InParentheses is_called e es a h = named_last (value_of (read p s) e) (values_of (read p s) es) a h
notice_got p s Given is_called e es a h = named_first (value_of (read p s) e) (values_of (read p s) es) a h

pub notice_stops : (p : ProgramTable) (s : State) (c : ℕ) (n : Notice) (l : Listing) (es : List Expr) (a : ℤ × List ℤ)
    (time : ℤ) → arguments_asked (read p s) n es l ≡ Ok a →
    Stops (notice_told p s c n) (state_after_notice p s c n a.0 time a.1)
notice_stops p s c (New is_called t) l es a time h =
    there_stops Unclear (state_after_notice p s c (New is_called t) a.0 time a.1) tt
notice_stops p s c (Known is_called e) l es a time h =
    further (named_told p s c e) (entity_named s.store c a.0) (λ k. state_after_scheduling p s c k time a.1)
    (at_named s c (told_of p s e) a.0 (expr_got p s e a.0 (notice_got p s l is_called e es a h)))

pub schedule_stops : (p : ProgramTable) (s : State) (x : Schedule) →
    Stops (schedule_told p s x) (state_after_schedule p s x)
schedule_stops p s x =
    over (schedule_told p s x) (arguments_asked (read p s) x.notice x.arguments x.listing)
    (λ a. time_asked (read p s) x.when >>= λ time. state_after_notice p s x.class x.notice a.0 time a.1)
    (λ a ea. over (schedule_told p s x) (time_asked (read p s) x.when)
    (λ time. state_after_notice p s x.class x.notice a.0 time a.1)
    (λ time et. second_stops
    (both (listing_told p s x.listing x.notice x.arguments) (when_told p s x.when)) (notice_told p s x.class x.notice)
    (state_after_notice p s x.class x.notice a.0 time a.1)
    (both_there (listing_told p s x.listing x.notice x.arguments) (when_told p s x.when)
    (got_there (listing_told p s x.listing x.notice x.arguments)
    (arguments_asked (read p s) x.notice x.arguments x.listing) a ea
    (listing_stops p s x.listing x.notice x.arguments))
    (got_there (when_told p s x.when) (time_asked (read p s) x.when) time et (when_stops p s x.when)))
    (notice_stops p s x.class x.notice x.listing x.arguments a time ea)))

pub cancel_stops : (p : ProgramTable) (s : State) (c : ℕ) (e : Expr) →
    Stops (named_told p s c e) (state_after_cancel (tables_of p) s c e)
cancel_stops p s c e =
    further (named_told p s c e) (value_of (read p s) e >>= entity_named s.store c >>= agenda_without s)
    (λ a. Ok (state_with_agenda s a))
    (further (named_told p s c e) (value_of (read p s) e >>= entity_named s.store c) (agenda_without s)
    (named_stops p s c e))

pub read_stops : (p : ProgramTable) (s : State) (ts : List Target) → Stops (read_told p s ts) (state_after_read p s ts)
read_stops p s [] = there_stops Unclear (state_after_read p s []) tt
read_stops p s (t ∷ ts) =
    over (target_told p s t)
    (refuse_if (is_waiting s.entry) OutsideEntry
    >> values_taken (has_external p) s.feed.items s.feed.taken (t ∷ ts))
    (λ xs. state_with_values (tables_of p) xs (state_with_taken s (s.feed.taken + length (t ∷ ts))) 0 (t ∷ ts))
    (λ xs exs. further (target_told p s t)
    (state_with_value (tables_of p) (state_with_taken s (s.feed.taken + length (t ∷ ts))) t
    (slice_index_or xs 0 (pos 0)))
    (λ r. state_with_values (tables_of p) xs r (0 + 1) ts)
    (taken_stops p s (s.feed.taken + length (t ∷ ts)) t (slice_index_or xs 0 (pos 0))))

-- ---- statements

-- a finding that an entity is missing means a fault
pub faulted : {A : Type 0} (s : State) (t : Told) (r : Result A RunFault) (f : A → State) (c : ℕ) (x : ℤ) →
    t ≡ Missing c x → Stops t r → IsFaulted (state_after_result s r f)
faulted s t (Ok a) f c x m h = absurd (subst (λ (u : Told). IsThere u) m h)
faulted s t (Err e) f c x m h = (e, refl)

pub nothing : {X : Type 0} (c : ℕ) (x : ℤ) → Unclear ≡ Missing c x → X
nothing c x m = absurd cc

pub output_faults : (p : ProgramTable) (s : State) (w : Ways) (o : Output) (c : ℕ) (x : ℤ) →
    output_told p s o ≡ Missing c x → IsFaulted (step_output (tables_of p) s w.next o)
output_faults p s w (Print n values picture) c x m =
    faulted s (values_told p s Untold values)
    (values_of (read p s) values >>= λ xs. longer_report s.report (picture_text picture xs))
    (λ report. state_at_place w.next (record s { report = report })) c x m
    (further (values_told p s Untold values) (values_of (read p s) values)
    (λ xs. longer_report s.report (picture_text picture xs)) (values_stops p s Untold values tt))
output_faults p s w (Skip e) c x m =
    faulted s (told_of p s e)
    (value_of (read p s) e >>= line_count >>= λ n. longer_report s.report (replicate n LINE_FEED))
    (λ report. state_at_place w.next (record s { report = report })) c x m
    (further (told_of p s e) (value_of (read p s) e >>= line_count)
    (λ n. longer_report s.report (replicate n LINE_FEED))
    (further (told_of p s e) (value_of (read p s) e) line_count (expr_stops p s e)))

-- an IF faults, or its condition does not hold
pub denied : (s : State) (t : Told) (r : Result Bool RunFault) (f : Bool → State) (c : ℕ) (x : ℤ) → t ≡ Missing c x →
    Denies t r → IsFaulted (state_after_result s r f) ⊎ (r ≡ Ok false)
denied s t (Ok true) f c x m h = absurd (subst (λ (u : Told). IsThere u) m h)
denied s t (Ok false) f c x m h = inr refl
denied s t (Err e) f c x m h = inl (e, refl)

pub branch_faults : (p : ProgramTable) (s : State) (w : Ways) (b : Branch) (c : ℕ) (x : ℤ) →
    branch_told p s b ≡ Missing c x →
    IsFaulted (step_branch (tables_of p) s w b) ⊎ IsDenied p s (places.Branch b)
branch_faults p s w (If (Whether d)) c x m =
    denied s (condition_told p s d) (holds (read p s) d) (λ b. state_at_place (if b then w.next else w.exit) s) c x m
    (condition_denies p s d)
branch_faults p s w (If WasFound) c x m = nothing c x m
branch_faults p s w (If WasNone) c x m = nothing c x m
branch_faults p s w Else c x m = nothing c x m
branch_faults p s w Always c x m = nothing c x m

pub looping_faults : (p : ProgramTable) (s : State) (w : Ways) (l : Looping) (c : ℕ) (x : ℤ) →
    looping_told p s l ≡ Missing c x → IsFaulted (step_looping (tables_of p) s w l)
looping_faults p s w (For f) c x m = nothing c x m
looping_faults p s w Loop c x m = nothing c x m
looping_faults p s w Find c x m = nothing c x m
looping_faults p s w (Gather e) c x m =
    faulted s (told_of p s e) (value_of (read p s) e >>= statistics_with s.frame.statistics)
    (λ g. state_at_place w.next (state_with_statistics s g)) c x m
    (further (told_of p s e) (value_of (read p s) e) (statistics_with s.frame.statistics) (expr_stops p s e))
looping_faults p s w (Tell ts) c x m = nothing c x m

pub timing_faults : (p : ProgramTable) (s : State) (w : Ways) (t : Timing) (c : ℕ) (x : ℤ) →
    timing_told p s t ≡ Missing c x → IsFaulted (step_timing p s w.next t)
timing_faults p s w (timings.Schedule y) c x m =
    faulted s (schedule_told p s y) (state_after_schedule p s y) (state_at_place w.next) c x m (schedule_stops p s y)
timing_faults p s w (timings.Cancel d is_called e) c x m =
    faulted s (named_told p s d e) (state_after_cancel (tables_of p) s d e) (state_at_place w.next) c x m
    (cancel_stops p s d e)
timing_faults p s w timings.Start c x m = nothing c x m

pub faulting : WhatIsMissingFaults
faulting p s w (places.Assign a) c x m =
    inl (faulted s (assign_told p s a) (state_after_assign (tables_of p) s a) (state_at_place w.next) c x m
    (assign_stops p s a))
faulting p s w (places.Making a) c x m =
    inl (faulted s (making_told p s a) (state_after_making (tables_of p) s a) (state_at_place w.next) c x m
    (making_stops p s a))
faulting p s w (places.Filing f) c x m =
    inl (faulted s (filing_told p s f) (state_after_filing (tables_of p) s f) (state_at_place w.next) c x m
    (filing_stops p s f))
faulting p s w (places.Output o) c x m = inl (output_faults p s w o c x m)
faulting p s w (places.Control a) c x m = nothing c x m
faulting p s w (places.Branch b) c x m = branch_faults p s w b c x m
faulting p s w (places.Looping l) c x m = inl (looping_faults p s w l c x m)
faulting p s w (places.Call a) c x m =
    inl (faulted s (values_told p s Untold a.given) (values_of (read p s) a.given >>= room_for_frame s.below)
    (state_with_frame p s a.section) c x m
    (further (values_told p s Untold a.given) (values_of (read p s) a.given) (room_for_frame s.below)
    (values_stops p s Untold a.given tt)))
faulting p s w (places.Timing t) c x m = inl (timing_faults p s w t c x m)
faulting p s w (places.Read ts) c x m =
    inl (faulted s (read_told p s ts) (state_after_read p s ts) (state_at_place w.next) c x m (read_stops p s ts))
