-- How a session ends, from how its parts end, and the consequences of that.
use Rattle.std.proofs.Common.{◌≡◌, ℕ, ◌+◌, ◌<◌, ◌↔◌, inl, inr, List, [], refl, sym, ap, subst, arith, ◌∙◌}
use Rattle.std.proofs.Common.{Option, Result, Ok, Err}
use Rattle.std.specs.Io.KnownBytes.{Appends}
use Rattle.ss_words.specs.declared.fault.TextRule.{TextRule}
use Rattle.ss_words.specs.Faults.{text_rule_code}
use Rattle.ss_check.specs.declared.fault.CheckRule.{CheckRule}
use Rattle.ss_check.specs.CheckRules.{check_rule_code}
use Rattle.ss_program.specs.Program.{ProgramTable}
use Rattle.ss_state.specs.State.{State}
use Rattle.ss_state.specs.Run.{Input, run}
use Rattle.ss_debug.specs.Turn.{initial_debugger_state}
use Rattle.ss_debug.specs.View.{DebuggerView, debugger_state_of}
use Rattle.ss_session.proofs.Pieces.{appends_none}
use Rattle.ss_session.proofs.Parts.{part_left}
use Rattle.ss_session.proofs.Outcomes.{one_outcome}
use Rattle.ss_session.specs.declared.ending.End.{End}
use Rattle.ss_session.specs.declared.ending.Cut.{Cut}
use Rattle.ss_session.specs.declared.ending.Cut.TheVariants as cut
use Rattle.ss_session.specs.declared.ending.SessionFault.{SessionFault}
use Rattle.ss_session.specs.declared.ending.SessionFault.TheVariants.{Text, Check, Memory, Write}
use Rattle.ss_session.specs.Texts.{Texts, input_of, obeyed_commands}
use Rattle.ss_session.specs.Model.{Outcome, refused_text, refused_check, accepted}
use Rattle.ss_session.specs.Model.{IsOutcome, IsTextRefused, IsCheckRefused}
use Rattle.ss_session.specs.Private.{fault_of, LineEnds, TurnsEnd, ProgramEnds, SessionEnds}
use Rattle.ss_session.specs.Transcript.{refusal_line, program_transcript, transcript, end_of, ends_faulted}
use Rattle.ss_session.specs.Session.{Writes, EndsBy, IsWhole, count_failed, SessionSays}

-- a debugger over a machine at its start is in the state in which a session begins
pub start_is : (h : DebuggerView) → h.machine.steps ≡ [] → h.machine.forgotten ≡ 0 → h.breaks ≡ [] →
    debugger_state_of h ≡ initial_debugger_state
start_is h none kept unbroken = rw (none, kept, unbroken) refl

-- turns that are cut short cut a session over a program short
pub commands_cut : (k : Cut) (t : Input) (h next : DebuggerView) (lines : List (List ℕ))
    (old new : Option (List ℕ)) (f g : ℕ) →
    debugger_state_of h ≡ initial_debugger_state →
    TurnsEnd (Err k) t h next lines old new f g → ProgramEnds (Err k) t lines old new f g
unfolding TurnsEnd ProgramEnds program_transcript
commands_cut cut.Memory t h next lines old new f g s e = let w = rw s at e in (w.0, w.1)
commands_cut cut.Write t h next lines old new f g s e = let w = rw s at e in (part_left _ _ _ _ w.0, w.1)

-- how the line of a refused text ends a session
pub text_written : (x : Texts) (old new : Option (List ℕ)) (f g : ℕ) (rule : TextRule) (line : ℕ) →
    IsOutcome x.model (refused_text rule line) →
    Appends old new (refusal_line (text_rule_code rule) line) × (g ≡ f) → SessionEnds (Err Text) x old new f g
unfolding SessionEnds
text_written x old new f g rule line o h = ((rule, line, o), (refused_text rule line, o, h.0), h.1)

-- how the line of a refused program ends a session
pub check_written : (x : Texts) (old new : Option (List ℕ)) (f g : ℕ) (rule : CheckRule) (line : ℕ) →
    IsOutcome x.model (refused_check rule line) →
    Appends old new (refusal_line (check_rule_code rule) line) × (g ≡ f) → SessionEnds (Err Check) x old new f g
unfolding SessionEnds
check_written x old new f g rule line o h = ((rule, line, o), (refused_check rule line, o, h.0), h.1)

-- how a session ends if that line is cut short
pub line_cut : (x : Texts) (old new : Option (List ℕ)) (f g : ℕ) (o : Outcome) (k : Cut) → IsOutcome x.model o →
    LineEnds (Err k) (transcript o x) old new f g → SessionEnds (Err (fault_of k)) x old new f g
unfolding SessionEnds LineEnds
line_cut x old new f g o cut.Memory i h = (inl h.0, h.1)
line_cut x old new f g o cut.Write i h = ((o, i, h.0), h.1)

-- memory was refused before anything was written
pub none_yet : (x : Texts) (a : Option (List ℕ)) (f : ℕ) → SessionEnds (Err Memory) x a a f f
unfolding SessionEnds
none_yet x a f = (inl (appends_none a), refl)

-- how a session over a program ends
pub program_ends : (x : Texts) (old new : Option (List ℕ)) (f g : ℕ) (t : ProgramTable) (end : End) →
    IsOutcome x.model (accepted t) →
    ProgramEnds (Ok end) (input_of x t) (obeyed_commands x) old new f g → SessionEnds (Ok end) x old new f g
unfolding SessionEnds ProgramEnds
program_ends x old new f g t end o h = ((t, o, h.0), (accepted t, o, h.1), h.2)

pub program_cut : (x : Texts) (old new : Option (List ℕ)) (f g : ℕ) (t : ProgramTable) (k : Cut) →
    IsOutcome x.model (accepted t) →
    ProgramEnds (Err k) (input_of x t) (obeyed_commands x) old new f g →
    SessionEnds (Err (fault_of k)) x old new f g
unfolding SessionEnds ProgramEnds
program_cut x old new f g t cut.Memory o h = (inr (t, o, h.0), h.1)
program_cut x old new f g t cut.Write o h = ((accepted t, o, h.0), h.1)

-- ---- consequences of how a session ends

session_written : (r : Result End SessionFault) (x : Texts) (old new : Option (List ℕ)) (f g : ℕ) →
    SessionEnds r x old new f g → Writes r x old new
unfolding SessionEnds
session_written (Ok end) x old new f g h = h.1
session_written (Err Text) x old new f g h = h.1
session_written (Err Check) x old new f g h = h.1
session_written (Err Memory) x old new f g h = h.0
session_written (Err Write) x old new f g h = h.0

failure_counted : (r : Result End SessionFault) (x : Texts) (old new : Option (List ℕ)) (f g : ℕ) →
    SessionEnds r x old new f g → (r ≡ Err Write) ↔ (f < g)
unfolding SessionEnds
failure_counted (Ok end) x old new f g h = (λ e. absurd (cc), λ lt. absurd (omega (arith, h.2)))
failure_counted (Err Text) x old new f g h = (λ e. absurd (cc), λ lt. absurd (omega (arith, h.2)))
failure_counted (Err Check) x old new f g h = (λ e. absurd (cc), λ lt. absurd (omega (arith, h.2)))
failure_counted (Err Memory) x old new f g h = (λ e. absurd (cc), λ lt. absurd (omega (arith, h.1)))
failure_counted (Err Write) x old new f g h = (λ e. omega (arith, h.1), λ lt. refl)

failures_counted : (r : Result End SessionFault) (x : Texts) (old new : Option (List ℕ)) (f g : ℕ) →
    SessionEnds r x old new f g → g ≡ f + count_failed r
unfolding SessionEnds
failures_counted (Ok end) x old new f g h = omega (arith, h.2)
failures_counted (Err Text) x old new f g h = omega (arith, h.2)
failures_counted (Err Check) x old new f g h = omega (arith, h.2)
failures_counted (Err Memory) x old new f g h = omega (arith, h.1)
failures_counted (Err Write) x old new f g h = h.1

-- outcomes of different kinds are not one model's
abbrev IsOfText : Outcome → Type 0
IsOfText (refused_text rule line) = Unit {0}
IsOfText (refused_check rule line) = ⊥
IsOfText (accepted program) = ⊥

abbrev IsOfCheck : Outcome → Type 0
IsOfCheck (refused_text rule line) = ⊥
IsOfCheck (refused_check rule line) = Unit {0}
IsOfCheck (accepted program) = ⊥

text_not_check : (m : List ℕ) → IsTextRefused m → IsCheckRefused m → ⊥
text_not_check m t c = subst IsOfText (one_outcome m (refused_text t.0 t.1) (refused_check c.0 c.1) t.2 c.2) tt

text_not_accepted : (m : List ℕ) (p : ProgramTable) → IsTextRefused m → IsOutcome m (accepted p) → ⊥
text_not_accepted m p t a = subst IsOfText (one_outcome m (refused_text t.0 t.1) (accepted p) t.2 a) tt

check_not_accepted : (m : List ℕ) (p : ProgramTable) → IsCheckRefused m → IsOutcome m (accepted p) → ⊥
check_not_accepted m p c a = subst IsOfCheck (one_outcome m (refused_check c.0 c.1) (accepted p) c.2 a) tt

text_end : (r : Result End SessionFault) (x : Texts) (old new : Option (List ℕ)) (f g : ℕ) →
    SessionEnds r x old new f g → IsWhole r → (r ≡ Err Text) ↔ IsTextRefused x.model
unfolding SessionEnds
text_end (Ok end) x old new f g h w = (λ e. absurd (cc), λ t. absurd (text_not_accepted x.model h.0.0 t h.0.1))
text_end (Err Text) x old new f g h w = (λ e. h.0, λ t. refl)
text_end (Err Check) x old new f g h w = (λ e. absurd (cc), λ t. absurd (text_not_check x.model t h.0))
text_end (Err Memory) x old new f g h w = absurd w
text_end (Err Write) x old new f g h w = absurd w

check_end : (r : Result End SessionFault) (x : Texts) (old new : Option (List ℕ)) (f g : ℕ) →
    SessionEnds r x old new f g → IsWhole r → (r ≡ Err Check) ↔ IsCheckRefused x.model
unfolding SessionEnds
check_end (Ok end) x old new f g h w = (λ e. absurd (cc), λ t. absurd (check_not_accepted x.model h.0.0 t h.0.1))
check_end (Err Text) x old new f g h w = (λ e. absurd (cc), λ t. absurd (text_not_check x.model h.0 t))
check_end (Err Check) x old new f g h w = (λ e. h.0, λ t. refl)
check_end (Err Memory) x old new f g h w = absurd w
check_end (Err Write) x old new f g h w = absurd w

abbrev program_of : ProgramTable → Outcome → ProgramTable
program_of p (refused_text rule line) = p
program_of p (refused_check rule line) = p
program_of p (accepted q) = q

same_end : (x : Texts) (a b : End) → EndsBy x a → EndsBy x b → a ≡ b
same_end x a b h k =
    let p : h.0 ≡ k.0 = ap (program_of h.0) (one_outcome x.model (accepted h.0) (accepted k.0) h.1 k.1) in
    h.2 ∙ ap (λ t. end_of (ends_faulted (input_of x t) (obeyed_commands x))) p ∙ sym k.2

accepted_end : (r : Result End SessionFault) (x : Texts) (old new : Option (List ℕ)) (f g : ℕ) →
    SessionEnds r x old new f g → IsWhole r →
    (end : End) → (r ≡ Ok end) ↔ EndsBy x end
unfolding SessionEnds
accepted_end (Ok a) x old new f g h w b =
    (λ e. let same : a ≡ b = cc in subst (EndsBy x) same h.0, λ k. ap Ok (same_end x a b h.0 k))
accepted_end (Err Text) x old new f g h w b = (λ e. absurd (cc), λ k. absurd (text_not_accepted x.model k.0 h.0 k.1))
accepted_end (Err Check) x old new f g h w b = (λ e. absurd (cc), λ k. absurd (check_not_accepted x.model k.0 h.0 k.1))
accepted_end (Err Memory) x old new f g h w b = absurd w
accepted_end (Err Write) x old new f g h w b = absurd w

-- the statements about every session, from how it ends
pub session_says : (r : Result End SessionFault) (x : Texts) (old new : Option (List ℕ)) (f g : ℕ) →
    SessionEnds r x old new f g →
    SessionSays r x (record { taken = old; failures = f }) (record { taken = new; failures = g })
session_says r x old new f g h = record {
  written = session_written r x old new f g h;
  failure = failure_counted r x old new f g h;
  counts = failures_counted r x old new f g h;
  text = text_end r x old new f g h;
  check = check_end r x old new f g h;
  accepted = accepted_end r x old new f g h;
}

-- the state of a machine at a position that is known
pub state_is : (t i : Input) (s : State) (n p : ℕ) → i ≡ t → s ≡ run i n → n ≡ p → s ≡ run t p
state_is t i s n p e f g = f ∙ rw (e, g) refl
