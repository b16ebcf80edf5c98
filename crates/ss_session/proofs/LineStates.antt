-- The lines of a session in turn: the state after them, and the written part of their answers.
use Rattle.std.proofs.Common.{◌≡◌, ℕ, ◌+◌, ◌≤◌, true, false, List, [], ◌∷◌, ◌++◌, length, refl, arith, ◌∙◌}
use Rattle.std.proofs.Common.{sym, ap, Err, append_assoc, append-nil, Option, length-append}
use Rattle.std.proofs.Math.Seq.{take-append_seam, take-append-add}
use Rattle.std.proofs.lemmas.List.{take-append-le}
use Rattle.std.specs.Io.KnownBytes.{Appends}
use Rattle.ss_state.specs.Run.{Input}
use Rattle.ss_debug.specs.declared.commands.Command.{Command}
use Rattle.ss_debug.specs.declared.commands.Command.TheVariants.{Quit}
use Rattle.ss_debug.specs.declared.go.Go.TheVariants as go
use Rattle.ss_debug.specs.Command.{command_of}
use Rattle.ss_debug.specs.Turn.{DebuggerState, debugger_state_after, answer, is_quit, go_of}
use Rattle.ss_debug.specs.Turn.{obeyed_lines, debugger_state_after_lines, answers}
use Rattle.ss_debug.specs.View.{DebuggerView, debugger_state_of}
use Rattle.ss_session.proofs.Pieces.{appends_then, appends_none, appends_no_more}
use Rattle.ss_session.specs.declared.ending.Cut.{Cut}
use Rattle.ss_session.specs.declared.ending.Cut.TheVariants as cut
use Rattle.ss_session.specs.Private.{IsWrittenSoFar, TurnEnds, TurnsEnd}
use Rattle.ss_session.specs.Written.{WritesFirst, WritesPart}

pub state_after-append : (t : Input) (d : DebuggerState) (xs ys : List (List ℕ)) →
    debugger_state_after_lines t d (xs ++ ys)
    ≡ debugger_state_after_lines t (debugger_state_after_lines t d xs) ys
unfolding debugger_state_after_lines
state_after-append t d [] ys = refl
state_after-append t d (x ∷ xs) ys = state_after-append t (debugger_state_after t d (command_of x)) xs ys

pub answers-append : (t : Input) (d : DebuggerState) (xs ys : List (List ℕ)) →
    answers t d (xs ++ ys) ≡ answers t d xs ++ answers t (debugger_state_after_lines t d xs) ys
unfolding debugger_state_after_lines answers
answers-append t d [] ys = refl
answers-append t d (x ∷ xs) ys =
    rw (answers-append t (debugger_state_after t d (command_of x)) xs ys)
    (sym (append_assoc (answer t d (command_of x)) _ _))

pub state_after_one : (t : Input) (d : DebuggerState) (x : List ℕ) →
    debugger_state_after_lines t d (x ∷ []) ≡ debugger_state_after t d (command_of x)
unfolding debugger_state_after_lines
state_after_one t d x = refl

pub answers_one : (t : Input) (d : DebuggerState) (x : List ℕ) →
    answers t d (x ∷ []) ≡ answer t d (command_of x)
unfolding answers
answers_one t d x = append-nil (answer t d (command_of x))

pub answers_first : (t : Input) (d : DebuggerState) (x : List ℕ) (xs : List (List ℕ)) →
    answers t d (x ∷ xs) ≡ answer t d (command_of x) ++ answers t (debugger_state_after t d (command_of x)) xs
unfolding answers
answers_first t d x xs = refl

pub written_none : (t : Input) (d : DebuggerState) (lines : List (List ℕ)) (old : Option (List ℕ)) →
    IsWrittenSoFar t d lines lines d old old
unfolding debugger_state_after_lines answers
written_none t d lines old = record { done_lines = []; split = refl; place = refl; said = appends_none old }

pub written_one : (t : Input) (d : DebuggerState) (lines : List (List ℕ)) (line : List ℕ) (more : List (List ℕ))
    (now next : DebuggerState) (old mid new : Option (List ℕ)) →
    IsWrittenSoFar t d lines (line ∷ more) now old mid → next ≡ debugger_state_after t now (command_of line) →
    Appends mid new (answer t now (command_of line)) →
    IsWrittenSoFar t d lines more next old new
written_one t d lines line more now next old mid new h e a = record {
  done_lines = h.done_lines ++ line ∷ [];
  split = h.split ∙ sym (append_assoc h.done_lines (line ∷ []) more);
  place = rw (state_after-append t d h.done_lines (line ∷ []), ← h.place, state_after_one t now line) e;
  said =
      rw (answers-append t d h.done_lines (line ∷ []), ← h.place, answers_one t now line)
      (appends_then old mid new _ _ h.said a);
}

pub written_first : (t : Input) (d : DebuggerState) (lines rest : List (List ℕ)) (now : DebuggerState)
    (old mid new : Option (List ℕ)) →
    IsWrittenSoFar t d lines rest now old mid → Appends mid new [] → WritesFirst t d lines old new
written_first t d lines rest now old mid new h a = record {
  count = length h.done_lines;
  within = rw (h.split, length-append) (omega arith);
  said = rw (h.split, take-append_seam h.done_lines rest) (appends_no_more old mid new _ h.said a);
}

pub written_part : (t : Input) (d : DebuggerState) (lines : List (List ℕ)) (line : List ℕ) (more : List (List ℕ))
    (now : DebuggerState) (old mid new : Option (List ℕ)) →
    IsWrittenSoFar t d lines (line ∷ more) now old mid → WritesPart (answer t now (command_of line)) mid new →
    WritesPart (answers t d lines) old new
written_part t d lines line more now old mid new h w =
    let whole : answers t d lines ≡ answers t d h.done_lines
    ++ (answer t now (command_of line) ++ answers t (debugger_state_after t now (command_of line)) more) =
    rw (h.split, answers-append t d h.done_lines (line ∷ more), ← h.place, answers_first t now line more) refl in
    record {
      count = length (answers t d h.done_lines) + w.count;
      within = let b = w.within in rw (whole, length-append, length-append) (omega arith);
      said =
          let b : w.count ≤ length (answer t now (command_of line)) = w.within in
          rw (whole, take-append-add, take-append-le) (appends_then old mid new _ _ h.said w.said);
    }

pub written_all : (t : Input) (d : DebuggerState) (lines : List (List ℕ)) (now : DebuggerState)
    (old new : Option (List ℕ)) →
    IsWrittenSoFar t d lines [] now old new →
    (now ≡ debugger_state_after_lines t d lines) × Appends old new (answers t d lines)
written_all t d lines now old new h =
    let e : h.done_lines ≡ lines = sym (h.split ∙ append-nil h.done_lines) in
    (rw (← e) h.place, rw (← e) h.said)

-- ---- the lines that are obeyed

go_on : (c : Command) → go.On ≡ go_of c → is_quit c ≡ false
go_on Quit e = absurd (cc)
go_on _ e = refl

go_quit : (c : Command) → go.Quit ≡ go_of c → is_quit c ≡ true
go_quit Quit e = refl
go_quit _ e = absurd (cc)

-- after a line that is not QUIT the next lines are obeyed
pub obeyed_on : (line : List ℕ) (more : List (List ℕ)) → go.On ≡ go_of (command_of line) →
    obeyed_lines (line ∷ more) ≡ line ∷ obeyed_lines more
obeyed_on line more e = rw (go_on (command_of line) e) refl

-- after QUIT no line is obeyed
pub obeyed_quit : (line : List ℕ) (more : List (List ℕ)) → go.Quit ≡ go_of (command_of line) →
    obeyed_lines (line ∷ more) ≡ line ∷ []
obeyed_quit line more e = rw (go_quit (command_of line) e) refl

-- a turn that is cut short cuts the turns short
pub turns_cut : (k : Cut) (t : Input) (first before next : DebuggerView) (lines : List (List ℕ)) (line : List ℕ)
    (more : List (List ℕ))
    (old mid new : Option (List ℕ)) (f g h : ℕ) →
    IsWrittenSoFar t (debugger_state_of first) lines (line ∷ more) (debugger_state_of before) old mid →
    TurnEnds (Err k) t before next line mid new g h → g ≡ f → TurnsEnd (Err k) t first next lines old new f h
unfolding TurnEnds TurnsEnd
turns_cut cut.Memory t first before next lines line more old mid new f g h so e c =
    (written_first _ _ _ _ _ _ _ _ so e.0, e.1 ∙ c)
turns_cut cut.Write t first before next lines line more old mid new f g h so e c =
    (written_part _ _ _ _ _ _ _ _ _ so e.0, e.1 ∙ ap (λ n. n + 1) c)
