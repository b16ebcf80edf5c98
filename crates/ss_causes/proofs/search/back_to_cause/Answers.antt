use Rattle.std.proofs.Common.{◌≡◌, ◌+◌, ℕ, true, false, Some, None, length, refl, sym, ◌∙◌}
use Rattle.ss_machine.specs.Moment.{position}
use Rattle.ss_state.specs.Run.{run}
use Rattle.ss_debug.specs.Move.{runs_event}
use Rattle.ss_trace.specs.Movements.{frames_at}
use Rattle.ss_causes.specs.Causes.{opening, notice_started, cause_of_event}
use Rattle.ss_causes.proofs.Asking.{frames_are, is_main, is_no_main, opening_is, kind_is, of_main, of_none, of_routine}
use Rattle.ss_causes.proofs.Asking.{of_event}
use Rattle.ss_causes.proofs.search.back_to_cause.Goals as goal

pub returns-then-frames-eq1-clause-cause : goal.returns-then-frames-eq1-clause-cause
returns-then-frames-eq1-clause-cause g c =
    let m = c.args.debugger.now.machine in
    let n = c.frames-frames.result in
    let state : m.state ≡ run m.input (position m) = rw c.machine.ensures at c.known.ensures.state in
    let count : n ≡ 1 + length m.state.below = rw c.machine-2.ensures at c.frames-frames.ensures in
    let frames : n ≡ frames_at m.input (position m) = frames_are m.input m n refl state count in
    sym (of_main m.input m.forgotten (position m) (is_main m.input n (position m) frames c.if-frames-eq1.true))

pub returns-in-None-clause-cause : goal.returns-in-None-clause-cause
returns-in-None-clause-cause g c =
    let m = c.args.debugger.now.machine in
    let n = c.frames-frames.result in
    let state : m.state ≡ run m.input (position m) = rw c.machine.ensures at c.known.ensures.state in
    let count : n ≡ 1 + length m.state.below = rw c.machine-2.ensures at c.frames-frames.ensures in
    let frames : n ≡ frames_at m.input (position m) = frames_are m.input m n refl state count in
    sym (of_none m.input m.forgotten (position m) (is_no_main m.input n (position m) frames c.if-frames-eq1.false)
    (opening_is m.input m.forgotten (position m) n None frames c.in-None.ensures.found))

pub returns-in-Some-clause-cause : goal.returns-in-Some-clause-cause
returns-in-Some-clause-cause g c =
    let m = c.args.debugger.now.machine in
    let n = c.frames-frames.result in
    let q : ℕ = c.in-Some.field-0 in
    let gone = c.in-Some.ensures.gone in
    let state : m.state ≡ run m.input (position m) = rw c.machine.ensures at c.known.ensures.state in
    let count : n ≡ 1 + length m.state.below = rw c.machine-2.ensures at c.frames-frames.ensures in
    let frames : n ≡ frames_at m.input (position m) = frames_are m.input m n refl state count in
    let opened : opening m.input m.forgotten (position m) ≡ Some q =
    opening_is m.input m.forgotten (position m) n (Some q) frames c.in-Some.ensures.found in
    let event : runs_event m.input (run m.input (position m)) ≡ true =
    kind_is m.input m c.runs_event-is_event.result true refl state c.runs_event-is_event.ensures c.if-is_event.true in
    let place : position c.back_to_opening.new.debugger.machine ≡ q = c.in-Some.ensures.place in
    let found : c.back_to_event_cause.result ≡ cause_of_event m.input m.forgotten q (notice_started m.input q) =
    rw (place, gone.input, gone.forgotten) at c.back_to_event_cause.ensures.cause in
    found ∙ sym (of_event m.input m.forgotten (position m) q
    (is_no_main m.input n (position m) frames c.if-frames-eq1.false) opened event)

pub returns-in-Some-2-clause-cause : goal.returns-in-Some-2-clause-cause
returns-in-Some-2-clause-cause g c =
    let m = c.args.debugger.now.machine in
    let n = c.frames-frames.result in
    let q : ℕ = c.in-Some.field-0 in
    let state : m.state ≡ run m.input (position m) = rw c.machine.ensures at c.known.ensures.state in
    let count : n ≡ 1 + length m.state.below = rw c.machine-2.ensures at c.frames-frames.ensures in
    let frames : n ≡ frames_at m.input (position m) = frames_are m.input m n refl state count in
    let opened : opening m.input m.forgotten (position m) ≡ Some q =
    opening_is m.input m.forgotten (position m) n (Some q) frames c.in-Some.ensures.found in
    let routine : runs_event m.input (run m.input (position m)) ≡ false =
    kind_is m.input m c.runs_event-is_event.result false refl state c.runs_event-is_event.ensures c.if-is_event.false in
    sym (of_routine m.input m.forgotten (position m) q
    (is_no_main m.input n (position m) frames c.if-frames-eq1.false) opened routine)
