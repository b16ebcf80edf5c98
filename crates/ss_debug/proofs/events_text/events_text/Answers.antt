use Rattle.std.proofs.Common.{◌≡◌, ◌≢◌, length, sym, ◌∙◌}
use Rattle.ss_machine.specs.Moment.{position}
use Rattle.ss_events.specs.Rules.{rules_of}
use Rattle.ss_events.specs.Agenda.{in_order}
use Rattle.ss_debug.proofs.Pendings.{nothing_pending, some_pending, events_are}
use Rattle.ss_debug.proofs.events_text.events_text.Goals as goal

pub returns-then-count-eq0 : goal.returns-then-count-eq0
returns-then-count-eq0 g c =
    let m = c.args.machine.now in
    let none : length (in_order (rules_of m.input.program) m.state.agenda) ≡ 0 =
    sym c.in_ok-count.ensures.count ∙ c.if-count-eq0.true in
    rw (
      events_are m.input (position m) m.state c.known.ensures.state,
      nothing_pending m.input.program (in_order (rules_of m.input.program) m.state.agenda) none,
    )
    c.from_slice.ensures.items

pub returns : goal.returns
returns g c =
    let m = c.args.machine.now in
    let some : length (in_order (rules_of m.input.program) m.state.agenda) ≢ 0 =
    λ e. c.if-count-eq0.false (c.in_ok-count.ensures.count ∙ e) in
    rw (
      events_are m.input (position m) m.state c.known.ensures.state,
      some_pending m.input.program (in_order (rules_of m.input.program) m.state.agenda) some,
    )
    (rw c.new-text.ensures.items at c.in_ok-count.ensures.lines)
