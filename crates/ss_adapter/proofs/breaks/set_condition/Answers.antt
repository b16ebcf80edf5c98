use Rattle.std.proofs.Common.{◌≡◌, Some, None, rules}
use Rattle.ss_expressions.specs.Aims.{aimed, refused, aim_asked}
use Rattle.ss_expressions.specs.BreakAims.{break_condition}
use Rattle.ss_prompt.specs.BreakPlaces.{section_on}
use Rattle.ss_adapter.proofs.breaks.set_condition.Goals as goal

pub returns-in-None-clause-state : goal.returns-in-None-clause-state
returns-in-None-clause-state g c =
    let program = c.args.debugger.now.machine.input.program in
    let aim : aim_asked c.args.symbols.now (section_on program c.args.condition.line) c.args.condition.text.now
    ≡ None = search rules in
    rw aim (search rules)

pub returns-in-Some-Refused-clause-state : goal.returns-in-Some-Refused-clause-state
returns-in-Some-Refused-clause-state g c =
    let program = c.args.debugger.now.machine.input.program in
    let aim : aim_asked c.args.symbols.now (section_on program c.args.condition.line) c.args.condition.text.now
    ≡ Some (refused c.in-Some-Refused.said.items) = search rules in
    rw aim (search rules)

pub returns-in_ok-from_slice-in-Some-At-clause-state : goal.returns-in_ok-from_slice-in-Some-At-clause-state
returns-in_ok-from_slice-in-Some-At-clause-state g c =
    let program = c.args.debugger.now.machine.input.program in
    let aim : aim_asked c.args.symbols.now (section_on program c.args.condition.line) c.args.condition.text.now
    ≡ Some (aimed c.in-Some-At.aim) = search rules in
    let when : c.into_break-when.result ≡ break_condition c.in-Some-At.aim c.args.condition.text.now = search rules in
    rw aim (rw when at c.set_when.ensures.state)
