use Rattle.std.proofs.Common.{◌≡◌, rules, decimal}
use Rattle.std.specs.Fmt.{signed_decimal}
use Rattle.ss_machine.specs.Moment.{position}
use Rattle.ss_state.specs.Run.{run}
use Rattle.ss_debug.specs.Answer.{section_at}
use Rattle.ss_debug.specs.Move.{line_at}
use Rattle.ss_prompt.proofs.refusal.put_with.Goals as goal

pub returns-clause-ok : goal.returns-clause-ok
returns-clause-ok g c =
    let m = c.args.machine.now in
    let position_is : c.as_bytes.result.now ≡ decimal (position m) = search rules in
    let clock_is : c.as_bytes-2.result.now ≡ signed_decimal (run m.input (position m)).clock = search rules in
    let section_is : c.as_slice-name.result.now ≡ section_at m.input (position m) = search rules in
    let line_is : c.as_bytes-3.result.now ≡ decimal (line_at m.input (position m)) = search rules in
    rw (position_is, clock_is, section_is, line_is) at c.put_parts.ensures.ok

pub returns-clause-err : goal.returns-clause-err
returns-clause-err g c =
    let m = c.args.machine.now in
    let position_is : c.as_bytes.result.now ≡ decimal (position m) = search rules in
    let clock_is : c.as_bytes-2.result.now ≡ signed_decimal (run m.input (position m)).clock = search rules in
    let section_is : c.as_slice-name.result.now ≡ section_at m.input (position m) = search rules in
    let line_is : c.as_bytes-3.result.now ≡ decimal (line_at m.input (position m)) = search rules in
    rw (position_is, clock_is, section_is, line_is) at c.put_parts.ensures.err
