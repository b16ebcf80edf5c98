use Rattle.std.proofs.Common.{◌≡◌, ◌==◌, false, rules, vec_len}
use Rattle.ss_console.specs.declared.lines.TheConstants.{LINE_FEED}
use Rattle.ss_console.proofs.LineLaws.{within_more, line_given, end_given}
use Rattle.ss_console.proofs.lines.next_line.Goals as goal

pub returns-in-None-clause-lines : goal.returns-in-None-clause-lines
returns-in-None-clause-lines g c =
    let at = rw c.in-None.is at c.in_ok-next_byte.ensures in
    (end_given _ _ _ _ c.loop.invariant.within at.0 at.1 (vec_len c.loop.line) c.loop.line.ok.0 _ c.is_empty.ensures).0

pub returns-in-None-clause-end : goal.returns-in-None-clause-end
returns-in-None-clause-end g c _ =
    let at = rw c.in-None.is at c.in_ok-next_byte.ensures in
    (end_given _ _ _ _ c.loop.invariant.within at.0 at.1 (vec_len c.loop.line) c.loop.line.ok.0 _ c.is_empty.ensures).1

pub returns-in-Some-eq10-clause-lines : goal.returns-in-Some-eq10-clause-lines
returns-in-Some-eq10-clause-lines g c =
    let at = rw (c.in-Some-eq10.is, c.in-Some-eq10.field-0-test) at c.in_ok-next_byte.ensures in
    line_given _ _ _ _ c.loop.invariant.within at

pub loop-preserved : goal.loop-preserved
loop-preserved g c =
    let at = rw c.in-Some.is at c.in_ok-next_byte.ensures in
    let other : (c.in-Some.byte == LINE_FEED) ≡ false = search rules in
    record {
      within = rw c.keep.ensures.kept (within_more _ _ _ _ _ c.loop.invariant.within at other);
      room = search rules;
    }
