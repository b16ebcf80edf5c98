use Rattle.std.proofs.Common.{◌≡◌, ◌++◌, map, length}
use Rattle.ss_prompt.specs.Breaks.{break_rows}
use Rattle.ss_prompt.proofs.break_list.push_break_rows.Given as goal

abbrev pub invariant-loop-breaks : goal.invariant-loop-breaks
invariant-loop-breaks l =
    l.text.items ++ break_rows (map (λ line. line.now) l.lines) l.breaks
    ≡ l.initial.text.items ++ break_rows (map (λ line. line.now) l.lines) l.initial.breaks

abbrev pub decreases-loop-breaks : goal.decreases-loop-breaks
decreases-loop-breaks l = length l.breaks
