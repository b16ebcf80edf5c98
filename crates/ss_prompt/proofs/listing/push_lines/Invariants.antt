use Rattle.std.proofs.Common.{◌≡◌, ◌++◌, map}
use Rattle.ss_prompt.specs.Listing.{listed_lines}
use Rattle.ss_prompt.proofs.listing.push_lines.Given as goal

abbrev pub invariant-loop-k : goal.invariant-loop-k
invariant-loop-k l =
    l.text.items ≡ l.initial.text.items ++ listed_lines (map (λ line. line.now) l.lines) l.present l.from l.k
