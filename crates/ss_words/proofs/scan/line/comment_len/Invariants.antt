use Rattle.std.proofs.Common.{◌≡◌, ◌+◌, ◌-◌, ◌≤◌, length, drop}
use Rattle.ss_words.specs.TextScan.{hidden_len}
use Rattle.ss_words.proofs.scan.line.comment_len.Given as goal

abbrev pub invariant-loop-len : goal.invariant-loop-len
invariant-loop-len l = record {
  in_range : l.len ≤ length l.rest;
  hidden : 2 + hidden_len (drop 2 l.rest) ≡ l.len + hidden_len (drop l.len l.rest);
}

abbrev pub decreases-loop-len : goal.decreases-loop-len
decreases-loop-len l = length l.rest - l.len
