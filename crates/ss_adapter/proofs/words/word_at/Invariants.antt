use Rattle.std.proofs.Common.{◌≡◌, ◌≤◌, drop}
use Rattle.ss_adapter.specs.Words.{word_from}
use Rattle.ss_adapter.proofs.words.word_at.Given as goal

-- the bytes that are left bring the place so far to that of the last word
abbrev pub invariant-loop-byte : goal.invariant-loop-byte
invariant-loop-byte l = record {
  behind : l.behind ≡ l.byte-index;
  begin : l.begin ≤ l.behind;
  place : word_from l.begin l.behind (drop l.byte-index l.text) ≡ word_from 0 0 l.text;
}
