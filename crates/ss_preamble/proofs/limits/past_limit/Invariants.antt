use Rattle.std.proofs.Common.{◌+◌, ◌≤◌, length}
use Rattle.ss_words.specs.Plain.{plains_of}
use Rattle.ss_preamble.specs.Tally.{standing_view, tally_view}
use Rattle.ss_preamble.proofs.PastLimitLoop.{CountedBefore}
use Rattle.ss_preamble.proofs.limits.past_limit.Given as goal

abbrev pub invariant-loop-rest : goal.invariant-loop-rest
invariant-loop-rest l = record {
  counted : CountedBefore (plains_of l.fn.words) (standing_view l.standing) (tally_view l.tally) (plains_of l.rest);
  keys : l.standing.keys + length l.rest ≤ length l.fn.words;
}

abbrev pub decreases-loop-rest : goal.decreases-loop-rest
decreases-loop-rest l = length l.rest
