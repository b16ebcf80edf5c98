use Rattle.std.proofs.Common.{◌≡◌, ◌≤◌, drop}
use Rattle.ss_messages.specs.Frames.{number_from}
use Rattle.ss_messages.specs.declared.frame.TheConstants.{LONGEST_MESSAGE}
use Rattle.ss_messages.proofs.frame.number_in.Given as goal

abbrev pub invariant-loop-byte : goal.invariant-loop-byte
invariant-loop-byte l = record {
  same : number_from 0 l.digits ≡ number_from l.number (drop l.byte-index l.digits);
  within : l.number ≤ LONGEST_MESSAGE;
}
