use Rattle.std.proofs.Common.{◌≡◌, length}
use Rattle.ss_words.specs.Plain.{plains_of}
use Rattle.ss_preamble.specs.Roles.{kind_behind_define}
use Rattle.ss_preamble.proofs.limits.kind_behind_define.Given as goal

abbrev pub invariant-loop-rest : goal.invariant-loop-rest
invariant-loop-rest l = record {
  same : kind_behind_define (plains_of l.fn.words)
      ≡ kind_behind_define (plains_of l.rest);
}

abbrev pub decreases-loop-rest : goal.decreases-loop-rest
decreases-loop-rest l = length l.rest
