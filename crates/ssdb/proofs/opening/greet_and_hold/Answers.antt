use Rattle.std.proofs.lemmas.Result.{IfErr-weaker}
use Rattle.ssdb.proofs.Openings.{breaks_behind, greeting_stops}
use Rattle.ssdb.proofs.opening.greet_and_hold.Goals as goal
use Rattle.ssdb.proofs.opening.greet_and_hold.Goals.{in-Ok, in-Err}

pub returns-clause-err : goal.returns-clause-err
returns-clause-err g c = elim c.match-greet.branch [
  | in-Ok w ↦ rw (w.ended-is, w.console-is) (IfErr-weaker w.hold-ended.result _ _
      (λ fault h. breaks_behind c.args.prompt w.hold-ended.new.prompt _ _ _ _ _ _ _ _ fault
      c.greet.ensures.terminal c.greet.ensures.lines w.in-Ok.ensures.ok.0 h)
      w.hold-ended.ensures.err)
  | in-Err w ↦ rw (w.ended-is, w.console-is) (greeting_stops _ _ _ w.in-Err.ensures.err c.greet.ensures.lines)
]
