use Rattle.std.proofs.Common.{◌<◌, length, arith, rules}
use Rattle.std.proofs.lemmas.Bool.Decides.{nat_tests}
use Rattle.ss_messages.proofs.Heads.{cut_within}
use Rattle.ss_messages.proofs.frame.split_message.Goals as goal

pub returns-clause-cut : goal.returns-clause-cut
returns-clause-cut c _ =
    let some : 0 < length c.args.text.now = grind (arith, nat_tests, rules) in
    cut_within c.args.text.now c.loop-at.at c.loop-at.head.said c.loop-at.head.line.items c.loop-at-test.false some
    c.loop-at.invariant
