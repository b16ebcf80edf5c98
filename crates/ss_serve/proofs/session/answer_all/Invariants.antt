use Rattle.std.proofs.Common.{◌≡◌, []}
use Rattle.ss_serve.proofs.Turns.{AreDone}
use Rattle.ss_serve.proofs.session.answer_all.Given as goal

abbrev pub invariant-loop : goal.invariant-loop
invariant-loop g l = record {
  done : AreDone g.A.Answerer.meaning (g.A.Answerer.state l.initial.answerer) (g.A.Answerer.state l.answerer)
      l.initial.post.sent l.post (g.C.Channel.left l.initial.channel) (g.C.Channel.left l.channel)
      (g.C.Channel.log l.initial.channel) (g.C.Channel.log l.channel) l.counter;
  none : l.post.bytes ≡ [];
  broken : g.C.Channel.broken l.channel ≡ g.C.Channel.broken l.initial.channel;
}
