use Rattle.std.proofs.Common.{◌≡◌, None, [], drop}
use Rattle.ss_messages.specs.Frames.{head}
use Rattle.ss_messages.proofs.frame.split_message.Given as goal

abbrev pub invariant-loop-at : goal.invariant-loop-at
invariant-loop-at l = head None [] l.text ≡ head l.head.said l.head.line.items (drop l.at l.text)
