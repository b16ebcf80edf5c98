use Rattle.ss_messages.proofs.Heads.{IsWithin}
use Rattle.ss_messages.proofs.frame.read_head.Given as goal

abbrev pub invariant-loop : goal.invariant-loop
invariant-loop g l =
    IsWithin (g.R.Read.remaining l.initial.reader) (g.R.Read.remaining l.reader) l.first l.head.said
    l.head.line.items l.byte
