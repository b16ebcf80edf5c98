use Rattle.ss_links.specs.Board.{list_at}
use Rattle.ss_events.specs.State.{board_of}
use Rattle.ss_events.proofs.Walks.{IsLaid}
use Rattle.ss_events.proofs.agenda.Agenda.index_of.Given as goal

abbrev pub invariant-loop : goal.invariant-loop
invariant-loop g l = IsLaid (list_at (board_of l.self).lists l.head) l.counter l.index l.next
