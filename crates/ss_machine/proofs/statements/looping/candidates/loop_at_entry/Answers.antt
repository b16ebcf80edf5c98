use Rattle.ss_machine.proofs.statements.looping.candidates.loop_at_entry.Goals as goal

pub returns-in-Walking : goal.returns-in-Walking
returns-in-Walking g c = rw c.in-Walking.is c.walking_loop.ensures
