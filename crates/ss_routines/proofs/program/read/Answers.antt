use Rattle.std.proofs.Common.{List, map}
use Rattle.ss_routines.specs.View.{section_view}
use Rattle.ss_words.specs.Plain.{PlainAt}
use Rattle.ss_routines.specs.Places.{Section}
use Rattle.ss_routines.specs.Refused.{AreSections, lines}
use Rattle.ss_routines.specs.OfProgram.{AreOfProgram}
use Rattle.ss_routines.proofs.NotedAnswers.{found}
use Rattle.ss_routines.proofs.program.read.Goals as goal

of_program : (ss : List Section) (ws : List PlainAt) → AreSections ss ws → AreOfProgram ss
of_program ss ws h = (h.0, lines ws, h.1, h.3)

pub new-requires : goal.new-requires
new-requires c =
    let read = rw c.new-cursor.ensures at c.in-Ok.ensures.exact in
    of_program _ _ (found c.args.text.now (map section_view c.in-Ok.list.items) c.whole_text.new.cursor read)

pub returns-in-Ok-clause-sections : goal.returns-in-Ok-clause-sections
returns-in-Ok-clause-sections c =
    let read = rw c.new-cursor.ensures at c.in-Ok.ensures.exact in
    rw c.new.ensures (found c.args.text.now (map section_view c.in-Ok.list.items) c.whole_text.new.cursor read)
