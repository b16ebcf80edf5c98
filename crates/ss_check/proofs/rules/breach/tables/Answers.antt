use Rattle.std.specs.Prelude.{map}
use Rattle.ss_preamble.specs.View.{items_view}
use Rattle.ss_routines.specs.View.{section_view}
use Rattle.ss_check.specs.Declarations.{headed_items}
use Rattle.ss_check.proofs.DeclaredPrefixes.{all_more}
use Rattle.ss_check.proofs.rules.breach.tables.Goals as goal

pub returns-in-Ok : goal.returns-in-Ok
returns-in-Ok c =
    rw (c.in-Ok.ensures, c.in_ok-tables.ensures)
    (all_more (headed_items (items_view c.args.items.now)) (map section_view c.args.sections.now))
