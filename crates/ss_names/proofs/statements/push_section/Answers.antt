use Rattle.std.proofs.Common.{codes}
use Rattle.ss_names.specs.Saying.{name_text}
use Rattle.ss_names.proofs.Joined.{on_ok, two_joined}
use Rattle.ss_names.proofs.statements.push_section.Goals as goal

pub returns : goal.returns
returns c =
    on_ok c.push_number.result c.push_number.ensures
    (two_joined c.args.text.now.items (name_text (codes "It is in the section ") c.args.section.name.now) _ _ _
    c.in_ok-push_name_behind.ensures)
