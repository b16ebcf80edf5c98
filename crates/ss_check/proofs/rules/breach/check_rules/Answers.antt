use Rattle.std.specs.Prelude.{map}
use Rattle.ss_preamble.specs.View.{decls_view}
use Rattle.ss_routines.specs.View.{section_view}
use Rattle.ss_check.proofs.Statements.{breach_none, breach_told}
use Rattle.ss_check.proofs.rules.breach.check_rules.Goals as goal

pub returns-in-Ok-clause-sound : goal.returns-in-Ok-clause-sound
returns-in-Ok-clause-sound c =
    breach_none (decls_view c.args.decls.now) (map section_view c.args.sections.now) c.in-Ok.ensures.sound

pub returns-in-Err-clause-err : goal.returns-in-Err-clause-err
returns-in-Err-clause-err c =
    breach_told c.in-Err.fault (decls_view c.args.decls.now) (map section_view c.args.sections.now)
    c.in-Err.ensures.err
