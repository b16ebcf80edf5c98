use Rattle.std.proofs.Common.{refl, sym, subst, ◌∙◌}
use Rattle.std.specs.Prelude.{map}
use Rattle.ss_preamble.specs.View.{decls_view}
use Rattle.ss_routines.specs.View.{section_view}
use Rattle.ss_program.specs.Program.{ProgramTable}
use Rattle.ss_program.specs.ProgramSound.{IsSound}
use Rattle.ss_check.specs.Resolved.{rankings}
use Rattle.ss_check.proofs.Programs.{program_is}
use Rattle.ss_check.proofs.program.resolve_named.Goals as goal

pub new-requires : goal.new-requires
new-requires c =
    let is =
    program_is (decls_view c.args.decls.now) (map section_view c.args.sections.items) c.args.whole.now
    c.args.names (rankings (decls_view c.args.decls.now).items) c.into_globals-globals.result.items
    c.in-Ok.made.classes.items c.in-Ok.made.sets.items c.in-Ok.made.priority.items
    c.in-Ok-resolve_sections.list.items c.requires.whole
    c.requires.names refl c.into_globals-globals.ensures
    c.in-Ok.ensures.classes c.in-Ok.ensures.sets c.in-Ok.ensures.priority c.in-Ok-resolve_sections.ensures
    in
    subst (λ (p : ProgramTable). IsSound p) (sym is) c.requires.sound

pub returns-in-Ok-resolve_sections : goal.returns-in-Ok-resolve_sections
returns-in-Ok-resolve_sections c =
    c.new.ensures
    ∙
    program_is (decls_view c.args.decls.now) (map section_view c.args.sections.items) c.args.whole.now
    c.args.names (rankings (decls_view c.args.decls.now).items) c.into_globals-globals.result.items
    c.in-Ok.made.classes.items c.in-Ok.made.sets.items c.in-Ok.made.priority.items
    c.in-Ok-resolve_sections.list.items c.requires.whole
    c.requires.names refl c.into_globals-globals.ensures
    c.in-Ok.ensures.classes c.in-Ok.ensures.sets c.in-Ok.ensures.priority c.in-Ok-resolve_sections.ensures
