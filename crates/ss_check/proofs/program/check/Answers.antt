use Rattle.std.proofs.Common.{ap, sym, subst, ◌∙◌}
use Rattle.std.specs.Prelude.{map}
use Rattle.ss_preamble.specs.View.{decls_view}
use Rattle.ss_routines.specs.View.{section_view}
use Rattle.ss_check.specs.Readable.{AreOfTree}
use Rattle.ss_check.specs.Resolved.{program_resolved}
use Rattle.ss_check.proofs.Pictures.{pictures_right}
use Rattle.ss_check.proofs.Sound.{sound_resolved}
use Rattle.ss_check.proofs.SoundSizes.{few_sections}
use Rattle.ss_check.proofs.program.check.Goals as goal

pub resolve_program-program-requires : goal.resolve_program-program-requires
resolve_program-program-requires c =
    let list = c.into_list-sections.result.items in
    let none = rw c.deref.ensures.value at c.in-Ok.ensures.sound in
    let tree = subst AreOfTree (sym c.into_list-sections.ensures.list) c.into_list-sections.ensures.program in
    record {
      whole = rw c.deref.ensures.value at c.in-Ok.ensures.ok;
      pictures = pictures_right (decls_view c.args.decls) (map section_view list) none;
      sound =
          sound_resolved (decls_view c.args.decls) (map section_view list) c.requires tree (few_sections list) none;
    }

pub returns-in_ok-program-in-Ok-clause-ok : goal.returns-in_ok-program-in-Ok-clause-ok
returns-in_ok-program-in-Ok-clause-ok c =
    c.in_ok-program-in-Ok.ensures ∙ ap (program_resolved (decls_view c.args.decls)) c.into_list-sections.ensures.list
