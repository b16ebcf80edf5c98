use Rattle.std.proofs.Common.{◌≡◌, ap}
use Rattle.ss_expressions.specs.Aims.{Aim}
use Rattle.ss_expressions.specs.BreakAims.{break_condition}
use Rattle.ss_expressions.proofs.BreakAims.{break_sound, break_holds}
use Rattle.ss_expressions.proofs.aim.ConditionAim.into_break.Goals as goal

pub returns-clause-sound : goal.returns-clause-sound
returns-clause-sound c =
    let same = ap (λ (a : Aim). a.condition) c.self.view_is in
    let made : c.new.result ≡ break_condition c.args.self c.args.text.items =
    rw (c.section_of_locals-section.ensures, same) at c.new.ensures in
    λ program h. break_sound program c.args.self c.args.text.items c.new.result made h

pub returns-clause-holds : goal.returns-clause-holds
returns-clause-holds c =
    let same = ap (λ (a : Aim). a.condition) c.self.view_is in
    let made : c.new.result ≡ break_condition c.args.self c.args.text.items =
    rw (c.section_of_locals-section.ensures, same) at c.new.ensures in
    λ program state. break_holds program state c.args.self c.args.text.items c.new.result made
