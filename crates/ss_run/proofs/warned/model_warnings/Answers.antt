use Rattle.std.proofs.Common.{subst}
use Rattle.std.proofs.lemmas.Result.{IfOk-weaker}
use Rattle.ss_session.specs.declared.load.LoadFault.{LoadFault}
use Rattle.ss_session.specs.Load.{IsLoadFault}
use Rattle.ss_session.specs.Model.{accepted, refused_check, refused_text}
use Rattle.ss_run.proofs.warned.model_warnings.Goals as goal

pub returns-in-Ok : goal.returns-in-Ok
returns-in-Ok c =
    IfOk-weaker c.program_told-told.result _ _ (λ text is. (accepted c.in-Ok.program, c.in-Ok.ensures.ok, is))
    c.program_told-told.ensures

pub returns-in-Err-Text : goal.returns-in-Err-Text
returns-in-Err-Text c =
    let refused =
    subst (λ (f : LoadFault). IsLoadFault f c.args.model.now) c.in-Err-Text.field-0-is c.in-Err-Text.ensures.err in
    IfOk-weaker c.words_warnings.result _ _
    (λ text is. (refused_text c.in-Err-Text.field-0-0 c.in-Err-Text.field-0-1, refused, is)) c.words_warnings.ensures

pub returns-in-Err-Check : goal.returns-in-Err-Check
returns-in-Err-Check c =
    let refused =
    subst (λ (f : LoadFault). IsLoadFault f c.args.model.now) c.in-Err-Check.field-0-is c.in-Err-Check.ensures.err in
    IfOk-weaker c.words_warnings-in-Err-Check.result _ _
    (λ text is. (refused_check c.in-Err-Check.field-0-0 c.in-Err-Check.field-0-1, refused.0, is))
    c.words_warnings-in-Err-Check.ensures
