use Rattle.std.proofs.Common.{subst, inr}
use Rattle.std.proofs.lemmas.Result.{IfOk-weaker}
use Rattle.ss_session.specs.declared.load.LoadFault.{LoadFault}
use Rattle.ss_session.specs.Load.{IsLoadFault}
use Rattle.ssdb.proofs.refused.told.Goals as goal

pub returns-in-Check : goal.returns-in-Check
returns-in-Check c =
    let refused = subst (λ (f : LoadFault). IsLoadFault f c.args.model.now) c.in-Check.is c.requires in
    IfOk-weaker c.check_told.result _ _
    (λ text is. inr (c.in-Check.rule, c.in-Check.line, c.in-Check.wrong, refused.0, refused.1, is))
    c.check_told.ensures
