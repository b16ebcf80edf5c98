use Rattle.std.proofs.Common.{◌-◌, refl}
use Rattle.ss_store.proofs.EndingAnswers.{lay, lay_below, back_pair, back_value}
use Rattle.ss_store.proofs.ListOrders.{none_known}
use Rattle.ss_store.proofs.store.Store.bring_back.Goals as goal

pub put_values-requires-clause-index : goal.put_values-requires-clause-index
put_values-requires-clause-index g c =
    let l = lay _ _ c.args.class c.args.number _ c.args.values.items c.self.view_is c.self.invariant.2
    c.requires in
    lay_below _ c.args.class c.args.number (c.args.number - 1) l refl

pub invariant_of-self : goal.invariant_of-self
invariant_of-self g c =
    let l = lay _ _ c.args.class c.args.number _ c.args.values.items c.self.view_is c.self.invariant.2
    c.requires in
    let p = back_pair _ _ c.args.class c.args.number (c.args.number - 1) _ c.args.values.items _ c.self.view_is
    c.self.invariant.2
    c.requires l refl c.put_values.ensures in (p.0, p.1, p.2, none_known _ _ c.forget.ensures)

pub returns : goal.returns
returns g c =
    let l = lay _ _ c.args.class c.args.number _ c.args.values.items c.self.view_is c.self.invariant.2
    c.requires in
    back_value _ _ c.args.class c.args.number (c.args.number - 1) c.args.values.items _ c.self.view_is
    c.self.invariant.2 l refl
    c.put_values.ensures
