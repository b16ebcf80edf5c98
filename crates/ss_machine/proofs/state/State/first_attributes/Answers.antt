use Rattle.std.proofs.Common.{◌≡◌, ◌<◌, [], ◌∷◌, ◌++◌, pos, Ok, Err, rules, sym, w64, FitsSigned, to_z}
use Rattle.std.proofs.Common.{of_z, ◌∙◌}
use Rattle.std.specs.List.{range_with_len}
use Rattle.std.proofs.lemmas.Int.{to_z-of_z}
use Rattle.std.proofs.lemmas.List.FromFn.{length-range_with_len}
use Rattle.ss_words.specs.declared.fault.RunFault.{RunFault}
use Rattle.ss_words.specs.declared.fault.StepFault.TheVariants.{Fault}
use Rattle.ss_store.specs.Store.{attribute_of}
use Rattle.ss_state.proofs.Attributes.{attributes_more, attributes_fail, attributes_all, ranged_at}
use Rattle.ss_machine.proofs.state.State.first_attributes.Goals as goal

pub returns-in_err-value-clause-err : goal.returns-in_err-value-clause-err
returns-in_err-value-clause-err g c =
    let fault : RunFault = c.in_err-value.field-0.0 in
    let i = c.loop-attribute.attribute in
    let r : c.from_residual.result ≡ Err (Fault fault) = search rules in
    let l : i < c.args.count = search rules in
    let fits : FitsSigned w64 c.from.result = search rules in
    let a : to_z w64 (of_z w64 c.from.result) ≡ c.from.result = to_z-of_z w64 _ fits in
    let x : c.from.result ≡ pos c.args.entity = c.from.ensures in
    let got : c.get.result ≡ Err fault = search rules in
    let value : c.get.result ≡ attribute_of c.args.self.now.state.store c.args.class i c.args.entity =
    rw (← c.self.view_is) (rw (a, x) at c.get.ensures) in
    rw r
    (sym c.loop-attribute.invariant
    ∙ attributes_fail c.args.self.now.state.store c.args.class c.args.entity i i fault (range_with_len 0 c.args.count)
    c.loop-attribute.values.items
    (ranged_at c.args.count i l) (sym value ∙ got))

pub loop-attribute-preserved : goal.loop-attribute-preserved
loop-attribute-preserved g c =
    let i = c.loop-attribute.attribute in
    let x = c.in_ok-value.value in
    let l : i < c.args.count = search rules in
    let fits : FitsSigned w64 c.from.result = search rules in
    let a : to_z w64 (of_z w64 c.from.result) ≡ c.from.result = to_z-of_z w64 _ fits in
    let y : c.from.result ≡ pos c.args.entity = c.from.ensures in
    let got : c.get.result ≡ Ok x = search rules in
    let value : c.get.result ≡ attribute_of c.args.self.now.state.store c.args.class i c.args.entity =
    rw (← c.self.view_is) (rw (a, y) at c.get.ensures) in
    let more : c.push.new.self.items ≡ c.loop-attribute.values.items ++ x ∷ [] = search rules in
    rw more
    (attributes_more c.args.self.now.state.store c.args.class c.args.entity i i x (range_with_len 0 c.args.count)
    c.loop-attribute.values.items
    (ranged_at c.args.count i l) (sym value ∙ got) ∙ c.loop-attribute.invariant)

pub returns-clause-ok : goal.returns-clause-ok
returns-clause-ok g c =
    let e : c.args.count ≡ c.loop-attribute.attribute = search rules in
    sym c.loop-attribute.invariant
    ∙ attributes_all c.args.self.now.state.store c.args.class c.args.entity c.loop-attribute.attribute
    (range_with_len 0 c.args.count) c.loop-attribute.values.items
    (length-range_with_len 0 c.args.count ∙ e)
