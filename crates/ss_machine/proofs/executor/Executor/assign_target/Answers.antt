use Rattle.std.proofs.Common.{◌≡◌, rules, w64, FitsSigned, to_z, of_z, Ok, Err}
use Rattle.std.proofs.lemmas.Int.{to_z-of_z}
use Rattle.ss_words.specs.declared.fault.RunFault.{RunFault}
use Rattle.ss_program.specs.declared.target.Target.TheVariants.{Attribute}
use Rattle.ss_values.specs.Values.{subscript_value}
use Rattle.ss_state.specs.Readings.{readings}
use Rattle.ss_machine.proofs.Storings.{refusal_is, storing_is}
use Rattle.ss_machine.proofs.Executing.{attribute_fails, attribute_ends}
use Rattle.ss_machine.proofs.executor.Executor.assign_target.Goals as goal

pub returns-in_err-change-in-Attribute-clause-outcome : goal.returns-in_err-change-in-Attribute-clause-outcome
returns-in_err-change-in-Attribute-clause-outcome g c =
    let e : RunFault = c.in_err-change-in-Attribute.field-0.0 in
    let h = c.args.self.now.held in
    let i = c.in-Attribute in
    let x = c.in_ok-entity-in-Attribute.entity in
    let fits : FitsSigned w64 x = search rules in
    let a : to_z w64 (of_z w64 x) ≡ x = to_z-of_z w64 _ fits in
    let long : FitsSigned w64 c.args.value = search rules in
    let b : to_z w64 (of_z w64 c.args.value) ≡ c.args.value = to_z-of_z w64 _ long in
    let t : c.args.target.now ≡ Attribute i.class i.attribute i.index = search rules in
    let o : subscript_value (readings h.beside.tables h.state) i.index ≡ Ok x = search rules in
    let r : c.from_residual-in_err-change-in-Attribute.result ≡ Err e = search rules in
    rw r (attribute_fails h.beside.tables h.state c.args.target.now i.class i.attribute i.index x c.args.value e t o
    (refusal_is e _ h c.set_attribute.new.self (rw (a, b) at c.in_err-change-in-Attribute.ensures)).0)

pub returns-in_ok-change-in-Attribute-clause-outcome : goal.returns-in_ok-change-in-Attribute-clause-outcome
returns-in_ok-change-in-Attribute-clause-outcome g c =
    let h = c.args.self.now.held in
    let i = c.in-Attribute in
    let x = c.in_ok-entity-in-Attribute.entity in
    let fits : FitsSigned w64 x = search rules in
    let a : to_z w64 (of_z w64 x) ≡ x = to_z-of_z w64 _ fits in
    let long : FitsSigned w64 c.args.value = search rules in
    let b : to_z w64 (of_z w64 c.args.value) ≡ c.args.value = to_z-of_z w64 _ long in
    let t : c.args.target.now ≡ Attribute i.class i.attribute i.index = search rules in
    let o : subscript_value (readings h.beside.tables h.state) i.index ≡ Ok x = search rules in
    let s = storing_is c.in_ok-change-in-Attribute.change _ h c.set_attribute.new.self
    (rw (a, b) at c.in_ok-change-in-Attribute.ensures) in
    attribute_ends h.beside.tables h.state c.set_attribute.new.self.state c.args.target.now i.class i.attribute i.index
    x c.args.value s.0 t o s.1 s.2.state
