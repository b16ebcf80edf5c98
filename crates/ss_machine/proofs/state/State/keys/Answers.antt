use Rattle.std.proofs.Common.{◌≡◌, ◌<◌, [], ◌∷◌, ◌++◌, List, pos, length, Ok, Err, rules, sym, get_or, w64}
use Rattle.std.proofs.Common.{FitsSigned, to_z, of_z, ◌∙◌}
use Rattle.std.specs.Prelude.{map}
use Rattle.std.proofs.lemmas.Int.{to_z-of_z}
use Rattle.std.proofs.lemmas.Option.{slice_get-get_or}
use Rattle.ss_words.specs.declared.fault.RunFault.{RunFault}
use Rattle.ss_words.specs.declared.fault.StepFault.TheVariants.{Fault}
use Rattle.ss_program.specs.declared.keys.Key.{Key}
use Rattle.ss_words.specs.declared.terms.Rank.TheVariants.{High}
use Rattle.ss_store.specs.Store.{attribute_of}
use Rattle.ss_state.proofs.Attributes.{attributes_more, attributes_fail, mapped_at}
use Rattle.ss_machine.proofs.state.State.keys.Goals as goal

pub returns-in_err-value-clause-err : goal.returns-in_err-value-clause-err
returns-in_err-value-clause-err g c =
    let fault : RunFault = c.in_err-value.field-0.0 in
    let i = c.loop-key.key-index in
    let ties : List Key = c.args.ties.now in
    let none : Key = record { rank = High; attribute = 0 } in
    let r : c.from_residual.result ≡ Err (Fault fault) = search rules in
    let here : c.deref-key-items.result.now ≡ ties = search rules in
    let l : i < length ties = search rules in
    let fits : FitsSigned w64 c.from.result = search rules in
    let a : to_z w64 (of_z w64 c.from.result) ≡ c.from.result = to_z-of_z w64 _ fits in
    let x : c.from.result ≡ pos c.args.entity = c.from.ensures in
    let got : c.get.result ≡ Err fault = search rules in
    let value : c.get.result ≡ attribute_of c.args.self.now.state.store c.args.class (get_or ties i none).attribute
    c.args.entity =
    rw (← c.self.view_is) (rw (a, x, here) at c.get.ensures) in
    rw r
    (sym c.loop-key.invariant
    ∙ attributes_fail c.args.self.now.state.store c.args.class c.args.entity i (get_or ties i none).attribute fault
    (map (λ key. key.attribute) ties)
    c.loop-key.values.items (mapped_at (λ key. key.attribute) ties i (get_or ties i none)
    (slice_get-get_or ties i none l)) (sym value ∙ got))

pub loop-key-preserved : goal.loop-key-preserved
loop-key-preserved g c =
    let i = c.loop-key.key-index in
    let ties : List Key = c.args.ties.now in
    let none : Key = record { rank = High; attribute = 0 } in
    let x = c.in_ok-value.value in
    let here : c.deref-key-items.result.now ≡ ties = search rules in
    let l : i < length ties = search rules in
    let fits : FitsSigned w64 c.from.result = search rules in
    let a : to_z w64 (of_z w64 c.from.result) ≡ c.from.result = to_z-of_z w64 _ fits in
    let y : c.from.result ≡ pos c.args.entity = c.from.ensures in
    let got : c.get.result ≡ Ok x = search rules in
    let value : c.get.result ≡ attribute_of c.args.self.now.state.store c.args.class (get_or ties i none).attribute
    c.args.entity =
    rw (← c.self.view_is) (rw (a, y, here) at c.get.ensures) in
    let more : c.push.new.self.items ≡ c.loop-key.values.items ++ x ∷ [] = search rules in
    rw more
    (attributes_more c.args.self.now.state.store c.args.class c.args.entity i (get_or ties i none).attribute x
    (map (λ key. key.attribute) ties)
    c.loop-key.values.items (mapped_at (λ key. key.attribute) ties i (get_or ties i none)
    (slice_get-get_or ties i none l)) (sym value ∙ got)
    ∙ c.loop-key.invariant)
