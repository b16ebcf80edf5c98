use Rattle.std.proofs.Common.{◌≡◌, ◌<◌, ◌+◌, [], ◌∷◌, ◌++◌, length, Ok, Err, rules, sym, ◌∙◌}
use Rattle.ss_words.specs.declared.fault.StepFault.TheVariants.{Fault}
use Rattle.std.specs.Prelude.{slice_get}
use Rattle.ss_data.specs.Items.{with_taken}
use Rattle.ss_state.specs.Statements.Reading.{value_taken}
use Rattle.ss_state.proofs.Takes.{take_more, take_none}
use Rattle.ss_machine.proofs.state.data.take_values.Goals as goal

pub returns-in_err-value-clause-fault : goal.returns-in_err-value-clause-fault
returns-in_err-value-clause-fault c =
    let fault = c.in_err-value.field-0.0 in
    let e : c.from_residual-in_err-value.result ≡ Err (Fault fault) = search rules in
    let l : c.loop-target._target-index < length c.args.targets.now = search rules in
    let n : value_taken c.args.external (slice_get c.loop-target.feed.items c.loop-target.feed.taken) ≡ Err fault =
    search rules in
    rw e (sym c.loop-target.invariant.values
    ∙ take_none c.args.external c.loop-target.feed c.loop-target._target-index c.args.targets.now
    c.loop-target.values.items fault l n)

pub loop-target-preserved : goal.loop-target-preserved
loop-target-preserved c =
    let feed = c.loop-target.feed in
    let new = c.take_value.new.feed in
    let x = c.in_ok-value.value in
    let l : c.loop-target._target-index < length c.args.targets.now = search rules in
    let e : value_taken c.args.external (slice_get feed.items feed.taken) ≡ Ok x = search rules in
    let f : new ≡ with_taken feed (feed.taken + 1) = search rules in
    let g : c.push.new.self.items ≡ c.loop-target.values.items ++ x ∷ [] = search rules in
    record {
      items = search rules;
      taken = search rules;
      values =
          take_more c.args.external feed new c.loop-target._target-index c.args.targets.now c.loop-target.values.items
          c.push.new.self.items x l e f g
          ∙ c.loop-target.invariant.values;
    }
