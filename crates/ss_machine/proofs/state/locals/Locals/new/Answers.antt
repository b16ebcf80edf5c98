use Rattle.std.proofs.Common.{rules, refl, nat_le, w64, FitsSigned}
use Rattle.std.proofs.lemmas.Int.{to_z-of_z}
use Rattle.ss_machine.proofs.Locals.{locals_given}
use Rattle.ss_machine.specs.Locals.{IsPadded}
use Rattle.ss_machine.proofs.state.locals.Locals.new.Goals as goal

pub returns : goal.returns
returns c =
    let first : FitsSigned w64 c.value_or_zero.result = search rules in
    let second : FitsSigned w64 c.value_or_zero-2.result = search rules in
    let third : FitsSigned w64 c.value_or_zero-3.result = search rules in
    let fourth : FitsSigned w64 c.value_or_zero-4.result = search rules in
    let padded_ones : IsPadded c.args.given.now c.args.count c.in_ok-many.many.items = search rules in
    rw (
      to_z-of_z w64 _ first,
      to_z-of_z w64 _ second,
      to_z-of_z w64 _ third,
      to_z-of_z w64 _ fourth,
      c.value_or_zero.ensures,
      c.value_or_zero-2.ensures,
      c.value_or_zero-3.ensures,
      c.value_or_zero-4.ensures,
    )
    (locals_given (nat_le c.args.count 4) c.args.count c.args.given.now c.in_ok-many.many.items refl c.requires
    padded_ones)
