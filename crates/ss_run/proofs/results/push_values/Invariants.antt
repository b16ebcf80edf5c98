use Rattle.std.proofs.Common.{◌≡◌, ◌++◌, [], take}
use Rattle.csv.specs.Records.{fields_of, partial_of}
use Rattle.ss_machine.specs.Moment.{position}
use Rattle.ss_run.specs.Results.{values_at}
use Rattle.ss_run.proofs.results.push_values.Given as goal

abbrev pub invariant-loop-measure : goal.invariant-loop-measure
invariant-loop-measure g l = record {
  partial : partial_of l.cells ≡ [];
  fields : fields_of l.cells ≡ fields_of l.initial.cells ++ values_at l.debugger.machine.input l.symbols
      (take l.measure-index l.measures) (position l.debugger.machine);
}
