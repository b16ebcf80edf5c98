use Rattle.std.proofs.Common.{ℕ, refl, ap, arith}
use Rattle.ss_machine.specs.History.{behind}
use Rattle.ss_machine.proofs.Histories.{changes_written, still_written}
use Rattle.ss_machine.proofs.history.tape.Tape.write.Goals as goal

pub returns : goal.returns
returns c =
    let headed = c.put.ensures.current in
    let os = c.args.self.now.kept.current in
    let none = ap (λ (k : ℕ). behind k os) c.requires.kept in
    record {
      changes =
          changes_written c.args.kind headed.number c.args.fields.now c.args.self.now.numbers.current
          c.put.new.numbers.current os os headed.tells headed.current c.requires.count none;
      written =
          still_written c.args.kind headed.number c.args.fields.now c.args.self.now.numbers.current
          c.put.new.numbers.current os os headed.tells headed.current c.requires.count none c.requires.has;
      number_steps = c.put.ensures.steps;
      kept_steps = refl;
      number_closes = c.put.ensures.closes;
      kept_closes = refl;
      numbers = omega (arith, c.put.ensures.notes, c.requires.few);
      kept = omega arith;
    }
