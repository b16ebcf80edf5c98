use Rattle.std.proofs.Common.{ℕ, ◌∷◌, ap, arith}
use Rattle.ss_machine.specs.History.{behind}
use Rattle.ss_machine.proofs.Histories.{changes_written, still_written}
use Rattle.ss_machine.proofs.history.tape.Tape.write_kept.Goals as goal

pub returns : goal.returns
returns c =
    let headed = c.put.ensures.current in
    let left = c.args.self.now.kept.current in
    let os = c.args.kept ∷ left in
    let one = ap (λ (k : ℕ). behind k os) c.requires.kept in
    record {
      changes =
          rw c.note.ensures.current
          (changes_written c.args.kind headed.number c.args.fields.now c.args.self.now.numbers.current
          c.put.new.numbers.current os left headed.tells headed.current c.requires.count one);
      written =
          rw c.note.ensures.current
          (still_written c.args.kind headed.number c.args.fields.now c.args.self.now.numbers.current
          c.put.new.numbers.current os left headed.tells headed.current c.requires.count one c.requires.has);
      number_steps = c.put.ensures.steps;
      kept_steps = c.note.ensures.steps;
      number_closes = c.put.ensures.closes;
      kept_closes = c.note.ensures.closes;
      numbers = omega (arith, c.put.ensures.notes, c.requires.few);
      kept = omega (arith, c.note.ensures.notes);
    }
