use Rattle.std.proofs.Common.{◌≡◌, arith, rules, false, true, Err}
use Rattle.ss_words.specs.declared.fault.RunFault.{RunFault}
use Rattle.ss_words.specs.declared.fault.StepFault.TheVariants.{Fault}
use Rattle.ss_machine.proofs.Scopes.{kind_there, kind_is}
use Rattle.ss_machine.proofs.Notings.{notes_within}
use Rattle.ss_machine.proofs.executor.Executor.make.Goals as goal

pub create-requires-clause-class : goal.create-requires-clause-class
create-requires-clause-class g c =
    kind_there c.args.self.now.held.beside.tables.classes c.in-Create.class false
    (rw c.in-Create.is at c.requires.sound).0

pub create-requires-clause-kind : goal.create-requires-clause-kind
create-requires-clause-kind g c =
    kind_is c.args.self.now.held.beside.tables.classes c.in-Create.class false
    (rw c.in-Create.is at c.requires.sound).0

pub create-requires-clause-target : goal.create-requires-clause-target
create-requires-clause-target g c = (rw c.in-Create.is at c.requires.sound).1

pub returns-in-Create-clause-outcome : goal.returns-in-Create-clause-outcome
returns-in-Create-clause-outcome g c = rw c.in-Create.is c.create.ensures.outcome

pub create_every-requires-clause-class : goal.create_every-requires-clause-class
create_every-requires-clause-class g c =
    kind_there c.args.self.now.held.beside.tables.classes c.in-CreateEvery.class true
    (rw c.in-CreateEvery.is at c.requires.sound).0

pub create_every-requires-clause-kind : goal.create_every-requires-clause-kind
create_every-requires-clause-kind g c =
    kind_is c.args.self.now.held.beside.tables.classes c.in-CreateEvery.class true
    (rw c.in-CreateEvery.is at c.requires.sound).0

pub create_every-requires-clause-number : goal.create_every-requires-clause-number
create_every-requires-clause-number g c = (rw c.in-CreateEvery.is at c.requires.sound).1

pub create_every-requires-clause-count : goal.create_every-requires-clause-count
create_every-requires-clause-count g c = (rw c.in-CreateEvery.is at c.requires.sound).2

pub returns-in-CreateEvery-clause-outcome : goal.returns-in-CreateEvery-clause-outcome
returns-in-CreateEvery-clause-outcome g c = rw c.in-CreateEvery.is c.create_every.ensures.outcome

pub destroy-requires-clause-class : goal.destroy-requires-clause-class
destroy-requires-clause-class g c =
    kind_there c.args.self.now.held.beside.tables.classes c.in-Destroy.class false
    (rw c.in-Destroy.is at c.requires.sound).0

pub destroy-requires-clause-kind : goal.destroy-requires-clause-kind
destroy-requires-clause-kind g c =
    kind_is c.args.self.now.held.beside.tables.classes c.in-Destroy.class false
    (rw c.in-Destroy.is at c.requires.sound).0

pub destroy-requires-clause-entity : goal.destroy-requires-clause-entity
destroy-requires-clause-entity g c = (rw c.in-Destroy.is at c.requires.sound).1

pub returns-in_err-destroy-in-Destroy-clause-outcome : goal.returns-in_err-destroy-in-Destroy-clause-outcome
returns-in_err-destroy-in-Destroy-clause-outcome g c =
    let e : RunFault = c.in_err-destroy-in-Destroy.field-0.0 in
    let r : c.from_residual.result ≡ Err (Fault e) = search rules in
    rw (r, c.in-Destroy.is) c.in_err-destroy-in-Destroy.ensures.outcome

pub returns-in_err-destroy-in-Destroy-clause-notes : goal.returns-in_err-destroy-in-Destroy-clause-notes
returns-in_err-destroy-in-Destroy-clause-notes g c =
    notes_within 1 2 c.args.self.now c.destroy.new.self c.destroy.ensures.notes (omega arith)

pub returns-in_ok-destroy-in-Destroy-clause-outcome : goal.returns-in_ok-destroy-in-Destroy-clause-outcome
returns-in_ok-destroy-in-Destroy-clause-outcome g c = rw c.in-Destroy.is c.in_ok-destroy-in-Destroy.ensures.outcome

pub returns-in_ok-destroy-in-Destroy-clause-notes : goal.returns-in_ok-destroy-in-Destroy-clause-notes
returns-in_ok-destroy-in-Destroy-clause-notes g c =
    notes_within 1 2 c.args.self.now c.destroy.new.self c.destroy.ensures.notes (omega arith)
