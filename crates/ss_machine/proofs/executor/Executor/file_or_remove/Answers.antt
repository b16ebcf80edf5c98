use Rattle.std.proofs.Common.{◌≡◌, arith, rules, refl, w64, FitsSigned, to_z, of_z, Ok, Err}
use Rattle.std.proofs.lemmas.Int.{to_z-of_z}
use Rattle.ss_words.specs.declared.fault.RunFault.{RunFault}
use Rattle.ss_values.specs.Values.{value_of}
use Rattle.ss_state.specs.Readings.{readings}
use Rattle.ss_state.specs.Statements.Filing.{how_asked}
use Rattle.ss_machine.proofs.Notings.{notes_within, notes_none}
use Rattle.ss_machine.proofs.executor.Executor.file_or_remove.Goals as goal

pub returns-in_err-x-in-File-clause-outcome : goal.returns-in_err-x-in-File-clause-outcome
returns-in_err-x-in-File-clause-outcome g c =
    let h = c.args.self.now.held in
    let e : RunFault = c.in_err-x-in-File.field-0.0 in
    let v : value_of (readings h.beside.tables h.state) c.in-File.member ≡ Err e = search rules in
    let r : c.from_residual.result ≡ Err e = search rules in
    rw (r, c.in-File.is, v) refl

pub returns-in_err-x-in-File-clause-notes : goal.returns-in_err-x-in-File-clause-notes
returns-in_err-x-in-File-clause-notes g c =
    notes_none 2 c.args.self.now.held c.args.self.now.held c.args.self.now.journal refl

pub returns-in_err-how-in-File-clause-outcome : goal.returns-in_err-how-in-File-clause-outcome
returns-in_err-how-in-File-clause-outcome g c =
    let h = c.args.self.now.held in
    let x = c.in_ok-x-in-File.x in
    let e : RunFault = c.in_err-how-in-File.field-0.0 in
    let v : value_of (readings h.beside.tables h.state) c.in-File.member ≡ Ok x = search rules in
    let w : how_asked (readings h.beside.tables h.state) c.in-File.position ≡ Err e = search rules in
    let r : c.from_residual-in_err-how-in-File.result ≡ Err e = search rules in
    rw (r, c.in-File.is, v, w) refl

pub returns-in_err-how-in-File-clause-notes : goal.returns-in_err-how-in-File-clause-notes
returns-in_err-how-in-File-clause-notes g c =
    notes_none 2 c.args.self.now.held c.args.self.now.held c.args.self.now.journal refl

pub returns-in_ok-how-in-File-clause-outcome : goal.returns-in_ok-how-in-File-clause-outcome
returns-in_ok-how-in-File-clause-outcome g c =
    let h = c.args.self.now.held in
    let x = c.in_ok-x-in-File.x in
    let fits : FitsSigned w64 x = search rules in
    let a : to_z w64 (of_z w64 x) ≡ x = to_z-of_z w64 _ fits in
    let v : value_of (readings h.beside.tables h.state) c.in-File.member ≡ Ok x = search rules in
    let w : how_asked (readings h.beside.tables h.state) c.in-File.position ≡ Ok c.in_ok-how-in-File.how =
    search rules in
    rw (c.in-File.is, v, w) (rw a at c.file.ensures.outcome)

pub returns-in_ok-how-in-File-clause-notes : goal.returns-in_ok-how-in-File-clause-notes
returns-in_ok-how-in-File-clause-notes g c =
    notes_within 1 2 c.args.self.now c.file.new.self c.file.ensures.notes (omega arith)

pub returns-in_err-x-in-FileAt-clause-outcome : goal.returns-in_err-x-in-FileAt-clause-outcome
returns-in_err-x-in-FileAt-clause-outcome g c =
    let h = c.args.self.now.held in
    let e : RunFault = c.in_err-x-in-FileAt.field-0.0 in
    let v : value_of (readings h.beside.tables h.state) c.in-FileAt.member ≡ Err e = search rules in
    let r : c.from_residual-in_err-x-in-FileAt.result ≡ Err e = search rules in
    rw (r, c.in-FileAt.is, v) refl

pub returns-in_err-x-in-FileAt-clause-notes : goal.returns-in_err-x-in-FileAt-clause-notes
returns-in_err-x-in-FileAt-clause-notes g c =
    notes_none 2 c.args.self.now.held c.args.self.now.held c.args.self.now.journal refl

pub returns-in_ok-x-in-FileAt-clause-outcome : goal.returns-in_ok-x-in-FileAt-clause-outcome
returns-in_ok-x-in-FileAt-clause-outcome g c =
    let h = c.args.self.now.held in
    let x = c.in_ok-x-in-FileAt.x in
    let fits : FitsSigned w64 x = search rules in
    let a : to_z w64 (of_z w64 x) ≡ x = to_z-of_z w64 _ fits in
    let v : value_of (readings h.beside.tables h.state) c.in-FileAt.member ≡ Ok x = search rules in
    rw (c.in-FileAt.is, v) (rw (a, c.how_at.ensures) at c.file-in-FileAt.ensures.outcome)

pub returns-in_ok-x-in-FileAt-clause-notes : goal.returns-in_ok-x-in-FileAt-clause-notes
returns-in_ok-x-in-FileAt-clause-notes g c =
    notes_within 1 2 c.args.self.now c.file-in-FileAt.new.self c.file-in-FileAt.ensures.notes (omega arith)

pub returns-in-RemoveAt-clause-outcome : goal.returns-in-RemoveAt-clause-outcome
returns-in-RemoveAt-clause-outcome g c =
    rw c.in-RemoveAt.is c.remove_end.ensures.outcome

pub returns-in_err-x-in-Remove-clause-outcome : goal.returns-in_err-x-in-Remove-clause-outcome
returns-in_err-x-in-Remove-clause-outcome g c =
    let h = c.args.self.now.held in
    let e : RunFault = c.in_err-x-in-Remove.field-0.0 in
    let v : value_of (readings h.beside.tables h.state) c.in-Remove.member ≡ Err e = search rules in
    let r : c.from_residual-in_err-x-in-Remove.result ≡ Err e = search rules in
    rw (r, c.in-Remove.is, v) refl

pub returns-in_err-x-in-Remove-clause-notes : goal.returns-in_err-x-in-Remove-clause-notes
returns-in_err-x-in-Remove-clause-notes g c =
    notes_none 2 c.args.self.now.held c.args.self.now.held c.args.self.now.journal refl

pub returns-in_ok-x-in-Remove-clause-outcome : goal.returns-in_ok-x-in-Remove-clause-outcome
returns-in_ok-x-in-Remove-clause-outcome g c =
    let h = c.args.self.now.held in
    let x = c.in_ok-x-in-Remove.x in
    let fits : FitsSigned w64 x = search rules in
    let a : to_z w64 (of_z w64 x) ≡ x = to_z-of_z w64 _ fits in
    let v : value_of (readings h.beside.tables h.state) c.in-Remove.member ≡ Ok x = search rules in
    rw (c.in-Remove.is, v) (rw a at c.remove.ensures.outcome)

pub returns-in_ok-x-in-Remove-clause-notes : goal.returns-in_ok-x-in-Remove-clause-notes
returns-in_ok-x-in-Remove-clause-notes g c =
    notes_within 1 2 c.args.self.now c.remove.new.self c.remove.ensures.notes (omega arith)
