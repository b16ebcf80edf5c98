use Rattle.std.proofs.Common.{refl}
use Rattle.ss_check.proofs.resolved.statements.resolve_simple.Goals as goal

pub returns-in_ok-resolve_assign-in-Assign : goal.returns-in_ok-resolve_assign-in-Assign
returns-in_ok-resolve_assign-in-Assign c = rw (c.in-Assign.is, c.in_ok-resolve_assign-in-Assign.ensures) refl

pub returns-in_ok-new-in-Make : goal.returns-in_ok-new-in-Make
returns-in_ok-new-in-Make c =
    rw (c.in-Make.is, c.in_ok-new-in-Make.ensures, c.in_ok-making-in-Make.ensures) refl

pub returns-in_ok-new-in-File : goal.returns-in_ok-new-in-File
returns-in_ok-new-in-File c =
    rw (c.in-File.is, c.in_ok-new-in-File.ensures, c.in_ok-filing-in-File.ensures, c.deref.ensures) refl

pub returns-in-Transfer : goal.returns-in-Transfer
returns-in-Transfer c = rw c.in-Transfer.is (rw c.deref-in-Transfer.ensures at c.resolve_transfer.ensures)

pub returns-in_ok-new-in-Time : goal.returns-in_ok-new-in-Time
returns-in_ok-new-in-Time c =
    rw (c.in-Time.is, c.in_ok-new-in-Time.ensures, c.in_ok-timing-in-Time.ensures, c.deref-in-Time.ensures) refl

pub returns-in-Exchange : goal.returns-in-Exchange
returns-in-Exchange c = rw c.in-Exchange.is c.resolve_exchange.ensures
