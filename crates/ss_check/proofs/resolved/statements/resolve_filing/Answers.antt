use Rattle.std.proofs.Common.{refl}
use Rattle.ss_check.proofs.resolved.statements.resolve_filing.Goals as goal

pub returns-in-Ok : goal.returns-in-Ok
returns-in-Ok c =
    rw (
      c.in-File.is,
      c.in-Ok.ensures,
      c.in_ok-member-in-File.ensures.member,
      c.in_ok-member-in-File.ensures.set,
    )
    refl

pub returns-in_ok-member-in-FileAt : goal.returns-in_ok-member-in-FileAt
returns-in_ok-member-in-FileAt c =
    rw (
      c.in-FileAt.is,
      c.in_ok-member-in-FileAt.ensures.member,
      c.in_ok-member-in-FileAt.ensures.set,
    )
    refl

pub returns-in_ok-target-in-RemoveEnd : goal.returns-in_ok-target-in-RemoveEnd
returns-in_ok-target-in-RemoveEnd c =
    rw (
      c.in-RemoveEnd.is,
      c.in_ok-target-in-RemoveEnd.ensures.target,
      c.in_ok-target-in-RemoveEnd.ensures.set,
    )
    refl

pub returns-in_ok-member-in-Remove : goal.returns-in_ok-member-in-Remove
returns-in_ok-member-in-Remove c =
    rw (c.in-Remove.is, c.in_ok-member-in-Remove.ensures.member, c.in_ok-member-in-Remove.ensures.set) refl
