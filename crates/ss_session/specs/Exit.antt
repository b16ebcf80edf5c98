-- The exit status of the program, by how its session ends.
use Rattle.std.specs.Prelude.{ℕ, Result, Ok, Err}
use Rattle.ss_session.specs.declared.ending.End.{End}
use Rattle.ss_session.specs.declared.ending.End.TheVariants.{Done, RunFault}
use Rattle.ss_session.specs.declared.ending.SessionFault.{SessionFault}
use Rattle.ss_session.specs.declared.ending.SessionFault.TheVariants.{Text, Check, Write, Memory}

-- 0 done, 4 a run that faulted, 3 a refused model, 2 a failed write, 5 no memory
abbrev pub status_of : Result End SessionFault → ℕ
status_of (Ok Done) = 0
status_of (Ok RunFault) = 4
status_of (Err Text) = 3
status_of (Err Check) = 3
status_of (Err Write) = 2
status_of (Err Memory) = 5
