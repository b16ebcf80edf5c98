-- The exit statuses of the program.
use Rattle.std.specs.Prelude.{ℕ}
use Rattle.ss_serve.specs.declared.fault.SessionFault.TheVariants as fault
use Rattle.ssdap.specs.declared.stop.Stop.{Stop}
use Rattle.ssdap.specs.declared.stop.Stop.TheVariants.{Words, Memory, Session}

-- that of the words; 5 for memory, else 2
abbrev pub stop_status : Stop → ℕ
stop_status (Words status) = status
stop_status Memory = 5
stop_status (Session fault.Memory) = 5
stop_status (Session other) = 2
