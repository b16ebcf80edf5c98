-- The exit statuses of the program.
use Rattle.std.specs.Prelude.{ℕ, Result, Ok, Err}
use Rattle.ssdb.specs.declared.end.PromptEnd.{PromptEnd}
use Rattle.ssdb.specs.declared.end.PromptEnd.TheVariants.{Done, Faulted}
use Rattle.ssdb.specs.declared.end.PromptFault.{PromptFault}
use Rattle.ssdb.specs.declared.end.PromptFault.TheVariants.{Refused, Cut as Broken, Memory}
use Rattle.std.specs.Prelude.{Bool, if◌then◌else◌}

-- 4 for a run that is faulted when input that is no terminal ends, else 0; a failed reading or
-- writing 2, a refused model 3, no memory 5
abbrev pub prompt_status : Bool → Result PromptEnd PromptFault → ℕ
prompt_status terminal (Ok Done) = 0
prompt_status terminal (Ok Faulted) = if terminal then 0 else 4
prompt_status terminal (Err (Broken cut)) = 2
prompt_status terminal (Err Refused) = 3
prompt_status terminal (Err Memory) = 5
