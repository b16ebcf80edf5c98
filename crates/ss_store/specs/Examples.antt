-- Filing and removing, on small stores.
use Rattle.std.specs.Prelude.{◌≡◌, ℕ, ℤ, pos, false, List, [], ◌∷◌, Option, Some, None, Result, Ok, Err}
use Rattle.ss_words.specs.declared.fault.RunFault.{RunFault}
use Rattle.ss_words.specs.declared.fault.RunFault.TheVariants.{NoEntity, AlreadyInSet, NotInList, EmptySet, EndedInUse}
use Rattle.ss_words.specs.declared.fault.RunFault.TheVariants.{EndedOwner}
use Rattle.ss_words.specs.declared.terms.Rank.TheVariants.{High, Low}
use Rattle.ss_program.specs.declared.kinds.Discipline.{Discipline}
use Rattle.ss_program.specs.declared.kinds.Discipline.TheVariants.{Fifo, Lifo, Ranked}
use Rattle.ss_program.specs.declared.kinds.Owner.TheVariants.{System}
use Rattle.ss_store.specs.declared.shape.ClassShape.{ClassShape}
use Rattle.ss_store.specs.declared.shape.SetShape.{SetShape}
use Rattle.ss_store.specs.declared.shape.How.{How}
use Rattle.ss_store.specs.declared.shape.How.TheVariants.{ByRule, Before, After}
use Rattle.ss_store.specs.declared.shape.Which.{Which}
use Rattle.ss_store.specs.declared.shape.Which.TheVariants as which
use Rattle.ss_store.specs.Tables.{Tables}
use Rattle.ss_store.specs.Store.{Entity, Store, members_of, exists, with_attribute, with_new, last_reference}
use Rattle.ss_store.specs.Store.{without_entity}
use Rattle.ss_store.specs.Filing.{after_filing, after_removing}

-- a job with a size and an age
abbrev pub job : ℤ → ℤ → Option Entity
job size age = Some (record { class = 0; attributes = size ∷ age ∷ []; owned = [] })

-- jobs 1 to 4, and a set of the system whose list is this
abbrev pub jobs : List ℕ → Store
jobs row = record {
  made = [] ∷ [];
  references = job (pos 1) (pos 0) ∷ job (pos 0) (pos 0) ∷ job (pos 1) (pos 0) ∷ job (pos 0) (pos 1) ∷ [];
  system = row ∷ [];
}

-- a set of the system, of this discipline
abbrev pub set_by : Discipline → SetShape
set_by discipline = record { discipline = discipline; owner = System; list = 0; member = 0; slot = 0 }

-- ranked by HIGH size, and then by LOW age
abbrev pub high_size_low_age : Discipline
high_size_low_age = Ranked (record { rank = High; attribute = 0 } ∷ record { rank = Low; attribute = 1 } ∷ [])

-- the list once these were filed, each at its place, or the fault
abbrev pub list_after : SetShape → Result Store RunFault → Result (List ℕ) RunFault
list_after shape (Ok st) = Ok (members_of shape st 0)
list_after shape (Err f) = Err f

-- job k filed then, unless there was a fault
abbrev pub then_filed : SetShape → ℕ → How → Result Store RunFault → Result Store RunFault
then_filed shape k how (Ok st) = after_filing shape st 0 k how
then_filed shape k how (Err f) = Err f

-- the store that is left
abbrev pub store_of : Result (ℕ × Store) RunFault → Result Store RunFault
store_of (Ok r) = Ok r.1
store_of (Err f) = Err f

-- a member removed then, unless there was a fault
abbrev pub then_removed : SetShape → Which → Result Store RunFault → Result Store RunFault
then_removed shape which (Ok st) = store_of (after_removing shape st 0 which)
then_removed shape which (Err f) = Err f

-- 1, 2, 3 and 4 filed in turn by the discipline
abbrev pub all_filed : SetShape → Result (List ℕ) RunFault
all_filed shape = list_after shape
    (then_filed shape 4 ByRule
    (then_filed shape 3 ByRule (then_filed shape 2 ByRule (after_filing shape (jobs []) 0 1 ByRule))))

-- FIFO files last
abbrev pub FifoFilesLast : Type 0
FifoFilesLast = all_filed (set_by Fifo) ≡ Ok (1 ∷ 2 ∷ 3 ∷ 4 ∷ [])

-- LIFO files first
abbrev pub LifoFilesFirst : Type 0
LifoFilesFirst = all_filed (set_by Lifo) ≡ Ok (4 ∷ 3 ∷ 2 ∷ 1 ∷ [])

-- HIGH size, then LOW age; 3 ties with 1 and is filed after it
abbrev pub RankedByTwoKeys : Type 0
RankedByTwoKeys = all_filed (set_by high_size_low_age) ≡ Ok (1 ∷ 3 ∷ 2 ∷ 4 ∷ [])

-- 2 grows to size 5 once it is filed: it stays in place; 3 is filed by the sizes at that moment
abbrev pub RankedByPresentKeys : Type 0
RankedByPresentKeys =
    list_after (set_by high_size_low_age)
    (then_filed (set_by high_size_low_age) 3 ByRule (with_attribute (jobs (1 ∷ 2 ∷ [])) 0 0 2 (pos 5)))
    ≡ Ok (1 ∷ 2 ∷ 3 ∷ [])

-- BEFORE and AFTER the first and the last
abbrev pub FiledBesideEnds : Type 0
FiledBesideEnds =
    (list_after (set_by Fifo) (after_filing (set_by Fifo) (jobs (1 ∷ 2 ∷ [])) 0 3 (Before (pos 1)))
    ≡ Ok (3 ∷ 1 ∷ 2 ∷ []))
    × (list_after (set_by Fifo) (after_filing (set_by Fifo) (jobs (1 ∷ 2 ∷ [])) 0 3 (After (pos 1)))
    ≡ Ok (1 ∷ 3 ∷ 2 ∷ []))
    × (list_after (set_by Fifo) (after_filing (set_by Fifo) (jobs (1 ∷ 2 ∷ [])) 0 3 (Before (pos 2)))
    ≡ Ok (1 ∷ 3 ∷ 2 ∷ []))
    × (list_after (set_by Fifo) (after_filing (set_by Fifo) (jobs (1 ∷ 2 ∷ [])) 0 3 (After (pos 2)))
    ≡ Ok (1 ∷ 2 ∷ 3 ∷ []))

-- the first, the last, the middle and the only member removed
abbrev pub RemovedAnywhere : Type 0
RemovedAnywhere =
    (list_after (set_by Fifo) (then_removed (set_by Fifo) which.First (Ok (jobs (1 ∷ 2 ∷ 3 ∷ [])))) ≡ Ok (2 ∷ 3 ∷ []))
    × (list_after (set_by Fifo) (then_removed (set_by Fifo) which.Last (Ok (jobs (1 ∷ 2 ∷ 3 ∷ [])))) ≡ Ok (1 ∷ 2 ∷ []))
    × (list_after (set_by Fifo) (then_removed (set_by Fifo) (which.Member (pos 2)) (Ok (jobs (1 ∷ 2 ∷ 3 ∷ []))))
    ≡ Ok (1 ∷ 3 ∷ []))
    × (list_after (set_by Fifo) (then_removed (set_by Fifo) (which.Member (pos 4)) (Ok (jobs (4 ∷ [])))) ≡ Ok [])

-- the lowest fault that applies: F3 before F4, F4 before F5
abbrev pub LowestFaultFirst : Type 0
LowestFaultFirst =
    (list_after (set_by Fifo) (after_filing (set_by Fifo) (jobs (1 ∷ [])) 0 1 (Before (pos 9))) ≡ Err NoEntity)
    × (list_after (set_by Fifo) (after_filing (set_by Fifo) (jobs (1 ∷ [])) 0 1 (Before (pos 2))) ≡ Err AlreadyInSet)
    × (list_after (set_by Fifo) (after_filing (set_by Fifo) (jobs (1 ∷ [])) 0 3 (Before (pos 2))) ≡ Err NotInList)
    × (list_after (set_by Fifo) (then_removed (set_by Fifo) which.First (Ok (jobs []))) ≡ Err EmptySet)

-- ---- ending

-- jobs, each of which owns a list of jobs
abbrev pub job_class : ClassShape
job_class = record { attributes = 2; owned = 1; joined = 1; permanent = false }

-- their tables
abbrev pub job_tables : Tables
job_tables = record { classes = job_class ∷ []; sets = set_by Fifo ∷ []; system = 1 }

-- a job that owns this list
abbrev pub owning_job : List ℕ → Option Entity
owning_job row = Some (record { class = 0; attributes = pos 0 ∷ pos 0 ∷ []; owned = row ∷ [] })

-- jobs 1 and 2: the first is in the system's list, the second owns the first
abbrev pub two_jobs : Store
two_jobs = record { made = [] ∷ []; references = owning_job [] ∷ owning_job (1 ∷ []) ∷ []; system = (1 ∷ []) ∷ [] }

-- jobs 1 and 2, in no list
abbrev pub free_jobs : Store
free_jobs = record { made = [] ∷ []; references = owning_job [] ∷ owning_job [] ∷ []; system = [] ∷ [] }

-- the second was ended
abbrev pub one_job : Store
one_job = record { made = [] ∷ []; references = owning_job [] ∷ None ∷ []; system = [] ∷ [] }

-- the reference that the next entity gets, or the fault
abbrev pub next_reference : Result Store RunFault → Result ℕ RunFault
next_reference (Ok st) = Ok (last_reference st)
next_reference (Err f) = Err f

-- an entity that was ended is gone; the next entity gets another reference
abbrev pub EndedIsGone : Type 0
EndedIsGone =
    (without_entity job_tables free_jobs 0 2 ≡ Ok one_job)
    × (exists one_job 0 2 ≡ false)
    × (without_entity job_tables one_job 0 2 ≡ Err NoEntity)
    × (next_reference (with_new one_job 0 job_class) ≡ Ok 3)

-- F7 of a member, also of one that owns members; F8 of an owner
abbrev pub EndedInNoUse : Type 0
EndedInNoUse =
    (without_entity job_tables two_jobs 0 1 ≡ Err EndedInUse)
    × (without_entity job_tables two_jobs 0 2 ≡ Err EndedOwner)
    × (without_entity job_tables (record two_jobs { system = (2 ∷ []) ∷ [] }) 0 2 ≡ Err EndedInUse)
