-- The parts to which the references of an editor refer: each number is that of the same part of
-- each state.
use Rattle.std.specs.Prelude.{ℕ, ◌+◌, ◌-◌, ◌*◌, ◌/◌, ◌%◌, ◌^◌, ◌&&◌, nat_lt, nat_eq, if◌then◌else◌}
use Rattle.ss_scopes.specs.declared.group.Group.{Group}
use Rattle.ss_scopes.specs.declared.group.Group.TheVariants.{Nothing, Globals, Classes, Sets, Events, Data, Run}
use Rattle.ss_scopes.specs.declared.group.Group.TheVariants.{Locals, Class, Entity, Set, Members}
use Rattle.ss_scopes.specs.declared.group.TheConstants.{ROW, MOST_ROWS, FIRST_LOCALS}

-- the reference of entity number k of class c, or of the whole class if k is 0; 0 if there is none
abbrev pub class_reference : ℕ → ℕ → ℕ
class_reference c k = if nat_lt c MOST_ROWS && nat_lt k ROW then (2 * c + 1) * ROW + k else 0

-- the reference of the list of set s for owner j, or of the set if j is 0; 0 if there is none
abbrev pub set_reference : ℕ → ℕ → ℕ
set_reference s j = if nat_lt s MOST_ROWS && nat_lt j ROW then (2 * s + 2) * ROW + j else 0

-- the part to which a reference below ROW refers
abbrev pub fixed_group : ℕ → Group
fixed_group n =
    if nat_eq n 0 then Nothing else
    if nat_eq n 1 then Globals else
    if nat_eq n 2 then Classes else
    if nat_eq n 3 then Sets else
    if nat_eq n 4 then Events else
    if nat_eq n 5 then Data else
    if nat_eq n 6 then Run else Locals (n - FIRST_LOCALS)

-- the part of a reference in a row: odd rows are those of the classes, even ones those of the sets
abbrev pub row_group : ℕ → ℕ → Group
row_group row n =
    if nat_eq (row % 2) 1 then (if nat_eq n 0 then Class (row / 2) else Entity (row / 2) n) else
    if nat_eq n 0 then Set (row / 2 - 1) else Members (row / 2 - 1) n

-- the part to which a reference refers
abbrev pub group_of : ℕ → Group
group_of n =
    if nat_lt n (2 ^ 32) then
    (if nat_lt n ROW then fixed_group n else row_group (n / ROW) (n % ROW))
    else Nothing
