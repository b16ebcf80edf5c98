-- Kept attributes, as an editor shows them.
use Rattle.std.specs.Prelude.{ℕ, List, ◌++◌, codes, decimal, false, if◌then◌else◌}
use Rattle.std.specs.Result.{result_unwrap_or}
use Rattle.ss_store.specs.declared.shape.SetShape.{SetShape}
use Rattle.ss_store.specs.Store.{Store}
use Rattle.ss_store.specs.Filing.{walk_first, walk_last, count, predecessor, successor, membership}
use Rattle.ss_debug.specs.Entities.{member_read}
use Rattle.ss_messages.specs.Bodies.{variable_item}

-- a kept attribute: the letter and period before the set's name, that name, and its value
abbrev pub kept_item : List ℕ → List ℕ → ℕ → List ℕ
kept_item kept set value = variable_item (kept ++ set) (decimal value) 0

-- F.s, L.s and N.s of a set of this name for owner number k
abbrev pub owner_items : List ℕ → SetShape → Store → ℕ → List ℕ
owner_items name shape store k =
    kept_item (codes "F.") name (member_read (walk_first shape store k))
    ++ kept_item (codes "L.") name (member_read (walk_last shape store k))
    ++ kept_item (codes "N.") name (result_unwrap_or (count shape store k) 0)

-- P.s, S.s and M.s of a set of this name for entity number k of its members' class
abbrev pub member_items : List ℕ → SetShape → Store → ℕ → List ℕ
member_items name shape store k =
    kept_item (codes "P.") name (member_read (predecessor shape store k))
    ++ kept_item (codes "S.") name (member_read (successor shape store k))
    ++ kept_item (codes "M.") name (if result_unwrap_or (membership shape store k) false then 1 else 0)
