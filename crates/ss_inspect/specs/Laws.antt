-- The laws that hold of every state that is shown.
use Rattle.std.specs.Prelude.{◌≡◌, ℕ}
use Rattle.ss_links.specs.Seats.{has}
use Rattle.ss_store.specs.Store.{Store, exists}
use Rattle.ss_inspect.specs.Living.{living_numbers}

-- the entities of a class that are listed as living are those that exist
abbrev pub LivingAreThoseThatExist : Type 0
LivingAreThoseThatExist = (st : Store) (c k : ℕ) → has (living_numbers st c) k ≡ exists st c k
