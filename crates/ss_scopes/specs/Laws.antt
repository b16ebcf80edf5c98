-- Laws of references: each is read back as the part that it was made for, so two parts have two references.
use Rattle.std.specs.Prelude.{ℕ, ◌+◌, ◌<◌, ◌≡◌}
use Rattle.ss_scopes.specs.declared.group.Group.TheVariants.{Locals, Class, Entity, Set, Members}
use Rattle.ss_scopes.specs.declared.group.TheConstants.{ROW, MOST_ROWS, FIRST_LOCALS}
use Rattle.ss_scopes.specs.declared.scopes.TheConstants.{MOST_FRAMES}
use Rattle.ss_scopes.specs.References.{class_reference, set_reference, group_of}

-- the reference of each part refers to that part
pub record AreReadBack : Type 0 where
  -- that of a class
  pub class : (c : ℕ) → c < MOST_ROWS → group_of (class_reference c 0) ≡ Class c
  -- that of an entity
  pub entity : (c k : ℕ) → c < MOST_ROWS → 0 < k → k < ROW → group_of (class_reference c k) ≡ Entity c k
  -- that of a set
  pub set : (s : ℕ) → s < MOST_ROWS → group_of (set_reference s 0) ≡ Set s
  -- that of the list of an owner
  pub list : (s j : ℕ) → s < MOST_ROWS → 0 < j → j < ROW → group_of (set_reference s j) ≡ Members s j
  -- that of the locals of a frame
  pub locals : (depth : ℕ) → depth < MOST_FRAMES → group_of (FIRST_LOCALS + depth) ≡ Locals depth
