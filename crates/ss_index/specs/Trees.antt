-- The seats of a tree.
use Rattle.std.specs.Prelude.{ℕ, List, [], ◌∷◌, ◌++◌}
use Rattle.ss_index.specs.declared.tree.Tree.{Tree}
use Rattle.ss_index.specs.declared.tree.Tree.TheVariants.{Leaf, Fork'}

-- in order: those on the left, the fork's own, those on the right
abbrev pub inorder : Tree → List ℕ
inorder Leaf = []
inorder (Fork' p left seat right) = inorder left ++ seat ∷ inorder right
