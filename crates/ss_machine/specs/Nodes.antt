-- Private: how the chain of open loops is seen.
use Rattle.std.specs.Prelude.{List, [], ◌∷◌, Option, Some, None}
use Rattle.std.specs.Global.{Box}
use Rattle.ss_state.specs.Loops.{OpenLoop}
use Rattle.ss_machine.specs.declared.state.loops.Node.{Node, Node', Held-Node-outer, None', Some'}

-- the loops of a chain, the innermost first
abbrev mutual
  -- from a node outward
  pub node_loops : Node → List OpenLoop
  node_loops (Node' open_loop outer) = open_loop ∷ outer_loops outer

  -- outward of one
  pub outer_loops : Held-Node-outer → List OpenLoop
  outer_loops None' = []
  outer_loops (Some' p n) = node_loops n

-- those of a chain that may be empty
abbrev pub chain_loops : Option (Box Node) → List OpenLoop
chain_loops None = []
chain_loops (Some b) = node_loops b.value

-- the first of them
abbrev pub node_loop : Node → OpenLoop
node_loop (Node' open_loop outer) = open_loop
