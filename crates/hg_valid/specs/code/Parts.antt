-- Parts of the rules of valid graphs.
use Rattle.std.specs.Prelude.{◌≡◌, ℕ, ◌<◌, ◌≤◌, true, false, List, ◌++◌, length, slice_get, Option, Some, None}
use Rattle.hg_ops.specs.Op.{Op, Types, FuncDefn, Input, Output, DataflowBlock, ExitBlock, ins_of, input_ports, inner_ins, inner_outs}
use Rattle.hg_graph.specs.Graph.{Graph, Port, Link, Ports, Order, op_at, parent_at, children, feeder, taker, links_into, links_from}
use Rattle.hg_graph.specs.Valid.{JoinsPorts, JoinsNodes, is_boundary, is_exit, is_block, is_local, block_ins}

-- the ops are the `Input` and the `Output` of a region under the first op
pub record IsPairOf (container first second : Op) : Type 0 where
  pub input : first ≡ Input (inner_ins container)
  pub output : second ≡ Output (inner_outs container)

-- no child from place 2 on is an `Input` or an `Output`
abbrev pub NoOtherBoundary : Graph → ℕ → Type 0
NoOtherBoundary g n = (k m : ℕ) → 2 ≤ k → slice_get (children g n) k ≡ Some m → is_boundary (op_at g m) ≡ false

-- no child from place 2 on is an `ExitBlock`
abbrev pub NoOtherExit : Graph → ℕ → Type 0
NoOtherExit g n = (k m : ℕ) → 2 ≤ k → slice_get (children g n) k ≡ Some m → is_exit (op_at g m) ≡ false

-- the op is a `DataflowBlock` with these arguments
abbrev pub IsEntryOf : Op → Types → Type 0
IsEntryOf op ins = (rows : List Types) × (others : Types) × (op ≡ DataflowBlock ins rows others)

-- the ops are a block with these arguments and an exit with these types
pub record AreFirstBlocks (first second : Op) (ins outs : Types) : Type 0 where
  pub entry : IsEntryOf first ins
  pub exit : second ≡ ExitBlock outs

-- the op is a block, or an exit, that takes the types of a row and then those of another
pub record BlockFits (op : Op) (row others : Types) : Type 0 where
  pub is_block : is_block op ≡ true
  pub fits : block_ins op ≡ row ++ others

-- the op has an input behind its value inputs
abbrev pub HasStaticInput : Op → Type 0
HasStaticInput op = length (ins_of op) < length (input_ports op)

-- where a link of ports leads to
abbrev pub target_of : Option Link → Option Port
target_of None = None
target_of (Some (Ports from to)) = Some to
target_of (Some (Order before after)) = None

-- one link leads into the port, and this is its source
pub record IsOnlySource (g : Graph) (to from : Port) : Type 0 where
  pub once : links_into g.links to ≡ 1
  pub is_source : feeder g.links to ≡ Some from
  pub is_node : from.node < length g.nodes

-- one link leads out of the port, and this is its target
pub record IsOnlyTarget (g : Graph) (from to : Port) : Type 0 where
  pub once : links_from g.links from ≡ 1
  pub is_target : taker g.links from ≡ Some to
  pub is_node : to.node < length g.nodes

-- the op is a function with these arguments and results
abbrev pub IsFunctionOf : Op → Types → Types → Type 0
IsFunctionOf op ins outs = (name : List ℕ) × (op ≡ FuncDefn name ins outs)

-- the node to which a link leads
abbrev pub target : Link → ℕ
target (Ports from to) = to.node
target (Order before after) = after

-- the link joins two ports of a kind, or two nodes that may be ordered
abbrev pub LinkJoins : Graph → Link → Type 0
LinkJoins g (Ports from to) = JoinsPorts g from to
LinkJoins g (Order before after) = JoinsNodes g before after

-- the link stays under one parent, where it is of a kind that has to
abbrev pub LinkStays : Graph → Link → Type 0
LinkStays g (Ports from to) = is_local (slice_get (input_ports (op_at g to.node)) to.index) ≡ true → parent_at g from.node ≡ parent_at g to.node
LinkStays g (Order before after) = parent_at g before ≡ parent_at g after
