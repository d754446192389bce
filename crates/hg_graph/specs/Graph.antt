-- Program graphs: a list of nodes and a list of links, with look-ups in them.
use Rattle.std.specs.Prelude.{◌<◌, ℕ, zero, suc, ◌+◌, Bool, not, ◌&&◌, ◌==◌, if◌then◌else◌, List, [], ◌∷◌, length, slice_get, filter, Option, Some, None}
use Rattle.gp_base.specs.Membership.{In}
use Rattle.hg_ops.specs.Op.{Op, Module, ins_of, fires}

-- A node is named by its place in the list.
pub record Node : Type 0 where
  pub op : Op
  pub parent : ℕ

-- a port of a node; inputs and outputs are numbered apart, each from 0
pub record Port : Type 0 where
  pub node : ℕ
  pub index : ℕ

-- A link leads from an output port to an input port, or only says which of two nodes comes first.
pub data Link : Type 0 where
  Ports : Port → Port → Link
  Order : ℕ → ℕ → Link

pub record Graph : Type 0 where
  pub nodes : List Node
  pub links : List Link

abbrev pub op_of : Option Node → Op
op_of None = Module
op_of (Some node) = node.op

abbrev pub parent_of : Option Node → ℕ
parent_of None = 0
parent_of (Some node) = node.parent

-- the op and the parent of node n
unfoldable pub op_at : Graph → ℕ → Op
op_at g n = op_of (slice_get g.nodes n)

unfoldable pub parent_at : Graph → ℕ → ℕ
parent_at g n = parent_of (slice_get g.nodes n)

-- count numbers from `first` on
abbrev pub numbers : ℕ → ℕ → List ℕ
numbers first zero = []
numbers first (suc count) = first ∷ numbers (suc first) count

-- the other nodes whose parent it is, in rising number
unfoldable pub children : Graph → ℕ → List ℕ
children g c = filter (λ n. parent_at g n == c && not (n == c)) (numbers 0 (length g.nodes))

-- the children that fire
unfoldable pub firing_children : Graph → ℕ → List ℕ
firing_children g c = filter (λ n. fires (op_at g n)) (children g c)

abbrev pub is_port : Port → Port → Bool
is_port a b = a.node == b.node && a.index == b.index

-- the source of the first link into a port
abbrev pub feeder : List Link → Port → Option Port
feeder [] to = None
feeder (Ports a b ∷ links) to = if is_port b to then Some a else feeder links to
feeder (Order a b ∷ links) to = feeder links to

-- the target of the first link out of a port
abbrev pub taker : List Link → Port → Option Port
taker [] from = None
taker (Ports a b ∷ links) from = if is_port a from then Some b else taker links from
taker (Order a b ∷ links) from = taker links from

-- how many links lead into a port, and how many come out of one
abbrev pub links_into : List Link → Port → ℕ
links_into [] port = 0
links_into (Ports a b ∷ links) port = (if is_port b port then 1 else 0) + links_into links port
links_into (Order a b ∷ links) port = links_into links port

abbrev pub links_from : List Link → Port → ℕ
links_from [] port = 0
links_from (Ports a b ∷ links) port = (if is_port a port then 1 else 0) + links_from links port
links_from (Order a b ∷ links) port = links_from links port

-- the port of a node behind its value input ports: where what uses a function or a constant has its static input
abbrev pub static_input : Graph → ℕ → Port
static_input g n = record { node = n; index = length (ins_of (op_at g n)) }

-- both nodes of a link are nodes of the graph
abbrev pub LinkIsWithin : ℕ → Link → Type 0
LinkIsWithin count (Ports a b) = (a.node < count) × (b.node < count)
LinkIsWithin count (Order a b) = (a < count) × (b < count)

-- There is a node, and parents and links name nodes.
pub record IsGraph (g : Graph) : Type 0 where
  pub some : 0 < length g.nodes
  pub parents : (n : ℕ) → n < length g.nodes → parent_at g n < length g.nodes
  pub links : (link : Link) → In link g.links → LinkIsWithin (length g.nodes) link
