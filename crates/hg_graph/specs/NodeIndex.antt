-- What a graph keeps of each node beside its lists.
use Rattle.std.specs.Prelude.{ℕ, zero, suc, Bool, false, not, ◌&&◌, ◌==◌, nat_lt, if◌then◌else◌, List, [], ◌∷◌, ◌++◌, length, map, filter, replicate}
use Rattle.hg_ops.specs.Op.{Op, input_ports, output_ports}
use Rattle.hg_graph.specs.Graph.{Graph, Link, Ports, Order, Port, op_at, children, numbers, is_port}

-- Links are numbered by their places in the list. A node has its children, the numbers of the links at each of its
-- inputs and outputs, those of the order links into it and out of it, and the links into inputs that its op doesn't
-- have.
pub record NodeIndex : Type 0 where
  pub children : List ℕ
  pub inputs : List (List ℕ)
  pub outputs : List (List ℕ)
  pub before : List ℕ
  pub after : List ℕ
  pub strays : List Link

-- the numbers of the links that pass the test, the first link having number k
abbrev pub numbers_where : (Link → Bool) → ℕ → List Link → List ℕ
numbers_where test k [] = []
numbers_where test k (link ∷ links) = if test link then k ∷ numbers_where test (suc k) links else numbers_where test (suc k) links

-- the link leads into a port, out of one
abbrev pub is_into : Port → Link → Bool
is_into port (Ports a b) = is_port b port
is_into port (Order a b) = false

abbrev pub is_from : Port → Link → Bool
is_from port (Ports a b) = is_port a port
is_from port (Order a b) = false

-- the order link leads into a node, out of one
abbrev pub is_order_into : ℕ → Link → Bool
is_order_into n (Ports a b) = false
is_order_into n (Order a b) = b == n

abbrev pub is_order_from : ℕ → Link → Bool
is_order_from n (Ports a b) = false
is_order_from n (Order a b) = a == n

-- the numbers of the links into a port and out of one, in order
abbrev pub numbers_into : List Link → Port → List ℕ
numbers_into links port = numbers_where (is_into port) 0 links

abbrev pub numbers_from : List Link → Port → List ℕ
numbers_from links port = numbers_where (is_from port) 0 links

-- the numbers of the order links into a node and out of one, in order
abbrev pub orders_into : List Link → ℕ → List ℕ
orders_into links n = numbers_where (is_order_into n) 0 links

abbrev pub orders_from : List Link → ℕ → List ℕ
orders_from links n = numbers_where (is_order_from n) 0 links

-- the link leads into an input of node n behind the first `count`
abbrev pub is_stray : ℕ → ℕ → Link → Bool
is_stray n count (Ports a b) = b.node == n && not (nat_lt b.index count)
is_stray n count (Order a b) = false

-- what a graph keeps of node n
abbrev pub input_count : Graph → ℕ → ℕ
input_count g n = length (input_ports (op_at g n))

abbrev pub output_count : Graph → ℕ → ℕ
output_count g n = length (output_ports (op_at g n))

unfoldable pub node_index : Graph → ℕ → NodeIndex
node_index g n = record {
  children = children g n;
  inputs = map (λ p. numbers_into g.links (record { node = n; index = p })) (numbers 0 (input_count g n));
  outputs = map (λ p. numbers_from g.links (record { node = n; index = p })) (numbers 0 (output_count g n));
  before = orders_into g.links n;
  after = orders_from g.links n;
  strays = filter (is_stray n (input_count g n)) g.links;
}

-- ---- what adding to it makes

-- the list at place p, with a number at its end
abbrev pub pushed_at : ℕ → ℕ → List (List ℕ) → List (List ℕ)
pushed_at p k [] = []
pushed_at zero k (xs ∷ rest) = (xs ++ k ∷ []) ∷ rest
pushed_at (suc p) k (xs ∷ rest) = xs ∷ pushed_at p k rest

abbrev pub with_child : ℕ → NodeIndex → NodeIndex
with_child child i = record i { children = i.children ++ child ∷ [] }

-- with link number k, from a port into port p of the node
abbrev pub with_input : ℕ → Link → ℕ → NodeIndex → NodeIndex
with_input p link k i = record i {
  inputs = pushed_at p k i.inputs;
  strays = if nat_lt p (length i.inputs) then i.strays else i.strays ++ link ∷ [];
}

abbrev pub with_output : ℕ → ℕ → NodeIndex → NodeIndex
with_output p k i = record i { outputs = pushed_at p k i.outputs }

abbrev pub with_before : ℕ → NodeIndex → NodeIndex
with_before k i = record i { before = i.before ++ k ∷ [] }

abbrev pub with_after : ℕ → NodeIndex → NodeIndex
with_after k i = record i { after = i.after ++ k ∷ [] }

-- that of a node without children and links
abbrev pub fresh_index : Op → NodeIndex
fresh_index op = record {
  children = [];
  inputs = replicate (length (input_ports op)) [];
  outputs = replicate (length (output_ports op)) [];
  before = [];
  after = [];
  strays = [];
}
