use Rattle.std.proofs.Common.{◌≡◌, ◌<◌, length, Option, Some, None, slice_get, List, ℕ}
use Rattle.std.specs.Option.{option_map, IfSome}
use Rattle.hg_graph.specs.Graph.{Graph, children}
use Rattle.hg_graph.specs.View.{number_of}
use Rattle.hg_graph.specs.declared.link.NodeId.{NodeId}
use Rattle.hg_laws.proofs.Children.{child_is, get_in}
use Rattle.hg_valid.proofs.places.child.Goals as goal

within : (g : Graph) (n place : ℕ) (child : Option NodeId) → option_map number_of child ≡ slice_get (children g n) place → IfSome child (λ c. c.0 < length g.nodes)
within g n place None e = search Rattle.std.proofs.Common.rules
within g n place (Some c) e = (child_is g n c.0 (get_in (children g n) place c.0 (Rattle.std.proofs.Common.sym e))).0

pub returns-clause-within : goal.returns-clause-within
returns-clause-within c = within c.args.graph.now c.args.node.0 c.args.place c.child.result c.child.ensures
