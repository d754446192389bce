use Rattle.std.proofs.Common.{◌≡◌, ◌<◌, ◌++◌, ◌∷◌, ◌∙◌, [], ℕ, List, length, map, ap, refl, sym, subst}
use Rattle.std.proofs.lemmas.List.{map-append}
use Rattle.hg_ops.specs.OpView.{op_view}
use Rattle.hg_graph.specs.declared.graph.Node as declared
use Rattle.hg_graph.specs.Graph.{Graph, Node}
use Rattle.hg_graph.specs.NodeIndex.{fresh_index}
use Rattle.hg_graph.specs.NodeView.{graph_view, node_view}
use Rattle.hg_graph.proofs.IndexedNodes.{node_in_step}
use Rattle.hg_graph.proofs.graph.Graph.add_node.Goals as goal

pub invariant_of-self-2 : goal.invariant_of-self-2
invariant_of-self-2 c =
    let g : Graph = graph_view c.self.inside in
    let node : Node = record { op = op_view c.args.op; parent = c.args.parent.0 } in
    let parent_in : c.args.parent.0 < length g.nodes = subst (λ (h : Graph). c.args.parent.0 < length h.nodes) (sym c.self.view_is) c.requires in
    let more : map node_view c.append.new.nodes.items ≡ g.nodes ++ node ∷ [] =
    ap (map node_view) (c.in_ok-append.ensures.ok ∙ ap (λ (nodes : List declared.Node). nodes ++ record { op = c.args.op; parent = c.args.parent } ∷ []) c.push_index.ensures.kept)
    ∙ map-append node_view c.self.inside.nodes.items (record { op = c.args.op; parent = c.args.parent } ∷ []) in
    let last : length c.self.inside.indexes.items ≡ length g.nodes = c.self.invariant.count in
    node_in_step g node _ _ _ _ _ c.self.invariant parent_in more last refl c.in_ok-push_index.ensures.ok
