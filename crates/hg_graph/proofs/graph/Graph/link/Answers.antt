use Rattle.std.proofs.Common.{◌≡◌, ◌<◌, ◌++◌, ◌∷◌, ◌∙◌, [], List, length, map, ap, sym, subst, arith}
use Rattle.std.proofs.lemmas.List.{map-append, length-map}
use Rattle.hg_graph.specs.declared.link.Link as declared
use Rattle.hg_graph.specs.declared.link.Link.TheVariants as link
use Rattle.hg_graph.specs.Graph.{Graph, Ports}
use Rattle.hg_graph.specs.NodeView.{graph_view}
use Rattle.hg_graph.specs.View.{port_view, link_view}
use Rattle.hg_graph.proofs.IndexedLinks.{ports_in_step}
use Rattle.hg_graph.proofs.graph.Graph.link.Goals as goal

pub invariant_of-self-2 : goal.invariant_of-self-2
invariant_of-self-2 c =
    let g : Graph = graph_view c.self.inside in
    let from_in : c.args.from.node.0 < length g.nodes = subst (λ (h : Graph). c.args.from.node.0 < length h.nodes) (sym c.self.view_is) c.requires.from_in in
    let to_in : c.args.to.node.0 < length g.nodes = subst (λ (h : Graph). c.args.to.node.0 < length h.nodes) (sym c.self.view_is) c.requires.to_in in
    let more : map link_view c.push.new.self.items ≡ g.links ++ Ports (port_view c.args.from) (port_view c.args.to) ∷ [] =
    ap (map link_view) (c.in_ok-push.ensures.items ∙ ap (λ (links : List declared.Link). links ++ link.Ports c.args.from c.args.to ∷ []) c.reserve.ensures.items)
    ∙ map-append link_view c.self.inside.links.items (link.Ports c.args.from c.args.to ∷ []) in
    let last : c.len-number.result ≡ length g.links = omega (arith, length-map c.self.inside.links.items link_view) in
    ports_in_step g (port_view c.args.from) (port_view c.args.to) _ _ _ _ c.self.invariant from_in to_in more last c.in_ok-push_ports.ensures.ok
