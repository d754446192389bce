use Rattle.std.proofs.Common.{◌≡◌, ◌<◌, ◌≤◌, ◌∙◌, [], ℕ, List, Option, length, map, get_or, slice_get, sym, ap, subst, arith}
use Rattle.std.specs.Option.{option_and_then}
use Rattle.std.proofs.lemmas.List.{length-map}
use Rattle.hg_graph.specs.declared.link.Link as declared
use Rattle.hg_graph.specs.Graph.{Graph, feeder}
use Rattle.hg_graph.specs.NodeIndex.{NodeIndex, node_index, input_count, numbers_into}
use Rattle.hg_graph.specs.NodeView.{graph_view, node_view}
use Rattle.hg_graph.specs.code.Sources.{source_of}
use Rattle.hg_graph.specs.View.{port_view, link_view}
use Rattle.hg_graph.proofs.Readers.{feeder-out, feeder-strays, first-feeder, length-inputs, input_at}
use Rattle.hg_graph.proofs.graph.Graph.feeder.Goals as goal

pub returns-then-to-len : goal.returns-then-to-len
returns-then-to-len c =
    let past : length (graph_view c.self.inside).nodes ≤ c.args.to.node.0 = omega (arith, length-map c.self.inside.nodes.items node_view) in
    sym (ap (λ (g : Graph). feeder g.links (port_view c.args.to)) (sym c.self.view_is)
    ∙ feeder-out (graph_view c.self.inside).links (length (graph_view c.self.inside).nodes) (port_view c.args.to) c.self.invariant.graph.links past)

pub returns-then-to-input_count : goal.returns-then-to-input_count
unfolding node_index
returns-then-to-input_count c =
    let count : c.input_count.result ≡ input_count c.args.self.now c.args.to.node.0 =
    c.input_count.ensures ∙ ap (λ (i : NodeIndex). length i.inputs) c.index-index.ensures ∙ length-inputs c.args.self.now c.args.to.node.0 0 in
    c.first_source.ensures ∙ ap (λ links. feeder links (port_view c.args.to)) (c.strays.ensures ∙ ap (λ (i : NodeIndex). i.strays) c.index-index.ensures)
    ∙ feeder-strays c.args.self.now.links (port_view c.args.to) (input_count c.args.self.now c.args.to.node.0) (subst (λ k. k ≤ c.args.to.index) count c.if-to-input_count.true)

pub returns : goal.returns
returns c =
    let g : Graph = c.args.self.now in
    let count : c.input_count.result ≡ input_count g c.args.to.node.0 =
    c.input_count.ensures ∙ ap (λ (i : NodeIndex). length i.inputs) c.index-index.ensures ∙ length-inputs g c.args.to.node.0 0 in
    let within : c.args.to.index < input_count g c.args.to.node.0 = subst (λ k. c.args.to.index < k) count c.if-to-input_count.false in
    let first : c.first_input.result ≡ slice_get (numbers_into g.links (port_view c.args.to)) 0 =
    c.first_input.ensures ∙ ap (λ (i : NodeIndex). slice_get (get_or i.inputs c.args.to.index []) 0) c.index-index.ensures
    ∙ ap (λ (numbers : List ℕ). slice_get numbers 0) (input_at g c.args.to.node.0 c.args.to.index within) in
    c.source_at.ensures
    ∙ ap (λ (links : List declared.Link). option_and_then (λ k. source_of (slice_get (map link_view links) k)) c.first_input.result) c.deref.ensures.value
    ∙ ap (λ (h : Graph). option_and_then (λ k. source_of (slice_get h.links k)) c.first_input.result) c.self.view_is
    ∙ ap (λ (number : Option ℕ). option_and_then (λ k. source_of (slice_get g.links k)) number) first
    ∙ first-feeder g.links (port_view c.args.to)
