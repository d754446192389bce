use Rattle.std.proofs.Common.{◌<◌, ◌∙◌, [], length, get_or, sym, ap, subst}
use Rattle.hg_graph.specs.NodeIndex.{NodeIndex}
use Rattle.hg_graph.proofs.Readers.{length-inputs, input_at}
use Rattle.hg_graph.proofs.graph.Graph.links_into.Goals as goal

pub input-requires : goal.input-requires
input-requires c =
    subst (λ count. c.args.to.index < count)
    (sym (ap (λ (i : NodeIndex). length i.inputs) c.index.ensures ∙ length-inputs c.args.self.now c.args.to.node.0 c.args.to.index)) c.requires.port_in

pub returns : goal.returns
returns c =
    c.input.ensures ∙ ap (λ (i : NodeIndex). get_or i.inputs c.args.to.index []) c.index.ensures
    ∙ input_at c.args.self.now c.args.to.node.0 c.args.to.index c.requires.port_in
