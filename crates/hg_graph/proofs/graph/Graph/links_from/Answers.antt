use Rattle.std.proofs.Common.{◌<◌, ◌∙◌, [], length, get_or, sym, ap, subst}
use Rattle.hg_graph.specs.NodeIndex.{NodeIndex}
use Rattle.hg_graph.proofs.Readers.{length-outputs, output_at}
use Rattle.hg_graph.proofs.graph.Graph.links_from.Goals as goal

pub output-requires : goal.output-requires
output-requires c =
    subst (λ count. c.args.from.index < count)
    (sym (ap (λ (i : NodeIndex). length i.outputs) c.index.ensures ∙ length-outputs c.args.self.now c.args.from.node.0 c.args.from.index)) c.requires.port_in

pub returns : goal.returns
returns c =
    c.output.ensures ∙ ap (λ (i : NodeIndex). get_or i.outputs c.args.from.index []) c.index.ensures
    ∙ output_at c.args.self.now c.args.from.node.0 c.args.from.index c.requires.port_in
