use Rattle.std.proofs.Common.{◌≡◌, ◌∙◌, Some, sym, ap, subst}
use Rattle.hg_graph.specs.Graph.{feeder, static_input}
use Rattle.hg_graph.specs.View.{port_view}
use Rattle.hg_valid.specs.code.Parts.{IsFunctionOf}
use Rattle.hg_valid.proofs.PortLinks.{feeder_in}
use Rattle.hg_valid.proofs.Statics.{callee_made, callee_is, static_at}
use Rattle.hg_valid.proofs.blocks.has_callee.Goals as goal

pub op-requires : goal.op-requires
op-requires c = feeder_in c.args.graph.now c.node_count-count.ensures.graph _ (port_view c.in-Some.source) (sym c.in-Some.ensures)

pub returns-in-Some : goal.returns-in-Some
returns-in-Some c =
    let g = c.args.graph.now in
    let at = static_at g c.args.node.0 c.len.result (c.len.ensures.len ∙ ap Rattle.std.proofs.Common.length c.ins_at.ensures) in
    let fed : feeder g.links (static_input g c.args.node.0) ≡ Some (port_view c.in-Some.source) = ap (feeder g.links) (sym at) ∙ sym c.in-Some.ensures in (
      λ t. callee_made g c.args.node.0 c.args.ins.now c.args.outs.now (port_view c.in-Some.source) fed (subst (λ op. IsFunctionOf op c.args.ins.now c.args.outs.now) c.op.ensures (c.is_function_of.ensures.0 t)),
      λ h. c.is_function_of.ensures.1 (subst (λ op. IsFunctionOf op c.args.ins.now c.args.outs.now) (sym c.op.ensures) (callee_is g c.args.node.0 c.args.ins.now c.args.outs.now (port_view c.in-Some.source) fed h)),
    )
