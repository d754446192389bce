use Rattle.std.proofs.Common.{◌≡◌, ◌∙◌, sym, ap, subst}
use Rattle.hg_ops.specs.Op.{DataflowBlock}
use Rattle.hg_ops.specs.OpView.{op_view}
use Rattle.hg_graph.specs.Graph.{op_at}
use Rattle.hg_graph.specs.Valid.{KeepsSuccessors}
use Rattle.hg_valid.proofs.blocks.keeps_successors.Goals as goal

pub returns-in-DataflowBlock : goal.returns-in-DataflowBlock
returns-in-DataflowBlock c =
    let g = c.args.graph.now in
    let n = c.args.node.0 in
    let e : op_at g n ≡ DataflowBlock c.in-DataflowBlock.ins c.in-DataflowBlock.rows c.in-DataflowBlock.others = sym c.op.ensures ∙ ap op_view c.in-DataflowBlock.is in (
      λ t. subst (KeepsSuccessors g n) (sym e) (c.has_successors.ensures.0 t),
      λ h. c.has_successors.ensures.1 (subst (KeepsSuccessors g n) e h),
    )
