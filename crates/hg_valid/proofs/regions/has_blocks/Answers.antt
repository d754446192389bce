use Rattle.std.proofs.Common.{refl, sym}
use Rattle.hg_valid.proofs.FirstChildren.{blocks_made, blocks_others, blocks_along}
use Rattle.hg_valid.proofs.regions.has_blocks.Goals as goal

pub returns-then-are_first_blocks : goal.returns-then-are_first_blocks
returns-then-are_first_blocks c =
    let g = c.args.graph.now in
    let n = c.args.node.0 in
    let ins = c.args.ins.now in
    let outs = c.args.outs.now in
    let pair = blocks_along _ _ _ _ ins outs c.op.ensures c.op-in-Some-Some.ensures (c.if-are_first_blocks.ensures.0 refl) in (
      λ t. blocks_made g n c.in-Some-Some.entry.0 c.in-Some-Some.exit.0 (sym c.in-Some-Some.ensures.is) (sym c.in-Some-Some.ensures'.is) ins outs pair (c.no_other_exit.ensures.0 t),
      λ h. c.no_other_exit.ensures.1 (blocks_others g n ins outs h),
    )
