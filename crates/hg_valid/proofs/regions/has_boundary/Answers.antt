use Rattle.std.proofs.Common.{refl, sym}
use Rattle.hg_valid.proofs.FirstChildren.{boundary_made, boundary_others, pair_along}
use Rattle.hg_valid.proofs.regions.has_boundary.Goals as goal

pub returns-then-is_pair_of : goal.returns-then-is_pair_of
returns-then-is_pair_of c =
    let g = c.args.graph.now in
    let n = c.args.node.0 in
    let pair = pair_along _ _ _ _ _ _ c.op-container.ensures c.op.ensures c.op-in-Some-Some.ensures (c.if-is_pair_of.ensures.0 refl) in (
      λ t. boundary_made g n c.in-Some-Some.input.0 c.in-Some-Some.output.0 (sym c.in-Some-Some.ensures.is) (sym c.in-Some-Some.ensures'.is) pair (c.no_other_boundary.ensures.0 t),
      λ h. c.no_other_boundary.ensures.1 (boundary_others g n h),
    )
