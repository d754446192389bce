use Rattle.std.proofs.Common.{sym, subst}
use Rattle.hg_graph.specs.Valid.{IsAncestor}
use Rattle.hg_graph.specs.View.{port_view}
use Rattle.hg_valid.proofs.Statics.{constant_made, constant_is}
use Rattle.hg_valid.proofs.blocks.has_constant.Goals as goal

pub returns-in-Some : goal.returns-in-Some
returns-in-Some c =
    let g = c.args.graph.now in
    let n = c.args.node.0 in
    let source = port_view c.in-Some.source in (
      λ t. constant_made g n source c.in-Some.ensures.some (subst (λ a. IsAncestor g a n) c.parent.ensures (c.is_ancestor.ensures.0 t)),
      λ h. c.is_ancestor.ensures.1 (subst (λ a. IsAncestor g a n) (sym c.parent.ensures) (constant_is g n source c.in-Some.ensures.some h)),
    )
